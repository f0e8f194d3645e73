-- Checking a colleague's solver (request 14): whether a table that another tool sends is the chance at every state.
use Rattle.std.specs.Prelude.{ℕ, suc, ◌+◌, ◌*◌, ◌<◌, ◌≡◌, List, ◌++◌, length, get_or}
use Rattle.meaning.specs.Number.{tab_from}
use Rattle.meaning.specs.Chain.{Chain, denominator, along, Goal, ToGoal}
use Rattle.meaning.specs.Figure.{Shares}
use Rattle.meaning.specs.Refusal.{Lent, bare, OutOfRange, Refused, WellFormed}
use Rattle.meaning.specs.Block.{Input, four_byte_number, head_states}
use Rattle.meaning.specs.File.{FileRefused, Accepted, bare_in}
use Rattle.meaning.specs.Buffer.{Writing}
use Rattle.meaning.specs.Text.{bytes_of, decimal}
use Rattle.meaning.specs.Report.{refused_text, line_text, TextOutcome, answer_room}

-- The numerator of state i in a table.
abbrev pub numerator : List ℕ → ℕ → ℕ
numerator table i = get_or table i 0

-- What is broken at state i by x i over d: its goal value, its zero or its equation.
pub data Broken (c : Chain) (d : ℕ) (x : ℕ → ℕ) (i : ℕ) : Type 0 where
  goal_value : Goal c i → (x i ≡ d → ⊥) → Broken c d x i
  zero_value : (ToGoal c i → ⊥) → (x i ≡ 0 → ⊥) → Broken c d x i
  equation : (Goal c i → ⊥) → ToGoal c i → (denominator c i * x i ≡ along c i x → ⊥) → Broken c d x i

-- The same in a table of n states over d.
abbrev pub BrokenAt : Chain → ℕ → List ℕ → ℕ → Type 0
BrokenAt c d table i = (i < c.states) × Broken c d (numerator table) i

-- 34: the numerator of state i is too large.
abbrev pub NumeratorFault : ℕ → ℕ → List ℕ → ℕ → Type 0
NumeratorFault n d table i = (i < n) × (d < numerator table i)

-- What is said of a table: yes; no, with a state; or a refusal's number and place.
pub data Verdict : Type 0 where
  right : Verdict
  wrong : ℕ → Verdict
  refusal : ℕ → ℕ → Verdict

-- A numerator for each state of a well-formed chain, so that none of 1 to 9 is met.
pub record Sent (l : Lent) (table : List ℕ) : Type 0 where
  pub size : length table ≡ l.chain.states
  pub formed : WellFormed bare l

-- One denominator from 1 to M, and numerators that are at most that denominator.
pub record InRange (l : Lent) (d : ℕ) (table : List ℕ) : Type 0 where
  pub whole : OutOfRange d → ⊥
  pub small : (i : ℕ) → NumeratorFault l.chain.states d table i → ⊥

-- Yes exactly when the table is the chance at every state; on a no the least state that is broken. 1 also for a table of another length than
-- n. 33, when the denominator is out of range, and then 34, with the least state whose numerator is too large, come after 1 to 9.
pub data JudgeOutcome (l : Lent) (d : ℕ) (table : List ℕ) (a : Verdict) : Type 0 where
  table_length : (length table ≡ l.chain.states → ⊥) → a ≡ refusal 1 0 → JudgeOutcome l d table a
  refused : length table ≡ l.chain.states → (number place : ℕ) → Refused bare l number place → a ≡ refusal number place
      → JudgeOutcome l d table a
  denominator_wrong : Sent l table → OutOfRange d → a ≡ refusal 33 0 → JudgeOutcome l d table a
  numerator_large : Sent l table → (OutOfRange d → ⊥) → (i : ℕ) → NumeratorFault l.chain.states d table i
      → ((j : ℕ) → j < i → NumeratorFault l.chain.states d table j → ⊥) → a ≡ refusal 34 i → JudgeOutcome l d table a
  says_yes : Sent l table → InRange l d table → Shares l.chain d (numerator table) → a ≡ right → JudgeOutcome l d table a
  says_no : Sent l table → InRange l d table → (i : ℕ) → BrokenAt l.chain d table i
      → ((j : ℕ) → j < i → BrokenAt l.chain d table j → ⊥) → a ≡ wrong i → JudgeOutcome l d table a

-- A table in bytes: n + 1 little-endian numbers of 4 bytes, the denominator first.
abbrev pub shares_size : ℕ → ℕ
shares_size n = 4 * (n + 1)

abbrev pub denominator_of : List ℕ → ℕ
denominator_of shares = four_byte_number shares 0

abbrev pub numerators_of : ℕ → List ℕ → List ℕ
numerators_of n shares = tab_from 0 n (λ i. four_byte_number shares (suc i))

-- What is said of a chain file and a table in bytes: 20 to 24; then 2, where the bytes are not 4 × (n + 1); then 3 to 9, 33 and 34.
pub data FileJudged (f : Input) (shares : List ℕ) (a : Verdict) : Type 0 where
  file_refused : (number place : ℕ) → FileRefused f number place → a ≡ refusal number place → FileJudged f shares a
  shares_size_lem : Accepted f → (length shares ≡ shares_size (head_states f) → ⊥) → a ≡ refusal 2 0 → FileJudged f shares a
  asked : Accepted f → length shares ≡ shares_size (head_states f)
      → JudgeOutcome (bare_in f) (denominator_of shares) (numerators_of (head_states f) shares) a → FileJudged f shares a

-- The line of a verdict, as `yes`, `no at 3` or `refused 33 at 0`.
abbrev pub verdict_line : Verdict → List ℕ
verdict_line right = bytes_of "yes\n"
verdict_line (wrong i) = line_text (bytes_of "no at ") (decimal i)
verdict_line (refusal number place) = refused_text number place ++ bytes_of "\n"

-- t is what the program prints for the input f and a table in bytes.
pub record JudgeReport (f : Input) (shares t : List ℕ) : Type 0 where
  pub verdict : Verdict
  pub outcome : FileJudged f shares verdict
  pub line : t ≡ verdict_line verdict

-- A refusal's line is the longest.
abbrev pub JudgeReportOutcome : Input → List ℕ → List ℕ → Writing → List ℕ → Type 0
JudgeReportOutcome f shares = TextOutcome answer_room (JudgeReport f shares)
