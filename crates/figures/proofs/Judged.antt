-- From what the check of a table says to what is said of a file and a table; and that it is one.
use Prim.Native.Nat.{ℕ, ◌<◌}
use mathlib.Core.Path.{◌≡◌, refl, sym, ap, subst, ◌∙◌}
use mathlib.Core.List.{List}
use native.Mathlib.Omega.{arith}
use lib.ListN.{length}
use Rattle.std.proofs.Common.{Result}
use Rattle.meaning.specs.Chain.{most_states}
use Rattle.meaning.specs.Block.{Input, head_states}
use Rattle.meaning.specs.Refusal.{Lent}
use Rattle.meaning.specs.File.{bare_in}
use Rattle.meaning.specs.Judge.{Verdict as Said, refusal, JudgeOutcome, shares_size, denominator_of, numerators_of, FileJudged, shares_size_lem, asked}
use Rattle.theory.specs.Files.Right.{bounded}
use Rattle.theory.specs.Judging.Texts.{file_judged_one}
use Rattle.chain.specs.declared.Chain.{Chain}
use Rattle.chain.specs.declared.refusal.Refusal.{Refusal}
use Rattle.equations.specs.Judge.{told}
use Rattle.equations.specs.declared.verdict.Verdict.{Verdict}
use Rattle.equations.proofs.Unique.{told_verdict_lem}
use Rattle.opening.specs.Book.{Holds}
use Rattle.opening.specs.Asked.{Shown}
use Rattle.opening.specs.declared.book.Opened.{Opened}
use Rattle.figures.proofs.Outcomes.{bare, bare_of}

module _ {f : Input} {c : Chain} {denominators edges order rewards : List ℕ} (h : Holds f c denominators edges order rewards) where
  -- No chain of a file has more states than a chain may have.
  pub too_many : most_states < c.states → ⊥
  too_many l =
      let states : c.states ≡ head_states f = ap (λ (l : Lent). l.chain.states) (bare h) in
      omega (arith, states, bounded f (h.accepted.blocks 0 (omega arith)))

module _ {f : Input} {p : Opened} (s : Shown f p) where
  states : p.given.chain.states ≡ head_states f
  states = ap (λ (l : Lent). l.chain.states) (bare s.holds)

  -- A table of another length than the chain asks for.
  pub other_size : {shares : List ℕ} → (length shares ≡ shares_size p.given.chain.states → ⊥) → FileJudged f shares (refusal 2 0)
  other_size n = shares_size_lem s.holds.accepted (λ e. n (e ∙ ap shares_size (sym states))) refl

  pub asked_judged : {shares table : List ℕ} {d : ℕ} {a : Said} → length shares ≡ shares_size p.given.chain.states → d ≡ denominator_of shares
      → table ≡ numerators_of p.given.chain.states shares → JudgeOutcome (bare_of p) d table a → FileJudged f shares a
  asked_judged {shares} {table} {d} {a} size first rest o =
      let there : JudgeOutcome (bare_in f) d table a = subst (λ l. JudgeOutcome l d table a) (bare s.holds) o in
      let numbers : table ≡ numerators_of (head_states f) shares = rest ∙ ap (λ n. numerators_of n shares) states in
      asked s.holds.accepted (size ∙ ap shares_size states)
      (subst (λ t. JudgeOutcome (bare_in f) (denominator_of shares) t a) numbers (subst (λ d. JudgeOutcome (bare_in f) d table a) first there))

-- Two verdicts that are promised of one file and one table are the same.
pub file_judged_unique : {f : Input} {shares : List ℕ} (r r' : Result Verdict Refusal) → FileJudged f shares (told r) → FileJudged f shares (told r') → r ≡ r'
file_judged_unique r r' o o' = told_verdict_lem r r' (file_judged_one o o')
