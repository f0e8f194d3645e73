-- Is a chance within a limit: the verdict on a chain file, and what the program prints of it.
use Rattle.std.specs.Prelude.{ℕ, ◌^◌, ◌≡◌, Bool, List, ◌++◌, eqb}
use Rattle.meaning.specs.Number.{choose}
use Rattle.meaning.specs.Refusal.{plain, Refused, WellFormed}
use Rattle.meaning.specs.Outcome.{Answer, ChanceOutcome}
use Rattle.meaning.specs.Block.{Input}
use Rattle.meaning.specs.File.{FileRefused, Accepted, plain_in}
use Rattle.meaning.specs.Buffer.{Writing}
use Rattle.meaning.specs.Text.{bytes_of}
use Rattle.meaning.specs.Report.{refused_text, TextOutcome}
use Rattle.meaning.specs.Near.{Near, NearOutcome}
use Rattle.meaning.specs.NearText.{Figure, lower_figure, upper_figure, near_line}
use Rattle.meaning.specs.Limit.{Limit, IsLimit, keeps}

-- Kept, broken, or open: which of the two cannot be said.
pub data Verdict : Type 0 where
  kept : Verdict
  broken : Verdict
  undecided : Verdict

-- A printed figure is at most the limit.
abbrev pub figure_keeps : Limit → Figure → Bool
figure_keeps m f = keeps m f.digits (10 ^ f.tens)

-- By the printed near figures: kept where the upper one is at most the limit, broken where the lower one is not, else open.
abbrev pub near_verdict : Limit → Near → Verdict
near_verdict m a =
    choose (figure_keeps m (upper_figure a.upper a.twos)) kept (choose (figure_keeps m (lower_figure a.lower a.twos)) undecided broken)

-- Where the exact entry answers a fraction, that decides.
abbrev pub verdict_by : Limit → Answer → Near → Verdict
verdict_by m exact a =
    choose (eqb exact.number 0) (choose (keeps m exact.numerator exact.denominator) kept broken) (near_verdict m a)

-- What is said of a file: a refusal's number and place, or the verdict, and the near chance that is printed with it.
pub data Limited : Type 0 where
  refused : ℕ → ℕ → Limited
  judged : Verdict → Near → Limited

-- 35 at 0 comes first, where the limit is none; then the file is tested, then its chain.
pub data FileLimit (f : Input) (m : Limit) (a : Limited) : Type 0 where
  no_limit_lem : (IsLimit m → ⊥) → a ≡ refused 35 0 → FileLimit f m a
  file_refused : IsLimit m → (number place : ℕ) → FileRefused f number place → a ≡ refused number place → FileLimit f m a
  chain_refused : IsLimit m → Accepted f → (number place : ℕ) → Refused plain (plain_in f) number place → a ≡ refused number place
      → FileLimit f m a
  asked : IsLimit m → Accepted f → WellFormed plain (plain_in f) → (exact : Answer) (chance : Near) (w v : List ℕ)
      → ChanceOutcome (plain_in f) exact w → NearOutcome (plain_in f) chance v → a ≡ judged (verdict_by m exact chance) chance
      → FileLimit f m a

-- The line, as `kept 2.48121e-10 2.48122e-10`, or `refused 35 at 0`.
abbrev pub verdict_text : Verdict → List ℕ
verdict_text kept = bytes_of "kept "
verdict_text broken = bytes_of "broken "
verdict_text undecided = bytes_of "open "

abbrev pub limit_line : Limited → List ℕ
limit_line (refused number place) = refused_text number place ++ bytes_of "\n"
limit_line (judged v chance) = near_line (verdict_text v) chance

-- t is what the program prints for the input f.
pub record LimitReport (f : Input) (m : Limit) (t : List ℕ) : Type 0 where
  pub limited : Limited
  pub outcome : FileLimit f m limited
  pub line : t ≡ limit_line limited

-- Room for any such line: a word of seven bytes, two figures of 48 with 64 bits, a space and a newline.
abbrev pub limit_room : ℕ
limit_room = 105

abbrev pub LimitReportOutcome : Input → Limit → List ℕ → Writing → List ℕ → Type 0
LimitReportOutcome f m = TextOutcome limit_room (LimitReport f m)
