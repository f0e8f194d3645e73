-- The text of a file, from what is found of its chain and what is written of that.
use Prim.Native.Nat.{ℕ}
use mathlib.Core.Path.{◌≡◌, refl, ap, subst}
use mathlib.Core.List.{List, [], ◌++◌}
use Rattle.std.proofs.Common.{Result, Ok, Err}
use Rattle.meaning.specs.Refusal.{Lent}
use Rattle.meaning.specs.Outcome.{BoundsOutcome}
use Rattle.meaning.specs.Left.{LeftOutcome}
use Rattle.meaning.specs.Block.{Input}
use Rattle.meaning.specs.File.{Accepted, plain_in}
use Rattle.meaning.specs.Text.{bytes_of}
use Rattle.meaning.specs.Report.{refused_text}
use Rattle.meaning.specs.Salvage.{Lost, left_in, verdict, Salvaged}
use Rattle.chain.specs.Refusal.{number_of}
use Rattle.chain.specs.declared.given.Given.{Given}
use Rattle.chain.specs.declared.refusal.Refusal.{Refusal}
use Rattle.chainfile.specs.Input.{input}
use Rattle.octets.specs.Written.{Written}
use Rattle.look.specs.Sums.{Lacks}
use Rattle.engines.specs.Answer.{told_bounds}
use Rattle.engines.specs.declared.answer.Bounds.{Bounds}
use Rattle.elimination.specs.Own.{ours, Found}
use Rattle.report.specs.Stands.{Stands}
use Rattle.report.proofs.Refusals.{stands}
use Rattle.salvaging.specs.Lines.{bounds_line, left_text, Fits}
use Rattle.salvaging.specs.Holds.{Holds, InWhole}
use Rattle.salvaging.proofs.Said.{bounds_formed, bounds_refused, place_told, left_fits, left_said}

-- Of a file of which nothing is lost.
module _ {f : Input} {l : Lent} (accepted : Accepted f) (e : l ≡ plain_in f) where
  pub whole_line : {b : Bounds} {r : ℕ} {before after : List ℕ} → Found (BoundsOutcome l) (told_bounds (Ok b))
      → Written before 0 (bounds_line (told_bounds (Ok b))) after r → Stands (Salvaged f) before r after
  whole_line {b} o w =
      let z = subst (λ l. BoundsOutcome l (told_bounds (Ok b)) o.work) e o.outcome in
      stands (Salvaged.whole accepted (bounds_formed z refl) _ _ z refl) w

  pub whole_refusal : (x : Refusal) → Found (BoundsOutcome l) (told_bounds (Err x))
      → Salvaged f (refused_text (number_of x.fault) x.place ++ bytes_of "\n")
  whole_refusal x o =
      let z = subst (λ l. BoundsOutcome l (told_bounds (Err x)) o.work) e o.outcome in Salvaged.whole_refused _ _ accepted (bounds_refused z) refl

-- Of a file that has lost blocks.
module _ {kept lost order : List ℕ} {more : ℕ} {g : Given} (h : Holds (input kept more) lost g order) where
  lacking : {short : List ℕ} → Lacks g.denominators.now g.edges.now short
      → let l = left_in (input kept more) (verdict lost) in Lacks l.chain.denominators l.chain.edges short
  lacking {short} = subst (λ (l : Lent). Lacks l.chain.denominators l.chain.edges short) h.lent

  abbrev given : Lent
  given = ours g.chain g.denominators.now g.edges.now order []

  -- What is found is told of a case, and of what the file is lent.
  told_of : {found r : Result Bounds Refusal} (o : Found (LeftOutcome given) (told_bounds found)) → found ≡ r
      → LeftOutcome (left_in (input kept more) (verdict lost)) (told_bounds r) o.work
  told_of {found} o q =
      subst (λ r. LeftOutcome (left_in (input kept more) (verdict lost)) (told_bounds r) o.work) q
      (subst (λ l. LeftOutcome l (told_bounds found) o.work) h.lent o.outcome)

  module _ {found : Result Bounds Refusal} {b : Bounds} (o : Found (LeftOutcome given) (told_bounds found)) (q : found ≡ Ok b) {short : List ℕ}
      (k : Lacks g.denominators.now g.edges.now short) where
    between : LeftOutcome (left_in (input kept more) (verdict lost)) (told_bounds (Ok b)) o.work
    between = told_of o q

    pub lines_fit : Fits (told_bounds (Ok b)) lost short
    lines_fit = left_fits lost h.size h.opened between refl (lacking k)

    pub left_printed : {r : ℕ} {before after : List ℕ} → Lost (verdict lost) → Written before 0 (left_text (told_bounds (Ok b)) lost short) after r
        → Stands (Salvaged (input kept more)) before r after
    left_printed some w = stands (left_said lost h.size h.opened between refl (lacking k) some) w

  pub left_refusal : {found : Result Bounds Refusal} (x y : Refusal) → Found (LeftOutcome given) (told_bounds found) → found ≡ Err x → Lost (verdict lost)
      → InWhole (input kept 0) (verdict lost) x y
      → Salvaged (input kept more) (refused_text (number_of y.fault) y.place ++ bytes_of "\n")
  left_refusal x y o q some p =
      let z = bounds_refused (told_of o q) in
      Salvaged.left_refused (verdict lost) h.opened some (number_of x.fault) x.place y.place z (place_told p.place z)
      (ap (λ n. refused_text n y.place ++ bytes_of "\n") (ap number_of p.fault))
