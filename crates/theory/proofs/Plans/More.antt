-- More copies never hurt, and what the planner says of them.
use Prim.Native.Nat.{ℕ, ◌*◌, ◌≤◌, ◌<◌}
use Rattle.std.specs.Prelude.{◌≡◌, refl}
use Rattle.std.proofs.Common.{eq-or-lt_of_le}
use Rattle.std.proofs.Math.Logic.{⊎_elim}
use native.Mathlib.Omega.{arith}
use Rattle.meaning.specs.Figure.{Chance}
use Rattle.meaning.specs.Refusal.{plain}
use Rattle.meaning.specs.Outcome.{Answer}
use Rattle.meaning.specs.Demand.{AtMost}
use Rattle.meaning.specs.Copies.{Sensible, copies_chain, copies_lent, CopiesOutcome}
use Rattle.meaning.specs.PlanTable.{Weights, with_copies}
use Rattle.theory.specs.Outcomes.Formed.{formed_fine}
use Rattle.theory.specs.Figures.Unique.{chance_one}
use Rattle.theory.specs.Plans.Formed.{copies_plain}
use Rattle.theory.specs.Plans.More.{answered, more_copies_less}

-- Plans with the same weights.
module _ (g : Weights) where
  -- More copies never hurt.
  pub more_copies_most : {n m : ℕ} → Sensible (with_copies g n) → Sensible (with_copies g m) → n ≤ m → {p q p' q' : ℕ}
      → Chance (copies_chain (with_copies g n)) p q → Chance (copies_chain (with_copies g m)) p' q' → AtMost p' q' p q
  more_copies_most {n} {m} s s' h {p} {q} {p'} {q'} C C' =
      ⊎_elim
      (λ (e : n ≡ m).
      let o = chance_one (formed_fine plain (copies_lent (with_copies g m)) (copies_plain s') refl) (rw e at C) C' in
      rw (o.0, o.1) (omega arith))
      (λ (l : n < m). omega (arith, more_copies_less g s s' l C C'))
      (eq-or-lt_of_le h)

  -- In the planner's words: of two answers that are chances, that for more copies is the smaller.
  pub planned_less : {n m : ℕ} {a b : Answer} → CopiesOutcome (with_copies g n) a → CopiesOutcome (with_copies g m) b → a.number ≡ 0 → b.number ≡ 0
      → n < m → b.numerator * a.denominator < a.numerator * b.denominator
  planned_less o o' z z' h =
      let (s, C) = answered o z in
      let (s', C') = answered o' z' in
      more_copies_less g s s' h C C'
