-- The two fractions of a near chance are close, by one part of 2 ^ 16 and by the rows made anew; neither is above 1.
use Rattle.std.specs.Prelude.{ℕ, ◌+◌, ◌-◌, ◌*◌, ◌^◌, ◌≤◌, ◌<◌, refl, List}
use Rattle.std.proofs.Common.{sym, subst, arith}
use Rattle.std.proofs.Math.Nat.{le_of_mul-le-mul_left}
use Rattle.meaning.specs.Chain.{Chain, Live}
use Rattle.meaning.specs.Row.{cell}
use Rattle.meaning.specs.Step.{row, Sets, Right}
use Rattle.meaning.specs.Refusal.{Lent, plain, WellFormed}
use Rattle.meaning.specs.Near.{near_outside, near_stage, rows_made, Near, near_live, NearFigure, NearOutcome}
use Rattle.theory.specs.Numbers.Sure.{quotient, twos_of}
use Rattle.theory.specs.Numbers.Narrow.{quotient_large, narrow_answer, narrow_parts, narrow_apart}
use Rattle.theory.specs.Chains.Sets.{right_one}
use Rattle.theory.specs.Outcomes.Existence.{chance_is_there}
use Rattle.theory.specs.Stages.Last.{Prepared}
use Rattle.theory.proofs.Stages.NearLast.{rows_most, last_goal, last_some, last_twice}
use Rattle.theory.specs.Outcomes.Formed.{few_states}
use Rattle.theory.specs.Outcomes.Whole.{formed_prepared}
use Rattle.theory.proofs.Outcomes.NearHolds.{near_holds}
use Rattle.theory.specs.Outcomes.NearFigure.{near_figure}

-- The upper fraction is not far above the lower one, by the rows that were made anew.
abbrev pub CloseBy : ℕ → Near → Type 0
CloseBy rows a = a.upper * 2 ^ 30 ≤ a.lower * (2 ^ 30 + 4 * rows + 8)

live_close : (c : Chain) (k : Sets) (o : List ℕ) → Prepared c k o → c.states ≤ 64 → Live c c.start
    → CloseBy (rows_made c k o c.states) (near_live c k o)
live_close c k o ready few alive =
    let n = c.states in
    let last = row (near_stage c k o n) c.start in
    let G = cell last n in
    let D = near_outside n c.start last in
    let large = quotient_large G D (last_goal c k o ready few alive) (last_some c k o ready few alive) (omega (arith, last_twice c k o ready few alive)) in
    narrow_answer (quotient G D) (rows_made c k o n) (2 ^ twos_of G D) (omega (arith, rows_most c k o ready few)) large

module _ (l : Lent) (formed : WellFormed plain l) where
  abbrev rows_of : Sets → ℕ
  rows_of k = rows_made l.chain k l.order l.chain.states

  ready : (k : Sets) → Right l.chain k → Prepared l.chain k l.order
  ready = formed_prepared plain l formed refl refl

  -- With at most 64 states at most 4,032 rows are made anew.
  pub near_rows : (k : Sets) → Right l.chain k → rows_made l.chain k l.order l.chain.states ≤ 4032
  near_rows k right = rows_most l.chain k l.order (ready k right) (few_states plain l formed)

  figure_rows : (k : Sets) → Right l.chain k → (a : Near) → NearFigure l a → CloseBy (rows_of k) a
  figure_rows k right a (NearFigure.won g e) = subst (CloseBy (rows_of k)) (sym e) (omega arith)
  figure_rows k right a (NearFigure.lost g e) = subst (CloseBy (rows_of k)) (sym e) (omega arith)
  figure_rows k right a (NearFigure.live k' right' alive e) =
      subst (CloseBy (rows_of k)) (sym e)
      (rw (right_one right' right) (live_close l.chain k l.order (ready k right) (few_states plain l formed) alive))

  figure_close : (a : Near) → NearFigure l a → a.upper * 2 ^ 16 ≤ a.lower * (2 ^ 16 + 1)
  figure_close a (NearFigure.won g e) = subst (λ (a : Near). a.upper * 2 ^ 16 ≤ a.lower * (2 ^ 16 + 1)) (sym e) (omega arith)
  figure_close a (NearFigure.lost g e) = subst (λ (a : Near). a.upper * 2 ^ 16 ≤ a.lower * (2 ^ 16 + 1)) (sym e) (omega arith)
  figure_close a (NearFigure.live k right alive e) =
      narrow_parts a.upper a.lower (rows_of k) (omega (arith, near_rows k right)) (figure_rows k right a (NearFigure.live k right alive e))

  figure_upper : (a : Near) → NearFigure l a → a.upper ≤ 2 ^ a.twos
  figure_upper a (NearFigure.won g e) = subst (λ (a : Near). a.upper ≤ 2 ^ a.twos) (sym e) (omega arith)
  figure_upper a (NearFigure.lost g e) = subst (λ (a : Near). a.upper ≤ 2 ^ a.twos) (sym e) (omega arith)
  figure_upper a (NearFigure.live k right alive e) = subst (λ (a : Near). a.upper ≤ 2 ^ a.twos) (sym e) (omega arith)

  module _ {a : Near} {w : List ℕ} (o : NearOutcome l a w) where
    pub near_close : a.upper * 2 ^ 16 ≤ a.lower * (2 ^ 16 + 1)
    near_close = figure_close a (near_figure l formed o)

    pub near_close_rows : (k : Sets) → Right l.chain k
        → (a.upper - a.lower) * 2 ^ 30 ≤ a.lower * (4 * rows_made l.chain k l.order l.chain.states + 8)
    near_close_rows k right = narrow_apart a.upper a.lower (rows_of k) (figure_rows k right a (near_figure l formed o))

    pub near_upper : a.upper ≤ 2 ^ a.twos
    near_upper = figure_upper a (near_figure l formed o)

    -- Since the chance lies between them.
    pub near_lower : a.lower ≤ a.upper
    near_lower =
        let (p, q, C) = chance_is_there plain l formed refl in
        let b = near_holds l formed o in
        between a.lower a.upper p q (2 ^ a.twos) C.lowest.whole (b.lower p q C) (b.upper p q C)
      where
        between : (x y p q K : ℕ) → 0 < q → x * q ≤ p * K → p * K ≤ y * q → x ≤ y
        between x y p q K h a b = le_of_mul-le-mul_left {k = q} (omega arith) h
