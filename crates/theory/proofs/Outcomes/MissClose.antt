-- The two fractions of a chance of missing are as close as those of a near chance, and are 0 exactly where no goal can be missed.
use Rattle.std.specs.Prelude.{ℕ, ◌+◌, ◌-◌, ◌*◌, ◌^◌, ◌≤◌, ◌<◌, ◌≡◌, refl, ◌↔◌, List}
use Rattle.std.proofs.Common.{sym, ap, ◌∙◌, subst, ⊎_elim, arith, mul-pos, pow_pos, eq-eqb, ne_eqb}
use Rattle.std.proofs.Math.Nat.{le_of_mul-le-mul_left}
use Rattle.meaning.specs.Chain.{Chain, Live}
use Rattle.meaning.specs.Figure.{Chance, Missed}
use Rattle.meaning.specs.Row.{Row, cell}
use Rattle.meaning.specs.Step.{row, Sets, Right}
use Rattle.meaning.specs.Refusal.{Lent, plain, WellFormed}
use Rattle.meaning.specs.Near.{near_outside, near_stage, rows_made, Near, near}
use Rattle.meaning.specs.Miss.{miss_live, MissFigure, MissOutcome}
use Rattle.theory.specs.Numbers.Sum.{same, below}
use Rattle.theory.specs.Numbers.Sure.{quotient, twos_of}
use Rattle.theory.specs.Numbers.Narrow.{quotient_large, narrow_answer, narrow_parts, narrow_apart}
use Rattle.theory.specs.Chains.Sets.{right_one}
use Rattle.theory.specs.Outcomes.Existence.{chance_is_there}
use Rattle.theory.specs.Figures.Surely.{chance_sure}
use Rattle.theory.specs.Figures.Unique.{chance_one}
use Rattle.theory.specs.Stages.Last.{Prepared}
use Rattle.theory.proofs.Stages.NearLast.{rows_most, last_some, last_twice}
use Rattle.theory.specs.Outcomes.Formed.{formed_fine, few_states, start_in}
use Rattle.theory.specs.Outcomes.Whole.{formed_prepared, chance_lost}
use Rattle.theory.proofs.Outcomes.NearHolds.{chance_below}
use Rattle.theory.proofs.Outcomes.NearClose.{CloseBy, near_rows}
use Rattle.theory.proofs.Outcomes.MissHolds.{none_trap, miss_holds}
use Rattle.theory.specs.Outcomes.NearFigure.{miss_figure}

module _ (c : Chain) (k : Sets) (o : List ℕ) (ready : Prepared c k o) (few : c.states ≤ 64) (alive : Live c c.start) where
  abbrev last : Row
  last = row (near_stage c k o c.states) c.start

  abbrev T : ℕ
  T = cell last (c.states + 1)

  live_close : CloseBy (rows_made c k o c.states) (miss_live c k o)
  live_close =
      let D = near_outside c.states c.start last in
      ⊎_elim
      (λ (z : T ≡ 0). rw (eq-eqb T 0 z) (omega arith))
      (λ (z : T ≡ 0 → ⊥).
      rw (ne_eqb T 0 z)
      (let large = quotient_large T D (omega arith) (last_some c k o ready few alive) (omega (arith, last_twice c k o ready few alive)) in
      narrow_answer (quotient T D) (rows_made c k o c.states) (2 ^ twos_of T D) (omega (arith, rows_most c k o ready few)) large))
      (same T 0)

  live_upper : (miss_live c k o).upper ≤ 2 ^ (miss_live c k o).twos
  live_upper = ⊎_elim (λ (z : T ≡ 0). rw (eq-eqb T 0 z) (omega arith)) (λ (z : T ≡ 0 → ⊥). rw (ne_eqb T 0 z) (omega arith)) (same T 0)

  live_none : (p q : ℕ) → Chance c p q → p ≡ q → miss_live c k o ≡ near 0 0 0 0 0
  live_none p q C one = rw (eq-eqb T 0 (none_trap c k o ready few alive p q C (omega arith)))

module _ (l : Lent) (formed : WellFormed plain l) where
  abbrev rows_of : Sets → ℕ
  rows_of k = rows_made l.chain k l.order l.chain.states

  ready : (k : Sets) → Right l.chain k → Prepared l.chain k l.order
  ready = formed_prepared plain l formed refl refl

  figure_rows : (k : Sets) → Right l.chain k → (a : Near) → MissFigure l a → CloseBy (rows_of k) a
  figure_rows k right a (MissFigure.won g e) = subst (CloseBy (rows_of k)) (sym e) (omega arith)
  figure_rows k right a (MissFigure.lost g e) = subst (CloseBy (rows_of k)) (sym e) (omega arith)
  figure_rows k right a (MissFigure.live k' right' alive e) =
      subst (CloseBy (rows_of k)) (sym e)
      (rw (right_one right' right) (live_close l.chain k l.order (ready k right) (few_states plain l formed) alive))

  figure_close : (a : Near) → MissFigure l a → a.upper * 2 ^ 16 ≤ a.lower * (2 ^ 16 + 1)
  figure_close a (MissFigure.won g e) = subst (λ (a : Near). a.upper * 2 ^ 16 ≤ a.lower * (2 ^ 16 + 1)) (sym e) (omega arith)
  figure_close a (MissFigure.lost g e) = subst (λ (a : Near). a.upper * 2 ^ 16 ≤ a.lower * (2 ^ 16 + 1)) (sym e) (omega arith)
  figure_close a (MissFigure.live k right alive e) =
      narrow_parts a.upper a.lower (rows_of k) (omega (arith, near_rows l formed k right)) (figure_rows k right a (MissFigure.live k right alive e))

  figure_upper : (a : Near) → MissFigure l a → a.upper ≤ 2 ^ a.twos
  figure_upper a (MissFigure.won g e) = subst (λ (a : Near). a.upper ≤ 2 ^ a.twos) (sym e) (omega arith)
  figure_upper a (MissFigure.lost g e) = subst (λ (a : Near). a.upper ≤ 2 ^ a.twos) (sym e) (omega arith)
  figure_upper a (MissFigure.live k right alive e) =
      subst (λ (a : Near). a.upper ≤ 2 ^ a.twos) (sym e) (live_upper l.chain k l.order (ready k right) (few_states plain l formed) alive)

  figure_none : (a : Near) → MissFigure l a → (p q : ℕ) → Chance l.chain p q → p ≡ q → a ≡ near 0 0 0 0 0
  figure_none a (MissFigure.won g e) p q C one = e
  figure_none a (MissFigure.lost g e) p q C one =
      let (u, v) = chance_one (formed_fine plain l formed refl) (chance_lost l.chain (start_in plain l formed) g) C in absurd (omega (arith, u, v, one))
  figure_none a (MissFigure.live k right alive e) p q C one =
      e ∙ live_none l.chain k l.order (ready k right) (few_states plain l formed) alive p q C one

  module _ {a : Near} {w : List ℕ} (o : MissOutcome l a w) where
    pub miss_close : a.upper * 2 ^ 16 ≤ a.lower * (2 ^ 16 + 1)
    miss_close = figure_close a (miss_figure l formed o)

    pub miss_close_rows : (k : Sets) → Right l.chain k
        → (a.upper - a.lower) * 2 ^ 30 ≤ a.lower * (4 * rows_made l.chain k l.order l.chain.states + 8)
    miss_close_rows k right = narrow_apart a.upper a.lower (rows_of k) (figure_rows k right a (miss_figure l formed o))

    pub miss_upper : a.upper ≤ 2 ^ a.twos
    miss_upper = figure_upper a (miss_figure l formed o)

    pub miss_lower : a.lower ≤ a.upper
    miss_lower =
        let (p, q, C) = chance_is_there plain l formed refl in
        let b = miss_holds l formed o in
        between a.lower a.upper (q - p) q (2 ^ a.twos) C.lowest.whole (b.lower p q C) (b.upper p q C)
      where
        between : (x y p q K : ℕ) → 0 < q → x * q ≤ p * K → p * K ≤ y * q → x ≤ y
        between x y p q K h a b = le_of_mul-le-mul_left {k = q} (omega arith) h

    -- Where the answer is 0, the chance is 1; and where the chance is 1, it is 0.
    none_sure : a.upper ≡ 0 → Missed l.chain → ⊥
    none_sure e =
        let (p, q, C) = chance_is_there plain l formed refl in
        let fine = formed_fine plain l formed refl in
        let inside = start_in plain l formed in
        (chance_sure l.chain fine inside p q C).0
        (all p q (2 ^ a.twos) a.upper (pow_pos a.twos) (chance_below fine inside p q C) e ((miss_holds l formed o).upper p q C))
      where
        all : (p q K u : ℕ) → 0 < K → p ≤ q → u ≡ 0 → (q - p) * K ≤ u * q → p ≡ q
        all p q K u h one e b =
            let z : u * q ≡ 0 = rw e (omega arith) in
            ⊎_elim
            (λ (g : 0 < q - p). absurd (omega (arith, mul-pos g h, b, z)))
            (λ (g : q - p ≤ 0). omega arith)
            (below 0 (q - p))

    sure_none : (Missed l.chain → ⊥) → a ≡ near 0 0 0 0 0
    sure_none sure =
        let (p, q, C) = chance_is_there plain l formed refl in
        figure_none a (miss_figure l formed o) p q C
        ((chance_sure l.chain (formed_fine plain l formed refl) (start_in plain l formed) p q C).1 sure)

    -- The upper fraction is 0, and then so is all of the answer, exactly where the start cannot reach, without passing a goal, a state with
    -- no path to one.
    pub miss_none : (a.upper ≡ 0) ↔ (Missed l.chain → ⊥)
    miss_none = (none_sure, λ sure. ap (λ (a : Near). a.upper) (sure_none sure))

    pub miss_nought : (a ≡ near 0 0 0 0 0) ↔ (Missed l.chain → ⊥)
    miss_nought = (λ e. none_sure (ap (λ (a : Near). a.upper) e), sure_none)
