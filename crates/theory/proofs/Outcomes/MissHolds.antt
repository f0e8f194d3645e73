-- The chance of missing lies between the two fractions answered for it, for every well-formed input.
use Rattle.std.specs.Prelude.{ℕ, ◌+◌, ◌-◌, ◌*◌, ◌^◌, ◌≤◌, ◌<◌, ◌≡◌, refl, List}
use Rattle.std.proofs.Common.{sym, ap, subst, ⊎_elim, arith, mul-pos, mul-le-mul_right, eq-eqb, ne_eqb}
use Rattle.meaning.specs.Chain.{Chain, Live}
use Rattle.meaning.specs.Figure.{Chance}
use Rattle.meaning.specs.Row.{Row, cell}
use Rattle.meaning.specs.Step.{row, Sets}
use Rattle.meaning.specs.Refusal.{Lent, plain, WellFormed}
use Rattle.meaning.specs.Demand.{AtMost}
use Rattle.meaning.specs.Near.{near_outside, near_stage, rows_made, Near, near}
use Rattle.meaning.specs.Miss.{miss_live, MissFigure, MissOutcome}
use Rattle.theory.specs.Numbers.Sum.{same, below}
use Rattle.theory.specs.Numbers.Trimmed.{Close, close_parts}
use Rattle.theory.specs.Numbers.Sure.{row_loss, lower_sound, upper_sound}
use Rattle.theory.specs.Chains.Fine.{Fine}
use Rattle.theory.specs.Figures.Unique.{chance_one}
use Rattle.theory.specs.Stages.Last.{Prepared}
use Rattle.theory.proofs.Stages.NearLast.{rows_most, last_out, last_outside, last_some, few_lost}
use Rattle.theory.proofs.Stages.Missed.{missed_chance}
use Rattle.theory.specs.Outcomes.Formed.{formed_fine, few_states, start_in}
use Rattle.theory.specs.Outcomes.Whole.{formed_prepared, chance_won, chance_lost}
use Rattle.theory.proofs.Outcomes.NearHolds.{chance_below}
use Rattle.theory.specs.Outcomes.NearFigure.{miss_figure}

-- Where the chance is p over q, that of missing is q - p over q: it lies between the two fractions of an answer.
pub record MissBetween (c : Chain) (a : Near) : Type 0 where
  pub lower : (p q : ℕ) → Chance c p q → AtMost a.lower (2 ^ a.twos) (q - p) q
  pub upper : (p q : ℕ) → Chance c p q → AtMost (q - p) q a.upper (2 ^ a.twos)

-- Of two fractions that are close, one is 0 where the other is.
zero_parts : (e R y : ℕ) → R < e → e * y ≤ R * y → y ≡ 0
zero_parts e R y h l =
    ⊎_elim (λ (o : 0 < y). absurd (omega (arith, mul-le-mul_right y h))) (λ (o : y ≤ 0). omega arith) (below 0 y)

zero_factor : (x y : ℕ) → 0 < y → x * y ≡ 0 → x ≡ 0
zero_factor x y some e =
    ⊎_elim (λ (o : 0 < x). absurd (omega (arith, e, mul-pos o some))) (λ (o : x ≤ 0). omega arith) (below 0 x)

close_none : (e R x d x' d' : ℕ) → R < e → 0 < d' → Close e R x d x' d' → x' ≡ 0 → x ≡ 0
close_none e R x d x' d' few some C z =
    let w : x' * d ≡ 0 = rw z (omega arith) in
    zero_factor x d' some (zero_parts e R (x * d') few (omega (arith, C.under, ap (λ y. e * y) w)))

none_close : (e R x d x' d' : ℕ) → R < e → 0 < d → Close e R x d x' d' → x ≡ 0 → x' ≡ 0
none_close e R x d x' d' few some C z =
    let w : x * d' ≡ 0 = rw z (omega arith) in
    zero_factor x' d some (zero_parts e R (x' * d) few (omega (arith, C.above, ap (λ y. e * y) w)))

module _ (c : Chain) (k : Sets) (o : List ℕ) (ready : Prepared c k o) (few : c.states ≤ 64) (alive : Live c c.start) where
  abbrev n : ℕ
  n = c.states

  abbrev rows : ℕ
  rows = rows_made c k o n

  abbrev last : Row
  last = row (near_stage c k o n) c.start

  abbrev T : ℕ
  T = cell last (n + 1)

  abbrev S : ℕ
  S = cell last n + cell last (n + 1)

  abbrev D : ℕ
  D = near_outside n c.start last

  few_rows : rows ≤ 4096
  few_rows = omega (arith, rows_most c k o ready few)

  said : (p q : ℕ) → Chance c p q → Close (2 ^ 48) (rows * row_loss) (q - p) q T S
  said p q C = missed_chance c k o ready few alive p q (chance_below ready.fine ready.start p q C) C

  -- Trap's weight is 0 exactly where the chance is 1.
  pub trap_none : T ≡ 0 → (p q : ℕ) → Chance c p q → q - p ≡ 0
  trap_none none p q C =
      close_none (2 ^ 48) (rows * row_loss) (q - p) q T S (few_lost c k o ready few alive) (last_out c k o ready few alive) (said p q C) none

  pub none_trap : (p q : ℕ) → Chance c p q → q - p ≡ 0 → T ≡ 0
  none_trap p q C none =
      none_close (2 ^ 48) (rows * row_loss) (q - p) q T S (few_lost c k o ready few alive) C.lowest.whole (said p q C) none

  live_miss : MissBetween c (miss_live c k o)
  live_miss =
      ⊎_elim
      (λ (z : T ≡ 0).
      rw (eq-eqb T 0 z)
      (record {
        lower = λ p q C. omega (arith, trap_none z p q C);
        upper = λ p q C. omega (arith, trap_none z p q C);
      }))
      (λ (z : T ≡ 0 → ⊥).
      rw (ne_eqb T 0 z)
      (record {
        lower = λ p q C.
            let h = (close_parts (2 ^ 48) (rows * row_loss) (q - p) q T S (said p q C)).0 in
            lower_sound T D S rows (q - p) q few_rows (last_some c k o ready few alive) (last_outside c k o ready few alive) (omega (arith, h));
        upper = λ p q C.
            let h = (close_parts (2 ^ 48) (rows * row_loss) (q - p) q T S (said p q C)).1 in
            upper_sound T D S rows (q - p) q few_rows (last_some c k o ready few alive) (last_outside c k o ready few alive) (omega (arith, h))
            (omega arith);
      }))
      (same T 0)

-- A chance that is known.
miss_known : {c : Chain} → Fine c → (u v : ℕ) → u + v ≡ 1 → Chance c u 1 → MissBetween c (near 0 0 v v 0)
miss_known fine u v e h =
    record {
      lower = λ p q k. let o = chance_one fine h k in rw (sym o.0, sym o.1) (omega arith);
      upper = λ p q k. let o = chance_one fine h k in rw (sym o.0, sym o.1) (omega arith);
    }

module _ (l : Lent) (formed : WellFormed plain l) where
  figure_holds : (a : Near) → MissFigure l a → MissBetween l.chain a
  figure_holds a (MissFigure.won g e) =
      subst (MissBetween l.chain) (sym e)
      (miss_known (formed_fine plain l formed refl) 1 0 (omega arith) (chance_won l.chain (start_in plain l formed) g))
  figure_holds a (MissFigure.lost g e) =
      subst (MissBetween l.chain) (sym e)
      (miss_known (formed_fine plain l formed refl) 0 1 (omega arith) (chance_lost l.chain (start_in plain l formed) g))
  figure_holds a (MissFigure.live k right alive e) =
      subst (MissBetween l.chain) (sym e)
      (live_miss l.chain k l.order (formed_prepared plain l formed refl refl k right) (few_states plain l formed) alive)

  pub miss_holds : {a : Near} {w : List ℕ} → MissOutcome l a w → MissBetween l.chain a
  miss_holds {a} o = figure_holds a (miss_figure l formed o)
