-- The chance lies between the two fractions of a near chance, for every well-formed input.
use Rattle.std.specs.Prelude.{ℕ, ◌+◌, ◌*◌, ◌^◌, ◌≤◌, ◌<◌, refl, List}
use Rattle.std.proofs.Common.{sym, subst, arith, mul-le-mul_left}
use Rattle.std.proofs.Math.Nat.{le_of_mul-le-mul_left}
use Rattle.meaning.specs.Chain.{Chain, Live}
use Rattle.meaning.specs.Figure.{Chance}
use Rattle.meaning.specs.Row.{Row, cell}
use Rattle.meaning.specs.Step.{row, Sets}
use Rattle.meaning.specs.Refusal.{Lent, plain, WellFormed}
use Rattle.meaning.specs.Demand.{AtMost}
use Rattle.meaning.specs.Near.{near_outside, near_stage, rows_made, Near, near, near_live, NearFigure, NearOutcome}
use Rattle.theory.specs.Numbers.Trimmed.{close_parts}
use Rattle.theory.specs.Numbers.Sure.{row_loss, lower_sound, upper_sound}
use Rattle.theory.specs.Chains.Fine.{Fine}
use Rattle.theory.specs.Figures.Shares.{shares_exist}
use Rattle.theory.specs.Figures.Below.{share_below}
use Rattle.theory.specs.Figures.Unique.{chance_one}
use Rattle.theory.specs.Stages.Last.{Prepared}
use Rattle.theory.proofs.Stages.NearLast.{rows_most, nearly_chance, last_outside, last_some}
use Rattle.theory.specs.Outcomes.Formed.{formed_fine, few_states, start_in}
use Rattle.theory.specs.Outcomes.Whole.{formed_prepared, chance_won, chance_lost}
use Rattle.theory.specs.Outcomes.NearFigure.{near_figure}

-- A chance is at most 1.
pub chance_below : {c : Chain} → Fine c → c.start < c.states → (p q : ℕ) → Chance c p q → p ≤ q
chance_below {c} fine inside p q C =
    let (d, x, share) = shares_exist fine in
    let m = share_below c fine d x share c.start inside in
    le_of_mul-le-mul_left {k = d} (omega (arith, C.share d x share, mul-le-mul_left q m)) share.whole

-- The chance lies between the two fractions of an answer.
pub record NearBetween (c : Chain) (a : Near) : Type 0 where
  pub lower : (p q : ℕ) → Chance c p q → AtMost a.lower (2 ^ a.twos) p q
  pub upper : (p q : ℕ) → Chance c p q → AtMost p q a.upper (2 ^ a.twos)

module _ (c : Chain) (k : Sets) (o : List ℕ) (ready : Prepared c k o) (few : c.states ≤ 64) (alive : Live c c.start) where
  abbrev n : ℕ
  n = c.states

  abbrev rows : ℕ
  rows = rows_made c k o n

  abbrev last : Row
  last = row (near_stage c k o n) c.start

  few_rows : rows ≤ 4096
  few_rows = omega (arith, rows_most c k o ready few)

  live_near : NearBetween c (near_live c k o)
  live_near =
      let S = cell last n + cell last (n + 1) in
      let G = cell last n in
      let D = near_outside n c.start last in
      record {
        lower = λ p q C.
            let h = (close_parts (2 ^ 48) (rows * row_loss) p q G S (nearly_chance c k o ready few alive p q C)).0 in
            lower_sound G D S rows p q few_rows (last_some c k o ready few alive) (last_outside c k o ready few alive) (omega arith);
        upper = λ p q C.
            let h = (close_parts (2 ^ 48) (rows * row_loss) p q G S (nearly_chance c k o ready few alive p q C)).1 in
            upper_sound G D S rows p q few_rows (last_some c k o ready few alive) (last_outside c k o ready few alive) (omega arith)
            (chance_below ready.fine ready.start p q C);
      }

-- A chance that is known.
chance_known : {c : Chain} → Fine c → (u : ℕ) → Chance c u 1 → NearBetween c (near 0 0 u u 0)
chance_known fine u h =
    record {
      lower = λ p q k. let o = chance_one fine h k in rw (sym o.0, sym o.1) (omega arith);
      upper = λ p q k. let o = chance_one fine h k in rw (sym o.0, sym o.1) (omega arith);
    }

module _ (l : Lent) (formed : WellFormed plain l) where
  figure_holds : (a : Near) → NearFigure l a → NearBetween l.chain a
  figure_holds a (NearFigure.won g e) =
      subst (NearBetween l.chain) (sym e) (chance_known (formed_fine plain l formed refl) 1 (chance_won l.chain (start_in plain l formed) g))
  figure_holds a (NearFigure.lost g e) =
      subst (NearBetween l.chain) (sym e) (chance_known (formed_fine plain l formed refl) 0 (chance_lost l.chain (start_in plain l formed) g))
  figure_holds a (NearFigure.live k right alive e) =
      subst (NearBetween l.chain) (sym e)
      (live_near l.chain k l.order (formed_prepared plain l formed refl refl k right) (few_states plain l formed) alive)

  pub near_holds : {a : Near} {w : List ℕ} → NearOutcome l a w → NearBetween l.chain a
  near_holds {a} o = figure_holds a (near_figure l formed o)
