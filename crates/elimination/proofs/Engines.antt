-- What holds of each engine.
use mathlib.Core.Path.{◌≡◌, refl, sym}
use mathlib.Core.Bool.{Bool, true, false}
use mathlib.Core.List.{List, []}
use Prim.Native.Nat.{ℕ}
use Rattle.meaning.specs.Chain.{Chain}
use Rattle.meaning.specs.Figure.{Missed}
use Rattle.meaning.specs.Row.{rounding}
use Rattle.meaning.specs.Step.{Sets}
use Rattle.meaning.specs.Refusal.{Lent, eliminating, paid}
use Rattle.meaning.specs.Survey.{Misses}
use Rattle.survey.specs.Looking.{Looked, looked}
use Rattle.elimination.specs.Engine.{rounds, is_paid, is_short, asks, read_by}
use Rattle.elimination.specs.First.{Makeable}
use Rattle.elimination.specs.Pay.{pays}
use Rattle.elimination.specs.declared.engine.Engine.{Engine}
use Rattle.elimination.specs.declared.engine.Engine.TheVariants.{Chance, Reward, Bounds, Left}
use Rattle.elimination.proofs.Rows.{apart}

-- Where rows may fall short they are rounded, and where they are rounded a turn earns nothing.
pub short_rounds : (g : Engine) → is_short g ≡ true → rounds g ≡ rounding
short_rounds Chance e = absurd (apart e)
short_rounds Reward e = absurd (apart e)
short_rounds Bounds e = refl
short_rounds Left e = refl

pub rounds_unpaid : (g : Engine) → rounds g ≡ rounding → is_paid g ≡ false
rounds_unpaid Chance e = refl
rounds_unpaid Reward e = absurd (apart e)
rounds_unpaid Bounds e = refl
rounds_unpaid Left e = refl

-- Where a turn earns no row falls short.
pub misses_paid : (g : Engine) (c : Chain) → is_paid g ≡ true → Misses (is_short g) c → Missed c
misses_paid Chance c e m = absurd (apart e)
misses_paid Reward c e m = m
misses_paid Bounds c e m = absurd (apart e)
misses_paid Left c e m = absurd (apart e)

pub paid_misses : (g : Engine) (c : Chain) → is_paid g ≡ true → Missed c → Misses (is_short g) c
paid_misses Chance c e m = absurd (apart e)
paid_misses Reward c e m = m
paid_misses Bounds c e m = absurd (apart e)
paid_misses Left c e m = absurd (apart e)

-- The looking with rewards, and without.
module _ (l : List ℕ → Lent) (rewards : List ℕ) (f : Looked) where
  pub looked_paid : (g : Engine) → is_paid g ≡ true → looked paid (l rewards) f → looked (asks g) (l (read_by (is_paid g) rewards)) f
  looked_paid Chance e z = absurd (apart e)
  looked_paid Reward e z = z
  looked_paid Bounds e z = absurd (apart e)
  looked_paid Left e z = absurd (apart e)

  pub looked_unpaid : (g : Engine) → is_paid g ≡ false → looked (eliminating false false (is_short g)) (l []) f → looked (asks g) (l (read_by (is_paid g) rewards)) f
  looked_unpaid Chance e z = z
  looked_unpaid Reward e z = absurd (apart (sym e))
  looked_unpaid Bounds e z = z
  looked_unpaid Left e z = z

-- Rewards that are not read count for nothing.
pub pays_read : (p : Bool) (c : Chain) (rewards : List ℕ) → pays p c rewards ≡ pays p c (read_by p rewards)
pays_read true c rewards = refl
pays_read false c rewards = refl

pub makeable_read : {b short : Bool} {c : Chain} {k : Sets} {w : List ℕ} (p : Bool) (rewards : List ℕ) → Makeable b p short c k (read_by p rewards) w
    → Makeable b p short c k rewards w
makeable_read true rewards m = m
makeable_read false rewards m =
    record {
      few = m.few;
      room = m.room;
      fine = m.fine;
      sources = m.sources;
      small = m.small;
      start = m.start;
      right = m.right;
      goal = m.goal;
      paid = λ e. absurd (apart e);
      unpaid = m.unpaid;
    }
