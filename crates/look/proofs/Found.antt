-- Where a scan stops, and what its answer tells.
use Prim.Native.Nat.{ℕ, ◌≤◌, ◌<◌}
use mathlib.Core.Path.{◌≡◌, subst}
use mathlib.Core.Logic.{◌⊎◌, ⊎_elim}
use native.Mathlib.Omega.{arith}
use Rattle.std.proofs.Common.{Option, None, Some, min}
use Rattle.std.proofs.Math.Nat.{min-eq_left, min-eq_right, min-le_left, min-le_right}
use Rattle.std.specs.Option.{MatchOption}
use Rattle.theory.specs.Numbers.Sum.{below}
use Rattle.chain.proofs.Passing.{NoneBelow}
use Rattle.look.specs.Least.{Least, least, lesser}

pub stop : {P : ℕ → Type 0} {n i : ℕ} → NoneBelow P n i → P i → Least P i
stop s here = record { here = here; before = s.1 }

module _ (P : ℕ → Type 0) {r : Option ℕ} (f : least P r) where
  pub found : {p : ℕ} → r ≡ Some p → Least P p
  found e = subst (λ (x : Option ℕ). least P x) e f

  pub none : r ≡ None → (p : ℕ) → P p → ⊥
  none e = subst (λ (x : Option ℕ). least P x) e f

-- The least place of two kinds is the lesser of each kind's.
module _ (P Q R : ℕ → Type 0) (one : (p : ℕ) → P p → R p) (other : (p : ℕ) → Q p → R p) (either : (p : ℕ) → R p → P p ⊎ Q p) where
  pub least_of : (a b : Option ℕ) → least P a → least Q b → least R (lesser a b)
  least_of None None f g = λ q r. ⊎_elim (f q) (g q) (either q r)
  least_of None (Some q) f g =
      record { here = other q g.here; before = λ k h r. ⊎_elim (f k) (g.before k h) (either k r) }
  least_of (Some p) None f g =
      record { here = one p f.here; before = λ k h r. ⊎_elim (f.before k h) (g k) (either k r) }
  least_of (Some p) (Some q) f g =
      let l = min-le_left p q in
      let r = min-le_right p q in
      record {
        here =
            ⊎_elim (λ (h : p < q). let e : min p q ≡ p = min-eq_left (omega arith) in rw e (one p f.here))
            (λ (h : q ≤ p). let e : min p q ≡ q = min-eq_right h in rw e (other q g.here))
            (below p q);
        before = λ k h w. ⊎_elim (f.before k (omega (arith, l))) (g.before k (omega (arith, r))) (either k w);
      }

-- What a search of the first n places finds is the least.
pub ranged : (P : ℕ → Type 0) {m n : ℕ} → m ≡ n → (r : Option ℕ)
    → MatchOption r ((k : ℕ) → 0 ≤ k → k < m → P k → ⊥) (λ i. (0 ≤ i) × (i < m) × P i × ((k : ℕ) → 0 ≤ k → k < i → P k → ⊥))
    → least (λ k. (k < n) × P k) r
ranged P e None f = λ k b. f k (omega arith) (omega (arith, b.0)) b.1
ranged P e (Some p) f = record { here = (omega (arith, f.1), f.2); before = λ k h b. f.3 k (omega arith) h b.1 }
