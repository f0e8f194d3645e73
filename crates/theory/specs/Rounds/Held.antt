-- What is held beside the true chance within k steps: at most that, and short of it by at most k parts. It rises with k.
use Prim.Native.Nat.{ℕ, zero, suc, ◌+◌, ◌*◌, ◌/◌, ◌^◌, ◌≤◌, ◌<◌}
use Rattle.std.specs.Prelude.{◌≡◌, Bool, eqb}
use Rattle.std.proofs.Common.{ap, ⊎_elim, le-div_iff_mul-le, mul-le-mul_left, eq-or-lt_of_le}
use Rattle.std.proofs.Math.Bool.{true, false}
use native.Mathlib.Omega.{arith}
use Rattle.std.proofs.Math.Nat.{lt-mul-div-succ, mul-div-le, div-le_of_le-mul, pow-zero, pow-succ'}
use Rattle.meaning.specs.Number.{only, choose, bit}
use Rattle.meaning.specs.Chain.{Chain, denominator, to, along}
use Rattle.meaning.specs.Within.{all_parts, held, common, reached_in}
use Rattle.theory.specs.Chains.Flow.{flow_add, flow_scale, flow_le, flow_most}
use Rattle.theory.specs.Rounds.Round.{Ready, rounds, begins, share_whole}

-- S is the sum of what is held, A of what is true, D the denominator, F = D * P the product of all, X a power of it, U the parts.
down : (S A D P F X U h : ℕ) → D * P ≡ F → D * h ≤ S → S * X ≤ U * A → h * (F * X) ≤ U * (A * P)
down S A D P F X U h e a b = omega (arith, ap (λ z. h * z * X) e, mul-le-mul_left (P * X) a, mul-le-mul_left P b)

near : (S A D P F X U h k : ℕ) → D * P ≡ F → S ≤ D * h + D → U * A ≤ (S + k * D) * X → U * (A * P) ≤ (h + suc k) * (F * X)
near S A D P F X U h k e a b =
    omega (arith, ap (λ z. (h + suc k) * z * X) e, mul-le-mul_left (P * X) a, mul-le-mul_left P b)

module _ {c : Chain} (ready : Ready c) where
  abbrev W : ℕ
  W = common c

  abbrev share : ℕ → ℕ
  share i = W / denominator c i

  -- It is at most the true chance within k steps.
  pub held_below : (k i : ℕ) → i < c.states → held c k i * W ^ k ≤ all_parts * reached_in c k i
  held_below zero i h = rw (pow-zero W) (begins c (λ a b. a * 1 ≤ all_parts * b) i (omega arith) (omega arith))
  held_below (suc k) i h =
      rounds c (λ a b. a * W ^ suc k ≤ all_parts * b) k i (omega arith)
      (rw (pow-succ' W k)
      (down (along c i (held c k)) (along c i (reached_in c k)) (denominator c i) (share i) W (W ^ k) all_parts _
      (share_whole ready i h)
      (mul-div-le (along c i (held c k)) (denominator c i))
      (omega (
        arith,
        flow_le c.edges i (λ t. W ^ k * held c k t) (λ t. all_parts * reached_in c k t)
            (λ e l q. omega (arith, held_below k (to c.edges e) (ready.fine.targets e l))),
        flow_scale c.edges i (W ^ k) (held c k),
        flow_scale c.edges i all_parts (reached_in c k),
      ))))

  -- It falls short of it by at most k parts.
  pub held_near : (k i : ℕ) → i < c.states → all_parts * reached_in c k i ≤ (held c k i + k) * W ^ k
  held_near zero i h = rw (pow-zero W) (begins c (λ a b. all_parts * b ≤ (a + 0) * 1) i (omega arith) (omega arith))
  held_near (suc k) i h =
      rounds c (λ a b. all_parts * b ≤ (a + suc k) * W ^ suc k) k i (omega arith)
      (rw (pow-succ' W k)
      (near (along c i (held c k)) (along c i (reached_in c k)) (denominator c i) (share i) W (W ^ k) all_parts _ k
      (share_whole ready i h)
      (omega (arith, lt-mul-div-succ (along c i (held c k)) (ready.some i h)))
      (omega (
        arith,
        flow_le c.edges i (λ t. all_parts * reached_in c k t) (λ t. W ^ k * (held c k t + k * 1))
            (λ e l q. omega (arith, held_near k (to c.edges e) (ready.fine.targets e l))),
        flow_scale c.edges i all_parts (reached_in c k),
        flow_scale c.edges i (W ^ k) (λ t. held c k t + k * 1),
        ap (λ z. W ^ k * z) (flow_add c.edges i (held c k) (λ _. k * 1)),
        ap (λ z. W ^ k * z) (flow_scale c.edges i k (λ _. 1)),
        ap (λ z. W ^ k * (k * z)) (ready.fine.sums i h),
      ))))

  -- No state holds more than a goal.
  pub held_most : (k i : ℕ) → i < c.states → held c k i ≤ all_parts
  held_most zero i h = begins c (λ a b. a ≤ all_parts) i (omega arith) (omega arith)
  held_most (suc k) i h =
      rounds c (λ a b. a ≤ all_parts) k i (omega arith)
      (div-le_of_le-mul (denominator c i)
      (omega (
        arith,
        flow_most c.edges i (held c k) all_parts (λ e l q. held_most k (to c.edges e) (ready.fine.targets e l)),
        ap (λ z. all_parts * z) (ready.fine.sums i h),
      )))

  div_rises : (a b d : ℕ) → 0 < d → a ≤ b → a / d ≤ b / d
  div_rises a b d h l = (le-div_iff_mul-le h).1 (omega (arith, mul-div-le a d))

  -- One round more takes nothing away.
  held_next : (k i : ℕ) → i < c.states → held c k i ≤ held c (suc k) i
  unfolding held
  held_next zero i h = go (eqb (bit c.goals i) 1)
    where
      go : (b : Bool) → only b all_parts ≤ choose b all_parts (along c i (held c 0) / denominator c i)
      go true = omega arith
      go false = omega arith
  held_next (suc k) i h =
      go (eqb (bit c.goals i) 1)
      (div_rises _ _ (denominator c i) (ready.some i h)
      (flow_le c.edges i (held c k) (held c (suc k)) (λ e l q. held_next k (to c.edges e) (ready.fine.targets e l))))
    where
      go : (b : Bool) {x y : ℕ} → x ≤ y → choose b all_parts x ≤ choose b all_parts y
      go true l = omega arith
      go false l = l

  -- With more steps no less is held.
  pub held_rises : (k m i : ℕ) → i < c.states → k ≤ m → held c k i ≤ held c m i
  held_rises k zero i h l = let e : k ≡ 0 = omega arith in rw e (omega arith)
  held_rises k (suc m) i h l =
      ⊎_elim
      (λ (e : k ≡ suc m). rw e (omega arith))
      (λ (b : k < suc m). omega (arith, held_rises k m i h (omega arith), held_next m i h))
      (eq-or-lt_of_le {n = k} {m = suc m} l)
