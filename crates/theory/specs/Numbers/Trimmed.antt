-- Numbers rounded down by a few parts of e, and fractions that differ by a few parts of e: the parts add up.
use Prim.Native.Nat.{ℕ, zero, suc, ◌+◌, ◌*◌, ◌-◌, ◌/◌, ◌≤◌, ◌<◌}
use Rattle.std.specs.Prelude.{◌≡◌}
use Rattle.std.proofs.Common.{ap, ⊎_elim, mul-pos, mul-le-mul_left, mul-le-mul_right}
use native.Mathlib.Omega.{arith}
use Rattle.std.proofs.Math.Nat.{le_of_mul-le-mul_left, mul-div-le, lt-mul-div-succ}
use Rattle.meaning.specs.Number.{sum_to}
use Rattle.theory.specs.Numbers.Sum.{below}

-- w' is w rounded down, and loses at most R parts of e.
pub record Trimmed (e R w w' : ℕ) : Type 0 where
  pub under : w' ≤ w
  pub near : e * w ≤ e * w' + R * w

-- The fractions x over d and x' over d' are at most R parts of e apart, either one counted as the whole.
pub record Close (e R x d x' d' : ℕ) : Type 0 where
  pub above : e * (x' * d) ≤ e * (x * d') + R * (x' * d)
  pub under : e * (x * d') ≤ e * (x' * d) + R * (x * d')

module _ (e R : ℕ) where
  pub trimmed_add : {v v' w w' : ℕ} → Trimmed e R v v' → Trimmed e R w w' → Trimmed e R (v + w) (v' + w')
  trimmed_add {v} {v'} {w} {w'} Y W =
      record { under = omega (arith, Y.under, W.under); near = omega (arith, Y.near, W.near) }

  pub trimmed_scale : (k : ℕ) {w w' : ℕ} → Trimmed e R w w' → Trimmed e R (w * k) (w' * k)
  trimmed_scale k {w} {w'} W =
      record { under = mul-le-mul_right k W.under; near = omega (arith, mul-le-mul_right k W.near) }

  pub trimmed_sum : (w w' x : ℕ → ℕ) (n : ℕ) → ((j : ℕ) → j < n → Trimmed e R (w j) (w' j))
      → Trimmed e R (sum_to (λ j. w j * x j) n) (sum_to (λ j. w' j * x j) n)
  unfolding sum_to
  trimmed_sum w w' x zero h = record { under = omega arith; near = omega arith }
  trimmed_sum w w' x (suc n) h =
      trimmed_add (trimmed_sum w w' x n (λ j k. h j (omega arith))) (trimmed_scale (x n) (h n (omega arith)))

  pub trimmed_whole : {w w' : ℕ} → R < e → 0 < w → Trimmed e R w w' → 0 < w'
  trimmed_whole {w} {w'} l h W =
      ⊎_elim
      (λ (k : 0 < w'). k)
      (λ (k : w' ≤ 0).
      let z : w' ≡ 0 = omega arith in
      absurd (omega (arith, rw z at W.near, mul-le-mul_right w l)))
      (below 0 w')

  -- What P and Q are to each other, a and b are.
  ratio : (k l a b P Q : ℕ) → 0 < k → k * P ≡ l * a → k * Q ≡ l * b → e * a ≤ e * b + R * a → e * P ≤ e * Q + R * P
  ratio k l a b P Q h p q w =
      le_of_mul-le-mul_left
      {k = k} (omega (arith, mul-le-mul_left l w, ap (λ z. e * z) p, ap (λ z. R * z) p, ap (λ z. e * z) q)) h

  -- The fractions A over B and A' over B'.
  pub trimmed_close : {A A' B B' : ℕ} (x d x' d' : ℕ) → 0 < B → 0 < B' → Trimmed e R A A' → Trimmed e R B B' → x * B ≡ d * A → x' * B' ≡ d' * A'
      → Close e R x d x' d'
  trimmed_close {A} {A'} {B} {B'} x d x' d' h h' X Y p p' =
      let k : 0 < B * B' = mul-pos h h' in
      let c' : B * B' * (x' * d) ≡ d * d' * (A' * B) = omega (arith, ap (λ z. B * d * z) p') in
      let c : B * B' * (x * d') ≡ d * d' * (A * B') = omega (arith, ap (λ z. B' * d' * z) p) in
      record {
        above = ratio _ _ _ _ _ _ k c' c (omega (arith, mul-le-mul_left A' Y.near, mul-le-mul_left (e * B') X.under));
        under = ratio _ _ _ _ _ _ k c c' (omega (arith, mul-le-mul_left B' X.near, mul-le-mul_left (e * A') Y.under));
      }

  -- The same with the whole less its parts.
  less : (P Q : ℕ) → e * P ≤ e * Q + R * P → (e - R) * P ≤ e * Q
  less P Q h =
      ⊎_elim
      (λ (l : R < e). omega (arith, ap (λ z. z * P) (let E : R + (e - R) ≡ e = omega arith in E)))
      (λ (l : e ≤ R). let E : e - R ≡ 0 = omega arith in rw E (omega arith))
      (below R e)

  pub close_parts : (x d x' d' : ℕ) → Close e R x d x' d' → ((e - R) * (x' * d) ≤ e * (x * d')) × ((e - R) * (x * d') ≤ e * (x' * d))
  close_parts x d x' d' N = (less (x' * d) (x * d') N.above, less (x * d') (x' * d) N.under)

-- A weight of which only the multiples of q are kept, where it is at least e of them.
pub kept_trimmed : (e q w : ℕ) → 0 < q → e * q ≤ w → Trimmed e 1 w (q * (w / q))
kept_trimmed e q w h l =
    record { under = mul-div-le w q; near = omega (arith, mul-le-mul_left e (lt-mul-div-succ w h)) }

-- Many weights, of each of which only the multiples of q are kept.
floors : (w : ℕ → ℕ) (q n : ℕ) → 0 < q → (q * sum_to (λ j. w j / q) n ≤ sum_to w n) × (sum_to w n ≤ q * sum_to (λ j. w j / q) n + n * q)
unfolding sum_to
floors w q zero h = (omega arith, omega arith)
floors w q (suc n) h =
    let (a, b) = floors w q n h in
    let u = mul-div-le (w n) q in
    let o = lt-mul-div-succ (w n) h in
    (omega arith, omega arith)

pub kept_sum : (e q : ℕ) (w : ℕ → ℕ) (n : ℕ) → 0 < q → e * q ≤ sum_to w n → Trimmed e n (sum_to w n) (q * sum_to (λ j. w j / q) n)
kept_sum e q w n h l =
    let (a, b) = floors w q n h in
    record { under = a; near = omega (arith, mul-le-mul_left e b, mul-le-mul_left n l) }

-- Parts of another whole.
pub trimmed_parts : (e R e' R' : ℕ) {w w' : ℕ} → 0 < e' → R' * e ≤ R * e' → Trimmed e' R' w w' → Trimmed e R w w'
trimmed_parts e R e' R' {w} {w'} h l X =
    record {
      under = X.under;
      near = le_of_mul-le-mul_left {k = e'} (omega (arith, mul-le-mul_left e X.near, mul-le-mul_left w l)) h;
    }

module _ (e : ℕ) where
  -- Rounded twice, and rounded by less.
  pub trimmed_next : (R S : ℕ) {u v w : ℕ} → Trimmed e R u v → Trimmed e S v w → Trimmed e (R + S) u w
  trimmed_next R S {u} {v} {w} X Y =
      record {
        under = omega (arith, X.under, Y.under);
        near = omega (arith, X.near, Y.near, mul-le-mul_left S X.under);
      }

  pub trimmed_more : (R S : ℕ) {w w' : ℕ} → R ≤ S → Trimmed e R w w' → Trimmed e S w w'
  trimmed_more R S {w} {w'} l X = record { under = X.under; near = omega (arith, X.near, mul-le-mul_right w l) }

  pub trimmed_same : (w : ℕ) → Trimmed e 0 w w
  trimmed_same w = record { under = omega arith; near = omega arith }

  -- Three numbers, each not far above the one before.
  link : (R S X Y Z : ℕ) → e * Y ≤ e * X + R * Y → e * Z ≤ e * Y + S * Z → e * Z ≤ e * X + (R + S) * Z
  link R S X Y Z p q =
      ⊎_elim
      (λ (l : Z < Y).
      ⊎_elim
      (λ (f : R < e).
      let E : e ≡ R + (e - R) = omega arith in
      omega (arith, ap (λ z. z * Z) E, ap (λ z. z * Y) E, mul-le-mul_left (e - R) l))
      (λ (f : e ≤ R). omega (arith, mul-le-mul_right Z f))
      (below R e))
      (λ (l : Y ≤ Z). omega (arith, mul-le-mul_left R l))
      (below Z Y)

  -- Fractions: x over d, y over c, z over b.
  step : (R S x d y c z b : ℕ) → 0 < c → e * (y * d) ≤ e * (x * c) + R * (y * d) → e * (z * c) ≤ e * (y * b) + S * (z * c)
      → e * (z * d) ≤ e * (x * b) + (R + S) * (z * d)
  step R S x d y c z b h p q =
      le_of_mul-le-mul_left
      {k = c}
      (omega (
        arith,
        link R S (x * b * c) (y * d * b) (z * d * c) (omega (arith, mul-le-mul_left b p)) (omega (arith, mul-le-mul_left d q)),
      ))
      h

  pub close_next : (R S x d y c z b : ℕ) → 0 < c → Close e R x d y c → Close e S y c z b → Close e (R + S) x d z b
  close_next R S x d y c z b h N M =
      record {
        above = step R S x d y c z b h N.above M.above;
        under = omega (arith, step S R z b y c x d h M.under N.under);
      }

  pub close_same : (x d x' d' : ℕ) → x * d' ≡ x' * d → Close e 0 x d x' d'
  close_same x d x' d' p = record { above = omega (arith, ap (λ z. e * z) p); under = omega (arith, ap (λ z. e * z) p) }

  pub close_more : (R S x d x' d' : ℕ) → R ≤ S → Close e R x d x' d' → Close e S x d x' d'
  close_more R S x d x' d' l N =
      record {
        above = omega (arith, N.above, mul-le-mul_right (x' * d) l);
        under = omega (arith, N.under, mul-le-mul_right (x * d') l);
      }

  -- One of the two as another fraction.
  pub close_to : (R x d y c z b : ℕ) → 0 < c → Close e R x d y c → y * b ≡ z * c → Close e R x d z b
  close_to R x d y c z b h N p =
      let k : R + 0 ≡ R = omega arith in
      rw k at (close_next R 0 x d y c z b h N (close_same y c z b p))

  pub close_from : (R x d y c z b : ℕ) → 0 < c → x * c ≡ y * d → Close e R y c z b → Close e R x d z b
  close_from R x d y c z b h p N =
      let k : 0 + R ≡ R = omega arith in
      rw k at (close_next 0 R x d y c z b h (close_same x d y c p) N)
