-- The chance lies between the two fractions of an answer where each row made anew lost at most (2 ^ 19 + 1) / 2 ^ 48.
use Rattle.std.specs.Prelude.{ℕ, ◌+◌, ◌-◌, ◌*◌, ◌/◌, ◌^◌, ◌≤◌, ◌<◌, min, ◌≡◌, refl}
use Rattle.std.proofs.Common.{ap, ⊎_elim, arith, le_trans, mul-le-mul, mul-le-mul_left, mul-le-mul_right, div-mul-le_self}
use Rattle.std.proofs.Math.Nat.{le_of_mul-le-mul_left, lt-mul-div-succ}
use Rattle.meaning.specs.Near.{digits}
use Rattle.theory.specs.Numbers.Sum.{below}
use Rattle.theory.specs.Numbers.Shift.{up_above}
use Rattle.theory.specs.Numbers.Trimmed.{Trimmed}

-- The parts of an answer.
abbrev pub twos_of : ℕ → ℕ → ℕ
twos_of G D = 31 + digits D - digits G

abbrev pub quotient : ℕ → ℕ → ℕ
quotient G D = G * 2 ^ twos_of G D / D

abbrev pub sure : ℕ → ℕ
sure rows = 2 ^ 30 - (2 * rows + 2)

abbrev pub lower_of : ℕ → ℕ → ℕ
lower_of q s = q * s / 2 ^ 30

abbrev pub upper_of : ℕ → ℕ → ℕ
upper_of q s = ((q + 1) * 2 ^ 30 + s - 1) / s

below_answer : (P q s h D G K cd cn : ℕ) → 0 < h * D → P * h ≤ q * s → q * D ≤ G * K → G * cd * s ≤ cn * h * D → P * cd ≤ cn * K
below_answer P q s h D G K cd cn o a b c =
    le_of_mul-le-mul_left {k = h * D} (omega (arith, mul-le-mul_right (cd * D) a, mul-le-mul_right (s * cd) b, mul-le-mul_right K c)) o

above_answer : (Q u s h D S G K cd cn : ℕ) → 0 < s * D → u * h ≤ Q * s → G * K ≤ u * D → D ≤ S → cn * S * s ≤ G * cd * h → cn * K ≤ Q * cd
above_answer Q u s h D S G K cd cn o a b c e =
    le_of_mul-le-mul_left {k = s * D}
    (omega (arith, mul-le-mul_left (cn * K * s) c, mul-le-mul_right K e, mul-le-mul_right (cd * h) b, mul-le-mul_right (D * cd) a))
    o

-- The losses of the rows, and that of D.
lost : (G cd cn S D s g h c c' d : ℕ) → 0 < g * d → d ≡ h * g → G * cd * c ≤ cn * S * d → S * c' ≤ D * d → s * g * d ≤ c * c' → G * cd * s ≤ cn * h * D
lost G cd cn S D s g h c c' d o e a b k =
    le_of_mul-le-mul_left {k = g * d}
    (omega (arith, mul-le-mul_left (G * cd) k, mul-le-mul_right c' a, mul-le-mul_left (cn * d) b, ap (λ z. cn * d * D * z) e))
    o

apart : (d u f : ℕ) → (d - u - f) * d ≤ (d - u) * (d - f)
apart d u f =
    ⊎_elim
    (λ (g : u + f < d).
    let a = d - u - f in
    let e : d ≡ a + (u + f) = omega arith in
    let m : d - u ≡ a + f = omega arith in
    let l : d - f ≡ a + u = omega arith in
    let k : a * d ≤ (a + f) * (a + u) = omega (arith, ap (λ z. a * z) e) in
    omega (arith, k, ap (λ z. z * (d - f)) m, ap (λ z. (a + f) * z) l))
    (λ (g : d ≤ u + f). let z : d - u - f ≡ 0 = omega arith in rw z (omega arith))
    (below (u + f) d)

product_some : (a b : ℕ) → 0 < a → 0 < b → 0 < a * b
product_some a b h l = omega (arith, mul-le-mul h l)

finer_part : (x s g c y h d : ℕ) → 0 < g → s * g ≤ c → x * c ≤ y * d → d ≡ h * g → x * s ≤ y * h
finer_part x s g c y h d o a b e = le_of_mul-le-mul_left {k = g} (omega (arith, mul-le-mul_left x a, b, ap (λ z. y * z) e)) o

least_of : (x u p cd : ℕ) → x ≤ u * cd → x ≤ p * cd → x ≤ min u p * cd
least_of x u p cd a b =
    ⊎_elim (λ (g : u < p). let m : min u p ≡ u = omega arith in rw m a) (λ (g : p ≤ u). let m : min u p ≡ p = omega arith in rw m b) (below u p)

-- What a row that is made anew may lose, in parts of 2 ^ 48.
abbrev pub row_loss : ℕ
row_loss = 2 ^ 19 + 1

-- The chance is cn over cd; S is the exact D of the start's last row, and D the one that was kept.
module _ (G D S rows cn cd : ℕ) (few : rows ≤ 4096) (some : 0 < D) (trim : Trimmed (2 ^ 48) (2 ^ 18 + 1) S D) where
  sure_small : sure rows * 2 ^ 18 * 2 ^ 48 ≤ (2 ^ 48 - rows * row_loss) * (2 ^ 48 - (2 ^ 18 + 1))
  sure_small =
      let a : sure rows * 2 ^ 18 ≤ 2 ^ 48 - rows * row_loss - (2 ^ 18 + 1) = omega arith in
      le_trans (mul-le-mul_right (2 ^ 48) a) (apart (2 ^ 48) (rows * row_loss) (2 ^ 18 + 1))

  D-near : S * (2 ^ 48 - (2 ^ 18 + 1)) ≤ D * 2 ^ 48
  D-near = omega (arith, trim.near)

  pub lower_sound : G * cd * (2 ^ 48 - rows * row_loss) ≤ cn * S * 2 ^ 48 → lower_of (quotient G D) (sure rows) * cd ≤ cn * 2 ^ twos_of G D
  lower_sound h =
      let q = quotient G D in
      below_answer (lower_of q (sure rows)) q (sure rows) (2 ^ 30) D G (2 ^ twos_of G D) cd cn (omega arith) (div-mul-le_self (q * sure rows) (2 ^ 30))
      (div-mul-le_self (G * 2 ^ twos_of G D) D)
      (lost G cd cn S D (sure rows) (2 ^ 18) (2 ^ 30) (2 ^ 48 - rows * row_loss) (2 ^ 48 - (2 ^ 18 + 1)) (2 ^ 48) (omega arith) refl h D-near sure_small)

  upper_part : cn * S * (2 ^ 48 - rows * row_loss) ≤ G * cd * 2 ^ 48 → cn * S * sure rows ≤ G * cd * 2 ^ 30
  upper_part h =
      finer_part (cn * S) (sure rows) (2 ^ 18) (2 ^ 48 - rows * row_loss) (G * cd) (2 ^ 30) (2 ^ 48) (omega arith) (omega arith) h refl

  pub upper_sound : cn * S * (2 ^ 48 - rows * row_loss) ≤ G * cd * 2 ^ 48 → cn ≤ cd
      → cn * 2 ^ twos_of G D ≤ min (upper_of (quotient G D) (sure rows)) (2 ^ twos_of G D) * cd
  upper_sound h one =
      let k = 2 ^ twos_of G D in
      let q = quotient G D in
      let Q = upper_of q (sure rows) in
      least_of (cn * k) Q k cd
      (above_answer Q (q + 1) (sure rows) (2 ^ 30) D S G k cd cn (product_some (sure rows) D (omega arith) some)
      (omega (arith, up_above ((q + 1) * 2 ^ 30) (sure rows) (omega arith)))
      (omega (arith, lt-mul-div-succ (G * k) some))
      trim.under
      (upper_part h))
      (omega (arith, mul-le-mul_right k one))
