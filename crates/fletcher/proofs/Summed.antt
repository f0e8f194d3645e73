-- Fletcher's two sums in one pass, with one remainder at the end.
use Prim.Native.Nat.{ℕ, zero, suc, ◌+◌, ◌*◌, ◌%◌, ◌≤◌, ◌<◌}
use mathlib.Core.Path.{◌≡◌, refl, sym, ap, subst₃, ◌∙◌}
use native.Mathlib.Nat.{mod-eq_of_lt, mod-add-mod, add-mod, mod-lt}
use native.Mathlib.Numerals.{add-one}
use native.Mathlib.Omega.{arith}
use mathlib.Core.Bool.{Bool, true, false}
use lib.Dec.{eqb}
use Rattle.meaning.specs.Number.{choose, sum_to}
use Rattle.meaning.specs.Block.{Input, block_byte, first_sum, second_sum, second_version, version_in, checked_bytes}
use Rattle.theory.specs.Numbers.Sum.{sum_zero}
use Rattle.theory.specs.Files.Agree.{sum_of}

-- After i of the bytes: both sums so far, of which only the remainders count, and how large they are.
pub record Summed (m s : ℕ) (f : ℕ → ℕ) (count i first second : ℕ) : Type 0 where
  pub upto : i ≤ count
  pub first_is : first % m ≡ first_sum m s f i
  pub second_is : second % m ≡ second_sum m s f i
  pub first_most : first ≤ 65536 + 255 * i
  pub second_most : second ≤ 16777216 * (i + 1)

module _ {m s : ℕ} {f : ℕ → ℕ} {count : ℕ} where
  pub none : s < m → m < 65536 → Summed m s f count 0 s s
  unfolding first_sum second_sum
  none h l = record { upto = omega arith; first_is = mod-eq_of_lt h; second_is = mod-eq_of_lt h; first_most = omega arith; second_most = omega arith }

  pub more : {i first second b : ℕ} → Summed m s f count i first second → i < count → count ≤ checked_bytes → b ≡ f i → b < 256
      → Summed m s f count (i + 1) (first + b) (second + (first + b))
  unfolding first_sum second_sum
  more {i} {first} {second} {b} g h l e k =
      record {
        upto = omega arith;
        first_is = next;
        second_is = add-mod second (first + b) m ∙ rw (next, g.second_is, add-one);
        first_most = omega (arith, g.first_most);
        second_most = omega (arith, g.first_most, g.second_most);
      }
    where
      next : (first + b) % m ≡ first_sum m s f (i + 1)
      next = sym (mod-add-mod first m b) ∙ rw (add-one, g.first_is, e)

  -- k bytes more.
  pub run : {i first second : ℕ} → Summed m s f count i first second → count ≤ checked_bytes → (k : ℕ) → i + k ≤ count → ((c : ℕ) → c < k → f (i + c) < 256)
      → let g : ℕ → ℕ = λ c. f (i + c) in Summed m s f count (i + k) (first + sum_to g k) (second + first * k + sum_to (λ c. sum_to g (suc c)) k)
  unfolding sum_to
  run {i} {first} {second} g l zero h bytes = subst₃ (Summed m s f count) (omega arith) (omega arith) (omega arith) g
  run {i} {first} {second} g l (suc k) h bytes =
      subst₃ (Summed m s f count) (omega arith) (omega arith) (omega arith)
      (more (run g l k (omega arith) (λ c b. bytes c (omega arith))) (omega arith) l refl (bytes k (omega arith)))

  -- k bytes that are 0.
  pub rest : {i first second : ℕ} → Summed m s f count i first second → count ≤ checked_bytes → (k : ℕ) → i + k ≤ count → ((j : ℕ) → i ≤ j → f j ≡ 0)
      → Summed m s f count (i + k) first (second + first * k)
  rest {i} {first} {second} g l k h z =
      let nought : (n : ℕ) → sum_to (λ c. f (i + c)) n ≡ 0 = λ n. sum_zero _ n (λ c b. z (i + c) (omega arith)) in
      subst₃ (Summed m s f count) refl
      (omega (arith, nought k))
      (omega (arith, sum_zero (λ c. sum_to (λ d. f (i + d)) (suc c)) k (λ c b. nought (suc c))))
      (run g l k h (λ c b. omega (arith, z (i + c) (omega arith))))

  pub all : {i first second : ℕ} → Summed m s f count i first second → count ≤ i
      → (first % m ≡ first_sum m s f count) × (second % m ≡ second_sum m s f count)
  all {i} g h =
      let e : i ≡ count = omega (arith, g.upto) in
      (g.first_is ∙ ap (first_sum m s f) e, g.second_is ∙ ap (second_sum m s f) e)

-- Each sum is below the modulus.
first_small : (m s : ℕ) (f : ℕ → ℕ) (n : ℕ) → 0 < m → s < m → first_sum m s f n < m
unfolding first_sum
first_small m s f zero h k = k
first_small m s f (suc n) h k = mod-lt _ h

second_small : (m s : ℕ) (f : ℕ → ℕ) (n : ℕ) → 0 < m → s < m → second_sum m s f n < m
unfolding second_sum
second_small m s f zero h k = k
second_small m s f (suc n) h k = mod-lt _ h

-- Both sums of a block are bytes, whatever its version.
small_of : (b : Bool) (f : ℕ → ℕ) (n : ℕ)
    → (first_sum (choose b 251 255) (choose b 1 0) f n < 256) × (second_sum (choose b 251 255) (choose b 1 0) f n < 256)
small_of true f n =
    (omega (arith, first_small 251 1 f n (omega arith) (omega arith)), omega (arith, second_small 251 1 f n (omega arith) (omega arith)))
small_of false f n =
    (omega (arith, first_small 255 0 f n (omega arith) (omega arith)), omega (arith, second_small 255 0 f n (omega arith) (omega arith)))

pub sums_small : (f : Input) (b : ℕ) → (sum_of first_sum f b < 256) × (sum_of second_sum f b < 256)
sums_small f b = small_of (eqb (version_in f b) second_version) (block_byte f b) checked_bytes
