-- Whole numbers: the few words about sums, choices, bits, lists and divisors that the other definitions are written in.
use Rattle.std.specs.Prelude.{ℕ, zero, suc, ◌+◌, ◌*◌, ◌/◌, ◌%◌, ◌^◌, ◌<◌, max, ◌≡◌, Bool, true, false, List, [], ◌∷◌, ◌++◌, length, drop, eqb}
use Rattle.std.specs.Int.{◌∣◌}

-- The sum of f 0, f 1, .., f (n - 1).
unfoldable pub sum_to : (ℕ → ℕ) → ℕ → ℕ
sum_to f zero = 0
sum_to f (suc n) = sum_to f n + f n

-- x where the test holds, else 0.
abbrev pub only : Bool → ℕ → ℕ
only true x = x
only false x = 0

-- x where the test holds, else y.
abbrev pub choose {ℓ} : {A : Type ℓ} → Bool → A → A → A
choose true x y = x
choose false x y = y

-- What a test answers: that something holds, or that it does not.
abbrev pub decides : Type 0 → Bool → Type 0
decides P true = P
decides P false = P → ⊥

-- 1 for a number above 0, and 0 for 0.
abbrev pub present : ℕ → ℕ
present x = choose (eqb x 0) 0 1

-- The largest of 1 and f 0, f 1, .., f (n - 1).
unfoldable pub largest : (ℕ → ℕ) → ℕ → ℕ
largest f zero = 1
largest f (suc n) = max (largest f n) (f n)

-- Bit i of a set of states that is written as one number.
abbrev pub bit : ℕ → ℕ → ℕ
bit s i = s / 2 ^ i % 2

-- The list f i, f (i + 1), .., f (i + n - 1).
unfoldable pub tab_from {ℓ} : {A : Type ℓ} → ℕ → ℕ → (ℕ → A) → List A
tab_from i zero f = []
tab_from i (suc n) f = f i ∷ tab_from (suc i) n f

-- The lists f 0, f 1, .., f (n - 1) one after the other, of the numbers of which the test holds.
unfoldable pub join_to : (ℕ → Bool) → (ℕ → List ℕ) → ℕ → List ℕ
join_to test f zero = []
join_to test f (suc n) = join_to test f n ++ choose (test n) (f n) []

-- A list at the front of a table; what is past the list's own stays.
abbrev pub filled {ℓ} : {A : Type ℓ} → List A → List A → List A
filled l t = l ++ drop (length l) t

-- g divides a and b, and whatever divides both divides g.
pub record Greatest (a b g : ℕ) : Type 0 where
  pub left : g ∣ a
  pub right : g ∣ b
  pub most : (k : ℕ) → k ∣ a → k ∣ b → k ∣ g

-- Euclid's rule, for at most the given number of steps.
unfoldable pub gcd_in : ℕ → ℕ → ℕ → ℕ
gcd_in zero a b = a
gcd_in (suc k) a b = let further = gcd_in k b (a % b) in choose (eqb b 0) a further

-- The greatest common divisor, which Euclid's rule finds in at most b + 1 steps; of 0 and 0 it is 0.
unfoldable pub gcd : ℕ → ℕ → ℕ
gcd a b = gcd_in (suc b) a b

-- p over q is in lowest terms.
pub record Lowest (p q : ℕ) : Type 0 where
  pub whole : 0 < q
  pub prime : (k : ℕ) → (a b : ℕ) → p ≡ k * a → q ≡ k * b → k ≡ 1

-- p over q is a over b, in lowest terms.
pub record Reduced (a b p q : ℕ) : Type 0 where
  pub lowest : Lowest p q
  pub same : p * b ≡ a * q
