-- The digits of a number.
use Rattle.std.specs.Prelude.{ℕ, zero, suc, ◌+◌, ◌/◌, ◌%◌, ◌^◌, ◌≤◌, ◌<◌, ◌≡◌, [], ◌∷◌, ◌++◌, length}
use Rattle.std.proofs.Math.Nat.{pow-succ'}
use Rattle.std.proofs.Common.{arith, sym, ap, ◌∙◌, ⊎_elim, length-append, lt-ltb, le-ltb}
use Rattle.meaning.specs.Text.{decimal, decimal_in}
use Rattle.theory.specs.Numbers.Sum.{below}

-- A number below 10 is one digit, however many steps there are.
in_small : (steps x : ℕ) → x < 10 → decimal_in steps x ≡ (48 + x) ∷ []
unfolding decimal_in
in_small zero x h = ap (λ z. (48 + z) ∷ []) (omega arith)
in_small (suc steps) x h = rw (lt-ltb x 10 h)

-- Where the steps are enough, how many there are does not matter.
in_any : (k m x : ℕ) → x ≤ k → x ≤ m → decimal_in k x ≡ decimal_in m x
unfolding decimal_in
in_any zero m x h g = in_small zero x (omega arith) ∙ sym (in_small m x (omega arith))
in_any (suc k) zero x h g = in_small (suc k) x (omega arith) ∙ sym (in_small zero x (omega arith))
in_any (suc k) (suc m) x h g =
    let further : 10 ≤ x → decimal_in k (x / 10) ≡ decimal_in m (x / 10) = λ l. in_any k m (x / 10) (omega arith) (omega arith) in
    ⊎_elim (λ l. rw (lt-ltb x 10 l)) (λ l. rw (le-ltb x 10 l, further l)) (below x 10)

pub decimal_small : (x : ℕ) → x < 10 → decimal x ≡ (48 + x) ∷ []
unfolding decimal
decimal_small x h = in_small x x h

-- All digits but the last are those of x / 10.
pub decimal_more : (x : ℕ) → 10 ≤ x → decimal x ≡ decimal (x / 10) ++ ((48 + x % 10) ∷ [])
unfolding decimal decimal_in
decimal_more zero h = absurd (omega (arith, h))
decimal_more (suc k) h = rw (le-ltb (suc k) 10 h, in_any k (suc k / 10) (suc k / 10) (omega arith) (omega arith))

pub length_small : (x : ℕ) → x < 10 → length (decimal x) ≡ 1
length_small x h = ap length (decimal_small x h)

pub length_more : (x : ℕ) → 10 ≤ x → length (decimal x) ≡ length (decimal (x / 10)) + 1
length_more x h = ap length (decimal_more x h) ∙ length-append (decimal (x / 10)) ((48 + x % 10) ∷ [])

-- A number below 10 ^ digits has at most so many digits.
pub digits : (k x : ℕ) → x < 10 ^ suc k → length (decimal x) ≤ suc k
digits zero x h = omega (arith, length_small x (omega arith))
digits (suc k) x h =
    ⊎_elim
    (λ l. omega (arith, length_small x l))
    (λ l. omega (arith, length_more x l, digits k (x / 10) (omega (arith, pow-succ' 10 (suc k)))))
    (below x 10)
