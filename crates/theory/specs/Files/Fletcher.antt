-- Fletcher's two sums of a list, in one pass.
use Rattle.std.specs.Prelude.{ℕ, suc, ◌+◌, ◌%◌, ◌<◌, ◌≡◌, List, [], ◌∷◌, length, get_or}
use Rattle.std.proofs.Common.{ap, ◌∙◌, arith}
use Rattle.meaning.specs.Block.{first_sum, second_sum}

-- Both sums, modulo m, of a list that follows what was summed to a and b.
unfoldable pub fletcher : ℕ → ℕ → ℕ → List ℕ → ℕ × ℕ
fletcher m a b [] = (a, b)
fletcher m a b (x ∷ s) = fletcher m ((a + x) % m) ((b + (a + x) % m) % m) s

pub fletcher_is : (m s : ℕ) (f : ℕ → ℕ) (k : ℕ) (l : List ℕ) → ((j : ℕ) → j < length l → get_or l j 0 ≡ f (k + j))
    → fletcher m (first_sum m s f k) (second_sum m s f k) l ≡ (first_sum m s f (k + length l), second_sum m s f (k + length l))
unfolding fletcher first_sum second_sum
fletcher_is m s f k [] h = let e : k + 0 ≡ k = omega arith in rw e
fletcher_is m s f k (x ∷ l) h =
    let e : x ≡ f k = h 0 (omega arith) ∙ ap f (omega arith) in
    let n : k + suc (length l) ≡ suc k + length l = omega arith in
    rw (e, n) (fletcher_is m s f (suc k) l (λ j b. h (suc j) (omega arith) ∙ ap f (omega arith)))
