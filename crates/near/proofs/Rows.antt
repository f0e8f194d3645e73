-- Rows of words: their least exponent, and what a row that is made anew has in each column.
use Rattle.std.proofs.Common.{◌≡◌, ℕ, zero, suc, ◌+◌, ◌-◌, ◌*◌, ◌^◌, ◌<◌, ◌≤◌, min, Bool, true, false, eqb, List, length, get_or, set, sym, refl, ◌∙◌, ⊎_elim, arith, length-set, eqb-true}
use Rattle.meaning.specs.Number.{choose}
use Rattle.theory.specs.Numbers.Sum.{below, last_or_below}
use Rattle.theory.specs.Numbers.Tab.{tab_at, tab_length, tab_of}
use Rattle.near.specs.Word.{word, value}
use Rattle.near.specs.Row.{value_at, exponent, least_exponent, less_by, lowered_words, blended_words, replaced_words}

pub least_next : (f : ℕ → ℕ) (n m : ℕ) → m ≡ suc n → least_exponent f m ≡ min (least_exponent f n) (exponent (f n))
unfolding least_exponent
least_next f n m e = rw e refl

pub exponent_above : (f : ℕ → ℕ) (n j : ℕ) → j < n → least_exponent f n ≤ exponent (f j)
unfolding least_exponent
exponent_above f zero j h = absurd (omega arith)
exponent_above f (suc n) j h = last_or_below h (λ e. rw e (omega arith)) (λ l. omega (arith, exponent_above f n j l))

pub least_most : (f : ℕ → ℕ) (n : ℕ) → least_exponent f n ≤ 2 ^ 33
unfolding least_exponent
least_most f zero = omega arith
least_most f (suc n) = omega (arith, least_most f n)

-- A word that is 0, and one that is not.
module _ (w : ℕ) (A : Type 0) (x y : A) where
  pub none_is : w ≡ 0 → choose (eqb w 0) x y ≡ x
  none_is e = rw e refl

  pub some_is : 0 < w → choose (eqb w 0) x y ≡ y
  some_is h = go (eqb w 0) refl
    where
      go : (b : Bool) → eqb w 0 ≡ b → choose b x y ≡ y
      go true e = absurd (omega (arith, eqb-true w 0 e))
      go false e = refl

less_nothing : (w : ℕ) → less_by 0 w ≡ w
less_nothing w =
    ⊎_elim (λ (h : 0 < w). some_is w ℕ 0 (w - 0 * 2 ^ 31) h ∙ omega arith)
    (λ (h : w ≤ 0). let z : w ≡ 0 = omega arith in none_is w ℕ 0 (w - 0 * 2 ^ 31) z ∙ sym z)
    (below 0 w)

pub lowered_nothing : (l : List ℕ) → l ≡ lowered_words 0 l
unfolding lowered_words
lowered_nothing l = tab_of 0 (length l) (λ j. less_by 0 (get_or l j 0)) l refl (λ j h. sym (less_nothing (get_or l j 0)))

pub lowered_at : (k : ℕ) (l : List ℕ) (j : ℕ) → j < length l → get_or (lowered_words k l) j 0 ≡ less_by k (get_or l j 0)
unfolding lowered_words
lowered_at k l j h = tab_at (length l) (λ i. less_by k (get_or l i 0)) 0 j h

pub lowered_length : (k : ℕ) (l : List ℕ) → length (lowered_words k l) ≡ length l
unfolding lowered_words
lowered_length k l = tab_length 0 (length l) _

pub blended_at : (d w : ℕ) (p r : List ℕ) (j : ℕ) → j < length r → get_or (blended_words d w p r) j 0 ≡ word (value_at r j * value d + value w * value_at p j)
unfolding blended_words
blended_at d w p r j h = tab_at (length r) (λ i. word (value_at r i * value d + value w * value_at p i)) 0 j h

pub blended_length : (d w : ℕ) (p r : List ℕ) → length (blended_words d w p r) ≡ length r
unfolding blended_words
blended_length d w p r = tab_length 0 (length r) _

pub replaced_length : (s d : ℕ) (p r : List ℕ) → length (replaced_words s d p r) ≡ length r
replaced_length s d p r = blended_length d (get_or r s 0) p (set r s 0) ∙ length-set r s 0
