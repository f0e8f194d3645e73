-- Words in their parts.
use Rattle.std.proofs.Common.{◌≡◌, ℕ, ◌+◌, ◌*◌, ◌/◌, ◌%◌, ◌^◌, ◌<◌, ◌≤◌, List, length, get_or, set, replicate, sym, refl, ap, ◌∙◌, ⊎_elim, arith}
use lib.ListN.{length-replicate, get_or-eq_default}
use lib.Pow.{low, high}
use Rattle.theory.specs.Numbers.Sum.{below}
use Rattle.theory.specs.Numbers.Tab.{tab_at, tab_length, get_d_zeros}
use Rattle.meaning.specs.Number.{choose, tab_from}
use Rattle.near.specs.Word.{word, value}
use Rattle.near.specs.Row.{value_at, Parts, joined, blended_words}
use Rattle.near.specs.Step.{leads_to, renewed_words, RenewedRows}

pub joined_at : (l : List ℕ) (j : ℕ) → j < 68 → get_or (joined l) j 0 ≡ get_or l (j + 68) 0 * 2 ^ 31 + get_or l j 0
unfolding joined
joined_at l j h = tab_at 68 (λ i. get_or l (i + 68) 0 * 2 ^ 31 + get_or l i 0) 0 j h

pub joined_past : (l : List ℕ) (j : ℕ) → 68 ≤ j → get_or (joined l) j 0 ≡ 0
unfolding joined
joined_past l j h = get_or-eq_default (joined l) 0 (omega (arith, tab_length 0 68 (λ i. get_or l (i + 68) 0 * 2 ^ 31 + get_or l i 0)))

pub joined_value : {l : List ℕ} → Parts l → (j : ℕ) → j < 68 → value_at (joined l) j ≡ get_or l j 0 * 2 ^ get_or l (j + 68) 0
unfolding value
joined_value {l} P j h =
    let s = P.first j h in
    rw (joined_at l j h, low (get_or l (j + 68) 0) 31 s, high (get_or l (j + 68) 0) 31 s) refl

-- In p the parts of the first j words of r are put in.
pub record Parted (r : List ℕ) (j : ℕ) (p : List ℕ) : Type 0 where
  pub so_far : j ≤ length r
  pub len : length p ≡ 136
  pub first : (i : ℕ) → i < j → get_or p i 0 ≡ get_or r i 0 % 2 ^ 31
  pub behind : (i : ℕ) → i < j → get_or p (i + 68) 0 ≡ get_or r i 0 / 2 ^ 31
  pub small : (i : ℕ) → i < j → get_or p (i + 68) 0 < 2 ^ 33
  pub left : (i : ℕ) → j ≤ i → i < 68 → (get_or p i 0 ≡ 0) × (get_or p (i + 68) 0 ≡ 0)

pub parted_none : {r : List ℕ} → Parted r 0 (replicate 136 0)
parted_none =
    record {
      so_far = omega arith;
      len = length-replicate {A = ℕ} 136 0;
      first = λ i h. absurd (omega arith);
      behind = λ i h. absurd (omega arith);
      small = λ i h. absurd (omega arith);
      left = λ i h l. (get_d_zeros 136 i, get_d_zeros 136 (i + 68));
    }

module _ {r : List ℕ} {j : ℕ} {p : List ℕ} (P : Parted r j p) (few : length r ≤ 68) (h : length r ≤ j) where
  pub parted_parts : Parts p
  parted_parts =
      record {
        room = P.len;
        first = λ i l.
            ⊎_elim (λ (x : i < j). omega (arith, P.first i x)) (λ (x : j ≤ i). omega (arith, (P.left i x l).0)) (below i j);
        behind = λ i l.
            ⊎_elim (λ (x : i < j). P.small i x) (λ (x : j ≤ i). omega (arith, (P.left i x l).1)) (below i j);
      }

  pub parted_joined : (i : ℕ) → get_or (joined p) i 0 ≡ get_or r i 0
  parted_joined i =
      ⊎_elim
      (λ (x : i < 68).
      ⊎_elim
      (λ (y : i < j). joined_at p i x ∙ omega (arith, P.first i y, P.behind i y))
      (λ (y : j ≤ i).
      let z = P.left i y x in
      joined_at p i x ∙ omega (arith, z.0, z.1, default i (omega arith)))
      (below i j))
      (λ (x : 68 ≤ i). joined_past p i x ∙ sym (default i (omega arith)))
      (below i 68)
    where
      default : (i : ℕ) → length r ≤ i → get_or r i 0 ≡ 0
      default i l = get_or-eq_default r 0 l

-- Rows that are renewed by the same words are the same.
module _ (p q : List ℕ) (e : (j : ℕ) → get_or p j 0 ≡ get_or q j 0) where
  renewed_alike : (s d : ℕ) (r : List ℕ) → renewed_words s d p r ≡ renewed_words s d q r
  unfolding renewed_words blended_words
  renewed_alike s d r = ap (λ (f : ℕ → ℕ). by f) (λ i j. e j i)
    where
      by : (ℕ → ℕ) → List ℕ
      by f = choose (leads_to s r) (tab_from 0 (length (set r s 0)) (λ j. word (value_at (set r s 0) j * value d + value (get_or r s 0) * value (f j)))) r

  pub rows_alike : {n s d rows : ℕ} {w v : List ℕ} → RenewedRows n s d p w v rows → RenewedRows n s d q w v rows
  rows_alike {n} {s} {d} {rows} {w} {v} z =
      record { kept = z.kept; own = z.own; new = λ k h l. z.new k h l ∙ renewed_alike s d _; few = z.few; count = z.count }
