-- A list with the first records of a trace at its front.
use mathlib.Core.Path.{◌≡◌, refl, sym, ap, ◌∙◌}
use Prim.Native.Nat.{ℕ, zero, suc, ◌+◌, ◌≤◌, ◌<◌}
use native.Mathlib.Omega.{arith}
use native.Mathlib.Numerals.{add-one}
use mathlib.Core.List.{List, [], ◌∷◌, ◌++◌, map, map-append, append-nil}
use lib.ListN.{length, get_or, set, take, drop, drop_of_length-le}
use lib.Seq.{length-take-le, drop-cons, set_at, append_snoc}
use Rattle.meaning.specs.Number.{tab_from, filled}
use Rattle.theory.specs.Numbers.Tab.{tab_length, tab_more}

module _ {ℓ} {A : Type ℓ} where
  module _ (f : ℕ → A) (l : List A) where
    pub listed_none : filled (tab_from 0 0 f) l ≡ l
    unfolding tab_from
    listed_none = refl

    pub listed_next : (k : ℕ) → k < length l → filled (tab_from 0 (k + 1) f) l ≡ set (filled (tab_from 0 k f) l) k (f k)
    listed_next k h =
        let old : length (tab_from 0 k f) ≡ k = tab_length 0 k f in
        let past : length (tab_from 0 (k + 1) f) ≡ suc k = tab_length 0 (k + 1) f ∙ add-one k in
        rw (past, tab_more k f)
        (append_snoc (tab_from 0 k f) (f k) (drop (suc k) l)
        ∙ sym (set_at (tab_from 0 k f) (get_or l k (f k)) (drop (suc k) l) (f k) k old)
        ∙ ap (λ (z : List A). set (tab_from 0 k f ++ z) k (f k)) (sym (drop-cons l k (f k) h) ∙ ap (λ (j : ℕ). drop j l) (sym old)))

    -- The first k entries, which were lent and have come back.
    pub listed_whole : (k : ℕ) → k ≤ length l → {x : List A} → x ≡ filled (tab_from 0 k f) (take k l) → x ++ drop k l ≡ filled (tab_from 0 k f) l
    listed_whole k h e =
        let n : length (tab_from 0 k f) ≡ k = tab_length 0 k f in
        let m : length (take k l) ≤ k = omega (arith, length-take-le k l h) in
        rw (e, n, drop_of_length-le (take k l) m, append-nil) refl

-- The same with each entry in other words.
module _ {ℓ ℓ'} {A : Type ℓ} {B : Type ℓ'} (g : A → B) where
  map_tab : (i k : ℕ) (f : ℕ → A) → map g (tab_from i k f) ≡ tab_from i k (λ j. g (f j))
  unfolding tab_from
  map_tab i zero f = refl
  map_tab i (suc k) f = ap (λ (l : List B). g (f i) ∷ l) (map_tab (suc i) k f)

  map_drop : (k : ℕ) (l : List A) → map g (drop k l) ≡ drop k (map g l)
  map_drop zero l = refl
  map_drop (suc k) [] = refl
  map_drop (suc k) (x ∷ l) = map_drop k l

  pub map_listed : (k : ℕ) (f : ℕ → A) (l : List A) → map g (filled (tab_from 0 k f) l) ≡ filled (tab_from 0 k (λ j. g (f j))) (map g l)
  map_listed k f l =
      map-append g (tab_from 0 k f) (drop (length (tab_from 0 k f)) l)
      ∙ rw (map_tab 0 k f, map_drop (length (tab_from 0 k f)) l, tab_length 0 k f, tab_length 0 k (λ j. g (f j))) refl
