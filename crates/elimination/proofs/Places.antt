-- Laws of packed places.
use Prim.Native.Nat.{ℕ, zero, suc, ◌+◌, ◌/◌, ◌%◌, ◌^◌, ◌≤◌, ◌<◌}
use mathlib.Core.Path.{◌≡◌, refl, ap, ◌∙◌}
use mathlib.Core.Logic.{⊎_elim}
use native.Mathlib.Omega.{arith}
use native.Mathlib.Nat.{mod-lt, mod-one, mod-eq_of_lt}
use lib.Pow.{mod-pow-add, pow_pos, split}
use lib.Count.{ones, ones_in, ones_cat}
use lib.Dec.{eqb}
use borrow.Author.Tests.{eq-eqb, ne_eqb}
use Rattle.meaning.specs.Number.{sum_to, only, bit}
use Rattle.theory.specs.Numbers.Sum.{same, below, last_or_below}
use Rattle.chain.specs.Rising.{place_of}

pub place_none : (s : ℕ) → place_of s 0 ≡ 0
unfolding ones ones_in
place_none s = rw (mod-one s)

pub bit_ones : (b : ℕ) → b < 2 → ones b ≡ b
unfolding ones ones_in
bit_ones zero h = refl
bit_ones (suc zero) h = refl
bit_ones (suc (suc b)) h = absurd (omega arith)

-- A target's place: one more after each target.
pub place_suc : (s j : ℕ) → place_of s (suc j) ≡ place_of s j + bit s j
place_suc s j =
    let e : suc j ≡ 1 + j = omega arith in
    ap (λ z. ones (s % 2 ^ z)) e
    ∙ ap ones (mod-pow-add s 1 j)
    ∙ ones_cat j (bit s j) (s % 2 ^ j) (mod-lt s (pow_pos j))
    ∙ rw (bit_ones (bit s j) (omega arith)) (omega arith)

-- The numbers at the places of the targets below m are the first ones, each once.
pub place_sum : (s : ℕ) (f : ℕ → ℕ) (m : ℕ) → sum_to (λ j. only (eqb (bit s j) 1) (f (place_of s j))) m ≡ sum_to f (place_of s m)
unfolding sum_to
place_sum s f zero = rw (place_none s)
place_sum s f (suc m) =
    ⊎_elim
    (λ (e : bit s m ≡ 1).
    let q : place_of s (suc m) ≡ suc (place_of s m) = place_suc s m ∙ rw e (omega arith) in
    rw (q, eq-eqb (bit s m) 1 e) (ap (λ z. z + f (place_of s m)) (place_sum s f m)))
    (λ (d : bit s m ≡ 1 → ⊥).
    let z : bit s m ≡ 0 = omega arith in
    let q : place_of s (suc m) ≡ place_of s m = place_suc s m ∙ rw z (omega arith) in
    rw (q, ne_eqb (bit s m) 1 d) (omega (arith, place_sum s f m)))
    (same (bit s m) 1)

-- No more targets than states below.
pub place_below : (s j : ℕ) → place_of s j ≤ j
place_below s zero = rw (place_none s) (omega arith)
place_below s (suc j) = omega (arith, place_suc s j, place_below s j)

-- Where one state below m is no target, there are fewer: so a row of n + 4 numbers has room for its targets' number too.
pub place_room : (s g m : ℕ) → bit s g ≡ 0 → g < m → place_of s m < m
place_room s g zero z h = absurd (omega arith)
place_room s g (suc m) z h =
    last_or_below h
    (λ (e : g ≡ m). omega (arith, place_suc s m, place_below s m, rw e at z))
    (λ (l : g < m). omega (arith, place_suc s m, place_room s g m z l))

-- Places rise.
pub place_rises : (s i j : ℕ) → i < j → bit s i ≡ 1 → place_of s i < place_of s j
place_rises s i zero h e = absurd (omega arith)
place_rises s i (suc j) h e =
    last_or_below h
    (λ (q : i ≡ j). rw q (omega (arith, place_suc s j, rw q at e)))
    (λ (l : i < j). omega (arith, place_suc s j, place_rises s i j l e))

-- Each place has its target.
pub place_find : (s q m : ℕ) → q < place_of s m → (j : ℕ) × (j < m) × (bit s j ≡ 1) × (place_of s j ≡ q)
place_find s q zero h = absurd (omega (arith, place_none s))
place_find s q (suc m) h =
    ⊎_elim
    (λ (l : q < place_of s m). let r = place_find s q m l in (r.0, omega (arith, r.1), r.2, r.3))
    (λ (l : place_of s m ≤ q). (m, omega arith, omega (arith, place_suc s m), omega (arith, place_suc s m)))
    (below q (place_of s m))

-- All ones: those below m and the others.
pub place_most : (s m : ℕ) → place_of s m ≤ ones s
place_most s m = omega (arith, ap ones (split s m), ones_cat m (s / 2 ^ m) (s % 2 ^ m) (mod-lt s (pow_pos m)))

pub place_all : (s m : ℕ) → s < 2 ^ m → place_of s m ≡ ones s
place_all s m h = ap ones (mod-eq_of_lt {n = s} {m = 2 ^ m} h)

-- Where no state from j on and before j + t is in the set, the places stay.
pub place_stays : (s j t : ℕ) → ((i : ℕ) → i < t → bit s (j + i) ≡ 0) → place_of s (j + t) ≡ place_of s j
place_stays s j zero h = ap (place_of s) (omega arith)
place_stays s j (suc t) h =
    let e : j + suc t ≡ suc (j + t) = omega arith in
    ap (place_of s) e ∙ omega (arith, place_suc s (j + t), place_stays s j t (λ i l. h i (omega arith)), h t (omega arith))
