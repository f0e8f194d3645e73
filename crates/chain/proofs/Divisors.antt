-- The divisor of a row, found from its end on: numbers that it divides already, and powers of two.
use Prim.Native.Nat.{ℕ, zero, suc, ◌-◌, ◌*◌, ◌/◌, ◌%◌, ◌^◌, ◌≤◌, ◌<◌, min, max}
use mathlib.Core.Path.{◌≡◌, refl, sym, ap, ap₂, ◌∙◌}
use mathlib.Core.Logic.{⊎_elim}
use mathlib.Core.List.{List, [], ◌∷◌, ◌++◌}
use native.Mathlib.Omega.{arith}
use native.Mathlib.Nat.{dvd_trans, zero-div, pow-succ', mul-one}
use lib.Bits.{bit_or, or_step, or_add_and, and_le_r}
use lib.Count.{count_trailing_zeros, under, trailing_le, ones, ones_step, ones-le}
use lib.ListN.{length, get_or, take, drop}
use Rattle.std.specs.List.{fold}
use Rattle.meaning.specs.Number.{gcd, bit}
use Rattle.meaning.specs.Row.{gcd_of}
use Rattle.theory.specs.Numbers.Sum.{same, below}
use Rattle.theory.specs.Numbers.Gcd.{gcd_greatest, greatest_one, gcd_zero, gcd_step}
use Rattle.theory.specs.Numbers.Twos.{gcd_scale, odd_twos}
use Rattle.theory.specs.Numbers.Bits.{in_one, bits_same}
use Rattle.chain.specs.Rising.{Lowest, Others}
use Rattle.chain.proofs.Lowest.{gcd_of_more, gcd_one}
use Rattle.chain.proofs.Rising.{zeros_below, one_at}

-- A number that is divided already leaves the divisor.
pub gcd_of_stays : (l : List ℕ) (j g : ℕ) → 0 < j → j ≤ length l → g ≡ gcd_of (drop j l) → get_or l (j - 1) 0 % g ≡ 0 → g ≡ gcd_of (drop (j - 1) l)
gcd_of_stays l j g h k e d =
    let x = get_or l (j - 1) 0 in
    let same : gcd x g ≡ g = gcd_step x g ∙ ap (gcd g) d ∙ gcd_zero g in
    sym (gcd_of_more l j h k ∙ ap (gcd x) (sym e) ∙ same)

-- A row of zeros.
pub gcd_of_zeros : (l : List ℕ) → ((k : ℕ) → k < length l → get_or l k 0 ≡ 0) → gcd_of l ≡ 0
unfolding gcd_of
gcd_of_zeros [] h = refl
gcd_of_zeros (x ∷ l) h = ap₂ gcd (h 0 (omega arith)) (gcd_of_zeros l (λ k b. h (suc k) (omega arith))) ∙ gcd_zero 0

-- A number behind which all are 0 is their divisor.
pub gcd_of_first : (l : List ℕ) (j : ℕ) → j < length l → ((k : ℕ) → j < k → k < length l → get_or l k 0 ≡ 0) → get_or l j 0 ≡ gcd_of (drop j l)
unfolding gcd_of
gcd_of_first [] j b h = absurd (omega arith)
gcd_of_first (x ∷ l) zero b h = sym (ap (gcd x) (gcd_of_zeros l (λ k q. h (suc k) (omega arith) (omega arith))) ∙ gcd_zero x)
gcd_of_first (x ∷ l) (suc j) b h = gcd_of_first l j (omega arith) (λ k q r. h (suc k) (omega arith) (omega arith))

-- The numbers from some place on may stand as their divisor.
pub gcd_of_behind : (l : List ℕ) (j g : ℕ) → j ≤ length l → g ≡ gcd_of (drop j l) → gcd_of (take j l ++ g ∷ []) ≡ gcd_of l
unfolding gcd_of
gcd_of_behind l zero g h e = gcd_zero g ∙ e
gcd_of_behind [] (suc j) g h e = absurd (omega arith)
gcd_of_behind (x ∷ l) (suc j) g h e = ap (gcd x) (gcd_of_behind l j g (omega arith) e)

-- Numbers that are divided already leave the divisor.
pub gcd_of_divided : (l : List ℕ) (g : ℕ) → ((k : ℕ) → k < length l → get_or l k 0 % g ≡ 0) → gcd_of (l ++ g ∷ []) ≡ g
unfolding gcd_of
gcd_of_divided [] g h = gcd_zero g
gcd_of_divided (x ∷ l) g h =
    ap (gcd x) (gcd_of_divided l g (λ k b. h (suc k) (omega arith))) ∙ gcd_step x g ∙ ap (gcd g) (h 0 (omega arith)) ∙ gcd_zero g

pub gcd_of_passed : (l : List ℕ) (j e g : ℕ) → j < e → e ≤ length l → g ≡ gcd_of (drop e l)
    → ((k : ℕ) → j < k → k < length (take e l) → get_or (take e l) k 0 % g ≡ 0) → gcd_of (drop j l) ≡ gcd (get_or l j 0) g
unfolding gcd_of
gcd_of_passed [] j e g b h d p = absurd (omega arith)
gcd_of_passed (x ∷ l) j zero g b h d p = absurd (omega arith)
gcd_of_passed (x ∷ l) zero (suc e) g b h d p =
    ap (gcd x)
    (sym (gcd_of_behind l e g (omega arith) d) ∙ gcd_of_divided (take e l) g (λ k q. p (suc k) (omega arith) (omega arith)))
gcd_of_passed (x ∷ l) (suc j) (suc e) g b h d p =
    gcd_of_passed l j e g (omega arith) (omega arith) d (λ k q r. p (suc k) (omega arith) (omega arith))

-- A number between others can come first.
gcd_left : (a b c : ℕ) → gcd a (gcd b c) ≡ gcd b (gcd a c)
gcd_left a b c =
    let h = gcd_greatest b (gcd a c) in
    let v = gcd_greatest b c in
    let w = gcd_greatest a c in
    greatest_one a (gcd b c) _ _ (gcd_greatest a (gcd b c))
    (record {
      left = dvd_trans _ h.right w.left;
      right = v.most _ h.left (dvd_trans _ h.right w.right);
      most = λ k p q. h.most k (dvd_trans _ q v.left) (w.most k p (dvd_trans _ q v.right));
    })

gcd_of_last : (l : List ℕ) (x y : ℕ) → gcd x (gcd_of (l ++ y ∷ [])) ≡ gcd_of (l ++ gcd x y ∷ [])
unfolding gcd_of
gcd_of_last [] x y = ap (gcd x) (gcd_zero y) ∙ sym (gcd_zero (gcd x y))
gcd_of_last (z ∷ l) x y = gcd_left x z _ ∙ ap (gcd z) (gcd_of_last l x y)

-- The twos of two numbers that are joined are the fewer of theirs.
under_max : (p q s t : ℕ) → under (max p q) (min s t) ≡ min (under p s) (under q t)
under_max zero zero s t = omega arith
under_max zero (suc q) s t = let e : max 0 (suc q) ≡ suc q = omega arith in rw e (omega arith)
under_max (suc p) q s t = let e : max (suc p) q ≡ suc (max p (q - 1)) = omega arith in rw e (omega arith)

twos_or : (k a b : ℕ) → count_trailing_zeros k (bit_or a b) ≡ min (count_trailing_zeros k a) (count_trailing_zeros k b)
unfolding count_trailing_zeros
twos_or zero a b = omega arith
twos_or (suc k) a b =
    let low : bit_or a b % 2 ≡ max (a % 2) (b % 2) = omega (arith, or_step a b) in
    let half : bit_or a b / 2 ≡ bit_or (a / 2) (b / 2) = omega (arith, or_step a b) in
    ap₂ under low (ap (count_trailing_zeros k) half ∙ twos_or k (a / 2) (b / 2)) ∙ under_max (a % 2) (b % 2) _ _

-- What a number and a power of two have in common.
gcd_twos : (k x m : ℕ) → m ≤ k → gcd x (2 ^ m) ≡ 2 ^ min (count_trailing_zeros k x) m
unfolding count_trailing_zeros
gcd_twos k x zero h = let e : min (count_trailing_zeros k x) 0 ≡ 0 = omega arith in rw e (gcd_one x)
gcd_twos zero x (suc m) h = absurd (omega arith)
gcd_twos (suc k) x (suc m) h =
    let t = count_trailing_zeros k (x / 2) in
    ⊎_elim
    (λ (e : x % 2 ≡ 0).
    let half : x ≡ 2 * (x / 2) = omega arith in
    let fewer : min (suc t) (suc m) ≡ suc (min t m) = omega arith in
    ap₂ gcd half (pow-succ' 2 m)
    ∙ gcd_scale 2 (x / 2) (2 ^ m) (omega arith)
    ∙ ap (λ z. 2 * z) (gcd_twos k (x / 2) m (omega arith))
    ∙ rw (e, fewer) (sym (pow-succ' 2 (min t m))))
    (λ (d : x % 2 ≡ 0 → ⊥).
    let o : x % 2 ≡ 1 = omega arith in
    let fewer : min 0 (suc m) ≡ 0 = omega arith in
    ap (gcd x) (sym (mul-one (2 ^ suc m))) ∙ odd_twos (suc m) x 1 o ∙ gcd_one x ∙ rw (o, fewer))
    (same (x % 2) 0)

-- The lowest state of a set stands behind its twos.
lowest_twos : (s t : ℕ) → 0 < s → s < 2 ^ 64 → Lowest s t → t ≡ count_trailing_zeros 64 s
lowest_twos s t h k b =
    ⊎_elim
    (λ (l : t < count_trailing_zeros 64 s). absurd (omega (arith, zeros_below 64 s t l, b.inside)))
    (λ (l : count_trailing_zeros 64 s ≤ t).
    ⊎_elim
    (λ (l : count_trailing_zeros 64 s < t). absurd (omega (arith, (one_at 64 s h k).0, b.least (count_trailing_zeros 64 s) l)))
    (λ (m : t ≤ count_trailing_zeros 64 s). omega arith)
    (below (count_trailing_zeros 64 s) t))
    (below t (count_trailing_zeros 64 s))

-- A set that is empty without its lowest state is a power of two.
pub alone_is_power : (s r : ℕ) → 0 < s → s < 2 ^ 64 → Others s r → r ≡ 0 → s ≡ 2 ^ count_trailing_zeros 64 s
alone_is_power s r h k o z =
    let t = count_trailing_zeros 64 s in
    let one = one_at 64 s h k in
    let b : Lowest s t = record { inside = one.0; least = zeros_below 64 s; small = one.1 } in
    bits_same
    (λ i.
    ⊎_elim
    (λ (e : i ≡ t). rw e (one.0 ∙ sym ((in_one t t).1 refl)))
    (λ (d : i ≡ t → ⊥).
    let none : bit r i ≡ 0 = rw (z, zero-div (2 ^ i)) in
    let out : bit (2 ^ t) i ≡ 1 → ⊥ = λ q. d ((in_one t i).0 q) in
    omega (arith, o.kept t b i d))
    (same i t))

-- A number with one digit 1 is a power of two.
no_ones : (k n : ℕ) → n < 2 ^ k → ones n ≡ 0 → n ≡ 0
no_ones zero n h e = omega arith
no_ones (suc k) n h e =
    let rest = no_ones k (n / 2) (omega (arith, pow-succ' 2 k)) (omega (arith, ones_step n)) in
    omega (arith, ones_step n)

pub one_bit : (k n : ℕ) → n < 2 ^ k → ones n ≡ 1 → n ≡ 2 ^ count_trailing_zeros k n
unfolding count_trailing_zeros
one_bit zero n h e = absurd (omega (arith, e, ones-le 0 n h))
one_bit (suc k) n h e =
    let less : n / 2 < 2 ^ k = omega (arith, pow-succ' 2 k) in
    ⊎_elim
    (λ (z : n % 2 ≡ 0).
    let rest = one_bit k (n / 2) less (omega (arith, ones_step n)) in
    rw z (omega (arith, pow-succ' 2 (count_trailing_zeros k (n / 2)))))
    (λ (d : n % 2 ≡ 0 → ⊥).
    let o : n % 2 ≡ 1 = omega arith in
    let rest = no_ones k (n / 2) less (omega (arith, ones_step n)) in
    rw o (omega arith))
    (same (n % 2) 0)

-- The numbers of a row, joined to a divisor behind them: the lowest bit is the divisor of them all.
pub gcd_of_joined : (l : List ℕ) (g : ℕ) → gcd_of (l ++ 2 ^ count_trailing_zeros 64 g ∷ []) ≡ 2 ^ count_trailing_zeros 64 (fold bit_or g l)
unfolding gcd_of
gcd_of_joined [] g = gcd_zero _
gcd_of_joined (x ∷ l) g =
    let fewer : min (count_trailing_zeros 64 x) (count_trailing_zeros 64 g) ≡ count_trailing_zeros 64 (bit_or g x) = omega (arith, twos_or 64 g x) in
    gcd_of_last l x _
    ∙ ap (λ z. gcd_of (l ++ z ∷ [])) (gcd_twos 64 x (count_trailing_zeros 64 g) (trailing_le 64 g) ∙ ap (λ z. 2 ^ z) fewer)
    ∙ gcd_of_joined l (bit_or g x)

-- What numbers are joined to stays above 0.
pub joined_some : (l : List ℕ) (g : ℕ) → 0 < g → 0 < fold bit_or g l
joined_some [] g h = h
joined_some (x ∷ l) g h = joined_some l (bit_or g x) (omega (arith, or_add_and g x, and_le_r g x))

pub joined_lowest : (l : List ℕ) (g t : ℕ) → 0 < g → fold bit_or g l < 2 ^ 64 → g ≡ 2 ^ count_trailing_zeros 64 g
    → (0 < fold bit_or g l → Lowest (fold bit_or g l) t) → (t < 64) × (2 ^ t ≡ gcd_of (l ++ g ∷ []))
joined_lowest l g t h f p b =
    let s = joined_some l g h in (
      (b s).small,
      ap (λ z. 2 ^ z) (lowest_twos _ t s f (b s)) ∙ sym (gcd_of_joined l g) ∙ ap (λ z. gcd_of (l ++ z ∷ [])) (sym p),
    )
