-- Many numbers: the most digits one of them has, their sum with only its highest digits, and the least spare.
use Rattle.std.specs.Prelude.{ℕ, zero, suc, ◌+◌, ◌-◌, ◌*◌, ◌/◌, ◌^◌, ◌≤◌, ◌<◌, max, ◌≡◌, refl, ◌⊎◌, eqb}
use Rattle.std.proofs.Common.{ap, ap₂, inl, inr, ⊎_elim, arith, le_trans, mul_comm, mul-one, div-one, mul-le-mul_right, pow_pos, pow-add, eq-eqb, ne_eqb}
use Rattle.meaning.specs.Number.{sum_to, choose}
use Rattle.meaning.specs.Near.{digits, spare, top, longest, cut_sum, least_spare}
use Rattle.theory.specs.Numbers.Sum.{same, below, last_or_below, sum_ext, sum_term}
use Rattle.theory.specs.Numbers.Binary.{has_digits, digits_power, digits_mono, digits_cut}
use Rattle.theory.specs.Numbers.Trimmed.{Trimmed, kept_sum, trimmed_parts, trimmed_next, trimmed_same, trimmed_more}
use Rattle.theory.specs.Numbers.Tops.{Padded, top_mono, top_trimmed, whole_cut}

pub longest_next : (f : ℕ → ℕ) (n m : ℕ) → m ≡ suc n → longest f m ≡ max (longest f n) (digits (f n))
unfolding longest
longest_next f n m e = rw e refl

pub longest_above : (f : ℕ → ℕ) (n j : ℕ) → j < n → digits (f j) ≤ longest f n
unfolding longest
longest_above f zero j h = absurd (omega arith)
longest_above f (suc n) j h = last_or_below h (λ e. rw e (omega arith)) (λ l. omega (arith, longest_above f n j l))

-- One of the numbers has the most digits.
pub longest_one : (f : ℕ → ℕ) (n : ℕ) → 0 < longest f n → (j : ℕ) × (j < n) × (digits (f j) ≡ longest f n)
unfolding longest
longest_one f zero h = absurd (omega arith)
longest_one f (suc n) h =
    ⊎_elim
    (λ (l : digits (f n) < longest f n). let o = longest_one f n (omega arith) in (o.0, omega (arith, o.1), omega (arith, o.2)))
    (λ (l : longest f n ≤ digits (f n)). (n, omega arith, omega arith))
    (below (digits (f n)) (longest f n))

pub longest_ext : (f g : ℕ → ℕ) (n : ℕ) → ((j : ℕ) → j < n → f j ≡ g j) → longest f n ≡ longest g n
unfolding longest
longest_ext f g zero e = refl
longest_ext f g (suc n) e = ap₂ max (longest_ext f g n (λ j l. e j (omega arith))) (ap digits (e n (omega arith)))

-- The sum, where the longest keeps 56 digits.
pub cut_ext : (f g : ℕ → ℕ) (n : ℕ) → ((j : ℕ) → j < n → f j ≡ g j) → cut_sum f n ≡ cut_sum g n
cut_ext f g n e =
    let q : longest f n ≡ longest g n = longest_ext f g n e in
    rw q (ap (λ z. z * 2 ^ (longest g n - 56)) (sum_ext _ _ n (λ j l. ap (λ z. z / 2 ^ (longest g n - 56)) (e j l))))

pub cut_padded : (f : ℕ → ℕ) (n k : ℕ) → k ≡ longest f n - 56 → Padded (sum_to (λ j. f j / 2 ^ k) n) k
cut_padded f n k e =
    ⊎_elim
    (λ (h : 0 < k).
    let o = longest_one f n (omega arith) in
    let d = digits_cut (f o.0) k 55 (omega (arith, o.2)) in
    inr (omega (arith, d, digits_mono _ _ (sum_term (λ j. f j / 2 ^ k) n o.0 o.1))))
    (λ (h : k ≤ 0). inl (omega arith))
    (below 0 k)

-- What is lost of a sum of up to 128 numbers: one part of 2 ^ 48, and 2 ^ 18 more where 31 digits of it are kept.
cut_trimmed : (f : ℕ → ℕ) (n : ℕ) → n ≤ 128 → Trimmed (2 ^ 48) 1 (sum_to f n) (cut_sum f n)
cut_trimmed f n h =
    let k = longest f n - 56 in
    ⊎_elim
    (λ (g : 0 < k).
    let o = longest_one f n (omega arith) in
    let l : 2 ^ 55 * 2 ^ k ≤ f o.0 = rw (← pow-add 2 55 k) (digits_power (f o.0) (55 + k) (omega (arith, o.2))) in
    rw (mul_comm (sum_to (λ j. f j / 2 ^ k) n) (2 ^ k))
    (trimmed_parts (2 ^ 48) 1 (2 ^ 55) n (omega arith) (omega arith)
    (kept_sum (2 ^ 55) (2 ^ k) f n (pow_pos k) (le_trans l (sum_term f n o.0 o.1)))))
    (λ (g : k ≤ 0).
    let e : k ≡ 0 = omega arith in
    let t : cut_sum f n ≡ sum_to f n =
    rw e (rw (mul-one (sum_to (λ j. f j / 2 ^ 0) n)) (sum_ext (λ j. f j / 2 ^ 0) f n (λ j h. div-one (f j)))) in
    rw t (trimmed_more (2 ^ 48) 0 1 (omega arith) (trimmed_same (2 ^ 48) (sum_to f n))))
    (below 0 k)

pub sum_trimmed : (f : ℕ → ℕ) (n : ℕ) → n ≤ 128 → Trimmed (2 ^ 48) (2 ^ 18 + 1) (sum_to f n) (top (cut_sum f n))
sum_trimmed f n h =
    let a : 1 + 2 ^ 18 ≡ 2 ^ 18 + 1 = refl in
    rw a at (trimmed_next (2 ^ 48) 1 (2 ^ 18) (cut_trimmed f n h) (top_trimmed (cut_sum f n)))

-- None of some numbers that have their highest 31 digits alone is above their sum as it is kept.
module _ (f : ℕ → ℕ) (n : ℕ) (kept : (j : ℕ) → j < n → top (f j) ≡ f j) where
  longest_below : (j : ℕ) → j < n → digits (f j) ≡ longest f n → f j ≤ top (cut_sum f n)
  longest_below j h e =
      let k = longest f n - 56 in
      let w : f j / 2 ^ k * 2 ^ k ≡ f j = whole_cut (f j) k (kept j h) (omega arith) in
      let t : f j / 2 ^ k * 2 ^ k ≤ cut_sum f n = mul-le-mul_right (2 ^ k) (sum_term (λ i. f i / 2 ^ k) n j h) in
      let m : f j ≤ cut_sum f n = rw w at t in
      rw (kept j h) at (top_mono (f j) (cut_sum f n) m)

  pub each_below : (j : ℕ) → j < n → f j ≤ top (cut_sum f n)
  each_below j h =
      ⊎_elim
      (λ (g : digits (f j) < longest f n).
      let o = longest_one f n (omega arith) in
      let l : 2 ^ digits (f j) ≤ f o.0 = digits_power (f o.0) (digits (f j)) (omega (arith, o.2)) in
      omega (arith, (has_digits (f j)).0, longest_below o.0 o.1 o.2))
      (λ (g : longest f n ≤ digits (f j)). longest_below j h (omega (arith, longest_above f n j h)))
      (below (digits (f j)) (longest f n))

-- The least spare is at most each; one of the numbers above 0 has it; and where it starts does not matter then.
pub least_below : (b : ℕ) (f : ℕ → ℕ) (n j : ℕ) → j < n → 0 < f j → least_spare b f n ≤ spare (f j)
unfolding least_spare
least_below b f zero j h o = absurd (omega arith)
least_below b f (suc n) j h o =
    last_or_below h
    (λ (e : j ≡ n).
    let z : f n ≡ 0 → ⊥ = λ q. omega (arith, rw e at o) in
    rw (e, ne_eqb (f n) 0 z) (omega arith))
    (λ l. omega (arith, least_below b f n j l o))

abbrev pub HasSpare : ℕ → (ℕ → ℕ) → ℕ → Type 0
HasSpare m f n = (i : ℕ) × (i < n) × (0 < f i) × (spare (f i) ≡ m)

pub least_either : (b : ℕ) (f : ℕ → ℕ) (n : ℕ) → (least_spare b f n ≡ b) ⊎ HasSpare (least_spare b f n) f n
unfolding least_spare
least_either b f zero = inl refl
least_either b f (suc n) =
    let m = least_spare b f n in
    let x = choose (eqb (f n) 0) b (spare (f n)) in
    ⊎_elim
    (λ (l : m < x).
    ⊎_elim
    (λ (e : m ≡ b). inl (omega arith))
    (λ (w : HasSpare m f n). inr (w.0, omega (arith, w.1), w.2, omega (arith, w.3)))
    (least_either b f n))
    (λ (l : x ≤ m).
    ⊎_elim
    (λ (e : f n ≡ 0). let y : x ≡ b = rw (eq-eqb (f n) 0 e) in inl (omega arith))
    (λ (e : f n ≡ 0 → ⊥). let y : x ≡ spare (f n) = rw (ne_eqb (f n) 0 e) in inr (n, omega arith, omega arith, omega arith))
    (same (f n) 0))
    (below m x)

pub spare_found : (f : ℕ → ℕ) (n j : ℕ) → j < n → 0 < f j → HasSpare (least_spare (longest f n) f n) f n
spare_found f n j h o =
    ⊎_elim
    (λ (e : least_spare (longest f n) f n ≡ longest f n).
    (j, h, o, omega (arith, longest_above f n j h, least_below (longest f n) f n j h o)))
    (λ (w : HasSpare (least_spare (longest f n) f n) f n). w)
    (least_either (longest f n) f n)

pub least_same : (b : ℕ) (f : ℕ → ℕ) (n j : ℕ) → ((j : ℕ) → j < n → spare (f j) < b) → j < n → 0 < f j
    → least_spare b f n ≡ least_spare (longest f n) f n
least_same b f n j fits h o =
    let K = least_spare b f n in
    let (i, l, w, e) = spare_found f n j h o in
    let a = least_below b f n i l w in
    ⊎_elim
    (λ (q : K ≡ b). absurd (omega (arith, least_below b f n j h o, fits j h)))
    (λ (q : HasSpare K f n). omega (arith, q.3, least_below (longest f n) f n q.0 q.1 q.2))
    (least_either b f n)
