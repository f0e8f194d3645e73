-- The printed figures: the cases of their definitions, how many digits and tens they have, and one more in the last place.
use Rattle.std.specs.Prelude.{ℕ, suc, ◌+◌, ◌-◌, ◌*◌, ◌^◌, ◌≤◌, ◌<◌, ◌≡◌, refl, true, false, ◌⊎◌}
use Rattle.std.proofs.Common.{sym, ap, ◌∙◌, subst, inl, inr, ⊎_elim, arith, mul-le-mul, mul-le-mul_left, mul-le-mul_right, lt_of_mul-lt-mul_right, div-lt_iff_lt-mul, pow-suc, pow_pos, lt-ltb, le-ltb, le-leb, eq-eqb, ne_eqb}
use Rattle.std.proofs.Math.Nat.{lt-mul-div-succ, pow-le-pow_right}
use Rattle.std.proofs.lemmas.Bool.{lt-leb}
use Rattle.meaning.specs.NearText.{Figure, figure, nought, one, grown, whole_part, tens_of, six_digits, raised, most_number, most_twos, in_range, lower_figure, upper_figure}
use Rattle.theory.specs.Numbers.Sum.{same, below}
use Rattle.theory.specs.Numbers.Tens.{highest_below, grown_near, down_sound, tens_six, tens_least, tens_few}

-- A number that gets no six digits.
abbrev pub Far : ℕ → ℕ → Type 0
Far x k = (most_number < x) ⊎ (most_twos < k)

-- The cases of a lower figure, and of an upper one.
pub data Lower (p k : ℕ) (f : Figure) : Type 0 where
  none : p ≡ 0 → f ≡ nought → Lower p k f
  six : 0 < p → p ≤ most_number → k ≤ most_twos → p < 2 ^ k → f ≡ six_digits p k → Lower p k f
  all : 0 < p → p ≤ most_number → k ≤ most_twos → 2 ^ k ≤ p → f ≡ one → Lower p k f
  far : 0 < p → Far p k → f ≡ nought → Lower p k f

pub data Upper (q k : ℕ) (f : Figure) : Type 0 where
  none : q ≡ 0 → f ≡ nought → Upper q k f
  six : 0 < q → q ≤ most_number → k ≤ most_twos → q + 1 < 2 ^ k → f ≡ raised (six_digits (q + 1) k) → Upper q k f
  all : 0 < q → q ≤ most_number → k ≤ most_twos → 2 ^ k ≤ q + 1 → f ≡ one → Upper q k f
  far : 0 < q → Far q k → f ≡ one → Upper q k f

-- The numbers that are in range, and those that are not.
module _ (x k : ℕ) where
  pub range_in : x ≤ most_number → k ≤ most_twos → in_range x k ≡ true
  range_in a b = rw (le-leb x most_number a) (le-leb k most_twos b)

  pub range_out : Far x k → in_range x k ≡ false
  range_out (inl h) = rw (lt-leb x most_number h)
  range_out (inr h) =
      ⊎_elim
      (λ (a : most_number < x). rw (lt-leb x most_number a))
      (λ (a : x ≤ most_number). rw (le-leb x most_number a) (lt-leb k most_twos h))
      (below most_number x)

  range : ((x ≤ most_number) × (k ≤ most_twos)) ⊎ Far x k
  range =
      ⊎_elim
      (λ (a : most_number < x). inr (inl a))
      (λ (a : x ≤ most_number). ⊎_elim (λ (b : most_twos < k). inr (inr b)) (λ (b : k ≤ most_twos). inl (a, b)) (below most_twos k))
      (below most_number x)

  pub range_near : (Far x k → ⊥) → (x ≤ most_number) × (k ≤ most_twos)
  range_near h = ⊎_elim (λ (r : (x ≤ most_number) × (k ≤ most_twos)). r) (λ (r : Far x k). absurd (h r)) range

module _ (p k : ℕ) where
  pub lower_is : {f : Figure} → Lower p k f → f ≡ lower_figure p k
  lower_is (Lower.none z e) = e ∙ rw (eq-eqb p 0 z)
  lower_is (Lower.six o a b l e) = e ∙ rw (ne_eqb p 0 (λ z. omega arith), range_in p k a b, lt-ltb p (2 ^ k) l)
  lower_is (Lower.all o a b l e) = e ∙ rw (ne_eqb p 0 (λ z. omega arith), range_in p k a b, le-ltb p (2 ^ k) l)
  lower_is (Lower.far o a e) = e ∙ rw (ne_eqb p 0 (λ z. omega arith), range_out p k a)

  some_lower : 0 < p → (f : Figure) × Lower p k f
  some_lower o =
      ⊎_elim
      (λ (r : (p ≤ most_number) × (k ≤ most_twos)).
      ⊎_elim
      (λ (l : p < 2 ^ k). (_, Lower.six o r.0 r.1 l refl))
      (λ (l : 2 ^ k ≤ p). (_, Lower.all o r.0 r.1 l refl))
      (below p (2 ^ k)))
      (λ (r : Far p k). (_, Lower.far o r refl))
      (range p k)

  pub lower_case : Lower p k (lower_figure p k)
  lower_case =
      ⊎_elim
      (λ (z : p ≡ 0). let c : Lower p k nought = Lower.none z refl in subst (Lower p k) (lower_is c) c)
      (λ (z : p ≡ 0 → ⊥). let c = some_lower (omega arith) in subst (Lower p k) (lower_is c.1) c.1)
      (same p 0)

module _ (q k : ℕ) where
  pub upper_is : {f : Figure} → Upper q k f → f ≡ upper_figure q k
  upper_is (Upper.none z e) = e ∙ rw (eq-eqb q 0 z)
  upper_is (Upper.six o a b l e) = e ∙ rw (ne_eqb q 0 (λ z. omega arith), range_in q k a b, lt-ltb (q + 1) (2 ^ k) l)
  upper_is (Upper.all o a b l e) = e ∙ rw (ne_eqb q 0 (λ z. omega arith), range_in q k a b, le-ltb (q + 1) (2 ^ k) l)
  upper_is (Upper.far o a e) = e ∙ rw (ne_eqb q 0 (λ z. omega arith), range_out q k a)

  some_upper : 0 < q → (f : Figure) × Upper q k f
  some_upper o =
      ⊎_elim
      (λ (r : (q ≤ most_number) × (k ≤ most_twos)).
      ⊎_elim
      (λ (l : q + 1 < 2 ^ k). (_, Upper.six o r.0 r.1 l refl))
      (λ (l : 2 ^ k ≤ q + 1). (_, Upper.all o r.0 r.1 l refl))
      (below (q + 1) (2 ^ k)))
      (λ (r : Far q k). (_, Upper.far o r refl))
      (range q k)

  pub upper_case : Upper q k (upper_figure q k)
  upper_case =
      ⊎_elim
      (λ (z : q ≡ 0). let c : Upper q k nought = Upper.none z refl in subst (Upper q k) (upper_is c) c)
      (λ (z : q ≡ 0 → ⊥). let c = some_upper (omega arith) in subst (Upper q k) (upper_is c.1) c.1)
      (same q 0)

-- What is lost after b tens is less than one unit.
beyond : (y b x g K a : ℕ) → (a + 1) * b < y → x * y ≤ g * (y + b) → g < (a + 1) * K → x < (a + 2) * K
beyond y b x g K a s h n =
    let m : (a + 1) * (y + b) ≤ (a + 2) * y = omega arith in
    let o : suc g * (y + b) ≤ (a + 1) * K * (y + b) = mul-le-mul_right (y + b) n in
    lt_of_mul-lt-mul_right y (omega (arith, mul-le-mul_right K m))

beyond_part : (d b x g K a : ℕ) → b < d → (a + 2) * b < d → x * (d - b) ≤ g * d → g < (a + 1) * K → x < (a + 2) * K
beyond_part d b x g K a l s h n =
    let e : d ≡ d - b + b = omega arith in
    beyond (d - b) b x g K a (omega arith) (subst (λ z. x * (d - b) ≤ g * z) e h) n

-- Six digits of a number below 1: six, and with six tens at least.
module _ (p k : ℕ) (some : 0 < p) (less : p < 2 ^ k) where
  abbrev a : ℕ
  a = whole_part p k (tens_of p k)

  abbrev b : ℕ
  b = tens_of p k

  pub six_tens : 6 ≤ b
  six_tens =
      ⊎_elim
      (λ (h : b < 6).
      absurd
      (let t : 10 ^ b ≤ 10 ^ 5 = pow-le-pow_right {n = 10} (omega arith) {i = b} {j = 5} (omega arith) in
      let m : p * 10 ^ b ≤ p * 10 ^ 5 = mul-le-mul_left p t in
      let n : 100000 * 2 ^ k ≤ a * 2 ^ k = mul-le-mul_right (2 ^ k) (tens_six p k some) in
      omega (arith, down_sound p k b)))
      (λ (h : 6 ≤ b). h)
      (below b 6)

  ten_more : (j : ℕ) → whole_part p k j < 100000 → whole_part p k (suc j) < 1000000
  unfolding grown
  ten_more j h =
      let l : grown p j < 100000 * 2 ^ k = (div-lt_iff_lt-mul {y = 100000} (pow_pos k)).0 h in
      (div-lt_iff_lt-mul {y = 1000000} (pow_pos k)).1 (omega (arith, highest_below (10 * grown p j)))

  pub six_most : a < 1000000
  six_most =
      let e : suc (b - 1) ≡ b = omega (arith, six_tens) in
      subst (λ z. whole_part p k z < 1000000) e (ten_more (b - 1) (tens_least p k some (b - 1) (omega (arith, six_tens))))

  -- The number is less than two units of the last place above its digits.
  pub six_near : p ≤ most_number → k ≤ most_twos → p * 10 ^ b < (a + 2) * 2 ^ k
  six_near m t =
      let few : b ≤ 839 = omega (arith, tens_few p k some) in
      beyond_part (2 ^ 59) b (p * 10 ^ b) (grown p b) (2 ^ k) a (omega arith) (omega (arith, mul-le-mul six_most few)) (grown_near p b (omega arith))
      (omega (arith, lt-mul-div-succ (grown p b) (pow_pos k)))

-- One more in the last place.
module _ (f : Figure) where
  pub raised_next : f.digits < 999999 → raised f ≡ figure (f.digits + 1) f.tens
  raised_next h = rw (lt-ltb f.digits 999999 h)

  pub raised_fewer : 999999 ≤ f.digits → 6 < f.tens → raised f ≡ figure 100000 (f.tens - 1)
  raised_fewer h l = rw (le-ltb f.digits 999999 h, lt-ltb 6 f.tens l)

  pub raised_one : 999999 ≤ f.digits → f.tens ≤ 6 → raised f ≡ one
  raised_one h l = rw (le-ltb f.digits 999999 h, le-ltb 6 f.tens l)

-- A printed figure is 0, 1, or has six digits and from 6 to 839 tens.
pub data Proper (f : Figure) : Type 0 where
  none : f ≡ nought → Proper f
  all : f ≡ one → Proper f
  six : 100000 ≤ f.digits → f.digits < 1000000 → 6 ≤ f.tens → f.tens ≤ 839 → Proper f

-- The figure f has the value of a + 1 with b tens.
pub record Raised (a b : ℕ) (f : Figure) : Type 0 where
  pub value : f.digits * 10 ^ b ≡ (a + 1) * 10 ^ f.tens
  pub proper : Proper f

ten_fewer : (b : ℕ) → 6 < b → 100000 * 10 ^ b ≡ 1000000 * 10 ^ (b - 1)
ten_fewer b h =
    let e : suc (b - 1) ≡ b = omega arith in
    omega (arith, pow-suc 10 (b - 1), ap (λ z. 10 ^ z) e)

module _ (p k : ℕ) (some : 0 < p) (less : p < 2 ^ k) (few : k ≤ most_twos) where
  pub six_proper : Proper (six_digits p k)
  six_proper = Proper.six (tens_six p k some) (six_most p k some less) (six_tens p k some less) (omega (arith, tens_few p k some))

  pub six_raised : Raised (whole_part p k (tens_of p k)) (tens_of p k) (raised (six_digits p k))
  six_raised =
      let a = whole_part p k (tens_of p k) in
      let b = tens_of p k in
      let most = six_most p k some less in
      let tens = tens_few p k some in
      let least = six_tens p k some less in
      ⊎_elim
      (λ (h : a < 999999).
      rw (raised_next (six_digits p k) h)
      (record { value = refl; proper = Proper.six (omega (arith, tens_six p k some)) (omega arith) least (omega arith) }))
      (λ (h : 999999 ≤ a).
      let e : a + 1 ≡ 1000000 = omega arith in
      ⊎_elim
      (λ (l : 6 < b).
      rw (raised_fewer (six_digits p k) h l)
      (record { value = ten_fewer b l ∙ ap (λ z. z * 10 ^ (b - 1)) (sym e); proper = Proper.six (omega arith) (omega arith) (omega arith) (omega arith) }))
      (λ (l : b ≤ 6).
      let s : b ≡ 6 = omega arith in
      rw (raised_one (six_digits p k) h l) (record { value = ap (λ z. 1 * 10 ^ z) s ∙ sym (ap (λ z. z * 10 ^ 0) e); proper = Proper.all refl }))
      (below 6 b))
      (below a 999999)
