-- What a printed figure promises: a lower one is at most its number and an upper one at least; both are near it, and in order.
use Rattle.std.specs.Prelude.{ℕ, zero, suc, ◌+◌, ◌*◌, ◌/◌, ◌%◌, ◌^◌, ◌≤◌, ◌<◌, ◌≡◌, refl, [], ◌∷◌, ◌++◌}
use Rattle.std.proofs.Common.{sym, ap, ◌∙◌, ⊎_elim, append_assoc, append-nil, arith, mul-le-mul, mul-le-mul_right, div-one, pow_pos}
use Rattle.std.proofs.Math.Nat.{le_of_mul-le-mul_left, div-div-eq-div-mul, one-le-pow, pow-succ'}
use Rattle.std.specs.Int.Count.{count_leading_zeros}
use Rattle.meaning.specs.Text.{bytes_of, decimal, decimal_in}
use Rattle.meaning.specs.Near.{near, digits}
use Rattle.meaning.specs.NearText.{Figure, figure, grown, tens_from, tens_of, most_number, most_twos, lower_figure, upper_figure, last_digits, figure_text, figures_text, near_text}
use Rattle.theory.specs.Numbers.Decimal.{decimal_more}
use Rattle.theory.specs.Numbers.Tens.{down_sound, up_sound, tens_six, tens_few}
use Rattle.theory.specs.Numbers.Printed.{Lower, lower_case, Upper, upper_case, Proper, six_near, six_proper, six_raised}

pub ten_some : (b : ℕ) → 0 < 10 ^ b
ten_some b = one-le-pow b 10 (omega arith)

-- From the value of a + 1 with b tens to a figure of that value.
raised_above : (q d t a K u : ℕ) → 0 < u → d * u ≡ (a + 1) * t → q * u ≤ (a + 1) * K → q * t ≤ d * K
raised_above q d t a K u o e h =
    le_of_mul-le-mul_left {k = u} (omega (arith, mul-le-mul_right t h, ap (λ z. z * K) e)) o

raised_near : (x d t a K u : ℕ) → 0 < u → d * u ≡ (a + 1) * t → 100000 ≤ a → a * K ≤ x * u → d * K * 100000 ≤ x * t * 100001
raised_near x d t a K u o e s h =
    let m : (a + 1) * 100000 ≤ a * 100001 = omega arith in
    le_of_mul-le-mul_left {k = u}
    (omega (arith, mul-le-mul_right (t * K) m, mul-le-mul_right (t * 100001) h, ap (λ z. z * (K * 100000)) e))
    o

-- The lower figure of p / 2 ^ k.
module _ (p k : ℕ) where
  abbrev f : Figure
  f = lower_figure p k

  pub lower_below : f.digits * 2 ^ k ≤ p * 10 ^ f.tens
  lower_below = go f (lower_case p k)
    where
      go : (f : Figure) → Lower p k f → f.digits * 2 ^ k ≤ p * 10 ^ f.tens
      go f (Lower.none z e) = rw e (omega arith)
      go f (Lower.six o a b l e) = rw e (down_sound p k (tens_of p k))
      go f (Lower.all o a b l e) = rw e (omega arith)
      go f (Lower.far o a e) = rw e (omega arith)

  pub lower_proper : Proper f
  lower_proper = go f (lower_case p k)
    where
      go : (f : Figure) → Lower p k f → Proper f
      go f (Lower.none z e) = Proper.none e
      go f (Lower.six o a b l e) = rw e (six_proper p k o l b)
      go f (Lower.all o a b l e) = Proper.all e
      go f (Lower.far o a e) = Proper.none e

  module _ (small : p ≤ most_number) (few : k ≤ most_twos) (less : p ≤ 2 ^ k) where
    -- It is less than two units of the last place below, and the number at most two parts of 100,000 above it.
    pub lower_unit : p * 10 ^ f.tens < (f.digits + 2) * 2 ^ k
    lower_unit = go f (lower_case p k)
      where
        go : (f : Figure) → Lower p k f → p * 10 ^ f.tens < (f.digits + 2) * 2 ^ k
        go f (Lower.none z e) = rw (e, z) (omega (arith, pow_pos k))
        go f (Lower.six o a b l e) = rw e (six_near p k o l a b)
        go f (Lower.all o a b l e) = rw e (omega (arith, pow_pos k))
        go f (Lower.far o a e) = absurd (⊎_elim (λ (h : most_number < p). omega arith) (λ (h : most_twos < k). omega arith) a)

    pub lower_near : p * 10 ^ f.tens * 100000 ≤ f.digits * 2 ^ k * 100002
    lower_near = go f (lower_case p k) lower_unit
      where
        go : (f : Figure) → Lower p k f → p * 10 ^ f.tens < (f.digits + 2) * 2 ^ k → p * 10 ^ f.tens * 100000 ≤ f.digits * 2 ^ k * 100002
        go f (Lower.none z e) u = rw (e, z) (omega arith)
        go f (Lower.six o a b l e) u =
            let s : 100000 ≤ f.digits = rw e (tens_six p k o) in
            omega (arith, mul-le-mul_right (2 ^ k) s)
        go f (Lower.all o a b l e) u = rw e (omega arith)
        go f (Lower.far o a e) u = absurd (⊎_elim (λ (h : most_number < p). omega arith) (λ (h : most_twos < k). omega arith) a)

-- The upper figure of q / 2 ^ k.
module _ (q k : ℕ) where
  abbrev g : Figure
  g = upper_figure q k

  pub upper_above : q ≤ 2 ^ k → q * 10 ^ g.tens ≤ g.digits * 2 ^ k
  upper_above less = go g (upper_case q k)
    where
      go : (g : Figure) → Upper q k g → q * 10 ^ g.tens ≤ g.digits * 2 ^ k
      go g (Upper.none z e) = rw (e, z) (omega arith)
      go g (Upper.six o a b l e) =
          let t = tens_of (q + 1) k in
          let few : t ≤ 839 = omega (arith, tens_few (q + 1) k (omega arith)) in
          let r = six_raised (q + 1) k (omega arith) l b in
          let small : q + 1 ≤ most_number + 1 = omega arith in
          rw e (raised_above q _ _ _ (2 ^ k) (10 ^ t) (ten_some t) r.value (up_sound q k t (omega arith) (omega (arith, mul-le-mul small few))))
      go g (Upper.all o a b l e) = rw e (omega arith)
      go g (Upper.far o a e) = rw e (omega arith)

  pub upper_proper : Proper g
  upper_proper = go g (upper_case q k)
    where
      go : (g : Figure) → Upper q k g → Proper g
      go g (Upper.none z e) = Proper.none e
      go g (Upper.six o a b l e) = rw e (six_raised (q + 1) k (omega arith) l b).proper
      go g (Upper.all o a b l e) = Proper.all e
      go g (Upper.far o a e) = Proper.all e

  module _ (small : q ≤ most_number) (few : k ≤ most_twos) where
    -- It is at most one part of 100,000 above (q + 1) / 2 ^ k, and so two above q / 2 ^ k where q is not small.
    pub upper_next : g.digits * 2 ^ k * 100000 ≤ (q + 1) * 10 ^ g.tens * 100001
    upper_next = go g (upper_case q k)
      where
        go : (g : Figure) → Upper q k g → g.digits * 2 ^ k * 100000 ≤ (q + 1) * 10 ^ g.tens * 100001
        go g (Upper.none z e) = rw e (omega arith)
        go g (Upper.six o a b l e) =
            let t = tens_of (q + 1) k in
            let r = six_raised (q + 1) k (omega arith) l b in
            rw e (raised_near (q + 1) _ _ _ (2 ^ k) (10 ^ t) (ten_some t) r.value (tens_six (q + 1) k (omega arith)) (down_sound (q + 1) k t))
        go g (Upper.all o a b l e) = rw e (omega arith)
        go g (Upper.far o a e) = absurd (⊎_elim (λ (h : most_number < q). omega arith) (λ (h : most_twos < k). omega arith) a)

    pub upper_near : 100001 ≤ q → g.digits * 2 ^ k * 100000 ≤ q * 10 ^ g.tens * 100002
    upper_near h = omega (arith, upper_next, mul-le-mul_right (10 ^ g.tens) h)

-- A lower figure is at most an upper one of a number that is no less.
in_order : (a b P Q s t K : ℕ) → 0 < K → a * K ≤ P * s → P ≤ Q → Q * t ≤ b * K → a * t ≤ b * s
in_order a b P Q s t K o h l n =
    le_of_mul-le-mul_left {k = K} (omega (arith, mul-le-mul_right t h, mul-le-mul_right (s * t) l, mul-le-mul_right s n)) o

pub figures_ordered : (p q k : ℕ) → p ≤ q → q ≤ 2 ^ k
    → (lower_figure p k).digits * 10 ^ (upper_figure q k).tens ≤ (upper_figure q k).digits * 10 ^ (lower_figure p k).tens
figures_ordered p q k l h = in_order _ _ p q _ _ (2 ^ k) (pow_pos k) (lower_below p k) l (upper_above q k h)

-- The first digit and the other five of a figure's text are those of its number.
pub decimal_last : (n x : ℕ) → 10 ^ n ≤ x → decimal x ≡ decimal (x / 10 ^ n) ++ last_digits n x
unfolding last_digits
decimal_last zero x h = sym (append-nil (decimal (x / 1)) ∙ ap decimal (div-one x))
decimal_last (suc n) x h =
    let t = ten_some n in
    let e : 10 ^ suc n ≡ 10 * 10 ^ n = pow-succ' 10 n in
    let d : x / 10 / 10 ^ n ≡ x / 10 ^ suc n = div-div-eq-div-mul x 10 (10 ^ n) ∙ ap (λ z. x / z) (sym e) in
    let m : 10 ^ n ≤ x / 10 = omega arith in
    decimal_more x (omega arith)
    ∙ ap (λ z. z ++ ((48 + x % 10) ∷ [])) (decimal_last n (x / 10) m ∙ ap (λ z. decimal z ++ last_digits n (x / 10)) d)
    ∙ append_assoc (decimal (x / 10 ^ suc n)) (last_digits n (x / 10)) ((48 + x % 10) ∷ [])

-- Two lines with the address chain's chance of goal 6 and a miss of 0, figures with a carry and beside 1, and a text that is shown.
address : near_text (near 0 0 2010076082 2010076121 43) (near 0 0 0 0 0) ≡ bytes_of "near 2.28519e-4 2.28520e-4\nmiss 0 0\n"
unfolding grown tens_from tens_of digits count_leading_zeros decimal decimal_in last_digits
address = refl

carried : upper_figure 42949671 32 ≡ figure 100000 7
unfolding grown tens_from tens_of digits count_leading_zeros
carried = refl

beside_one : figures_text (bytes_of "miss ") (lower_figure 4294967290 32) (upper_figure 4294967294 32) ≡ bytes_of "miss 9.99999e-1 1\n"
unfolding grown tens_from tens_of digits count_leading_zeros decimal decimal_in last_digits
beside_one = refl

shown : figure_text (figure 248121 15) ≡ bytes_of "2.48121e-10"
unfolding decimal decimal_in last_digits
shown = refl
