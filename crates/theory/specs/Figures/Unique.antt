-- A fraction has its lowest terms, and one pair of them only; so has each of the figures.
use Rattle.std.specs.Prelude.{ℕ, ◌*◌, ◌/◌, ◌<◌, ◌≡◌}
use Rattle.std.specs.Int.{◌∣◌}
use Rattle.std.proofs.Common.{sym, ap, subst, arith, mul-one}
use Rattle.std.proofs.Math.Nat.{dvd_trans, dvd-mul_right, dvd-mul_left, dvd_antisymm, mul-dvd-mul_left, dvd_of_mul-dvd-mul_left, mul-div_cancel', eq_of_mul-eq-mul_left, eq_of_mul-eq-mul_right}
use Rattle.meaning.specs.Number.{gcd, Lowest, Reduced}
use Rattle.meaning.specs.Chain.{Chain, FromStart}
use Rattle.meaning.specs.Figure.{Shares, Chance, Missed, Earns, Expected}
use Rattle.theory.specs.Numbers.Gcd.{gcd_greatest, common_p, common_q, fraction_reduced, reduced_share}
use Rattle.theory.specs.Chains.Fine.{Fine}
use Rattle.theory.specs.Figures.Shares.{shares_exist, shares_agree}
use Rattle.theory.specs.Figures.Earnings.{earns_exist, earns_agree}

-- What divides k times both divides k times their greatest common divisor.
gcd_scale : (k a b m : ℕ) → 0 < k → m ∣ k * a → m ∣ k * b → m ∣ k * gcd a b
gcd_scale k a b m w p q =
    let G = gcd_greatest (k * a) (k * b) in
    let g : ℕ = gcd (k * a) (k * b) in
    let e : k * (g / k) ≡ g = mul-div_cancel' k (G.most k (dvd-mul_right k a) (dvd-mul_right k b)) in
    let l : g / k ∣ a = dvd_of_mul-dvd-mul_left (g / k) w (rw e G.left) in
    let r : g / k ∣ b = dvd_of_mul-dvd-mul_left (g / k) w (rw e G.right) in
    dvd_trans m (G.most m p q) (rw e at (mul-dvd-mul_left (g / k) k ((gcd_greatest a b).most (g / k) l r)))

lowest_one : {p q : ℕ} → Lowest p q → gcd p q ≡ 1
lowest_one {p} {q} h =
    h.prime (gcd p q) (p / gcd p q) (q / gcd p q) (sym (common_p p q h.whole)) (sym (common_q p q h.whole))

divides : {p q p' q' : ℕ} → Lowest p q → Lowest p' q' → p * q' ≡ p' * q → q ∣ q'
divides {p} {q} {p'} {q'} h k e =
    rw (mul-one q') at
    (rw (lowest_one h) at
    (gcd_scale q' p q q k.whole (subst (λ z. q ∣ z) (omega arith) (dvd-mul_left q p')) (dvd-mul_left q q')))

pub fraction_one : {p q p' q' : ℕ} → Lowest p q → Lowest p' q' → p * q' ≡ p' * q → (p ≡ p') × (q ≡ q')
fraction_one {p} {q} {p'} {q'} h k e =
    let s : q ≡ q' = dvd_antisymm (divides h k e) (divides k h (sym e)) in
    (eq_of_mul-eq-mul_right q h.whole p p' (subst (λ z. p * z ≡ p' * q) (sym s) e), s)

-- Of one fraction, a over b.
pub reduced_one : {a b p q p' q' : ℕ} → 0 < b → Reduced a b p q → Reduced a b p' q' → (p ≡ p') × (q ≡ q')
reduced_one {a} {b} {p} {q} {p'} {q'} w R R' =
    fraction_one R.lowest R'.lowest
    (eq_of_mul-eq-mul_left b w (p * q') (p' * q) (omega (arith, ap (λ z. z * q') R.same, ap (λ z. z * q) R'.same)))

-- A figure: the value at s, in lowest terms, of values that exist.
module _ (Values : ℕ → (ℕ → ℕ) → Type 0) (s : ℕ) (whole : (d : ℕ) (x : ℕ → ℕ) → Values d x → 0 < d) (exist : (d : ℕ) × (x : ℕ → ℕ) × Values d x) where
  abbrev Share : ℕ → ℕ → Type 0
  Share p q = (d : ℕ) (x : ℕ → ℕ) → Values d x → p * d ≡ x s * q

  figure_one : {p q p' q' : ℕ} → Lowest p q → Lowest p' q' → Share p q → Share p' q' → (p ≡ p') × (q ≡ q')
  figure_one h h' f f' =
      let (d, x, v) = exist in
      reduced_one (whole d x v) (record { lowest = h; same = f d x v }) (record { lowest = h'; same = f' d x v })

  figure_exists : ((d d' : ℕ) (x x' : ℕ → ℕ) → Values d x → Values d' x' → x s * d' ≡ x' s * d) → (p : ℕ) × (q : ℕ) × Lowest p q × Share p q
  figure_exists agree =
      let (d, x, v) = exist in
      let R = fraction_reduced (x s) d (whole d x v) in (
        x s / gcd (x s) d,
        d / gcd (x s) d,
        R.lowest,
        λ d' x' v'. reduced_share (x s) d _ _ d' (x' s) R (whole d x v) (agree d d' x x' v v'),
      )

module _ {c : Chain} (fine : Fine c) where
  pub chance_one : {p q p' q' : ℕ} → Chance c p q → Chance c p' q' → (p ≡ p') × (q ≡ q')
  chance_one C C' =
      figure_one (Shares c) c.start (λ d x S. S.whole) (shares_exist fine) C.lowest C'.lowest C.share C'.share

  module _ (inside : c.start < c.states) where
    pub chance_exists : (p : ℕ) × (q : ℕ) × Chance c p q
    chance_exists =
        let (p, q, h, f) =
        figure_exists (Shares c) c.start (λ d x S. S.whole) (shares_exist fine)
        (λ d d' x x' S S'. shares_agree fine S S' c.start inside) in
        (p, q, record { lowest = h; share = f })

    module _ (sure : Missed c → ⊥) where
      pub expected_one : {pay : ℕ → ℕ} {p q p' q' : ℕ} → Expected c pay p q → Expected c pay p' q' → (p ≡ p') × (q ≡ q')
      expected_one {pay} X X' =
          figure_one (Earns c pay) c.start (λ d y E. E.whole) (earns_exist fine inside sure pay) X.lowest X'.lowest X.share X'.share

      pub expected_exists : (pay : ℕ → ℕ) → (p : ℕ) × (q : ℕ) × Expected c pay p q
      expected_exists pay =
          let (p, q, h, f) =
          figure_exists (Earns c pay) c.start (λ d y E. E.whole) (earns_exist fine inside sure pay)
          (λ d d' y y' E E'. earns_agree fine inside sure pay E E' c.start FromStart.begin) in
          (p, q, record { lowest = h; share = f })
