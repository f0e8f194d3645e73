-- The greatest common divisor, and fractions in lowest terms.
use Rattle.std.specs.Prelude.{ℕ, zero, suc, ◌*◌, ◌/◌, ◌%◌, ◌<◌, ◌≡◌}
use Rattle.std.specs.Int.{◌∣◌}
use Rattle.std.proofs.Common.{ap, ⊎_elim, arith, mod-lt, mul-one, eq-eqb, ne_eqb}
use Rattle.std.proofs.Math.Nat.{dvd_refl, dvd-zero, dvd-mod_iff, mul-div_cancel', dvd-mul_right, eq_of_mul-eq-mul_left, dvd_antisymm, pos_of_dvd_of_pos, eq-one_of_dvd-one, dvd_of_mul-dvd-mul_left}
use Rattle.meaning.specs.Number.{Greatest, gcd_in, gcd, Lowest, Reduced}
use Rattle.theory.specs.Numbers.Sum.{same}

gcd_in_lem : (k a b : ℕ) → b < k → Greatest a b (gcd_in k a b)
unfolding gcd_in
gcd_in_lem zero a b h = absurd (omega arith)
gcd_in_lem (suc k) a b h =
    ⊎_elim
    (λ (e : b ≡ 0).
    rw (eq-eqb b 0 e)
    (record { left = dvd_refl a; right = rw e (dvd-zero a); most = λ k p q. p }))
    (λ (d : b ≡ 0 → ⊥).
    let l : a % b < b = mod-lt a (omega arith) in
    let g = gcd_in_lem k b (a % b) (omega arith) in
    rw (ne_eqb b 0 d)
    (record {
      left = (dvd-mod_iff (gcd_in k b (a % b)) g.left).0 g.right;
      right = g.left;
      most = λ k p q. g.most k q ((dvd-mod_iff k q).1 p);
    }))
    (same b 0)

pub gcd_greatest : (a b : ℕ) → Greatest a b (gcd a b)
unfolding gcd
gcd_greatest a b = gcd_in_lem (suc b) a b (omega arith)

pub greatest_one : (a b g h : ℕ) → Greatest a b g → Greatest a b h → g ≡ h
greatest_one a b g h p q = dvd_antisymm (q.most g p.left p.right) (p.most h q.left q.right)

-- Euclid's rule, step by step.
pub gcd_zero : (a : ℕ) → gcd a 0 ≡ a
gcd_zero a = greatest_one a 0 _ _ (gcd_greatest a 0) (record { left = dvd_refl a; right = dvd-zero a; most = λ k p q. p })

pub gcd_step : (a b : ℕ) → gcd a b ≡ gcd b (a % b)
gcd_step a b =
    let g = gcd_greatest b (a % b) in
    greatest_one a b _ _ (gcd_greatest a b)
    (record {
      left = (dvd-mod_iff _ g.left).0 g.right;
      right = g.left;
      most = λ k p q. g.most k q ((dvd-mod_iff k q).1 p);
    })

-- A fraction in lowest terms: p over q, and what is left of both once their greatest divisor is taken out.
module _ (p q : ℕ) (whole : 0 < q) where
  pub common_whole : 0 < gcd p q
  common_whole = pos_of_dvd_of_pos (gcd_greatest p q).right whole

  pub common_p : gcd p q * (p / gcd p q) ≡ p
  common_p = mul-div_cancel' (gcd p q) (gcd_greatest p q).left

  pub common_q : gcd p q * (q / gcd p q) ≡ q
  common_q = mul-div_cancel' (gcd p q) (gcd_greatest p q).right

  pub fraction_lowest : Lowest (p / gcd p q) (q / gcd p q)
  fraction_lowest =
      record {
        whole =
            ⊎_elim
            (λ (e : q / gcd p q ≡ 0). absurd (let z : gcd p q * 0 ≡ q = rw (← e) common_q in omega arith))
            (λ (d : q / gcd p q ≡ 0 → ⊥). omega arith)
            (same (q / gcd p q) 0);
        prime = λ k a b e f.
            let g : gcd p q * k ∣ gcd p q * 1 =
            rw (mul-one (gcd p q))
            ((gcd_greatest p q).most (gcd p q * k)
            (divided k (p / gcd p q) a p common_p e)
            (divided k (q / gcd p q) b q common_q f)) in
            eq-one_of_dvd-one (dvd_of_mul-dvd-mul_left k common_whole g);
      }
    where
      divided : (k u a z : ℕ) → gcd p q * u ≡ z → u ≡ k * a → gcd p q * k ∣ z
      divided k u a z h e =
          let y : z ≡ gcd p q * k * a = omega (arith, ap (λ w. gcd p q * w) e) in
          rw y (dvd-mul_right (gcd p q * k) a)

  pub fraction_reduced : Reduced p q (p / gcd p q) (q / gcd p q)
  fraction_reduced =
      record {
        lowest = fraction_lowest;
        same = omega (arith, ap (λ z. p / gcd p q * z) common_q, ap (λ z. z * (q / gcd p q)) common_p);
      }

-- x over d is p over q where it is a over b.
pub reduced_share : (a b p q d x : ℕ) → Reduced a b p q → 0 < b → a * d ≡ x * b → p * d ≡ x * q
reduced_share a b p q d x h whole e =
    eq_of_mul-eq-mul_left b whole (p * d) (x * q) (omega (arith, ap (λ z. z * d) h.same, ap (λ z. z * q) e))
