-- A system of n equations in whole numbers: total i * x i is the sum over j of a i j * x j, plus g i * d, where total i is the sum of
-- the a i j plus the weight out i that leaves the system. Where every state leads out, it has one solution, up to the denominator.
use Rattle.std.specs.Prelude.{ℕ, zero, suc, ◌+◌, ◌*◌, ◌<◌, ◌≡◌, refl, eqb}
use Rattle.std.proofs.Common.{◌∙◌, eq-eqb, ne_eqb}
use Rattle.std.proofs.Math.Path.{sym, ap, subst}
use native.Mathlib.Omega.{arith}
use Rattle.std.proofs.Math.Nat.{mul-pos, eq_of_mul-eq-mul_left}
use Rattle.meaning.specs.Number.{sum_to, choose}
use Rattle.theory.specs.Numbers.Sum.{last_or_below, sum_ext, sum_scale, sum_term}

pub record System : Type 0 where
  pub a : ℕ → ℕ → ℕ
  pub out : ℕ → ℕ
  pub g : ℕ → ℕ

abbrev pub total : System → ℕ → ℕ → ℕ
total s n i = sum_to (s.a i) n + s.out i

pub record Solves (s : System) (n d : ℕ) (x : ℕ → ℕ) : Type 0 where
  pub whole : 0 < d
  pub holds : (i : ℕ) → i < n → total s n i * x i ≡ sum_to (λ j. s.a i j * x j) n + s.g i * d

-- i leads out of the system, perhaps by way of others.
pub data LeadsOut (s : System) (n : ℕ) : ℕ → Type 0 where
  leaves : {i : ℕ} → 0 < s.out i → LeadsOut s n i
  passes : {i : ℕ} (j : ℕ) → j < n → 0 < s.a i j → LeadsOut s n j → LeadsOut s n i

-- The system without its last state n.
abbrev pub without : System → ℕ → System
without s n =
    record {
      a = λ i j. s.a i j * total s n n + s.a i n * s.a n j;
      out = λ i. s.out i * total s n n + s.a i n * s.out n;
      g = λ i. s.g i * total s n n + s.a i n * s.g n;
    }

module _ (s : System) (n : ℕ) where
  -- A state that leads out has weight outside its own loop.
  pub loop_less : {i : ℕ} → LeadsOut s (suc n) i → i ≡ n → 0 < total s n n
  loop_less (leaves p) e = omega (arith, rw e at p)
  loop_less (passes j h p l) e =
      last_or_below h (loop_less l) (λ (b : j < n). omega (arith, rw e at p, sum_term (s.a n) n j b))

  -- What leads out still does without n; and if n does, so does all that has weight towards n.
  pub leads_on : 0 < total s n n → {i : ℕ} → LeadsOut s (suc n) i
      → LeadsOut (without s n) n i × ((k : ℕ) → i ≡ n → 0 < s.a k n → LeadsOut (without s n) n k)
  leads_on D {i} (leaves p) =
      (leaves {i = i} (omega (arith, mul-pos p D)), λ k e q. leaves {i = k} (omega (arith, mul-pos q (rw e at p))))
  leads_on D {i} (passes j h p l) =
      let (on, last) = leads_on D l in
      last_or_below h
      (λ (e : j ≡ n). (last i e (rw e at p), λ k f q. last k e q))
      (λ (b : j < n). (
        passes {i = i} j b (omega (arith, mul-pos p D)) on,
        λ k f q. passes {i = k} j b (omega (arith, mul-pos q (rw f at p))) on,
      ))

-- The sums of a row of the system without n.
pub sum_mix : (D q : ℕ) (u v : ℕ → ℕ) (m : ℕ) → sum_to (λ j. u j * D + q * v j) m ≡ D * sum_to u m + q * sum_to v m
unfolding sum_to
sum_mix D q u v zero = omega arith
sum_mix D q u v (suc m) = omega (arith, sum_mix D q u v m)

pub sum_mix_by : (D q : ℕ) (u v x : ℕ → ℕ) (m : ℕ)
    → sum_to (λ j. (u j * D + q * v j) * x j) m ≡ D * sum_to (λ j. u j * x j) m + q * sum_to (λ j. v j * x j) m
unfolding sum_to
sum_mix_by D q u v x zero = omega arith
sum_mix_by D q u v x (suc m) = omega (arith, sum_mix_by D q u v x m)

module _ (s : System) (n d : ℕ) (x : ℕ → ℕ) where
  -- The equation of n itself, less its loop.
  last_holds : Solves s (suc n) d x → total s n n * x n ≡ sum_to (λ j. s.a n j * x j) n + s.g n * d
  unfolding sum_to
  last_holds S = omega (arith, S.holds n (omega arith))

  restricts : Solves s (suc n) d x → Solves (without s n) n d x
  unfolding sum_to
  restricts S =
      record {
        whole = S.whole;
        holds = λ i h.
            rw (
              sum_mix (total s n n) (s.a i n) (s.a i) (s.a n) n,
              sum_mix_by (total s n n) (s.a i n) (s.a i) (s.a n) x n,
            )
            (omega (
              arith,
              ap (λ (z : ℕ). total s n n * z) (S.holds i (omega arith)),
              ap (λ (z : ℕ). s.a i n * z) (last_holds S),
            ));
      }

  -- The solution of the whole system that a solution of the system without n gives, over d * total s n n.
  extended : ℕ → ℕ
  extended i = choose (eqb i n) (sum_to (λ j. s.a n j * x j) n + s.g n * d) (x i * total s n n)

  extended_last : extended n ≡ sum_to (λ j. s.a n j * x j) n + s.g n * d
  unfolding extended
  extended_last = rw (eq-eqb n n refl)

  extended_below : (i : ℕ) → i < n → extended i ≡ x i * total s n n
  unfolding extended
  extended_below i h = rw (ne_eqb i n (omega arith))

  extended_sum : (i : ℕ) → sum_to (λ j. s.a i j * extended j) n ≡ total s n n * sum_to (λ j. s.a i j * x j) n
  extended_sum i =
      sum_ext (λ j. s.a i j * extended j) (λ j. total s n n * (s.a i j * x j)) n
      (λ j h. rw (extended_below j h) (omega arith))
      ∙ sum_scale (total s n n) (λ j. s.a i j * x j) n

  extends : 0 < total s n n → Solves (without s n) n d x → Solves s (suc n) (d * total s n n) extended
  unfolding sum_to
  extends D S =
      record {
        whole = mul-pos S.whole D;
        holds = λ i h.
            rw (extended_sum i, extended_last)
            (last_or_below h
            (λ (e : i ≡ n).
            subst
            (λ k.
            total s (suc n) k * extended k
            ≡ total s n n * sum_to (λ j. s.a k j * x j) n + s.a k n * (sum_to (λ j. s.a n j * x j) n + s.g n * d)
            + s.g k * (d * total s n n))
            (sym e) (rw extended_last (omega arith)))
            (λ (b : i < n).
            rw (extended_below i b)
            (omega (
              arith,
              rw (
                sum_mix (total s n n) (s.a i n) (s.a i) (s.a n) n,
                sum_mix_by (total s n n) (s.a i n) (s.a i) (s.a n) x n,
              )
                  at (S.holds i b),
            ))));
      }

-- Where every state leads out, there is a solution.
pub solution : (n : ℕ) (s : System) → ((i : ℕ) → i < n → LeadsOut s n i) → (d : ℕ) × (x : ℕ → ℕ) × Solves s n d x
solution zero s l = (1, λ _. 0, record { whole = omega arith; holds = λ i h. omega arith })
solution (suc n) s l =
    let D : 0 < total s n n = loop_less s n (l n (omega arith)) refl in
    let (d, x, S) = solution n (without s n) (λ i h. (leads_on s n D (l i (omega arith))).0) in
    (d * total s n n, extended s n d x, extends s n d x D S)

sum_cross : (u x x' : ℕ → ℕ) (d d' n : ℕ) → ((j : ℕ) → j < n → x j * d' ≡ x' j * d)
    → sum_to (λ j. u j * x j) n * d' ≡ sum_to (λ j. u j * x' j) n * d
unfolding sum_to
sum_cross u x x' d d' zero h = omega arith
sum_cross u x x' d d' (suc n) h =
    omega (arith, ap (λ (z : ℕ). u n * z) (h n (omega arith)), sum_cross u x x' d d' n (λ j k. h j (omega arith)))

-- And any two are equal, as fractions.
pub unique : (n : ℕ) (s : System) → ((i : ℕ) → i < n → LeadsOut s n i) → (d d' : ℕ) (x x' : ℕ → ℕ)
    → Solves s n d x → Solves s n d' x' → (i : ℕ) → i < n → x i * d' ≡ x' i * d
unique zero s l d d' x x' S S' i h = omega arith
unique (suc n) s l d d' x x' S S' i h =
    let D : 0 < total s n n = loop_less s n (l n (omega arith)) refl in
    let below : (i : ℕ) → i < n → x i * d' ≡ x' i * d =
    unique n (without s n) (λ i h. (leads_on s n D (l i (omega arith))).0) d d' x x' (restricts s n d x S) (restricts s n d' x' S') in
    let last : total s n n * (x n * d') ≡ total s n n * (x' n * d) =
    omega (
      arith,
      ap (λ (z : ℕ). z * d') (last_holds s n d x S),
      ap (λ (z : ℕ). z * d) (last_holds s n d' x' S'),
      sum_cross (s.a n) x x' d d' n below,
    ) in
    last_or_below h
    (λ (e : i ≡ n). rw e (eq_of_mul-eq-mul_left (total s n n) D (x n * d') (x' n * d) last))
    (below i)
