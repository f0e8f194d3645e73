-- Removing a state p from the other rows, with p's own row left in place, changes no value, and every state still leads out.
use Rattle.std.specs.Prelude.{ℕ, ◌+◌, ◌*◌, ◌-◌, ◌<◌, ◌≡◌, refl, ◌⊎◌, eqb}
use Rattle.std.proofs.Common.{ap, ◌∙◌, ⊎_elim, arith, mul-pos, eq-eqb, ne_eqb}
use Rattle.meaning.specs.Number.{sum_to, choose}
use Rattle.theory.specs.Numbers.Sum.{same, sum_ext, sum_term, sum_two, sum_hole}
use Rattle.theory.specs.Figures.System.{System, total, Solves, LeadsOut, leaves, passes, sum_mix_by}
use Rattle.theory.specs.Figures.Compared.{summed}
use Rattle.theory.specs.Figures.Moved.{RowHolds, SameRow, same_row_holds}

-- The total of p without its loop.
abbrev pub outer : System → ℕ → ℕ → ℕ
outer s n p = total s n p - s.a p p

-- The row of i in t is that in s with the weight to p handed on as the row of p says.
pub record HandedOn (s t : System) (n p i : ℕ) : Type 0 where
  pub a : (j : ℕ) → j < n → (j ≡ p → ⊥) → t.a i j ≡ s.a i j * outer s n p + s.a i p * s.a p j
  pub own : t.a i p ≡ 0
  pub out : t.out i ≡ s.out i * outer s n p + s.a i p * s.out p
  pub g : t.g i ≡ s.g i * outer s n p + s.a i p * s.g p

-- The system in which every row has its weight to p handed on.
abbrev pub handed : System → ℕ → ℕ → System
handed s n p =
    record {
      a = λ i j. choose (eqb j p) 0 (s.a i j * outer s n p + s.a i p * s.a p j);
      out = λ i. s.out i * outer s n p + s.a i p * s.out p;
      g = λ i. s.g i * outer s n p + s.a i p * s.g p;
    }

-- Each row is the same, or has its weight to p handed on; that of p is the same.
abbrev pub Clears : System → System → ℕ → ℕ → Type 0
Clears s t n p = (i : ℕ) → i < n → SameRow t s n i ⊎ ((i ≡ p → ⊥) × HandedOn s t n p i)

hand_total : (T A A' k l O O' M : ℕ) → A' + O' ≡ T + l → M + (k * T + k * l) ≡ T * A + k * A' → M + (O * T + k * O') ≡ T * (A + O)
hand_total T A A' k l O O' M p q = omega (arith, ap (λ z. k * z) p)

hand_holds : (T W x X X' y k l g g' d M : ℕ) → W * x ≡ X + g * d → (T + l) * y ≡ X' + g' * d
    → M + (k * T + k * l) * y ≡ T * X + k * X' → T * W * x ≡ M + (g * T + k * g') * d
hand_holds T W x X X' y k l g g' d M p q r = omega (arith, ap (λ z. T * z) p, ap (λ z. k * z) q)

module _ (s t : System) (n p : ℕ) (inside : p < n) where
  outer_split : total s n p ≡ outer s n p + s.a p p
  outer_split = omega (arith, sum_term (s.a p) n p inside)

  module _ (i : ℕ) (Q : HandedOn s t n p i) where
    point : (x : ℕ → ℕ) (j : ℕ) → j < n
        → t.a i j * x j ≡ choose (eqb j p) 0 ((s.a i j * outer s n p + s.a i p * s.a p j) * x j)
    point x j h =
        ⊎_elim
        (λ (e : j ≡ p). rw (eq-eqb j p e, e, Q.own) (omega arith))
        (λ (d : j ≡ p → ⊥). rw (ne_eqb j p d, Q.a j h d))
        (same j p)

    handed_sum : (x : ℕ → ℕ)
        → summed t n x i + (s.a i p * outer s n p + s.a i p * s.a p p) * x p ≡ outer s n p * summed s n x i + s.a i p * summed s n x p
    handed_sum x =
        let f : ℕ → ℕ = λ j. (s.a i j * outer s n p + s.a i p * s.a p j) * x j in
        let a : summed t n x i ≡ sum_to (λ j. choose (eqb j p) 0 (f j)) n = sum_ext _ _ n (point x) in
        rw a (sum_hole f n p inside ∙ sum_mix_by (outer s n p) (s.a i p) (s.a i) (s.a p) x n)

    handed_total : total t n i ≡ outer s n p * total s n i
    handed_total =
        let ones : (w : ℕ → ℕ) → sum_to (λ j. w j * 1) n ≡ sum_to w n = λ w. sum_ext _ _ n (λ j h. omega arith) in
        rw Q.out
        (hand_total (outer s n p) (sum_to (s.a i) n) (sum_to (s.a p) n) (s.a i p) (s.a p p) (s.out i) (s.out p) (sum_to (t.a i) n) outer_split
        (omega (arith, rw (ones (t.a i), ones (s.a i), ones (s.a p)) at (handed_sum (λ _. 1)))))

    handed_holds : (d : ℕ) (x : ℕ → ℕ) → RowHolds s n d x p → RowHolds s n d x i → RowHolds t n d x i
    handed_holds d x h k =
        rw (handed_total, Q.g)
        (hand_holds (outer s n p) (total s n i) (x i) _ _ (x p) (s.a i p) (s.a p p) (s.g i) (s.g p) d _ k
        (rw outer_split at h) (handed_sum x))

  pub clears_solves : Clears s t n p → (d : ℕ) (x : ℕ → ℕ) → Solves s n d x → Solves t n d x
  clears_solves C d x S =
      record {
        whole = S.whole;
        holds = λ i h.
            ⊎_elim
            (λ A. same_row_holds t s n i A d x (S.holds i h))
            (λ Q. handed_holds i Q.1 d x (S.holds p inside) (S.holds i h))
            (C i h);
      }

  -- A state that leads out has weight outside its own loop.
  pub outer_whole : {i : ℕ} → LeadsOut s n i → i ≡ p → 0 < outer s n p
  outer_whole (leaves o) e = omega (arith, rw e at o, sum_term (s.a p) n p inside)
  outer_whole (passes j h o l) e =
      ⊎_elim
      (outer_whole l)
      (λ (d : j ≡ p → ⊥). omega (arith, rw e at o, sum_two (s.a p) n j p h inside d))
      (same j p)

  -- What leads out still does; and if p does, so does a row whose weight to p is handed on.
  lead_on : 0 < outer s n p → Clears s t n p → {i : ℕ} → i < n → LeadsOut s n i
      → LeadsOut t n i × ((k : ℕ) → HandedOn s t n p k → i ≡ p → 0 < s.a k p → LeadsOut t n k)
  lead_on D C {i} h (leaves o) = (
    ⊎_elim
        (λ A. leaves {i = i} (rw A.out o))
        (λ Q. leaves {i = i} (rw Q.1.out (omega (arith, mul-pos o D))))
        (C i h),
    λ k Q e q. leaves {i = k} (rw Q.out (omega (arith, mul-pos q (rw e at o)))),
  )
  lead_on D C {i} h (passes j b o l) =
      let (on, last) = lead_on D C b l in (
        ⊎_elim
            (λ A. passes {i = i} j b (rw (A.a j b) o) on)
            (λ Q.
            ⊎_elim
            (λ (e : j ≡ p). last i Q.1 e (rw e at o))
            (λ (d : j ≡ p → ⊥). passes {i = i} j b (rw (Q.1.a j b d) (omega (arith, mul-pos o D))) on)
            (same j p))
            (C i h),
        λ k Q e q.
            ⊎_elim
            (λ (f : j ≡ p). last k Q f q)
            (λ (d : j ≡ p → ⊥). passes {i = k} j b (rw (Q.a j b d) (omega (arith, mul-pos q (rw e at o)))) on)
            (same j p),
      )

  pub clears_leads : Clears s t n p → ((i : ℕ) → i < n → LeadsOut s n i) → (i : ℕ) → i < n → LeadsOut t n i
  clears_leads C leads i h = (lead_on (outer_whole (leads p inside) refl) C h (leads i h)).0
