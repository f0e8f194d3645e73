-- One row rounded: where its weights lose at most R parts of e, each value moves by at most R parts of e, whatever the other rows are.
use Rattle.std.specs.Prelude.{ℕ, zero, suc, ◌+◌, ◌*◌, ◌≤◌, ◌<◌, ◌≡◌, refl}
use Rattle.std.proofs.Common.{ap, ⊎_elim, arith, mul-pos, eq-eqb, ne_eqb}
use Rattle.meaning.specs.Number.{sum_to}
use Rattle.theory.specs.Numbers.Sum.{same, below, sum_ext, sum_scale}
use Rattle.theory.specs.Numbers.Trimmed.{Trimmed, Close, trimmed_add, trimmed_scale, trimmed_sum, trimmed_whole, trimmed_close}
use Rattle.theory.specs.Figures.System.{System, total, Solves, LeadsOut, solution}
use Rattle.theory.specs.Figures.Compared.{
  summed,
  compared,
  compared_off,
  pinned,
  pinned_leads,
  pinned_sum,
  pinned_total,
  pinned_sum_off,
  pinned_total_off,
}

-- Sums by one row.
sum_line : (w x y : ℕ → ℕ) (u v n : ℕ) → sum_to (λ j. w j * (x j * u + y j * v)) n ≡ sum_to (λ j. w j * x j) n * u + sum_to (λ j. w j * y j) n * v
unfolding sum_to
sum_line w x y u v zero = omega arith
sum_line w x y u v (suc n) = omega (arith, sum_line w x y u v n)

sum_line_one : (w x : ℕ → ℕ) (u c n : ℕ) → sum_to (λ j. w j * (x j * u + c)) n ≡ sum_to (λ j. w j * x j) n * u + sum_to w n * c
unfolding sum_to
sum_line_one w x u c zero = omega arith
sum_line_one w x u c (suc n) = omega (arith, sum_line_one w x u c n)

sum_by : (w x : ℕ → ℕ) (u n : ℕ) → sum_to (λ j. w j * (x j * u)) n ≡ sum_to (λ j. w j * x j) n * u
unfolding sum_to
sum_by w x u zero = omega arith
sum_by w x u (suc n) = omega (arith, sum_by w x u n)

sum_of : (w : ℕ → ℕ) (c n : ℕ) → sum_to (λ j. w j * c) n ≡ sum_to w n * c
unfolding sum_to
sum_of w c zero = omega arith
sum_of w c (suc n) = omega (arith, sum_of w c n)

-- The equation of the row of i.
abbrev pub RowHolds : System → ℕ → ℕ → (ℕ → ℕ) → ℕ → Type 0
RowHolds s n d x i = total s n i * x i ≡ summed s n x i + s.g i * d

-- The rows other than m hold, with weights g to Goal, and m is worth 0.
record Off (s : System) (n m : ℕ) (g : ℕ → ℕ) (d : ℕ) (x : ℕ → ℕ) : Type 0 where
  whole : 0 < d
  own : x m ≡ 0
  rows : (i : ℕ) → i < n → (i ≡ m → ⊥) → total s n i * x i ≡ summed s n x i + g i * d

-- A row of two values, the second of which is nowhere far above the first.
carry_row : (T X X' g x x' d d' e R : ℕ) → T * x ≡ X + g * d → T * x' ≡ X' + g * d'
    → T * (x' * (e * d)) + (X * (e * d') + X' * (R * d)) ≤ T * (x * (e * d') + x' * (R * d)) + X' * (e * d)
carry_row T X X' g x x' d d' e R p q = omega (arith, ap (λ z. e * d * z) q, ap (λ z. R * d * z) q, ap (λ z. e * d' * z) p)

-- One row of the two sides below, and the row of m.
level_row : (T W O X H F g x h f y d c k : ℕ) → T ≡ W + O → T * x ≡ X + g * d → T * h ≡ H + O * k → T * f ≡ F + g * c
    → T * (x * (c * k) + h * (c * y)) + (F * (k * d) + W * (c * k * y)) ≡ T * (f * (k * d) + c * k * y) + (X * (c * k) + H * (c * y))
level_row T W O X H F g x h f y d c k t p q r =
    omega (arith, ap (λ z. c * k * y * z) t, ap (λ z. c * k * z) p, ap (λ z. c * y * z) q, ap (λ z. k * d * z) r)

own_row : (W O X H F g y d c k : ℕ) → (W + O) * y ≡ X + g * d → X * (c * k) + H * (c * y) ≡ F * (k * d) + W * (c * k * y)
    → y * (O * (c * k) + H * c) ≡ d * (F * k + g * (c * k))
own_row W O X H F g y d c k p q = omega (arith, ap (λ z. c * k * z) p)

module _ (s : System) (n m : ℕ) (inside : m < n) (leads : (i : ℕ) → i < n → LeadsOut s n i) where
  off : (g : ℕ → ℕ) → (d : ℕ) × (x : ℕ → ℕ) × Off s n m g d x
  off g =
      let (d, x, S) = solution n (pinned s m g) (λ i h. pinned_leads s n m g (leads i h)) in (
        d,
        x,
        record {
          whole = S.whole;
          own = omega (arith, rw (pinned_total s n m g, pinned_sum s n m g x, eq-eqb m m refl) at (S.holds m inside));
          rows = λ i h k. rw (pinned_total_off s n m g i k, pinned_sum_off s n m g x i k, ne_eqb i m k) at (S.holds i h);
        },
      )

  -- f over c is the chance to come to Goal before m, h over k to leave before m.
  module _ (c : ℕ) (f : ℕ → ℕ) (F : Off s n m s.g c f) (k : ℕ) (h : ℕ → ℕ) (H : Off s n m s.out k h) where
    -- What a row for m comes to that way: to Goal, and out.
    abbrev wins : System → ℕ
    wins t = summed t n f m * k + t.g m * (c * k)

    abbrev ends : System → ℕ
    ends t = t.out m * (c * k) + summed t n h m * c

    -- A state is worth what it wins before m, and what m is worth where it does not leave before.
    module _ (d : ℕ) (x : ℕ → ℕ) (rows : (i : ℕ) → i < n → (i ≡ m → ⊥) → RowHolds s n d x i) where
      abbrev left : ℕ → ℕ
      left i = x i * (c * k) + h i * (c * x m)

      abbrev right : ℕ → ℕ
      right i = f i * (k * d) + c * k * x m

      even : (i : ℕ) → i < n → (i ≡ m → ⊥) → total s n i * left i + summed s n right i ≡ total s n i * right i + summed s n left i
      even i l e =
          rw (sum_line (s.a i) x h (c * k) (c * x m) n, sum_line_one (s.a i) f (k * d) (c * k * x m) n)
          (level_row (total s n i) (sum_to (s.a i) n) (s.out i) _ _ _ (s.g i) (x i) (h i) (f i) (x m) d c k
          refl (rows i l e) (H.rows i l e) (F.rows i l e))

      level : (i : ℕ) → i < n → left i ≡ right i
      level i l =
          let own : left m ≡ right m = rw (F.own, H.own) (omega arith) in
          let a = compared_off n s leads m left right (omega arith) (λ i l e. omega (arith, even i l e)) i l in
          let b = compared_off n s leads m right left (omega arith) (λ i l e. omega (arith, even i l e)) i l in
          omega arith

      weighed : (t : System) → RowHolds t n d x m → x m * ends t ≡ d * wins t
      weighed t r =
          let a : summed t n left m ≡ summed t n right m = sum_ext _ _ n (λ j l. ap (λ z. t.a m j * z) (level j l)) in
          own_row (sum_to (t.a m) n) (t.out m) (summed t n x m) _ _ (t.g m) (x m) d c k r
          (rw (sum_line (t.a m) x h (c * k) (c * x m) n, sum_line_one (t.a m) f (k * d) (c * k * x m) n) at a)

    -- A row for m with weight only to itself, and to states that always come back, leads nowhere.
    ends_whole : 0 < ends s
    ends_whole =
        ⊎_elim
        (λ (l : 0 < ends s). l)
        (λ (l : ends s ≤ 0).
        let a =
        compared n s leads (λ _. c * k) (λ j. h j * c)
        (λ i b.
        rw (sum_of (s.a i) (c * k) n, sum_by (s.a i) h c n)
        (⊎_elim
        (λ (q : i ≡ m). rw (q, H.own) (omega arith))
        (λ (q : i ≡ m → ⊥). omega (arith, ap (λ z. c * z) (H.rows i b q)))
        (same i m)))
        m inside in
        absurd (omega (arith, rw H.own at a, mul-pos F.whole H.whole)))
        (below 0 (ends s))

  -- What holds at m of two values with the same rows elsewhere holds everywhere.
  carried : (e R d d' : ℕ) (x x' : ℕ → ℕ) → ((i : ℕ) → i < n → (i ≡ m → ⊥) → RowHolds s n d x i)
      → ((i : ℕ) → i < n → (i ≡ m → ⊥) → RowHolds s n d' x' i)
      → e * (x' m * d) ≤ e * (x m * d') + R * (x' m * d) → (i : ℕ) → i < n → e * (x' i * d) ≤ e * (x i * d') + R * (x' i * d)
  carried e R d d' x x' r r' own i l =
      let a =
      compared_off n s leads m (λ j. x' j * (e * d)) (λ j. x j * (e * d') + x' j * (R * d)) (omega arith)
      (λ i l q.
      rw (sum_by (s.a i) x' (e * d) n, sum_line (s.a i) x x' (e * d') (R * d) n)
      (carry_row (total s n i) _ _ (s.g i) (x i) (x' i) d d' e R (r i l q) (r' i l q)))
      i l in
      omega arith

-- The row of i in t, c times over, is that in s rounded.
pub record RowTrimmed (e R c : ℕ) (s t : System) (n i : ℕ) : Type 0 where
  pub a : (j : ℕ) → j < n → Trimmed e R (s.a i j) (c * t.a i j)
  pub out : Trimmed e R (s.out i) (c * t.out i)
  pub g : Trimmed e R (s.g i) (c * t.g i)

-- Where what leaves goes to Goal or to Trap, it is enough that these two are rounded.
pub row_trimmed_by : (e R c : ℕ) (s t : System) (n i trap trap' : ℕ) → s.out i ≡ s.g i + trap → t.out i ≡ t.g i + trap'
    → ((j : ℕ) → j < n → Trimmed e R (s.a i j) (c * t.a i j)) → Trimmed e R (s.g i) (c * t.g i) → Trimmed e R trap (c * trap')
    → RowTrimmed e R c s t n i
row_trimmed_by e R c s t n i trap trap' p q A G T =
    let z : c * (t.g i + trap') ≡ c * t.g i + c * trap' = omega arith in
    record { a = A; out = rw (p, q, z) (trimmed_add e R G T); g = G }

-- The system c times over.
abbrev pub times : ℕ → System → System
times c t = record { a = λ i j. c * t.a i j; out = λ i. c * t.out i; g = λ i. c * t.g i }

sum_times : (c : ℕ) (w x : ℕ → ℕ) (n : ℕ) → sum_to (λ j. c * w j * x j) n ≡ c * sum_to (λ j. w j * x j) n
unfolding sum_to
sum_times c w x zero = omega arith
sum_times c w x (suc n) = omega (arith, sum_times c w x n)

pub times_holds : (c : ℕ) (t : System) (n d : ℕ) (x : ℕ → ℕ) (i : ℕ) → RowHolds t n d x i → RowHolds (times c t) n d x i
times_holds c t n d x i h = rw (sum_times c (t.a i) x n, sum_scale c (t.a i) n) (omega (arith, ap (λ z. c * z) h))

module _ (e R c : ℕ) (few : R < e) (s t : System) (n m : ℕ) (inside : m < n) (leads : (i : ℕ) → i < n → LeadsOut s n i) where
  pub moved : RowTrimmed e R c s t n m → (d d' : ℕ) (x x' : ℕ → ℕ) → Solves s n d x
      → ((i : ℕ) → i < n → (i ≡ m → ⊥) → RowHolds s n d' x' i) → RowHolds t n d' x' m
      → (i : ℕ) → i < n → Close e R (x i) d (x' i) d'
  moved Q d d' x x' S rows own i l =
      let (p, f, F) = off s n m inside leads s.g in
      let (q, h, H) = off s n m inside leads s.out in
      let t' = times c t in
      let W : Trimmed e R (wins s n m inside leads p f F q h H s) (wins s n m inside leads p f F q h H t') =
      trimmed_add e R
      (trimmed_scale e R q (trimmed_sum e R (s.a m) (t'.a m) f n Q.a))
      (trimmed_scale e R (p * q) Q.g) in
      let Z : Trimmed e R (ends s n m inside leads p f F q h H s) (ends s n m inside leads p f F q h H t') =
      trimmed_add e R
      (trimmed_scale e R (p * q) Q.out)
      (trimmed_scale e R p (trimmed_sum e R (s.a m) (t'.a m) h n Q.a)) in
      let b = ends_whole s n m inside leads p f F q h H in
      let N : Close e R (x m) d (x' m) d' =
      trimmed_close e R (x m) d (x' m) d' b (trimmed_whole e R few b Z) W Z
      (weighed s n m inside leads p f F q h H d x (λ i l _. S.holds i l) s (S.holds m inside))
      (weighed s n m inside leads p f F q h H d' x' rows t' (times_holds c t n d' x' m own)) in
      record {
        above = carried s n m inside leads e R d d' x x' (λ i l _. S.holds i l) rows N.above i l;
        under = carried s n m inside leads e R d' d x' x rows (λ i l _. S.holds i l) N.under i l;
      }

-- The row of i is the same in both.
pub record SameRow (s t : System) (n i : ℕ) : Type 0 where
  pub a : (j : ℕ) → j < n → s.a i j ≡ t.a i j
  pub out : s.out i ≡ t.out i
  pub g : s.g i ≡ t.g i

pub same_row_holds : (s t : System) (n i : ℕ) → SameRow s t n i → (d : ℕ) (x : ℕ → ℕ) → RowHolds t n d x i → RowHolds s n d x i
same_row_holds s t n i A d x h =
    let a : sum_to (s.a i) n ≡ sum_to (t.a i) n = sum_ext _ _ n A.a in
    let b : summed s n x i ≡ summed t n x i = sum_ext _ _ n (λ j l. ap (λ z. z * x j) (A.a j l)) in
    rw (a, b, A.out, A.g) h

-- The lemma for two systems that differ in the row of m alone.
pub moved_one : (e R c : ℕ) → R < e → (s t : System) (n m : ℕ) → m < n → ((i : ℕ) → i < n → LeadsOut s n i)
    → ((i : ℕ) → i < n → (i ≡ m → ⊥) → SameRow s t n i) → RowTrimmed e R c s t n m
    → (d d' : ℕ) (x x' : ℕ → ℕ) → Solves s n d x → Solves t n d' x' → (i : ℕ) → i < n → Close e R (x i) d (x' i) d'
moved_one e R c few s t n m inside leads others Q d d' x x' S S' =
    moved e R c few s t n m inside leads Q d d' x x' S
    (λ i l q. same_row_holds s t n i (others i l q) d' x' (S'.holds i l))
    (S'.holds m inside)
