-- The total of a row over its least weight above 0 stays bounded although rows are rounded: each weight comes from a way through removed states.
use Rattle.std.specs.Prelude.{ℕ, suc, ◌+◌, ◌*◌, ◌-◌, ◌^◌, ◌≤◌, ◌<◌, ◌≡◌, refl, ◌⊎◌, eqb}
use Rattle.std.proofs.Common.{ap, inl, inr, ⊎_elim, arith, mul-pos, mul-le-mul, mul-le-mul_left, mul-le-mul_right, eq-eqb, ne_eqb}
use Rattle.std.proofs.Math.Nat.{le_of_mul-le-mul_left, pow-zero, pow-succ', one-le-pow, pow-le-pow_left, pow-le-pow_right}
use Rattle.meaning.specs.Number.{sum_to, choose}
use Rattle.theory.specs.Numbers.Sum.{same, below, sum_ext, sum_le, sum_zero, sum_scale, sum_term, sum_hole, sum_mix}
use Rattle.theory.specs.Numbers.Trimmed.{Trimmed}
use Rattle.theory.specs.Numbers.Powers.{times_pow, pow_one, ratio_through, ratio_rounded, rounded_half}
use Rattle.theory.specs.Figures.Ways.{Way, edge, by, way_some, way_join, way_more, way_cut, way_short, Via, Inside}

-- A table w of weights with m columns. The total of a row without its own column, and a row with its weight to t handed on.
abbrev pub beyond : (ℕ → ℕ → ℕ) → ℕ → ℕ → ℕ
beyond w m t = sum_to (w t) m - w t t

abbrev pub handing : (ℕ → ℕ → ℕ) → ℕ → ℕ → ℕ → ℕ → ℕ
handing w m t i j = choose (eqb j t) 0 (w i j * beyond w m t + w i t * w t j)

-- The row of i stays, which has no weight to t; or it is handed on, rounded, and divided by c.
pub record Stays (w w' : ℕ → ℕ → ℕ) (m t i : ℕ) : Type 0 where
  pub none : w i t ≡ 0
  pub old : (j : ℕ) → j < m → w' i j ≡ w i j

pub record Hands (e R : ℕ) (w w' : ℕ → ℕ → ℕ) (m t i : ℕ) : Type 0 where
  pub c : ℕ
  pub some : 0 < c
  pub new : (j : ℕ) → j < m → Trimmed e R (handing w m t i j) (c * w' i j)

-- The state t is removed from the rows that are kept.
pub record Removes (e R n m t : ℕ) (Kept Kept' : ℕ → Type 0) (w w' : ℕ → ℕ → ℕ) : Type 0 where
  pub inside : t < n
  pub here : Kept t
  pub kept : (i : ℕ) → Kept' i → Kept i
  pub other : (i : ℕ) → Kept' i → i ≡ t → ⊥
  pub rows : (i : ℕ) → Kept' i → Stays w w' m t i ⊎ Hands e R w w' m t i

-- The edges of a table.
abbrev pub Weighs : (ℕ → ℕ → ℕ) → ℕ → ℕ → Type 0
Weighs v i j = 0 < v i j

-- The first n columns are states. At most p of them were removed since the table v, and in each kept row of w the total is at most a
-- weight times a power of M, and some more for what was rounded, for each way in v to that weight's column by removed states.
pub record Spread (e R M n m : ℕ) (v : ℕ → ℕ → ℕ) (Kept : ℕ → Type 0) (w : ℕ → ℕ → ℕ) (p : ℕ) : Type 0 where
  pub count : ℕ
  pub gone : ℕ → ℕ
  pub few : count ≤ p
  pub all : sum_to gone n ≤ count
  pub left : (i : ℕ) → Kept i → gone i ≡ 0
  pub ways : (i j : ℕ) → Kept i → j < m → 0 < w i j
      → (gone j ≡ 0) × ((l : ℕ) × Way (Weighs v) (Inside n gone) l i j)
  pub bound : (i j l : ℕ) → Kept i → j < m → gone j ≡ 0 → Way (Weighs v) (Inside n gone) l i j
      → sum_to (w i) m * ((e - R) ^ count) ^ l ≤ w i j * (M * e ^ count) ^ l

module _ (e R M n m : ℕ) (v : ℕ → ℕ → ℕ) where
  first_bound : (i j l : ℕ) → (0 < v i j → sum_to (v i) m ≤ v i j * M) → Way (Weighs v) (Inside n (λ _. 0)) l i j
      → sum_to (v i) m * ((e - R) ^ 0) ^ l ≤ v i j * (M * e ^ 0) ^ l
  first_bound i j l near (edge h) =
      let z : M * 1 ≡ M = omega arith in
      rw (pow-zero (e - R), pow-zero e, z, pow_one 1, pow_one M) (omega (arith, near h))
  first_bound i j l near (by b h g r) = absurd (omega (arith, h.1))

  -- The table v is where it starts.
  pub spread_first : (Kept : ℕ → Type 0) → ((i j : ℕ) → Kept i → j < m → 0 < v i j → sum_to (v i) m ≤ v i j * M)
      → Spread e R M n m v Kept v 0
  spread_first Kept near =
      record {
        count = 0;
        gone = λ _. 0;
        few = omega arith;
        all = omega (arith, sum_zero (λ _. 0) n (λ j h. refl));
        left = λ i k. refl;
        ways = λ i j k h p. (refl, (1, edge p));
        bound = λ i j l k h _ q. first_bound i j l (near i j k h) q;
      }

  -- At a position where nothing is removed.
  pub spread_on : (Kept Kept' : ℕ → Type 0) (w : ℕ → ℕ → ℕ) (p q : ℕ) → ((i : ℕ) → Kept' i → Kept i) → p ≤ q
      → Spread e R M n m v Kept w p → Spread e R M n m v Kept' w q
  spread_on Kept Kept' w p q less more S =
      record {
        count = S.count;
        gone = S.gone;
        few = omega (arith, S.few);
        all = S.all;
        left = λ i k. S.left i (less i k);
        ways = λ i j k. S.ways i j (less i k);
        bound = λ i j l k. S.bound i j l (less i k);
      }

-- The total of a row that is handed on.
pub handing_sum : (w : ℕ → ℕ → ℕ) (m t i : ℕ) → t < m → sum_to (handing w m t i) m ≡ beyond w m t * sum_to (w i) m
handing_sum w m t i h =
    let D = beyond w m t in
    let E : sum_to (w t) m ≡ D + w t t = omega (arith, sum_term (w t) m t h) in
    omega (
      arith,
      sum_hole (λ j. w i j * D + w i t * w t j) m t h,
      sum_mix (w i) (w t) D (w i t) m,
      ap (λ z. w i t * z) E,
    )

-- The removal of t.
module _ (e R M n m : ℕ) (rough : R < e) (some : 0 < M) (wide : n ≤ m) (v : ℕ → ℕ → ℕ) (Kept Kept' : ℕ → Type 0) (w w' : ℕ → ℕ → ℕ)
    (p t : ℕ) (C : Removes e R n m t Kept Kept' w w') (S : Spread e R M n m v Kept w p)
  where
    abbrev gone' : ℕ → ℕ
    gone' j = choose (eqb j t) 1 (S.gone j)

    abbrev In : ℕ → Type 0
    In = Inside n S.gone

    abbrev In' : ℕ → Type 0
    In' = Inside n gone'

    abbrev k : ℕ
    k = S.count

    abbrev D : ℕ
    D = beyond w m t

    other_gone : (j : ℕ) → (j ≡ t → ⊥) → gone' j ≡ S.gone j
    other_gone j d = rw (ne_eqb j t d)

    not_here : (j : ℕ) → gone' j ≡ 0 → j ≡ t → ⊥
    not_here j z q = omega (arith, rw (eq-eqb j t q) at z)

    more : (b : ℕ) → In b → In' b
    more b h = (
      h.0,
      ⊎_elim (λ (q : b ≡ t). rw (eq-eqb b t q) (omega arith)) (λ (d : b ≡ t → ⊥). rw (other_gone b d) h.1) (same b t),
    )

    most : (b : ℕ) → In' b → (b ≡ t) ⊎ In b
    most b h = ⊎_elim (λ (q : b ≡ t). inl q) (λ (d : b ≡ t → ⊥). inr (h.0, rw (other_gone b d) at h.1)) (same b t)

    gone_sum : sum_to gone' n ≤ suc k
    gone_sum =
        let z : sum_to (λ j. choose (eqb j t) 0 (gone' j)) n ≤ sum_to S.gone n =
        sum_le _ _ n (λ j h.
        ⊎_elim
        (λ (q : j ≡ t). rw (eq-eqb j t q) (omega arith))
        (λ (d : j ≡ t → ⊥). rw (ne_eqb j t d) (omega arith))
        (same j t)) in
        omega (arith, z, S.all, sum_hole gone' n t C.inside, let o : gone' t ≡ 1 = rw (eq-eqb t t refl) in o)

    -- A new weight goes back to an old one, or to one to t and one of t.
    back : (i j : ℕ) → Kept i → j < m → (j ≡ t → ⊥) → (0 < w i j) ⊎ ((0 < w i t) × (0 < w t j))
        → (gone' j ≡ 0) × ((l : ℕ) × Way (Weighs v) In' l i j)
    back i j q h d (inl a) =
        let (z, u) = S.ways i j q h a in
        (rw (other_gone j d) z, (u.0, way_more (Weighs v) In In' more u.1))
    back i j q h d (inr a) =
        let (_, x) = S.ways i t q (omega (arith, C.inside)) a.0 in
        let (z, y) = S.ways t j C.here h a.1 in (
          rw (other_gone j d) z,
          way_join (Weighs v) In' t (C.inside, rw (eq-eqb t t refl) (omega arith))
              (way_more (Weighs v) In In' more x.1)
              (way_more (Weighs v) In In' more y.1),
        )

    split : (i j : ℕ) → 0 < w i j * D + w i t * w t j → (0 < w i j) ⊎ ((0 < w i t) × (0 < w t j))
    split i j h =
        ⊎_elim
        (λ (a : 0 < w i j). inl a)
        (λ (a : w i j ≤ 0).
        let z : w i j ≡ 0 = omega arith in
        ⊎_elim
        (λ (b : 0 < w i t).
        ⊎_elim
        (λ (c : 0 < w t j). inr (b, c))
        (λ (c : w t j ≤ 0). let y : w t j ≡ 0 = omega arith in absurd (omega (arith, rw (z, y) at h)))
        (below 0 (w t j)))
        (λ (b : w i t ≤ 0). let y : w i t ≡ 0 = omega arith in absurd (omega (arith, rw (z, y) at h)))
        (below 0 (w i t)))
        (below 0 (w i j))

    next_ways : (i j : ℕ) → Kept' i → j < m → 0 < w' i j → (gone' j ≡ 0) × ((l : ℕ) × Way (Weighs v) In' l i j)
    next_ways i j q h g =
        ⊎_elim
        (λ A.
        let o : 0 < w i j = omega (arith, A.old j h) in
        back i j (C.kept i q) h (λ (r : j ≡ t). omega (arith, A.none, rw r at o)) (inl o))
        (λ H.
        let o : 0 < handing w m t i j = omega (arith, (H.new j h).under, mul-pos H.some g) in
        ⊎_elim
        (λ (r : j ≡ t). absurd (omega (arith, rw (eq-eqb j t r) at o)))
        (λ (d : j ≡ t → ⊥). back i j (C.kept i q) h d (split i j (rw (ne_eqb j t d) at o)))
        (same j t))
        (C.rows i q)

    -- What the two ratios are after one more removal.
    low : (e - R) ^ suc k ≡ (e - R) * (e - R) ^ k
    low = pow-succ' (e - R) k

    high : M * e ^ suc k ≡ e * (M * e ^ k)
    high = rw (pow-succ' e k) (omega arith)

    level : (e - R) ^ k ≤ M * e ^ k
    level = omega (arith, pow-le-pow_left {n = e - R} {m = e} (omega arith) k, mul-le-mul_right (e ^ k) some)

    -- The row of i before it is rounded.
    unrounded : (i j l : ℕ) → Kept i → j < m → gone' j ≡ 0 → Way (Weighs v) In' l i j
        → D * sum_to (w i) m * ((e - R) ^ k) ^ l ≤ (w i j * D + w i t * w t j) * (M * e ^ k) ^ l
    unrounded i j l q h z way =
        let g : S.gone j ≡ 0 = rw (other_gone j (not_here j z)) at z in
        ⊎_elim
        (λ (a : Way (Weighs v) In l i j). omega (arith, mul-le-mul_left D (S.bound i j l q h g a)))
        (λ (a : Via (Weighs v) In t l i j).
        omega (
          arith,
          ratio_through ((e - R) ^ k) (M * e ^ k) (sum_to (w i) m) (w i t) (w t j) D (sum_to (w t) m) a.before a.after l level a.short
              (omega arith)
              (S.bound i t a.before q (omega (arith, C.inside)) (S.left t C.here) a.to)
              (S.bound t j a.after C.here h g a.on),
        ))
        (way_cut (Weighs v) In In' t most way)

    -- A row that stays has no way by t, or no weight at all.
    staying : (i j l : ℕ) → Kept i → j < m → gone' j ≡ 0 → w i t ≡ 0 → Way (Weighs v) In' l i j
        → sum_to (w i) m * ((e - R) ^ k) ^ l ≤ w i j * (M * e ^ k) ^ l
    staying i j l q h z none way =
        ⊎_elim
        (λ (a : Way (Weighs v) In l i j). S.bound i j l q h (rw (other_gone j (not_here j z)) at z) a)
        (λ (a : Via (Weighs v) In t l i j).
        let b = rw none at (S.bound i t a.before q (omega (arith, C.inside)) (S.left t C.here) a.to) in
        let o = one-le-pow a.before ((e - R) ^ k) (one-le-pow k (e - R) (omega arith)) in
        let y : sum_to (w i) m ≡ 0 = omega (arith, b, mul-le-mul_left (sum_to (w i) m) o) in
        rw y (omega arith))
        (way_cut (Weighs v) In In' t most way)

    next_bound : (i j l : ℕ) → Kept' i → j < m → gone' j ≡ 0 → Way (Weighs v) In' l i j
        → sum_to (w' i) m * ((e - R) ^ suc k) ^ l ≤ w' i j * (M * e ^ suc k) ^ l
    next_bound i j l q h z way =
        rw (low, high)
        (⊎_elim
        (λ A.
        let y : sum_to (w' i) m ≡ sum_to (w i) m = sum_ext _ _ m A.old in
        rw (y, A.old j h, times_pow (e - R) ((e - R) ^ k) l, times_pow e (M * e ^ k) l)
        (omega (
          arith,
          mul-le-mul (staying i j l (C.kept i q) h z A.none way) (pow-le-pow_left {n = e - R} {m = e} (omega arith) l),
        )))
        (λ H.
        let under : H.c * sum_to (w' i) m ≤ D * sum_to (w i) m =
        rw (← sum_scale H.c (w' i) m, ← handing_sum w m t i (omega (arith, C.inside))) (sum_le _ _ m (λ j h. (H.new j h).under)) in
        ratio_rounded e R H.c ((e - R) ^ k) (M * e ^ k) (sum_to (w' i) m) (w' i j) (w i j * D + w i t * w t j) _ l rough H.some
        (way_some (Weighs v) In' way) under
        (rw (ne_eqb j t (not_here j z)) at (H.new j h).near)
        (unrounded i j l (C.kept i q) h z way))
        (C.rows i q))

    pub spread_next : Spread e R M n m v Kept' w' (suc p)
    spread_next =
        record {
          count = suc k;
          gone = gone';
          few = omega (arith, S.few);
          all = gone_sum;
          left = λ i q. rw (other_gone i (C.other i q)) (S.left i (C.kept i q));
          ways = next_ways;
          bound = next_bound;
        }

-- The total of a kept row is at most any of its weights above 0, times the power q of 2 * M.
pub spread_last : (e R M n m : ℕ) → R < e → 0 < M → (v : ℕ → ℕ → ℕ) (Kept : ℕ → Type 0) (w : ℕ → ℕ → ℕ) (p q : ℕ)
    → Spread e R M n m v Kept w p → 2 * p * R ≤ e → p < q
    → (i j : ℕ) → Kept i → j < m → 0 < w i j → sum_to (w i) m ≤ w i j * (2 * M) ^ q
spread_last e R M n m rough some v Kept w p q S small room i j kept h o =
    let k : ℕ = S.count in
    let A : ℕ = (e - R) ^ k in
    let (g, u) = S.ways i j kept h o in
    let (l, short, way) = way_short (Weighs v) n k S.gone S.all u.1 in
    let d : M * e ^ k ≤ A * (2 * M) =
    omega (
      arith,
      mul-le-mul_left M (rounded_half e R k rough (omega (arith, small, mul-le-mul_right (2 * R) S.few))),
    ) in
    let b : sum_to (w i) m * A ^ l ≤ w i j * (A ^ l * (2 * M) ^ l) =
    rw (← times_pow A (2 * M) l)
    (omega (arith, S.bound i j l kept h g way, mul-le-mul_left (w i j) (pow-le-pow_left d l))) in
    let c : sum_to (w i) m ≤ w i j * (2 * M) ^ l =
    le_of_mul-le-mul_left {k = A ^ l} (omega (arith, b)) (one-le-pow l A (one-le-pow k (e - R) (omega arith))) in
    let f : (2 * M) ^ l ≤ (2 * M) ^ q = pow-le-pow_right (omega arith) (omega (arith, short, S.few)) in
    omega (arith, c, mul-le-mul_left (w i j) f)
