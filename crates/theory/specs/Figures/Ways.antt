-- Ways along edges through a given set of states: a way through a state is cut there, and none need be longer than the set is large.
use Rattle.std.specs.Prelude.{ℕ, zero, suc, ◌+◌, ◌≤◌, ◌<◌, ◌≡◌, ◌⊎◌, eqb}
use Rattle.std.proofs.Common.{inl, inr, ⊎_elim, arith, eq-eqb, ne_eqb}
use Rattle.std.proofs.Math.Logic.{⊎_map}
use Rattle.meaning.specs.Number.{sum_to, choose}
use Rattle.theory.specs.Numbers.Sum.{same, sum_term, sum_hole}

-- A way of l edges from i to j.
pub data Way (E : ℕ → ℕ → Type 0) (In : ℕ → Type 0) : ℕ → ℕ → ℕ → Type 0 where
  edge : {i j : ℕ} → E i j → Way E In 1 i j
  by : {l i j : ℕ} (b : ℕ) → In b → E i b → Way E In l b j → Way E In (suc l) i j

module _ (E : ℕ → ℕ → Type 0) (In : ℕ → Type 0) where
  pub way_some : {l i j : ℕ} → Way E In l i j → 0 < l
  way_some (edge e) = omega arith
  way_some (by b h e r) = omega arith

  pub way_join : (t : ℕ) → In t → {l k i j : ℕ} → Way E In l i t → Way E In k t j → (m : ℕ) × Way E In m i j
  way_join t h {k = k} (edge e) r = (suc k, by t h e r)
  way_join t h (by b g e q) r = let (m, w) = way_join t h q r in (suc m, by b g e w)

  pub way_more : (In' : ℕ → Type 0) → ((b : ℕ) → In b → In' b) → {l i j : ℕ} → Way E In l i j → Way E In' l i j
  way_more In' more (edge e) = edge e
  way_more In' more (by b h e r) = by b (more b h) e (way_more In' more r)

  -- A way by t: to its first visit, and on from its last.
  pub record Via (t l i j : ℕ) : Type 0 where
    pub before : ℕ
    pub after : ℕ
    pub to : Way E In before i t
    pub on : Way E In after t j
    pub short : before + after ≤ l

  -- The set In', of which all but t is in In.
  module _ (In' : ℕ → Type 0) (t : ℕ) (most : (b : ℕ) → In' b → (b ≡ t) ⊎ In b) where
    pub way_cut : {l i j : ℕ} → Way E In' l i j → Way E In l i j ⊎ Via t l i j
    way_cut (edge e) = inl (edge e)
    way_cut (by {l} {i} {j} b h e r) =
        let rest = way_cut r in
        ⊎_elim
        (λ (q : b ≡ t).
        inr (⊎_elim
        (λ (w : Way E In l b j). record { before = 1; after = l; to = edge (rw q at e); on = rw q at w; short = omega arith })
        (λ (v : Via t l b j).
        record { before = 1; after = v.after; to = edge (rw q at e); on = v.on; short = omega (arith, v.short) })
        rest))
        (λ (k : In b).
        ⊎_map (by b k e)
        (λ (v : Via t l b j).
        record { before = suc v.before; after = v.after; to = by b k e v.to; on = v.on; short = omega (arith, v.short) })
        rest)
        (most b h)

-- The states below n at which f is above 0, and f without one.
abbrev pub Inside : ℕ → (ℕ → ℕ) → ℕ → Type 0
Inside n f b = (b < n) × (0 < f b)

abbrev less : (ℕ → ℕ) → ℕ → ℕ → ℕ
less f t j = choose (eqb j t) 0 (f j)

module _ (n : ℕ) (f : ℕ → ℕ) (t : ℕ) where
  less_most : (b : ℕ) → Inside n f b → (b ≡ t) ⊎ Inside n (less f t) b
  less_most b h =
      ⊎_elim
      (λ (e : b ≡ t). inl e)
      (λ (d : b ≡ t → ⊥). inr (h.0, rw (ne_eqb b t d) h.1))
      (same b t)

  less_in : (b : ℕ) → Inside n (less f t) b → Inside n f b
  less_in b h = (
    h.0,
    ⊎_elim
        (λ (e : b ≡ t). absurd (omega (arith, rw (eq-eqb b t e) at h.1)))
        (λ (d : b ≡ t → ⊥). rw (ne_eqb b t d) at h.1)
        (same b t),
  )

-- A way comes to its first inner state, and goes on from its last visit there: so it need not be longer than the sum of f, and one.
pub way_short : (E : ℕ → ℕ → Type 0) (n m : ℕ) (f : ℕ → ℕ) → sum_to f n ≤ m → {l i j : ℕ} → Way E (Inside n f) l i j
    → (k : ℕ) × (k ≤ suc m) × Way E (Inside n f) k i j
way_short E n zero f few (edge e) = (1, omega arith, edge e)
way_short E n zero f few (by b h e r) = absurd (omega (arith, h.1, sum_term f n b h.0))
way_short E n (suc m) f few (edge e) = (1, omega arith, edge e)
way_short E n (suc m) f few (by {l} {i} {j} b h e r) =
    let F = less f b in
    let rest : (k : ℕ) × Way E (Inside n F) k b j =
    ⊎_elim (λ w. (l, w)) (λ v. (v.after, v.on)) (way_cut E (Inside n F) (Inside n f) b (less_most n f b) r) in
    let (k, short, w) = way_short E n m F (omega (arith, h.1, sum_hole f n b h.0)) rest.1 in
    (suc k, omega arith, by b h e (way_more E (Inside n F) (Inside n f) (less_in n f b) w))
