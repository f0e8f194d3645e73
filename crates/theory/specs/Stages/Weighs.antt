-- Where the rows of the exact engine have a weight: the first rows, and the rows after the removal of a state.
use Rattle.std.specs.Prelude.{ℕ, ◌+◌, ◌*◌, ◌-◌, ◌≤◌, ◌<◌, ◌≡◌, refl, ◌⊎◌, ◌↔◌, Bool, true, false, eqb, length}
use Rattle.std.proofs.Common.{sym, ap, subst, ◌∙◌, inl, inr, ⊎_elim, arith, mul-pos}
use Rattle.std.proofs.Math.Logic.Iff
use mathlib.Core.List.{List, []}
use borrow.Author.Tests.{eq-eqb, ne_eqb, eqb-true}
use Rattle.meaning.specs.Number.{only, bit}
use Rattle.meaning.specs.Chain.{Chain, edge_count, from, to, weight, carried, flow, along}
use Rattle.meaning.specs.Row.{Row, cell, width, goal_column, trap_column, lowest, exact}
use Rattle.meaning.specs.Step.{Table, row, Sets, outside, given, first, no_row, renewed, removed}
use Rattle.theory.specs.Numbers.Sum.{same, below, sum_find}
use Rattle.theory.specs.Numbers.Tab.{tab_at, tab_past, tab_length}
use Rattle.theory.specs.Chains.Flow.{flow_term}
use Rattle.theory.specs.Chains.Fine.{Fine}
use Rattle.theory.specs.Rows.Relation.{combined_length}
use Rattle.theory.specs.Rows.Settle.{one_engine, settled_same, settled_length}
use Rattle.theory.specs.Rows.Pattern.{lowest_weighs, pattern_lowest}
use Rattle.theory.specs.Stages.Leads.{step, removes}
use Rattle.theory.specs.Stages.Given.{given_state, given_goal, given_trap, given_length}
use Rattle.theory.specs.Stages.First.{first_row_lem}

-- The row of a state that is not kept has no weight.
pub no_weight : (n j : ℕ) → cell (no_row n) j ≡ 0
unfolding no_row
no_weight n j =
    ⊎_elim
    (λ (h : j < width n). tab_at (width n) (λ _. 0) 0 j h)
    (λ (h : width n ≤ j). tab_past 0 (width n) (λ _. 0) 0 j h)
    (below j (width n))

no_length : (n : ℕ) → length (no_row n) ≡ n + 4
unfolding no_row
no_length n = tab_length 0 (width n) _

-- Every row of a table has n + 4 columns.
abbrev pub Wide : ℕ → Table → Type 0
Wide n t = (i : ℕ) → i < n → length (row t i) ≡ n + 4

-- A flow is above 0 just where an edge carries something.
pub flow_weighs : (edges : List ℕ) → ((e : ℕ) → e < edge_count edges → 0 < weight edges e) → (i : ℕ) (f : ℕ → ℕ)
    → (0 < flow edges i f) ↔ ((e : ℕ) × (e < edge_count edges) × (from edges e ≡ i) × (0 < f (to edges e)))
unfolding flow carried
flow_weighs edges some i f = (there, back)
  where
    there : 0 < flow edges i f → (e : ℕ) × (e < edge_count edges) × (from edges e ≡ i) × (0 < f (to edges e))
    there h =
        let w = sum_find (carried edges i f) (edge_count edges) h in
        let x = at w.0 (eqb (from edges w.0) i) refl w.2 in
        (w.0, w.1, x.0, x.1)
      where
        at : (e : ℕ) (b : Bool) → eqb (from edges e) i ≡ b → 0 < only b (weight edges e * f (to edges e)) → (from edges e ≡ i) × (0 < f (to edges e))
        at e true q h = (
          eqb-true (from edges e) i q,
          ⊎_elim
              (λ (z : f (to edges e) ≡ 0). absurd (omega (arith, h, ap (λ x. weight edges e * x) z)))
              (λ (z : f (to edges e) ≡ 0 → ⊥). omega arith)
              (same (f (to edges e)) 0),
        )
        at e false q h = absurd (omega (arith, h))

    back : (e : ℕ) × (e < edge_count edges) × (from edges e ≡ i) × (0 < f (to edges e)) → 0 < flow edges i f
    back w = omega (arith, flow_term edges i f w.0 w.1 w.2, mul-pos (some w.0 w.1) w.3)

-- An edge to t gives a weight in column j: that of t where it is live, Goal where it is a goal, Trap where it has no path to one.
pub data Into (n goals : ℕ) (k : Sets) (t j : ℕ) : Type 0 where
  state : j ≡ t → bit k.live t ≡ 1 → Into n goals k t j
  goal : j ≡ goal_column n → bit goals t ≡ 1 → Into n goals k t j
  trap : j ≡ trap_column n → (bit k.good t ≡ 1 → ⊥) → Into n goals k t j

-- Edge e gives the row of i, which is live, a weight in column j.
pub record Brings (n goals : ℕ) (edges : List ℕ) (k : Sets) (i j e : ℕ) : Type 0 where
  pub source : from edges e ≡ i
  pub live : bit k.live i ≡ 1
  pub into : Into n goals k (to edges e) j

-- So does one of the first m edges.
abbrev pub Brought : ℕ → ℕ → List ℕ → Sets → ℕ → ℕ → ℕ → Type 0
Brought n goals edges k m i j = (e : ℕ) × ((e < m) × Brings n goals edges k i j e)

-- The first rows.
module _ (c : Chain) (k : Sets) (pay : ℕ → ℕ) where
  abbrev n : ℕ
  n = c.states

  firsts : (P : Row → Type 0) (i : ℕ) → i < n → (bit k.live i ≡ 1 → P (lowest (given c k pay 0 i))) → ((bit k.live i ≡ 1 → ⊥) → P (no_row n))
      → P (row (first exact c k pay (λ _. 0)) i)
  firsts P i h p q =
      ⊎_elim
      (λ (l : bit k.live i ≡ 1).
      rw (first_row_lem exact c k pay i h, eq-eqb (bit k.live i) 1 l, settled_same exact n (given c k pay 0 i) (λ e _. one_engine exact refl e)) (p l))
      (λ (l : bit k.live i ≡ 1 → ⊥). rw (first_row_lem exact c k pay i h, ne_eqb (bit k.live i) 1 l) (q l))
      (same (bit k.live i) 1)

  pub first_wide : Wide n (first exact c k pay (λ _. 0))
  first_wide i h =
      firsts (λ r. length r ≡ n + 4) i h
      (λ _.
      subst (λ r. length r ≡ n + 4) (settled_same exact n (given c k pay 0 i) (λ e _. one_engine exact refl e))
      (settled_length exact n (given c k pay 0 i) (given_length c k pay 0 i)))
      (λ _. no_length n)

  module _ (fine : Fine c) where
    abbrev pub Found : ℕ → ℕ → Type 0
    Found i j = Brought n c.goals c.edges k (edge_count c.edges) i j

    -- The columns of a row as the chain gives it.
    module _ (i : ℕ) (alive : bit k.live i ≡ 1) where
      found : (f : ℕ → ℕ) (j : ℕ) → ((t : ℕ) → t < n → (0 < f t) ↔ Into n c.goals k t j) → (0 < along c i f) ↔ Found i j
      found f j law = (
        λ h.
            let w = (flow_weighs c.edges fine.weights i f).0 h in
            (w.0, (w.1, record { source = w.2; live = alive; into = (law (to c.edges w.0) (fine.targets w.0 w.1)).0 w.3 })),
        λ w.
            (flow_weighs c.edges fine.weights i f).1
            (w.0, w.1.0, w.1.1.source, (law (to c.edges w.0) (fine.targets w.0 w.1.0)).1 w.1.1.into),
      )

      -- The columns are apart.
      in_state : (j : ℕ) → j < n → bit k.live j ≡ 1 → (t : ℕ) → t < n → (0 < only (eqb t j) 1) ↔ Into n c.goals k t j
      in_state j h l t b = (at (eqb t j) refl, back)
        where
          at : (b : Bool) → eqb t j ≡ b → 0 < only b 1 → Into n c.goals k t j
          at true e z = let q = eqb-true t j e in state (sym q) (ap (bit k.live) q ∙ l)
          at false e z = absurd (omega (arith, z))

          back : Into n c.goals k t j → 0 < only (eqb t j) 1
          back (state e l) = rw (eq-eqb t j (sym e)) (omega arith)
          back (goal e g) = absurd (omega (arith, e, h))
          back (trap e g) = absurd (omega (arith, e, h))

      in_none : (j : ℕ) → j < n → (bit k.live j ≡ 1 → ⊥) → Found i j → ⊥
      in_none j h d w = at w.1.1.into
        where
          at : {t : ℕ} → Into n c.goals k t j → ⊥
          at (state e l) = d (ap (bit k.live) e ∙ l)
          at (goal e g) = omega (arith, e, h)
          at (trap e g) = omega (arith, e, h)

      in_goal : (t : ℕ) → t < n → (0 < bit c.goals t) ↔ Into n c.goals k t n
      in_goal t h = (λ g. goal refl (omega (arith, g)), back)
        where
          back : Into n c.goals k t n → 0 < bit c.goals t
          back (state e l) = absurd (omega (arith, e, h))
          back (goal e g) = omega (arith, g)
          back (trap e g) = absurd (omega (arith, e))

      in_trap : (t : ℕ) → t < n → (0 < 1 - bit k.good t) ↔ Into n c.goals k t (n + 1)
      in_trap t h = (λ g. trap refl (λ e. omega (arith, e, g)), back)
        where
          back : Into n c.goals k t (n + 1) → 0 < 1 - bit k.good t
          back (state e l) = absurd (omega (arith, e, h))
          back (goal e g) = absurd (omega (arith, e))
          back (trap e g) = omega (arith, g)

      given_weighs : (j : ℕ) → j < n + 2 → (0 < cell (given c k pay 0 i) j) ↔ Found i j
      given_weighs j h =
          ⊎_elim
          (λ (a : j < n).
          ⊎_elim
          (λ (l : bit k.live j ≡ 1). rw (given_state c k pay 0 i j a, eq-eqb (bit k.live j) 1 l) (found _ j (in_state j a l)))
          (λ (l : bit k.live j ≡ 1 → ⊥).
          rw (given_state c k pay 0 i j a, ne_eqb (bit k.live j) 1 l) (λ z. absurd (omega (arith, z)), λ w. absurd (in_none j a l w)))
          (same (bit k.live j) 1))
          (λ (a : n ≤ j).
          ⊎_elim
          (λ (e : j ≡ n). rw (e, given_goal c k pay 0 i) (found _ n in_goal))
          (λ (d : j ≡ n → ⊥). let e : j ≡ n + 1 = omega arith in rw (e, given_trap c k pay 0 i) (found _ (n + 1) in_trap))
          (same j n))
          (below j n)

    -- A first row has a weight just where an edge brings one.
    pub first_weighs : (i : ℕ) → i < n → (j : ℕ) → j < n + 2 → (0 < cell (row (first exact c k pay (λ _. 0)) i) j) ↔ Found i j
    first_weighs i h j b =
        firsts (λ r. (0 < cell r j) ↔ Found i j) i h
        (λ l. Iff.trans (lowest_weighs (given c k pay 0 i) j) (given_weighs i l j b))
        (λ l. (λ z. absurd (omega (arith, z, no_weight n j)), λ w. absurd (l w.1.1.live)))

-- After the removal of s the row of i has a weight in column j: neither of them is s, and the row had one there, or had one to s, whose row has
-- one there.
pub record NewWeight (s : ℕ) (t : Table) (i j : ℕ) : Type 0 where
  pub other_row : i ≡ s → ⊥
  pub other_column : j ≡ s → ⊥
  pub weighs : (0 < cell (row t i) j) ⊎ ((0 < cell (row t i) s) × (0 < cell (row t s) j))

-- The rows once s is removed.
module _ (n s : ℕ) (t : Table) (wide : Wide n t) where
  own_row : s < n → row (removed exact n s t) s ≡ no_row n
  unfolding removed renewed
  own_row h = rw (tab_at n (λ i. renewed exact n s (outside n s (row t s)) (row t s) (eqb i s) (row t i)) [] s h, eq-eqb s s refl)

  pub removed_wide : s < n → Wide n (removed exact n s t)
  removed_wide here i h =
      ⊎_elim
      (λ (e : i ≡ s). rw (e, own_row here) (no_length n))
      (λ (d : i ≡ s → ⊥).
      removes exact n s t (λ r. length r ≡ n + 4) i h d (λ _. wide i h)
      (λ _. settled_length exact n (step n s t i) (combined_length s _ (row t s) (row t i) ∙ wide i h)))
      (same i s)

  module _ (here : s < n) (loose : 0 < outside n s (row t s)) where
    stays : (i j : ℕ) → (i ≡ s → ⊥) → cell (row t i) s ≡ 0 → (0 < cell (row t i) j) ↔ NewWeight s t i j
    stays i j d z = (
      λ h. record { other_row = d; other_column = λ e. omega (arith, h, ap (cell (row t i)) e, z); weighs = inl h },
      λ w. ⊎_elim (λ h. h) (λ (h : (0 < cell (row t i) s) × (0 < cell (row t s) j)). absurd (omega (arith, h.0, z))) w.weighs,
    )

    changes : (i j : ℕ) → i < n → j < n + 4 → (i ≡ s → ⊥) → 0 < cell (row t i) s → (0 < cell (lowest (step n s t i)) j) ↔ NewWeight s t i j
    changes i j h b d p =
        let law = pattern_lowest s (outside n s (row t s)) (row t s) (row t i) loose p j (omega (arith, wide i h)) in (
          λ z. let w = law.0 z in record { other_row = d; other_column = w.0; weighs = ⊎_elim inl (λ x. inr (p, x)) w.1 },
          λ w. law.1 (w.other_column, ⊎_elim inl (λ x. inr x.1) w.weighs),
        )

    pub removed_weighs : (i : ℕ) → i < n → (j : ℕ) → j < n + 4 → (0 < cell (row (removed exact n s t) i) j) ↔ NewWeight s t i j
    removed_weighs i h j b =
        ⊎_elim
        (λ (e : i ≡ s). (
          λ z. absurd (omega (arith, z, ap (λ i. cell (row (removed exact n s t) i) j) e, ap (λ (r : Row). cell r j) (own_row here), no_weight n j)),
          λ w. absurd (w.other_row e),
        ))
        (λ (d : i ≡ s → ⊥).
        removes exact n s t (λ r. (0 < cell r j) ↔ NewWeight s t i j) i h d (stays i j d)
        (λ p.
        subst (λ (r : Row). (0 < cell r j) ↔ NewWeight s t i j) (sym (settled_same exact n (step n s t i) (λ e _. one_engine exact refl e)))
        (changes i j h b d p)))
        (same i s)
