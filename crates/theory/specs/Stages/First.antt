-- The first table: what a row as given says is kept, and each live state leads out.
use Rattle.std.specs.Prelude.{ℕ, ◌+◌, ◌*◌, ◌≤◌, ◌<◌, ◌≡◌, refl, ◌⊎◌, Bool, [], eqb, length}
use Rattle.std.proofs.Common.{ap, ◌∙◌, ⊎_elim, arith, eq-eqb, ne_eqb}
use Rattle.meaning.specs.Number.{only, choose, bit}
use Rattle.meaning.specs.Chain.{Chain, edge_count, from, to, weight, along, Goal, PathTo}
use Rattle.meaning.specs.Row.{Row, cell, reward, settled, exact, rounding}
use Rattle.meaning.specs.Step.{Table, row, Sets, RightTo, given, first_row, no_row, first}
use Rattle.theory.specs.Numbers.Sum.{same}
use Rattle.theory.specs.Numbers.Tab.{tab_at}
use Rattle.theory.specs.Chains.Flow.{flow_term}
use Rattle.theory.specs.Rows.Relation.{AtMostRow, AtLeastRow}
use Rattle.theory.specs.Rows.Settle.{one_engine, settled_length, settled_left, settled_zero, settled_least, settled_most}
use Rattle.theory.specs.Stages.Leads.{Leads, leaves, passes, Sound}
use Rattle.theory.specs.Chains.Fine.{FineTo}
use Rattle.theory.specs.Stages.Given.{Fate, live, won, lost, given_state, given_goal, given_unknown, given_reward, given_length, LiveRow, goes_on}

pub first_row_from : (b : Bool) (c : Chain) (k : Sets) (pay u : ℕ → ℕ) (i : ℕ) → i < c.states
    → row (first b c k pay u) i ≡ choose (eqb (bit k.live i) 1) (first_row b c k pay (u i) i) (no_row c.states)
unfolding first
first_row_from b c k pay u i h = tab_at c.states _ [] i h

-- Where no weight is Unknown at first.
pub first_row_lem : (b : Bool) (c : Chain) (k : Sets) (pay : ℕ → ℕ) (i : ℕ) → i < c.states
    → row (first b c k pay (λ _. 0)) i ≡ choose (eqb (bit k.live i) 1) (first_row b c k pay 0 i) (no_row c.states)
first_row_lem b c k pay = first_row_from b c k pay (λ _. 0)

-- u i is Unknown of the first row of i.
module _ (b : Bool) (c : Chain) (k : Sets) (pay u : ℕ → ℕ) where
  abbrev n : ℕ
  n = c.states

  abbrev t : Table
  t = first b c k pay u

  wide : (i : ℕ) → length (given c k pay (u i) i) ≡ n + 4
  wide i = given_length c k pay (u i) i

  -- The row of a live state is the settled row that the chain gives.
  firsts : (P : Row → Type 0) (i : ℕ) → LiveRow c k i → P (settled b n (given c k pay (u i) i)) → P (row t i)
  firsts P i q p = rw (first_row_from b c k pay u i q.0, eq-eqb (bit k.live i) 1 q.1) p

  pub first_least : (v : ℕ → ℕ) → (b ≡ rounding → v (n + 2) ≡ 0) → ((i : ℕ) → LiveRow c k i → AtLeastRow n (given c k pay (u i) i) (v i) v)
      → (i : ℕ) → LiveRow c k i → AtLeastRow n (row t i) (v i) v
  first_least v w h i q =
      firsts (λ z. AtLeastRow n z (v i) v) i q (settled_least b n (given c k pay (u i) i) (wide i) (v i) v w (h i q))

  pub first_most : (v : ℕ → ℕ) → b ≡ exact → ((i : ℕ) → LiveRow c k i → AtMostRow n (given c k pay (u i) i) (v i) v)
      → (i : ℕ) → LiveRow c k i → AtMostRow n (row t i) (v i) v
  first_most v w h i q =
      firsts (λ z. AtMostRow n z (v i) v) i q (settled_most b n (given c k pay (u i) i) (wide i) (v i) v w (h i q))

  pub first_known : b ≡ exact → ((i : ℕ) → u i ≡ 0) → (i : ℕ) → LiveRow c k i → cell (row t i) (n + 2) ≡ 0
  first_known e nought i q =
      firsts (λ z. cell z (n + 2) ≡ 0) i q
      (settled_zero b n (given c k pay (u i) i) (wide i) (n + 2) (λ f. one_engine b e f) (given_unknown c k pay (u i) i ∙ nought i))

  -- The bounds engine earns nothing.
  module _ (End : ℕ → Type 0) (ends : (i : ℕ) → Goal c i → End i) (are : (i : ℕ) → End i → Goal c i ⊎ (0 < u i)) (fine : FineTo c u) (ok : RightTo c End k)
      (free : b ≡ rounding → (i : ℕ) → pay i ≡ 0)
    where
      unpaid : (i : ℕ) → b ≡ rounding → reward n (given c k pay (u i) i) ≡ 0
      unpaid i e = given_reward c k pay (u i) i ∙ free e i

      -- A weight of the first row leads on, settled or not.
      given_way : (i j : ℕ) → LiveRow c k i → 0 < cell (given c k pay (u i) i) j → (0 < cell (row t i) j) ⊎ (0 < cell (row t i) (n + 2))
      given_way i j q p =
          firsts (λ z. (0 < cell z j) ⊎ (0 < cell z (n + 2))) i q
          (settled_left b n (given c k pay (u i) i) (wide i) j (unpaid i) p)

      -- An edge has weight in the column of its target.
      edge_weighs : (e : ℕ) → e < edge_count c.edges → (f : ℕ → ℕ) → f (to c.edges e) ≡ 1 → 0 < along c (from c.edges e) f
      edge_weighs e h f o =
          let w : ℕ = weight c.edges e in
          let a : w * f (to c.edges e) ≤ along c (from c.edges e) f = flow_term c.edges (from c.edges e) f e h refl in
          omega (arith, a, ap (λ z. w * z) o, fine.weights e h)

      module _ (e : ℕ) (h : e < edge_count c.edges) (q : LiveRow c k (from c.edges e)) where
        abbrev i : ℕ
        i = from c.edges e

        abbrev j : ℕ
        j = to c.edges e

        lead_step : PathTo c.edges End j → Fate c k j → (LiveRow c k j → Leads n t j) → Leads n t i
        lead_step g (live a o d) rec =
            let s : j < n = fine.targets e h in
            let z : 0 < along c i (λ t. only (eqb t j) 1) = edge_weighs e h (λ t. only (eqb t j) 1) (rw (eq-eqb j j refl)) in
            let p : 0 < cell (given c k pay (u i) i) j = rw (given_state c k pay (u i) i j s, eq-eqb (bit k.live j) 1 a) z in
            ⊎_elim
            (λ w. passes j s w (rec (s, a)))
            (λ w. leaves (n + 2) (omega arith) (omega arith) w)
            (given_way i j q p)
        lead_step g (won a o d) rec =
            let p : 0 < cell (given c k pay (u i) i) n = rw (given_goal c k pay (u i) i) (edge_weighs e h (bit c.goals) o) in
            ⊎_elim
            (λ w. leaves n (omega arith) (omega arith) w)
            (λ w. leaves (n + 2) (omega arith) (omega arith) w)
            (given_way i n q p)
        lead_step g (lost a o d) rec = absurd (omega (arith, d, (ok.good j).1 g))

      -- A row that falls short leads to Unknown.
      short_leads : (i : ℕ) → LiveRow c k i → 0 < u i → Leads n t i
      short_leads i q h =
          ⊎_elim
          (λ w. leaves (n + 2) (omega arith) (omega arith) w)
          (λ w. leaves (n + 2) (omega arith) (omega arith) w)
          (given_way i (n + 2) q (rw (given_unknown c k pay (u i) i) h))

      first_leads : (i : ℕ) → PathTo c.edges End i → LiveRow c k i → Leads n t i
      first_leads i (PathTo.here j g) q = ⊎_elim (λ w. absurd (((ok.live j).0 q.1).unwon w)) (λ w. short_leads j q w) (are j g)
      first_leads i (PathTo.step e h l) q =
          lead_step e h q l (goes_on c k pay u fine End ends ok (from c.edges e) e q h refl) (λ w. first_leads (to c.edges e) l w)

      pub first_sound : Sound b n (LiveRow c k) t
      first_sound =
          record {
            inside = λ i q. q.0;
            wide = λ i q. firsts (λ z. length z ≡ n + 4) i q (settled_length b n (given c k pay (u i) i) (wide i));
            closed = λ i j q h.
                firsts (λ z. 0 < cell z j → LiveRow c k j) i q
                (λ p.
                ⊎_elim
                (λ (l : bit k.live j ≡ 1). (h, l))
                (λ (l : bit k.live j ≡ 1 → ⊥).
                absurd
                (let z : cell (given c k pay (u i) i) j ≡ 0 = given_state c k pay (u i) i j h ∙ rw (ne_eqb (bit k.live j) 1 l) in
                omega (arith, p, settled_zero b n (given c k pay (u i) i) (wide i) j (λ _. omega arith) z)))
                (same (bit k.live j) 1));
            leads = λ i q. first_leads i ((ok.live i).0 q.1).leads q;
            unpaid = λ i q e.
                firsts (λ z. reward n z ≡ 0) i q
                (settled_zero b n (given c k pay (u i) i) (wide i) (n + 3) (λ _. omega arith) (unpaid i e));
          }
