-- A text is of at most one chain with its tables.
use Rattle.std.specs.Prelude.{ℕ, zero, suc, ◌+◌, ◌*◌, ◌/◌, ◌%◌, ◌^◌, ◌<◌, ◌≡◌, refl, length, get_or, take, drop, eqb}
use Rattle.std.proofs.Common.{arith, sym, ap, ◌∙◌, ⊎_elim, take_at, drop_at, ext_get_or, eqb-true, eq-eqb, ne_eqb}
use mathlib.Core.List.{List, [], ◌∷◌, ◌++◌, head-eq_of_cons-eq, tail-eq_of_cons-eq}
use Rattle.std.proofs.lemmas.Bool.{eqb-false}
use Rattle.meaning.specs.Number.{tab_from, bit}
use Rattle.meaning.specs.Chain.{Chain, denominator, edge_size, edge_count, from, to, weight, edge_reward}
use Rattle.meaning.specs.Refusal.{Lent, Misshaped}
use Rattle.meaning.specs.Text.{bytes_of}
use Rattle.meaning.specs.ChainText.{order_line, goal_at, state_line_of, edge_line_of, chain_lines, Storable}
use Rattle.theory.specs.Numbers.Sum.{same, sum_ext}
use Rattle.theory.specs.Numbers.Tab.{tab_at, tab_length}
use Rattle.theory.specs.Numbers.Digits.{bits_number}
use Rattle.theory.specs.Outcomes.Formed.{equal}
use Rattle.theory.specs.Texts.Lines.{named_last, edge_one, state_one, order_one}

-- The lengths of the tables.
module _ {l : Lent} (p : Storable l) where
  pub denominators_length : length l.chain.denominators ≡ l.chain.states
  denominators_length = equal _ _ (λ f. p.shape (Misshaped.denominators_length f))

  pub order_length : length l.order ≡ l.chain.states
  order_length = equal _ _ (λ f. p.shape (Misshaped.order_length f))

  pub rewards_length : length l.rewards ≡ l.chain.states
  rewards_length = equal _ _ (λ f. p.shape (Misshaped.rewards_length f))

  pub edges_length : length l.chain.edges ≡ edge_size * edge_count l.chain.edges
  edges_length = omega (arith, equal (length l.chain.edges % edge_size) 0 (λ f. p.shape (Misshaped.edges_ragged f)))

-- Two lists that are the same in two parts.
module _ {A : Type 0} (a b c d : List A) (long : length a ≡ length c) (e : a ++ b ≡ c ++ d) where
  pub front_one : a ≡ c
  front_one = sym (take_at a b (length c) long) ∙ ap (take (length c)) e ∙ take_at c d (length c) refl

  pub back_one : b ≡ d
  back_one = sym (drop_at a b (length c) long) ∙ ap (drop (length c)) e ∙ drop_at c d (length c) refl

-- The entries of two tables that are the same.
pub tab_one {ℓ} : {A : Type ℓ} (d : A) (n m : ℕ) (f g : ℕ → A) → n ≡ m → tab_from 0 n f ≡ tab_from 0 m g → (i : ℕ) → i < n → f i ≡ g i
tab_one d n m f g q e i h = sym (tab_at n f d i h) ∙ ap (λ z. get_or z i d) e ∙ tab_at m g d i (omega arith)

bit_one : (s t i : ℕ) → eqb (bit s i) 1 ≡ eqb (bit t i) 1 → bit s i ≡ bit t i
bit_one s t i e =
    ⊎_elim
    (λ (h : bit s i ≡ 1). h ∙ sym (eqb-true (bit t i) 1 (sym e ∙ eq-eqb (bit s i) 1 h)))
    (λ (h : bit s i ≡ 1 → ⊥). omega (arith, eqb-false (bit t i) 1 (sym e ∙ ne_eqb (bit s i) 1 h)))
    (same (bit s i) 1)

-- Edges that are the same, number by number.
edges_one : (es ds : List ℕ) (n : ℕ) → length es ≡ edge_size * n → length ds ≡ edge_size * n
    → ((e : ℕ) → e < n → (from es e ≡ from ds e) × (to es e ≡ to ds e) × (weight es e ≡ weight ds e) × (edge_reward es e ≡ edge_reward ds e))
    → es ≡ ds
edges_one es ds n h k f = ext_get_or 0 es ds (h ∙ sym k) (λ j l. go j (j / 4) (j % 4) (omega arith) (omega arith) (omega arith))
  where
    go : (j e r : ℕ) → j ≡ edge_size * e + r → r < 4 → e < n → get_or es j 0 ≡ get_or ds j 0
    go j e zero q l m = let z : j ≡ edge_size * e = omega arith in rw z (f e m).0
    go j e (suc zero) q l m = rw q (f e m).1
    go j e (suc (suc zero)) q l m = rw q (f e m).2
    go j e (suc (suc (suc zero))) q l m = rw q (f e m).3
    go j e (suc (suc (suc (suc r)))) q l m = absurd (omega arith)

module _ {l m : Lent} (p : Storable l) (q : Storable m) (e : chain_lines l ≡ chain_lines m) where
  abbrev c : Chain
  c = l.chain

  abbrev d : Chain
  d = m.chain

  states_one : c.states ≡ d.states
  states_one = named_last (bytes_of "states ") _ _ (cc)

  count_one : edge_count c.edges ≡ edge_count d.edges
  count_one = named_last (bytes_of "edges ") _ _ (cc)

  start_one : c.start ≡ d.start
  start_one = named_last (bytes_of "start ") _ _ (cc)

  abbrev states : Lent → List (List ℕ)
  states l = tab_from 0 l.chain.states (state_line_of l)

  abbrev edges : Lent → List (List ℕ)
  edges l = tab_from 0 (edge_count l.chain.edges) (edge_line_of l)

  -- The lines after the first three.
  long : length (states l) ≡ length (states m)
  long = tab_length 0 c.states _ ∙ states_one ∙ sym (tab_length 0 d.states _)

  later : states l ++ (order_line l.order ∷ edges l) ≡ states m ++ (order_line m.order ∷ edges m)
  later = cc

  back : ◌≡◌ {A = List (List ℕ)} (order_line l.order ∷ edges l) (order_line m.order ∷ edges m)
  back = back_one (states l) _ (states m) _ long later

  state : (i : ℕ) → i < c.states
      → (i ≡ i) × (denominator c i ≡ denominator d i) × (get_or l.rewards i 0 ≡ get_or m.rewards i 0) × (goal_at l i ≡ goal_at m i)
  state i h =
      state_one _ _ _ _ _ _ _ _ (tab_one [] c.states d.states _ _ states_one (front_one (states l) _ (states m) _ long later) i h)

  edge : (j : ℕ) → j < edge_count c.edges
      → (from c.edges j ≡ from d.edges j) × (to c.edges j ≡ to d.edges j) × (weight c.edges j ≡ weight d.edges j) × (edge_reward c.edges j ≡ edge_reward d.edges j)
  edge j h = edge_one _ _ _ _ _ _ _ _ (tab_one [] (edge_count c.edges) (edge_count d.edges) _ _ count_one (tail-eq_of_cons-eq back) j h)

  goals_one : c.goals ≡ d.goals
  goals_one =
      sym (bits_number c.states c.goals p.goals)
      ∙ sum_ext _ _ c.states (λ i h. ap (λ z. z * 2 ^ i) (bit_one c.goals d.goals i (state i h).3))
      ∙ bits_number c.states d.goals (rw states_one q.goals)

  denominators_one : c.denominators ≡ d.denominators
  denominators_one =
      ext_get_or 0 _ _ (denominators_length p ∙ states_one ∙ sym (denominators_length q)) (λ i h. (state i (omega (arith, denominators_length p))).1)

  pub rewards_one : l.rewards ≡ m.rewards
  rewards_one =
      ext_get_or 0 _ _ (rewards_length p ∙ states_one ∙ sym (rewards_length q)) (λ i h. (state i (omega (arith, rewards_length p))).2)

  pub orders_one : l.order ≡ m.order
  orders_one = order_one l.order m.order (head-eq_of_cons-eq back)

  pub chain_one : l.chain ≡ m.chain
  chain_one =
      λ i. record {
        states = states_one i;
        start = start_one i;
        goals = goals_one i;
        denominators = denominators_one i;
        edges = edges_one c.edges d.edges _ (edges_length p) (edges_length q ∙ ap (λ z. edge_size * z) (sym count_one)) edge i;
      }
