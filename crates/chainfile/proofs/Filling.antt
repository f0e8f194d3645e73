-- A table of edges that is filled from the front, and the numbers that go into the tables.
use Prim.Native.Nat.{ℕ, ◌+◌, ◌*◌, ◌/◌, ◌^◌, ◌≤◌, ◌<◌, min}
use mathlib.Core.Path.{◌≡◌, sym, ap, subst, ◌∙◌}
use mathlib.Core.Logic.{⊎_elim, inl, inr}
use mathlib.Core.Bool.{Bool}
use mathlib.Core.List.{List}
use native.Mathlib.Nat.{add-zero}
use native.Mathlib.Omega.{arith}
use lib.ListN.{length, get_or, get_or-eq_default}
use borrow.Author.Tests.{eq-eqb, ne_eqb, lt-ltb}
use Rattle.meaning.specs.Number.{decides, sum_to, tab_from, filled}
use Rattle.meaning.specs.Chain.{most_states, most_edges, edge_size, edge, edge_count, edge_number}
use Rattle.meaning.specs.Block.{Input, byte, number_at, record_size, head_states, head_edges, state_at, order_byte, edge_reward_byte, weight_byte}
use Rattle.meaning.specs.File.{Tables, Short, denominators_in, orders_in}
use Rattle.theory.specs.Numbers.Sum.{same, below, sum_ext}
use Rattle.theory.specs.Numbers.Tab.{tab_at, tab_past, tab_length, tab_ext}
use Rattle.theory.specs.Numbers.Walk.{Walked}
use Rattle.chain.specs.Edge.{placed}
use Rattle.chainfile.specs.Input.{input}
use Rattle.chainfile.specs.Tells.{Within, ShortIn, Narrow, edge_from}
use Rattle.octets.proofs.Cut.{cut, cut_from}

-- An edge more, in a table with room for it.
module _ (edges : ℕ → List ℕ) (e : ℕ) {before table : List ℕ} (w : Walked (edge_number edges) before (edge_size * e) table) where
  pub more_edge : edge_size * (e + 1) ≤ length before → Walked (edge_number edges) before (edge_size * (e + 1)) (placed table e (edges e))
  unfolding placed
  more_edge h =
      rw (lt-ltb e (edge_count table) (omega (arith, w.len)))
      (record {
        so_far = h;
        len = tab_length 0 (length table) _ ∙ w.len;
        new =
            λ j b.
            tab_at (length table) _ 0 j (omega (arith, w.len))
            ∙ ⊎_elim
            (λ (q : j / edge_size ≡ e). rw (eq-eqb (j / edge_size) e q, q))
            (λ (d : j / edge_size ≡ e → ⊥). rw (ne_eqb (j / edge_size) e d) (w.new j (omega arith)))
            (same (j / edge_size) e);
        old = λ j b.
            ⊎_elim
            (λ (l : j < length table).
            tab_at (length table) _ 0 j l ∙ rw (ne_eqb (j / edge_size) e (omega arith)) (w.old j (omega arith)))
            (λ (l : length table ≤ j). tab_past 0 (length table) _ 0 j l ∙ sym (get_or-eq_default before 0 (omega (arith, w.len))))
            (below j (length table));
      })

-- Tables that are not too short have room for so many states and edges.
pub record Room (states count : ℕ) (t : Tables) : Type 0 where
  pub for_denominators : states ≤ length t.denominators
  pub for_edges : edge_size * count ≤ length t.edges
  pub for_order : states ≤ length t.order
  pub for_rewards : states ≤ length t.rewards

pub room : (states count : ℕ) (t : Tables) → (ShortIn states count t → ⊥) → Room states count t
room states count t s =
    let d : length t.denominators < states → ⊥ = λ h. s (inl h) in
    let e : length t.edges < edge_size * count → ⊥ = λ h. s (inr (inl h)) in
    let o : length t.order < states → ⊥ = λ h. s (inr (inr (inl h))) in
    let r : length t.rewards < states → ⊥ = λ h. s (inr (inr (inr h))) in
    record { for_denominators = omega arith; for_edges = omega arith; for_order = omega arith; for_rewards = omega arith }

-- What decides it for the head's own counts decides whether the file's tables are too short.
pub narrow_for : (f : Input) (t : Tables) {states count : ℕ} (b : Bool) → states ≡ head_states f → count ≡ head_edges f
    → decides (ShortIn states count t) b → decides (Narrow f t) b
narrow_for f t {states} b p q d =
    subst (λ n. decides (ShortIn n (head_edges f) t) b) p (subst (λ k. decides (ShortIn states k t) b) q d)

-- Where the largest chain has room, every accepted front has.
pub wide : {f : Input} (t : Tables) → Within f → (Short t → ⊥) → Narrow f t → ⊥
wide t w s =
    let r = room most_states most_edges t s in
    ⊎_elim (λ h. omega (arith, r, w.few_states)) (⊎_elim (λ h. omega (arith, r, w.few_edges))
    (⊎_elim (λ h. omega (arith, r, w.few_states)) (λ h. omega (arith, r, w.few_states))))

one_byte : (f : Input) (j : ℕ) → number_at f j 1 ≡ byte f j
unfolding sum_to
one_byte f j = rw add-zero (omega arith)

-- A denominator begins its record, and an order's entry is one byte.
module _ (f : Input) (t : List ℕ) where
  pub denominators_are : filled (tab_from 0 (head_states f) (λ i. number_at f (state_at i + 0) 4)) t ≡ filled (denominators_in f) t
  denominators_are = ap (λ l. filled l t) (tab_ext (head_states f) _ _ (λ j _. ap (λ z. number_at f z 4) (add-zero (state_at j))))

  pub orders_are : filled (tab_from 0 (head_states f) (λ i. number_at f (state_at i + order_byte) 1)) t ≡ filled (orders_in f) t
  orders_are = ap (λ l. filled l t) (tab_ext (head_states f) _ _ (λ j _. one_byte f (state_at j + order_byte)))

-- The edge of a record that is cut out.
module _ (kept : List ℕ) (at : ℕ) {low e : ℕ} (begins : low ≡ min at (length kept)) (ends : e ≡ min (at + record_size) (length kept)) where
  record_number : (offset width : ℕ) → offset + width ≤ record_size
      → number_at (input (cut low e kept) 0) offset width ≡ number_at (input kept 0) (at + offset) width
  record_number offset width h =
      let place : (k : ℕ) → at + (offset + k) ≡ at + offset + k = λ k. omega arith in
      sum_ext _ _ width
      (λ k l. ap (λ z. z * 256 ^ k) (cut_from kept at record_size begins ends (offset + k) (omega arith) ∙ ap (λ z. get_or kept z 0) (place k)))

  pub cut_edge : edge_from (input (cut low e kept) 0) 0 ≡ edge_from (input kept 0) at
  cut_edge =
      let from = cut_from kept at record_size begins ends 0 (omega arith) ∙ ap (λ z. get_or kept z 0) (add-zero at) in
      let to = cut_from kept at record_size begins ends 1 (omega arith) in
      let weight = record_number weight_byte 4 (omega arith) in
      let reward = record_number edge_reward_byte 2 (omega arith) in
      λ i. edge (from i) (to i) (weight i) (reward i)
