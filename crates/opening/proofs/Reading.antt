-- From what the reader answers of four tables to what is answered of a flat one.
use Prim.Native.Nat.{ℕ, ◌+◌, ◌*◌, ◌-◌, ◌≤◌}
use mathlib.Core.Path.{◌≡◌, sym, ap, subst, ◌∙◌}
use mathlib.Core.List.{List, [], ◌++◌, append-nil}
use native.Mathlib.Omega.{arith}
use lib.ListN.{length, take, drop, replicate, length-append, length-replicate, length-drop, take-append-drop}
use lib.Seq.{take_at, drop_at, drop-drop, drop-length, take_all, take-append-le, drop-append-le, length-take-le}
use Rattle.meaning.specs.Number.{tab_from, filled}
use Rattle.meaning.specs.Chain.{most_states}
use Rattle.meaning.specs.Block.{Input, head_states, head_edges, denominator_in, reward_in, order_in}
use Rattle.meaning.specs.File.{denominators_in, rewards_in, orders_in, edges_in, Tables, Reading as Numbers}
use Rattle.theory.specs.Files.FileOne.{file_numbers}
use Rattle.theory.specs.Files.Right.{bounded}
use Rattle.theory.specs.Numbers.Tab.{tab_length}
use Rattle.chain.specs.declared.Chain.{Chain}
use Rattle.chain.specs.declared.refusal.Refusal.{Refusal}
use Rattle.chain.proofs.Faults.{above_0}
use Rattle.chainfile.specs.Tells.{Narrow, ShortFor, OpenOutcome, told, tables}
use Rattle.chainfile.specs.declared.Book.{Book}
use Rattle.opening.specs.Sizes.{edges_at}
use Rattle.opening.specs.Split.{states_part, split, stored}
use Rattle.opening.specs.Opened.{OpeningOutcome}
use Rattle.std.proofs.Common.{Ok, Err}
use Rattle.opening.proofs.Placing.{part_length}

-- A list stands at the front of the table that it fills.
pub at : (l t after : List ℕ) {m : ℕ} → m ≡ length l → after ≡ filled l t → (m ≤ length after) × (take m after ≡ l)
at l t after {m} h e = (
  omega (arith, ap length e ∙ length-append l (drop (length l) t)),
  ap (take m) e ∙ take_at l (drop (length l) t) m (sym h),
)

-- The tables that are made for the states, and the part of the flat table for the edges.
abbrev lent_edges : List ℕ → List ℕ
lent_edges table = take (length table - edges_at) (drop edges_at table)

abbrev made : List ℕ → Tables
made table = tables (replicate most_states 0) (lent_edges table) (replicate most_states 0) (replicate most_states 0)

-- The flat table where that part is back.
abbrev pub back : List ℕ → List ℕ → List ℕ
back table edges = take edges_at table ++ (edges ++ drop (length table - edges_at) (drop edges_at table))

-- The tables for the states have room for a chain's.
pub record Room (c : Chain) (t : Tables) : Type 0 where
  pub few : c.states ≤ most_states
  pub denominators : c.states ≤ length t.denominators
  pub order : c.states ≤ length t.order
  pub rewards : c.states ≤ length t.rewards

module _ (f : Input) (table : List ℕ) (room : edges_at ≤ length table) where
  all_lent : lent_edges table ≡ drop edges_at table
  all_lent = take_all (length table - edges_at) (drop edges_at table) (omega (arith, length-drop edges_at table))

  front : length (take edges_at table) ≡ edges_at
  front = length-take-le edges_at table room

  -- A part before the edges.
  part_front : (from : ℕ) (z : List ℕ) → from + most_states ≤ edges_at → states_part from (take edges_at table ++ z) ≡ states_part from (take edges_at table)
  part_front from z h =
      ap (take most_states) (drop-append-le from (take edges_at table) z (omega (arith, front)))
      ∙ take-append-le most_states (drop from (take edges_at table)) z (omega (arith, front, length-drop from (take edges_at table)))

  part_kept : (from : ℕ) (z : List ℕ) → from + most_states ≤ edges_at → states_part from (take edges_at table ++ z) ≡ states_part from table
  part_kept from z h =
      part_front from z h ∙ sym (part_front from (drop edges_at table) h) ∙ ap (states_part from) (take-append-drop edges_at table)

  edges_back : (edges : List ℕ) → drop edges_at (back table edges) ≡ edges
  edges_back edges =
      let n = length table - edges_at in
      let e : edges_at + n ≡ length table = omega arith in
      let none : drop n (drop edges_at table) ≡ [] = drop-drop n edges_at table ∙ ap (λ k. drop k table) e ∙ drop-length table in
      drop_at (take edges_at table) _ edges_at front ∙ ap (λ z. edges ++ z) none ∙ append-nil edges

  -- All but the edges is as it was.
  pub split_back : (edges : List ℕ) → split (back table edges) ≡ tables (split table).denominators edges (split table).order (split table).rewards
  split_back edges =
      let d = part_kept 0 (edges ++ drop (length table - edges_at) (drop edges_at table)) (omega arith) in
      let o = part_kept most_states (edges ++ drop (length table - edges_at) (drop edges_at table)) (omega arith) in
      let r = part_kept (2 * most_states) (edges ++ drop (length table - edges_at) (drop edges_at table)) (omega arith) in
      let e = edges_back edges in
      λ i. tables (d i) (e i) (o i) (r i)

  -- The flat table where the edges are back still has all that stands before them.
  pub back_long : (edges : List ℕ) → edges_at ≤ length (back table edges)
  back_long edges = omega (arith, front, length-append (take edges_at table) (edges ++ drop (length table - edges_at) (drop edges_at table)))

  -- The parts are as long as the tables that are made.
  states_long : (from : ℕ) → from + most_states ≤ edges_at → length (replicate {A = ℕ} most_states 0) ≡ length (states_part from table)
  states_long from h = length-replicate {A = ℕ} most_states 0 ∙ sym (part_length from table (omega arith))

  narrow_is : Narrow f (made table) ≡ Narrow f (split table)
  narrow_is =
      let d = states_long 0 (omega arith) in
      let o = states_long most_states (omega arith) in
      let r = states_long (2 * most_states) (omega arith) in
      let e = ap length all_lent in
      λ i. ShortFor (head_states f) (head_edges f) (d i) (e i) (o i) (r i)

  same : {after : Tables} → after ≡ made table → split (back table after.edges) ≡ split table
  same {after} d =
      let e = ap (λ (t : Tables). t.edges) d ∙ all_lent in
      split_back after.edges ∙ (λ i. tables (split table).denominators (e i) (split table).order (split table).rewards)

  -- A refusal of the reader is one of the opening.
  pub refused_read : {x : Refusal} {after : Tables} → OpenOutcome f (made table) (told (Err x)) after → OpeningOutcome f table (Err x) (back table after.edges)
  refused_read (OpenOutcome.refused n p w e d) = OpeningOutcome.read room (OpenOutcome.refused n p w e (same d))
  refused_read (OpenOutcome.narrow w s e d) = OpeningOutcome.read room (OpenOutcome.narrow w (subst (λ A. A) narrow_is s) e (same d))
  refused_read {x} (OpenOutcome.accepted w s e d) = absurd (omega (arith, ap (λ (a : Numbers). a.number) e, above_0 x.fault))

  -- The numbers of the states are put where they belong.
  pub chain_read : {b : Book} {after : Tables} {stored_in : List ℕ} → let n = b.chain.states in
      OpenOutcome f (made table) (told (Ok b)) after
      → split stored_in ≡ stored (take n after.denominators) (take n after.order) (take n after.rewards) (split (back table after.edges))
      → OpeningOutcome f table (Ok b) stored_in
  chain_read (OpenOutcome.refused n p w e d) s = absurd (omega (arith, ap (λ (a : Numbers). a.number) e, file_numbers w))
  chain_read (OpenOutcome.narrow w n e d) s = absurd (omega (arith, ap (λ (a : Numbers). a.number) e))
  chain_read {b} {after} (OpenOutcome.accepted w n e d) s =
      let size : (g : ℕ → ℕ) → b.chain.states ≡ length (tab_from 0 (head_states f) g) = λ g. ap (λ (a : Numbers). a.states) e ∙ sym (tab_length 0 (head_states f) g) in
      let fd = (at (denominators_in f) _ _ (size (denominator_in f)) (ap (λ (t : Tables). t.denominators) d)).1 in
      let fo = (at (orders_in f) _ _ (size (order_in f)) (ap (λ (t : Tables). t.order) d)).1 in
      let fr = (at (rewards_in f) _ _ (size (reward_in f)) (ap (λ (t : Tables). t.rewards) d)).1 in
      let fe = ap (λ (t : Tables). t.edges) d ∙ ap (filled (edges_in f)) all_lent in
      let t = split_back after.edges in
      OpeningOutcome.read room
      (OpenOutcome.accepted w (λ h. n (subst (λ A. A) (sym narrow_is) h)) e
      (s ∙ (λ i. stored (fd i) (fo i) (fr i) (t i)) ∙ (λ i. tables (filled (denominators_in f) (split table).denominators) (fe i) (filled (orders_in f) (split table).order) (filled (rewards_in f) (split table).rewards))))

  -- The tables into which a chain was read have room for the numbers of its states.
  pub states_room : {b : Book} {after : Tables} → OpenOutcome f (made table) (told (Ok b)) after → Room b.chain after
  states_room (OpenOutcome.refused n p w e d) = absurd (omega (arith, ap (λ (a : Numbers). a.number) e, file_numbers w))
  states_room (OpenOutcome.narrow w n e d) = absurd (omega (arith, ap (λ (a : Numbers). a.number) e))
  states_room {b} {after} (OpenOutcome.accepted w n e d) =
      let few : b.chain.states ≡ head_states f = ap (λ (a : Numbers). a.states) e in
      let most = bounded f (w.blocks 0 (omega arith)) in
      let size : (g : ℕ → ℕ) → b.chain.states ≡ length (tab_from 0 (head_states f) g) = λ g. few ∙ sym (tab_length 0 (head_states f) g) in
      record {
        few = omega arith;
        denominators = (at (denominators_in f) _ _ (size (denominator_in f)) (ap (λ (t : Tables). t.denominators) d)).0;
        order = (at (orders_in f) _ _ (size (order_in f)) (ap (λ (t : Tables). t.order) d)).0;
        rewards = (at (rewards_in f) _ _ (size (reward_in f)) (ap (λ (t : Tables). t.rewards) d)).0;
      }
