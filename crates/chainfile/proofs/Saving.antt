-- What is left of a file, block by block and edge by edge: the verdicts so far, and the kept edges so far.
use Prim.Native.Nat.{ℕ, zero, suc, ◌+◌, ◌*◌, ◌/◌, ◌%◌, ◌≤◌, ◌<◌}
use mathlib.Core.Path.{◌≡◌, refl, sym, ap, subst, ◌∙◌}
use mathlib.Core.Logic.{◌⊎◌, inl, inr, ⊎_elim}
use mathlib.Core.Bool.{true, false}
use mathlib.Core.List.{List}
use native.Mathlib.Omega.{arith}
use native.Mathlib.Numerals.{add-one}
use lib.ListN.{length, get_or, set, replicate, length-set, length-replicate}
use lib.Seq.{get_or-set_same, get_or-set_other}
use Rattle.meaning.specs.Number.{sum_to, only, tab_from, filled}
use Rattle.meaning.specs.Chain.{edge_size, edge, edge_number, from, to, weight, edge_reward}
use Rattle.meaning.specs.Block.{Input, state_blocks, demanded, head_edges}
use Rattle.meaning.specs.File.{most_blocks, denominators_in, rewards_in, orders_in, edge_in, Tables, filled_in}
use Rattle.meaning.specs.Salvage.{edge_kept, kept_edges, kept_before, left_tables, verdict}
use Rattle.theory.specs.Numbers.Sum.{last_or_below, sum_next}
use Rattle.theory.specs.Numbers.Tab.{tab_of, get_d_zeros}
use Rattle.theory.specs.Chains.Picked.{picked_edges, picked_at, picked_small}
use Rattle.theory.specs.Files.Opened.{kept_all}
use Rattle.chain.specs.Edge.{placed}
use Rattle.chainfile.specs.Input.{input}
use Rattle.chainfile.specs.Tells.{LostBy, Verdicts, EdgeSet}
use Rattle.theory.specs.Numbers.Walk.{Walked, walk_none, walk_filled}
use Rattle.chainfile.proofs.Filling.{more_edge}

-- The verdicts on the blocks before b.
pub record Looked (kept : List ℕ) (b : ℕ) (lost : List ℕ) : Type 0 where
  pub after : state_blocks (input kept 0) < b
  pub size : length lost ≡ most_blocks
  pub edges : (a : ℕ) → state_blocks (input kept 0) < a → a < b → (more : ℕ) → LostBy (input kept more) a (verdict lost a)
  pub others : (a : ℕ) → (a ≤ state_blocks (input kept 0)) ⊎ (b ≤ a) → verdict lost a ≡ 0

module _ {kept : List ℕ} where
  pub none_looked : (b : ℕ) → b ≡ 1 + state_blocks (input kept 0) → Looked kept b (replicate most_blocks 0)
  none_looked b e =
      record {
        after = omega arith;
        size = length-replicate {A = ℕ} most_blocks 0;
        edges = λ a h l. absurd (omega arith);
        others = λ a h. get_d_zeros most_blocks a;
      }

  pub more_looked : {b : ℕ} {lost : List ℕ} {number : ℕ} → Looked kept b lost → b < most_blocks → ((more : ℕ) → LostBy (input kept more) b number)
      → Looked kept (b + 1) (set lost b number)
  more_looked {b} {lost} {number} w h new =
      record {
        after = omega (arith, w.after);
        size = length-set lost b number ∙ w.size;
        edges = λ a l m more.
            last_or_below {j = a} {n = b} (omega arith)
            (λ (e : a ≡ b). rw (e, get_or-set_same lost b number 0 (omega (arith, w.size))) (new more))
            (λ (k : a < b). rw (get_or-set_other lost b a number 0 (λ e. omega arith)) (w.edges a l k more));
        others = λ a o.
            get_or-set_other lost b a number 0 (λ e. ⊎_elim (λ l. omega (arith, w.after)) (λ l. omega arith) o)
            ∙ w.others a (⊎_elim (λ l. inl l) (λ l. inr (omega arith)) o);
      }

  pub all_looked : {b : ℕ} {lost : List ℕ} → Looked kept b lost → b ≡ demanded (input kept 0) → (more : ℕ) → Verdicts (input kept more) lost
  all_looked {b} {lost} w e more =
      record {
        size = w.size;
        edges = λ a l h. w.edges a l (omega arith) more;
        others = λ a o. w.others a (⊎_elim (λ l. inl l) (λ l. inr (omega arith)) o);
      }

-- Edge k of a list, and the list from its edges.
abbrev edge_of : List ℕ → ℕ → List ℕ
edge_of l k = edge (from l k) (to l k) (weight l k) (edge_reward l k)

edge_of_lem : (l : List ℕ) (k r : ℕ) → r < edge_size → get_or (edge_of l k) r 0 ≡ get_or l (edge_size * k + r) 0
edge_of_lem l k zero h = ap (λ z. get_or l z 0) (omega arith)
edge_of_lem l k (suc zero) h = refl
edge_of_lem l k (suc (suc zero)) h = refl
edge_of_lem l k (suc (suc (suc zero))) h = refl
edge_of_lem l k (suc (suc (suc (suc r)))) h = absurd (omega arith)

edges_of_lem : (l : List ℕ) (n : ℕ) → length l ≡ edge_size * n → l ≡ tab_from 0 (edge_size * n) (edge_number (edge_of l))
edges_of_lem l n e =
    tab_of 0 (edge_size * n) (edge_number (edge_of l)) l e
    (λ j h. let q : j ≡ edge_size * (j / edge_size) + j % edge_size = omega arith in
    ap (λ z. get_or l z 0) q ∙ sym (edge_of_lem l (j / edge_size) (j % edge_size) (omega arith)))

-- The kept ones of the first e edges are set, k of them.
pub record KeptTo (f : Input) (v : ℕ → ℕ) (before : List ℕ) (e k : ℕ) (table : List ℕ) : Type 0 where
  pub upto : e ≤ head_edges f
  pub is : k ≡ kept_before f v e
  pub set : Walked (edge_number (edge_of (kept_edges f v (head_edges f)))) before (edge_size * k) table

module _ (f : Input) (lost before : List ℕ) where
  abbrev v : ℕ → ℕ
  v = verdict lost

  abbrev left : List ℕ
  left = kept_edges f v (head_edges f)

  left_edges : length left ≡ edge_size * kept_before f v (head_edges f)
  left_edges = picked_edges (edge_kept f v) (edge_in f) (λ _. refl) (head_edges f)

  -- A kept edge is that of what is left at its place.
  kept_edge : (e : ℕ) → e < head_edges f → edge_kept f v e ≡ true → edge_of left (kept_before f v e) ≡ edge_in f e
  kept_edge e h q =
      let k = kept_before f v e in
      let at : (r : ℕ) → r < edge_size → get_or left (edge_size * k + r) 0 ≡ get_or (edge_in f e) r 0 =
      picked_at (edge_kept f v) (edge_in f) (λ _. refl) (head_edges f) e h q in
      let z : edge_size * k ≡ edge_size * k + 0 = omega arith in
      let a = ap (λ j. get_or left j 0) z ∙ at 0 (omega arith) in
      let b = at 1 (omega arith) in
      let c = at 2 (omega arith) in
      let d = at 3 (omega arith) in
      λ i. edge (a i) (b i) (c i) (d i)

  pub none_kept : KeptTo f v before 0 0 before
  unfolding sum_to
  none_kept = record { upto = omega arith; is = refl; set = walk_none }

  -- So many edges are kept of the first e + 1.
  kept_more : (e : ℕ) → edge_kept f v e ≡ true → kept_before f v (e + 1) ≡ kept_before f v e + 1
  kept_more e q = sum_next (λ d. only (edge_kept f v d) 1) e (e + 1) (add-one e) ∙ rw q refl

  kept_same : (e : ℕ) → edge_kept f v e ≡ false → kept_before f v (e + 1) ≡ kept_before f v e
  kept_same e q = sum_next (λ d. only (edge_kept f v d) 1) e (e + 1) (add-one e) ∙ rw q (omega arith)

  module _ (room : edge_size * head_edges f ≤ length before) where
    pub more_kept : {e k next : ℕ} {table after : List ℕ} → KeptTo f v before e k table → e < head_edges f → EdgeSet f lost e k table after next
        → KeptTo f v before (e + 1) next after
    more_kept {e} {k} {next} {table} {after} w h (EdgeSet.skipped q same stays) =
        record {
          upto = omega arith;
          is = stays ∙ w.is ∙ sym (kept_same e q);
          set = rw (stays, same) w.set;
        }
    more_kept {e} {k} {next} {table} {after} w h (EdgeSet.set q sets goes) =
        let here : edge_of left k ≡ edge_in f e = ap (edge_of left) w.is ∙ kept_edge e h q in
        let place : placed table k (edge_of left k) ≡ after = ap (placed table k) here ∙ sym sets in
        record {
          upto = omega arith;
          is = goes ∙ ap (λ z. z + 1) w.is ∙ sym (kept_more e q);
          set =
              rw goes
              (subst (Walked (edge_number (edge_of left)) before (edge_size * (k + 1))) place
              (more_edge (edge_of left) k w.set (omega (arith, w.is, picked_small (edge_kept f v) e))));
        }

    pub all_kept : {e k : ℕ} {table : List ℕ} → KeptTo f v before e k table → e ≡ head_edges f
        → (table ≡ filled left before) × (k ≡ kept_before f v (head_edges f))
    all_kept {e} {k} {table} w end =
        let count : k ≡ kept_before f v (head_edges f) = w.is ∙ ap (kept_before f v) end in
        let small = picked_small (edge_kept f v) (head_edges f) in (
          walk_filled w.set (edge_size * kept_before f v (head_edges f)) (omega arith)
              ∙ ap (λ z. filled z before) (sym (edges_of_lem left (kept_before f v (head_edges f)) left_edges)),
          count,
        )

-- Where nothing is lost, what is left is the file's own.
pub nothing_lost : (f : Input) (t : Tables) → left_tables f (verdict (replicate 0 0)) t ≡ filled_in f t
nothing_lost f t =
    let e = kept_all f (verdict (replicate 0 0)) (get_d_zeros 0) in
    λ i.
    record {
      denominators = filled (denominators_in f) t.denominators;
      edges = filled (e i) t.edges;
      order = filled (orders_in f) t.order;
      rewards = filled (rewards_in f) t.rewards;
    }
