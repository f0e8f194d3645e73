-- What is opened is what the file holds.
use Prim.Native.Nat.{ℕ, ◌*◌, ◌≤◌}
use mathlib.Core.Path.{◌≡◌, sym, ap, subst, ◌∙◌}
use mathlib.Core.Logic.{⊎_elim}
use mathlib.Core.Bool.{Bool, true, false}
use mathlib.Core.List.{List, []}
use native.Mathlib.Omega.{arith}
use lib.ListN.{length, take, drop, replicate, length-replicate, length-drop, length-take}
use lib.Seq.{take-take}
use lib.Dec.{ltb}
use borrow.Author.Tests.{le-ltb}
use Rattle.meaning.specs.Number.{choose, decides, tab_from}
use Rattle.meaning.specs.Chain.{most_states, edge_size, edge_count, edge_number}
use Rattle.meaning.specs.Refusal.{work_size, own_work}
use Rattle.meaning.specs.Block.{Input, input_length, block_size, demanded, head_states, head_edges, denominator_in, reward_in, order_in}
use Rattle.meaning.specs.File.{FileRefused, Accepted, denominators_in, rewards_in, orders_in, edge_in, edges_in, Tables, Reading as Numbers, reading}
use Rattle.theory.specs.Files.FileOne.{file_numbers}
use Rattle.theory.specs.Files.Right.{stable, bounded}
use Rattle.theory.specs.Numbers.Tab.{tab_length}
use Rattle.theory.specs.Numbers.Decide.{fails}
use Rattle.chain.specs.Lent.{lent}
use Rattle.chainfile.specs.Tells.{Narrow, OpenOutcome, told}
use Rattle.opening.specs.Sizes.{edges_at, largest_table, small_table, Long, Fits}
use Rattle.opening.specs.Book.{denominators_of, order_of, rewards_of, edges_of, Holds, Held, Opened}
use Rattle.opening.specs.Split.{states_part, split}
use Rattle.std.proofs.Common.{Result, Ok, Err}
use Rattle.chain.specs.Refusal.{number_of}
use Rattle.chain.specs.declared.refusal.Refusal.{Refusal}
use Rattle.chain.proofs.Faults.{above_0}
use Rattle.opening.specs.Opened.{OpeningOutcome, short, read}
use Rattle.opening.specs.declared.book.Opened.{Opened as Parts}
use Rattle.opening.specs.Asked.{Shown}
use Rattle.chainfile.specs.declared.Book.{Book}
use Rattle.opening.proofs.Placing.{part_length}
use Rattle.opening.proofs.Reading.{at}

-- The two tables that are made fit: the largest any file, the small one a file that is not long. Such a file has a head, a block of states or more,
-- and so six of edges at most.
pub largest : (f : Input) → Fits f (length (replicate {A = ℕ} largest_table 0))
largest f =
    let size = length-replicate {A = ℕ} largest_table 0 in
    record { states = omega arith; edges = λ w. omega (arith, bounded f (w.blocks 0 (omega arith))) }

pub small : (f : Input) → (Long f → ⊥) → Fits f (length (replicate {A = ℕ} small_table 0))
small f h =
    let size = length-replicate {A = ℕ} small_table 0 in
    record {
      states = omega arith;
      edges =
          λ w.
          let total : input_length f ≡ block_size * demanded f = stable _ _ w.total in
          omega (arith, total, bounded f (w.blocks 0 (omega arith)));
    }

module _ (f : Input) (before after : List ℕ) (r : Result Book Refusal) (fits : Fits f (length before)) where
  room : Accepted f → Narrow f (split before) → ⊥
  room w s =
      let few = bounded f (w.blocks 0 (omega arith)) in
      let e = fits.edges w in
      let d = part_length 0 before (omega (arith, fits.states)) in
      let o = part_length most_states before (omega (arith, fits.states)) in
      let w' = part_length (2 * most_states) before (omega (arith, fits.states)) in
      ⊎_elim (λ h. omega arith) (⊎_elim (λ h. omega (arith, length-drop edges_at before)) (⊎_elim (λ h. omega arith) (λ h. omega arith))) s

  refused : {x : Refusal} → OpenOutcome f (split before) (told r) (split after) → r ≡ Err x → FileRefused f (number_of x.fault) x.place
  refused (OpenOutcome.narrow w s e d) q = absurd (room w s)
  refused {x} (OpenOutcome.refused n p w e d) q =
      let z = sym (ap told q) ∙ e in
      subst (λ n. FileRefused f n x.place) (sym (ap (λ (a : Numbers). a.number) z))
      (subst (λ p. FileRefused f n p) (sym (ap (λ (a : Numbers). a.place) z)) w)
  refused {x} (OpenOutcome.accepted w s e d) q =
      absurd (omega (arith, ap (λ (a : Numbers). a.number) (sym (ap told q) ∙ e), above_0 x.fault))

  held : {b : Book} → OpenOutcome f (split before) (told r) (split after) → r ≡ Ok b → Held f b after
  held (OpenOutcome.narrow w s e d) q = absurd (room w s)
  held (OpenOutcome.refused n p w e d) q = absurd (omega (arith, ap (λ (a : Numbers). a.number) (sym (ap told q) ∙ e), file_numbers w))
  held {b} (OpenOutcome.accepted w s e d) q =
      let z : told (Ok b) ≡ reading f = sym (ap told q) ∙ e in
      let sn : b.chain.states ≡ head_states f = ap (λ (a : Numbers). a.states) z in
      let en : b.edges ≡ head_edges f = ap (λ (a : Numbers). a.edges) z in
      let few = bounded f (w.blocks 0 (omega arith)) in
      let size : (g : ℕ → ℕ) → b.chain.states ≡ length (tab_from 0 (head_states f) g) = λ g. sn ∙ sym (tab_length 0 (head_states f) g) in
      let part : (from : ℕ) → take b.chain.states (drop from after) ≡ take b.chain.states (states_part from after) =
      λ from. sym (take-take b.chain.states most_states (drop from after) (omega arith)) in
      let fd = part 0 ∙ (at (denominators_in f) _ _ (size (denominator_in f)) (ap (λ (t : Tables). t.denominators) d)).1 in
      let fe = at (edges_in f) _ _ (ap (λ k. edge_size * k) en ∙ sym (tab_length 0 (edge_size * head_edges f) (edge_number (edge_in f)))) (ap (λ (t : Tables). t.edges) d) in
      let long = fe.0 in
      let there : ltb (edge_count (drop edges_at after)) b.edges ≡ false = le-ltb (edge_count (drop edges_at after)) b.edges (omega (arith, long)) in
      let edges : edges_of b after ≡ edges_in f = ap (λ t. choose t [] (take (edge_size * b.edges) (drop edges_at after))) there ∙ fe.1 in
      let fo = part most_states ∙ (at (orders_in f) _ _ (size (order_in f)) (ap (λ (t : Tables). t.order) d)).1 in
      let fr = part (2 * most_states) ∙ (at (rewards_in f) _ _ (size (reward_in f)) (ap (λ (t : Tables). t.rewards) d)).1 in
      record {
        few_states = omega arith;
        few_edges = omega arith;
        count = en;
        holds =
            record {
              accepted = w;
              paid =
                  λ i.
                  record {
                    chain =
                        record {
                          states = sn i;
                          start = ap (λ (a : Numbers). a.start) z i;
                          goals = ap (λ (a : Numbers). a.goals) z i;
                          denominators = fd i;
                          edges = edges i;
                        };
                    order = fo i;
                    rewards = fr i;
                    work = replicate (work_size most_states) 0;
                    list = 0;
                  };
            };
      }

pub opened : {f : Input} {before after : List ℕ} {r : Result Book Refusal} → Fits f (length before) → OpeningOutcome f before r after → Opened f r after
opened fits (short h e d) = absurd (omega (arith, fits.states))
opened {f} {before} {after} {r} fits (read h o) = record { refused = refused f before after r fits o; held = held f before after r fits o }

-- The tables that a question makes, of zeros.
pub largest_opened : {f : Input} {after : List ℕ} {r : Result Book Refusal} → OpeningOutcome f (replicate largest_table 0) r after → Opened f r after
largest_opened {f} o = opened (largest f) o

pub small_opened : {f : Input} {b : Bool} {after : List ℕ} {r : Result Book Refusal} → decides (Long f) b → b ≡ false → OpeningOutcome f (replicate small_table 0) r after
    → Opened f r after
small_opened {f} d e o = opened (small f (fails (Long f) d e)) o

-- The parts that are taken of a table are what the file holds.
pub taken : {f : Input} {b : Book} {table denominators edges order rewards : List ℕ} → Held f b table → denominators ≡ denominators_of b table
    → edges ≡ edges_of b table → order ≡ order_of b table → rewards ≡ rewards_of b table → Holds f b.chain denominators edges order rewards
taken {b = b} h d e o r =
    record {
      accepted = h.holds.accepted;
      paid = (λ i. own_work (lent b.chain (d i) (e i) [] [] []).chain (o i) (r i)) ∙ h.holds.paid;
    }

-- The edges are no more than the book says.
few_edges_of : (b : Book) (table : List ℕ) → edge_count (edges_of b table) ≤ b.edges
few_edges_of b table = go (ltb (edge_count (drop edges_at table)) b.edges)
  where
    go : (t : Bool) → edge_count (choose t [] (take (edge_size * b.edges) (drop edges_at table))) ≤ b.edges
    go true = omega arith
    go false = omega (arith, length-take (edge_size * b.edges) (drop edges_at table))

-- The parts of an opened file are shown.
pub shown : {f : Input} {b : Book} {table : List ℕ} (p : Parts) → Held f b table → p.given.chain ≡ b.chain → p.given.denominators.now ≡ denominators_of b table
    → p.given.edges.now ≡ edges_of b table → p.order.now ≡ order_of b table → p.rewards.now ≡ rewards_of b table → Shown f p
shown {f} {b} {table} p h c d e o r =
    let few : edge_count p.given.edges.now ≤ b.edges = rw e (few_edges_of b table) in
    record {
      few_states = rw c h.few_states;
      few_edges = omega (arith, h.few_edges);
      holds = rw c (taken h d e o r);
    }
