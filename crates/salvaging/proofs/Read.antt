-- What the salvaging reader's answer tells of a file: its front is refused, or what is left of it is that of the answer.
use Prim.Native.Nat.{ℕ, ◌*◌, ◌≤◌}
use mathlib.Core.Path.{◌≡◌, refl, sym, ap, subst, ◌∙◌}
use mathlib.Core.Logic.{⊎_elim}
use mathlib.Core.List.{List, []}
use native.Mathlib.Omega.{arith}
use lib.ListN.{length, take, replicate, length-replicate}
use Rattle.std.proofs.Common.{Ok, Err}
use Rattle.meaning.specs.Number.{tab_from}
use Rattle.meaning.specs.Chain.{most_states, most_edges, edge_size}
use Rattle.meaning.specs.Refusal.{work_size, own_work}
use Rattle.meaning.specs.Block.{Input, head_states, head_start, head_edges, denominator_in, order_in}
use Rattle.meaning.specs.File.{most_blocks, Tables, Short, Reading as Numbers, Accepted, goals_in, denominators_in, orders_in, edge_in, plain_in}
use Rattle.meaning.specs.Salvage.{FrontRefused, Opened, left_in, Lost, edge_kept, kept_edges, kept_before, verdict, Salvage, salvage, SalvageOutcome}
use Rattle.theory.specs.Numbers.Sum.{same}
use Rattle.theory.specs.Numbers.Tab.{tab_length}
use Rattle.theory.specs.Chains.Picked.{picked_edges, picked_small}
use Rattle.theory.specs.Files.FileOne.{file_numbers}
use Rattle.theory.specs.Files.Right.{bounded}
use Rattle.theory.specs.Files.Opened.{front_file, opened_accepted, kept_all}
use Rattle.chain.specs.Refusal.{number_of}
use Rattle.chain.specs.declared.given.Given.{Given}
use Rattle.chain.specs.declared.refusal.Refusal.{Refusal}
use Rattle.chainfile.specs.Tells.{told, told_left, tables}
use Rattle.chainfile.specs.declared.Book.{Book}
use Rattle.chainfile.specs.declared.Left.{Left}
use Rattle.elimination.specs.Own.{ours}
use Rattle.opening.proofs.Reading.{at}
use Rattle.salvaging.specs.Holds.{Holds}

-- The tables hold what is left at their front.
pub record Taken (f : Input) (lost : List ℕ) (b : Book) (t : Tables) : Type 0 where
  pub few_edges : b.edges ≤ most_edges
  pub denominators : b.chain.states ≤ length t.denominators
  pub edges : edge_size * b.edges ≤ length t.edges
  pub order : b.chain.states ≤ length t.order
  pub size : length lost ≡ most_blocks
  pub opened : Opened f (verdict lost)
  pub lent : ours b.chain (take b.chain.states t.denominators) (take (edge_size * b.edges) t.edges) (take b.chain.states t.order) [] ≡ left_in f (verdict lost)

-- Tables that are made at the largest chain's size are not short.
pub room : Short (tables (replicate most_states 0) (replicate (edge_size * most_edges) 0) (replicate most_states 0) (replicate most_states 0)) → ⊥
room s =
    let states = length-replicate {A = ℕ} most_states 0 in
    let edges = length-replicate {A = ℕ} (edge_size * most_edges) 0 in
    ⊎_elim (λ h. omega arith) (⊎_elim (λ h. omega arith) (⊎_elim (λ h. omega arith) (λ h. omega arith))) s

-- What is read.
reads : {a b : Salvage} → a ≡ b → a.reading ≡ b.reading
reads e = ap (λ (a : Salvage). a.reading) e

module _ {f : Input} {t after : Tables} (room : Short t → ⊥) where
  pub front_refused : (x : Refusal) → SalvageOutcome f t (told_left (Err x)) after → FrontRefused f (number_of x.fault) x.place
  front_refused x (SalvageOutcome.short s e d) = absurd (room s)
  front_refused x (SalvageOutcome.refused s n p w e d) =
      let z = reads e in
      subst (λ n. FrontRefused f n x.place) (sym (ap (λ (a : Numbers). a.number) z))
      (subst (λ p. FrontRefused f n p) (sym (ap (λ (a : Numbers). a.place) z)) w)
  front_refused x (SalvageOutcome.opened s l h o e d) =
      absurd (omega (arith, ap (λ (a : Numbers). a.states) (reads e), (bounded f (o.front 0 (omega arith))).some_states))

  pub left_taken : {r : Left} → SalvageOutcome f t (told_left (Ok r)) after → Taken f r.lost r.book after
  left_taken (SalvageOutcome.short s e d) = absurd (room s)
  left_taken (SalvageOutcome.refused s n p w e d) =
      absurd (omega (arith, ap (λ (a : Numbers). a.number) (reads e), file_numbers (front_file w)))
  left_taken {r} (SalvageOutcome.opened s l h o e d) =
      let c = r.book.chain in
      let count = r.book.edges in
      let v = verdict l in
      let z : told (Ok r.book) ≡ (salvage f l).reading = reads e in
      let same : r.lost ≡ l = ap (λ (a : Salvage). a.lost) e in
      let sn : c.states ≡ head_states f = ap (λ (a : Numbers). a.states) z in
      let en : count ≡ kept_before f v (head_edges f) = ap (λ (a : Numbers). a.edges) z in
      let size : (g : ℕ → ℕ) → c.states ≡ length (tab_from 0 (head_states f) g) = λ g. sn ∙ sym (tab_length 0 (head_states f) g) in
      let fd = at (denominators_in f) _ _ (size (denominator_in f)) (ap (λ (t : Tables). t.denominators) d) in
      let fe =
      at (kept_edges f v (head_edges f)) _ _
      (ap (λ k. edge_size * k) en ∙ sym (picked_edges (edge_kept f v) (edge_in f) (λ _. refl) (head_edges f)))
      (ap (λ (t : Tables). t.edges) d) in
      let fo = at (orders_in f) _ _ (size (order_in f)) (ap (λ (t : Tables). t.order) d) in
      record {
        few_edges = omega (arith, picked_small (edge_kept f v) (head_edges f), (bounded f (o.front 0 (omega arith))).few_edges);
        denominators = fd.0;
        edges = fe.0;
        order = fo.0;
        size = rw same h;
        opened = rw same o;
        lent =
            rw same (λ i.
            record {
              chain =
                  record {
                    states = sn i;
                    start = ap (λ (a : Numbers). a.start) z i;
                    goals = ap (λ (a : Numbers). a.goals) z i;
                    denominators = fd.1 i;
                    edges = fe.1 i;
                  };
              order = fo.1 i;
              rewards = [];
              work = replicate (work_size most_states) 0;
              list = 0;
            });
      }

-- With nothing lost the file is accepted, and this is what an entry is lent of it.
module _ {f : Input} {lost order : List ℕ} {g : Given} (h : Holds f lost g order)
    (none : Lost (verdict lost) → ⊥) where
  kept_each : (b : ℕ) → verdict lost b ≡ 0
  kept_each b = ⊎_elim (λ z. z) (λ d. absurd (none (b, d))) (same (verdict lost b) 0)

  pub whole_accepted : Accepted f
  whole_accepted = opened_accepted h.opened none

  pub whole_lent : ours g.chain g.denominators.now g.edges.now order [] ≡ plain_in f
  whole_lent =
      h.lent
      ∙ ap
      (λ (edges : List ℕ).
      own_work (record { states = head_states f; start = head_start f; goals = goals_in f; denominators = denominators_in f; edges = edges }) (orders_in f) [])
      (kept_all f (verdict lost) kept_each)
