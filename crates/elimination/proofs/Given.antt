-- The rows that are gathered along the edges are those that the chain gives.
use mathlib.Core.Path.{◌≡◌, refl, sym, ◌∙◌}
use mathlib.Core.Logic.{⊎_elim}
use mathlib.Core.Bool.{false}
use mathlib.Core.List.{List, []}
use Prim.Native.Nat.{ℕ, ◌+◌, ◌<◌}
use native.Mathlib.Omega.{arith}
use lib.Dec.{eqb}
use lib.ListN.{get_or, set, length-set}
use lib.Seq.{ext_get_or, get_or-set_same, get_or-set_other}
use borrow.Author.Tests.{eq-eqb, ne_eqb}
use Rattle.meaning.specs.Number.{sum_to, bit, choose}
use Rattle.meaning.specs.Chain.{Chain, edge_count, carried, flow, End}
use Rattle.meaning.specs.Row.{cell, rounding}
use Rattle.meaning.specs.Step.{Sets, RightTo, given, no_row}
use Rattle.meaning.specs.Near.{near_first}
use Rattle.meaning.specs.Refusal.{Lent, plain, WellFormed}
use Rattle.theory.specs.Numbers.Sum.{same, sum_ext}
use Rattle.theory.specs.Numbers.Tab.{tab_at}
use Rattle.theory.specs.Outcomes.Formed.{room}
use Rattle.theory.specs.Stages.Given.{LiveRow}
use Rattle.elimination.specs.Table.{part_at}
use Rattle.elimination.specs.Gather.{share, Held, Gatherable}
use Rattle.elimination.specs.First.{Makeable}
use Rattle.elimination.specs.Laying.{Lies}
use Rattle.elimination.proofs.Rows.{apart}
use Rattle.elimination.proofs.Cells.{share_live}
use Rattle.elimination.proofs.Missing.{completed_whole}
use Rattle.elimination.proofs.FirstRows.{flow_past, live_row, dead_row, makeable_gatherable, first_given}

-- A number that is put where it stands already.
set_same : (l : List ℕ) (j x : ℕ) → get_or l j 0 ≡ x → set l j x ≡ l
set_same l j x e =
    ext_get_or 0 (set l j x) l (length-set l j x)
    (λ q h.
    ⊎_elim (λ (z : q ≡ j). rw z (get_or-set_same l j x 0 (omega (arith, length-set l j x)) ∙ sym e)) (λ (z : q ≡ j → ⊥). get_or-set_other l j q x 0 z) (same q j))

module _ (c : Chain) (k : Sets) (work : List ℕ) (a : Makeable rounding false false c k [] work) where
  abbrev n : ℕ
  n = c.states

  abbrev gathered : ℕ → ℕ → ℕ
  gathered i j = sum_to (share n k c.edges i j) (edge_count c.edges)

  module _ {v : List ℕ} (z : Held n gathered work v) where
    -- No edge earns anything here.
    no_reward : (i : ℕ) → LiveRow c k i → cell (part_at n v i) (n + 3) ≡ 0
    unfolding flow
    no_reward i q =
        z.cells i (n + 3) q.0 (omega arith)
        ∙ sum_ext (share n k c.edges i (n + 3)) (carried c.edges i _) (edge_count c.edges) (λ e _. share_live n k c.edges e i (n + 3) q.1)
        ∙ flow_past c k rounding false false [] work a i q (n + 3) (omega arith)

    row_given : (i : ℕ) → i < n → part_at n v i ≡ choose (eqb (bit k.live i) 1) (given c k (λ _. 0) 0 i) (no_row n)
    row_given i h =
        let whole = completed_whole c k.live false v refl in
        ⊎_elim
        (λ (l : bit k.live i ≡ 1).
        rw (eq-eqb (bit k.live i) 1 l)
        (sym (set_same (part_at n v i) (n + 3) 0 (no_reward i (h, l)))
        ∙ live_row c k rounding false false [] work a z whole [] (λ _ _. refl) i (h, l)))
        (λ (d : bit k.live i ≡ 1 → ⊥).
        rw (ne_eqb (bit k.live i) 1 d) (dead_row c k rounding false false [] work a z whole [] (λ _ _. refl) i h d))
        (same (bit k.live i) 1)

    pub given_lies : Lies n (near_first c k) work v
    unfolding near_first
    given_lies = record { kept = z.kept; rows = λ i h. row_given i h ∙ sym (tab_at n _ [] i h) }

-- What a well-formed input gives.
module _ (l : Lent) (k : Sets) (formed : WellFormed plain l) (right : RightTo l.chain (End false l.chain) k) where
  made : Makeable rounding false false l.chain k [] l.work
  made =
      let m = first_given rounding plain l k formed (room plain l formed) (λ _. refl) right in
      record {
        few = m.few;
        room = m.room;
        fine = m.fine;
        sources = m.sources;
        small = m.small;
        start = m.start;
        right = m.right;
        goal = m.goal;
        paid = λ e. absurd (apart e);
        unpaid = λ _. refl;
      }

  pub lay_gatherable : Gatherable l.chain.states l.chain.edges l.work
  lay_gatherable = makeable_gatherable l.chain k rounding false false [] l.work made

  pub lay_given : {v : List ℕ} → let n = l.chain.states in
      Held n (λ i j. sum_to (share n k l.chain.edges i j) (edge_count l.chain.edges)) l.work v → Lies n (near_first l.chain k) l.work v
  lay_given z = given_lies l.chain k l.work made z
