-- The course of an elimination: from the first rows by way of the order to the start's row.
use Prim.Native.Nat.{ℕ, suc, ◌≤◌, ◌<◌}
use mathlib.Core.Path.{◌≡◌, refl, sym, ap, subst, ◌∙◌}
use mathlib.Core.Bool.{Bool, true, false}
use mathlib.Core.List.{List, [], ◌++◌}
use lib.ListN.{drop, replicate}
use borrow.Author.Tests.{lt-ltb, le-ltb}
use Rattle.meaning.specs.Number.{bit}
use Rattle.meaning.specs.Chain.{most_states, End, FromStart, LiveTo}
use Rattle.meaning.specs.Step.{Table, row, Sets, RightTo, goes, unknown, first, after}
use Rattle.meaning.specs.Row.{rounding}
use Rattle.meaning.specs.Steps.{records_along}
use Rattle.meaning.specs.Refusal.{Lent, work_size}
use Rattle.meaning.specs.Stop.{turn, Unfit, Stops, Stopped}
use Rattle.meaning.specs.Outcome.{cleared}
use Rattle.theory.specs.Rows.Settle.{one_engine}
use Rattle.theory.specs.Stages.Records.{records_none}
use Rattle.theory.specs.Outcomes.StepsStates.{none_goes}
use Rattle.elimination.specs.Log.{Logged}
use Rattle.elimination.specs.Table.{row_at, table_of, Kept}
use Rattle.elimination.specs.Turn.{Reached}
use Rattle.elimination.specs.Order.{UnstoppedWalk, walked, records_walked}
use Rattle.elimination.specs.Run.{ends, end_of, table_from, Read, lost, live, finished_in, records_run}
use Rattle.chain.specs.Refusal.{number_of}
use Rattle.chain.specs.declared.refusal.Fault.TheVariants.{NoFit}
use Rattle.chain.specs.declared.refusal.Refusal.{Refusal}
use Rattle.elimination.specs.declared.course.Ends.{Ends}
use Rattle.std.specs.Prelude.{Result, Ok, Err, ⊤}
use Rattle.elimination.proofs.Removal.{row_is}

-- A row of a table that was reached.
pub reached_row : {b : Bool} {n : ℕ} {t : Table} {w v : List ℕ} → Reached b n t w v → (i : ℕ) → i < n → row_at n v i ≡ row t i
reached_row {n = n} {v = v} z i h = sym (row_is n v i h) ∙ ap (λ (t : Table). row t i) z.same

-- Whatever ends the walk, the numbers past the table stay.
pub walk_kept : (b : Bool) (n : ℕ) (go : ℕ → Bool) (o v u : List ℕ) (r : Result ⊤ Refusal) → walked b n go o v u r → Kept n v u
walk_kept b n go o v u (Ok _) z = z.reached.kept
walk_kept b n go o v u (Err r) z = z.1.kept

-- What stops the elimination. Nothing does where rows may fall short, since they are rounded there.
module _ (pay : ℕ → ℕ) (b : Bool) (l : Lent) (k : Sets) where
  stopped_first : (short : Bool) → (short ≡ true → b ≡ rounding) → RightTo l.chain (End short l.chain) k
      → LiveTo l.chain (End short l.chain) l.chain.start → Unfit b l.chain.states (table_from pay short b l k 0) → Stopped pay b l 12 most_states
  stopped_first true rounds right alive u = one_engine b u.0 (rounds refl)
  stopped_first false rounds right alive u = record { sets = k; right = right; alive = alive; stops = Stops.before_steps u }

  stopped_in : (short : Bool) → (short ≡ true → b ≡ rounding) → RightTo l.chain (End short l.chain) k
      → LiveTo l.chain (End short l.chain) l.chain.start → (p : ℕ) → p < l.chain.states
      → UnstoppedWalk b l.chain.states (table_from pay short b l k) p → Unfit b l.chain.states (table_from pay short b l k (suc p))
      → Stopped pay b l 12 p
  stopped_in true rounds right alive p h c u = one_engine b u.0 (rounds refl)
  stopped_in false rounds right alive p h c u = record { sets = k; right = right; alive = alive; stops = Stops.in_step p h c u }

module _ (pay : ℕ → ℕ) (short b : Bool) (l : Lent) (k : Sets) (right : RightTo l.chain (End short l.chain) k) where
  -- How the start stands: it is a goal, has no path to an end, or is live.
  pub reads_lost : (bit k.good l.chain.start ≡ 1 → ⊥) → {e : Ends} → e ≡ ends 0 0 0 1 → Read pay short b l e
  reads_lost h q = lost (λ g. h ((right.good l.chain.start).1 g)) q

  pub start_live : (bit l.chain.goals l.chain.start ≡ 1 → ⊥) → bit k.good l.chain.start ≡ 1 → LiveTo l.chain (End short l.chain) l.chain.start
  start_live h g = record { unwon = h; reached = FromStart.begin; leads = (right.good l.chain.start).0 g }

  abbrev n : ℕ
  n = l.chain.states

  abbrev first_table : Table
  first_table = first b l.chain k pay (unknown short l.chain)

  abbrev go : ℕ → Bool
  go = goes l.chain.start k.live

  -- No state is removed where the start is not live, and none before the first step.
  pub unlogged : (LiveTo l.chain (End short l.chain) l.chain.start → ⊥) → {log : List ℕ} → Logged log [] → (p : ℕ) → Logged log (records_run pay short b l k p)
  unlogged dead {log} h p =
      subst (Logged log)
      (sym (records_none n go (turn l) (table_from pay short b l k) (λ q. none_goes l.chain k right dead (turn l q)) p)) h

  pub logged_first : n ≤ most_states → {log : List ℕ} → Logged log [] → (r : Refusal) → r.place ≡ most_states
      → Logged log (records_run pay short b l k (finished_in n (Err r)))
  unfolding records_along
  logged_first few h r e = rw (e, le-ltb most_states n few) h

  -- The elimination is begun: the start is live.
  module _ (alive : LiveTo l.chain (End short l.chain) l.chain.start) where
    pub stops_first : (short ≡ true → b ≡ rounding) → Unfit b n first_table → (r : Refusal) → r.fault ≡ NoFit → r.place ≡ most_states
        → Stopped pay b l (number_of r.fault) r.place
    unfolding after
    stops_first rounds u r f e = rw (f, e) (stopped_first pay b l k short rounds right alive u)

    -- What is logged of the walk through the order, which begins with the first table, in v.
    module _ (v : List ℕ) (same : table_of n v ≡ first_table) {log : List ℕ} where
      logged_to : (p : ℕ) → Logged log (records_walked b n go l.order v p) → Logged log (records_run pay short b l k p)
      logged_to p h = rw same at h

      pub logged_unfit : (r : Refusal) → r.place < n → Logged log (records_walked b n go l.order v r.place)
          → Logged log (records_run pay short b l k (finished_in n (Err r)))
      logged_unfit r i h = rw (lt-ltb r.place n i) (logged_to r.place h)

      pub logged_through : Logged log (records_walked b n go l.order v n) → Logged log (records_run pay short b l k n)
      logged_through h = logged_to n h

    -- The walk through the order, which begins with the first table, in v.
    module _ (v u : List ℕ) (same : table_of n v ≡ first_table) where
      passed : (p : ℕ) → UnstoppedWalk b n (after b n go l.order (table_of n v)) p → UnstoppedWalk b n (table_from pay short b l k) p
      passed p c = rw same at c

      pub stops_unfit : (short ≡ true → b ≡ rounding) → (r : Refusal) → walked b n go l.order v u (Err r) → Stopped pay b l (number_of r.fault) r.place
      stops_unfit rounds r z =
          let o = z.1 in
          rw z.0 (stopped_in pay b l k short rounds right alive r.place o.inside (passed r.place o.clear) (rw same at o.unfit))

      -- What is read off the start's row then.
      pub reads : l.chain.start < n → walked b n go l.order v u (Ok tt) → (c : Ends) → c ≡ end_of n l.chain.start (row_at n u l.chain.start) → Read pay short b l c
      reads h f c q =
          let at : row_at n u l.chain.start ≡ row (table_from pay short b l k n) l.chain.start =
          reached_row f.reached l.chain.start h ∙ ap (λ (t : Table). row (after b n go l.order t n) l.chain.start) same in
          live k right alive (record { passed = passed n f.clear; read = q ∙ ap (end_of n l.chain.start) at })

-- The work table once it is cleared, whatever stood in its rows.
pub cleared_kept : (l : Lent) {v u : List ℕ} → Kept l.chain.states l.work v
    → u ≡ replicate (work_size l.chain.states) 0 ++ drop (work_size l.chain.states) v → u ≡ cleared l
cleared_kept l k e = e ∙ ap (λ (d : List ℕ). replicate (work_size l.chain.states) 0 ++ d) k.past
