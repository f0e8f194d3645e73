use Prim.Native.Nat.{ℕ}
use mathlib.Core.List.{List}
use mathlib.Core.Path.{◌≡◌, sym, ◌∙◌}
use native.Mathlib.Omega.{arith}
use borrow.Author.Tests.{eqb-true, eqb-false}
use Rattle.meaning.specs.Number.{bit}
use Rattle.meaning.specs.Chain.{Chain, End, LiveTo}
use Rattle.meaning.specs.Step.{Table, unknown, first}
use Rattle.meaning.specs.Refusal.{Lent}
use Rattle.chain.specs.Given.{with}
use Rattle.survey.specs.Sets.{sets_of, chain_in}
use Rattle.elimination.specs.Pay.{pays}
use Rattle.elimination.specs.Run.{Begun, won}
use Rattle.elimination.specs.Table.{Spare, Kept}
use Rattle.elimination.specs.Order.{going}
use Rattle.elimination.specs.declared.engine.Elimination.{Elimination}
use Rattle.std.specs.Prelude.{Some, None}
use Rattle.std.proofs.lemmas.Result.{err_from_is_err_and}
use Rattle.elimination.specs.Turn.{Reached, Made}
use Rattle.elimination.specs.Engine.{rounds, is_paid, is_short, read_by}
use Rattle.elimination.proofs.Engines.{pays_read, makeable_read}
use Rattle.elimination.proofs.Tables.{kept_same, kept_more}
use Rattle.elimination.proofs.Spare.{after_spare, first_spare}
use Rattle.elimination.proofs.Turns.{reached_fitting, made_so}
use Rattle.elimination.proofs.Follow.{reads_lost, unlogged, start_live, stops_first, logged_first, stops_unfit, logged_unfit, reads, logged_through, walk_kept}
use Rattle.elimination.proofs.run.run.Goals as goal
use Rattle.elimination.proofs.run.run.Goals.{After-eliminate, After-first_rows, After-no_row, After-no_row-then-not-holds, Else-not-holds}

-- The first table, of what e asks for on the chain h, where a turn earns what r pays.
abbrev first_table : Elimination → Chain → List ℕ → Table
first_table e h r = first (rounds e.engine) h (sets_of e.sets) (pays (is_paid e.engine) h r) (unknown (is_short e.engine) h)

-- No first row has a weight to a goal.
spare : (e : Elimination) (l : Lent) → Begun (rounds e.engine) (is_paid e.engine) (is_short e.engine) l (sets_of e.sets) → Spare l.chain.states (first_table e l.chain l.rewards)
spare e l b =
    let a = b.asked in
    first_spare (rounds e.engine) l.chain (sets_of e.sets) (pays (is_paid e.engine) l.chain l.rewards) _ a.right a.goal.0 a.goal.1.0 a.goal.1.1

-- The start is a goal, or has no path to an end.
won_by : (c : After-no_row) → let e = c.args.e.now in bit e.given.chain.goals e.given.chain.start ≡ 1
won_by c = eqb-true _ _ (sym c.holds.ensures ∙ c.if-holds.true)

lost_by : (c : After-no_row-then-not-holds) → let e = c.args.e.now in bit e.sets.good e.given.chain.start ≡ 1 → ⊥
lost_by c = eqb-false _ _ (sym c.holds-2.ensures ∙ c.if-not-holds.true)

pub returns-then-holds : goal.returns-then-holds
returns-then-holds c =
    let a = c.args in
    let l = with a.e.now.given a.order.now (read_by (is_paid a.e.now.engine) a.rewards.now) a.work.now in
    let right = c.requires.0.asked.right in
    let w = won_by (goal.at.returns-then-holds c).After-no_row in
    (kept_same _ _, won w c.no_row.ensures, unlogged _ _ _ l _ right (λ a. a.unwon w) c.requires.1 _)

pub returns-then-not-holds : goal.returns-then-not-holds
returns-then-not-holds c =
    let a = c.args in
    let l = with a.e.now.given a.order.now (read_by (is_paid a.e.now.engine) a.rewards.now) a.work.now in
    let right = c.requires.0.asked.right in
    let lost = lost_by (goal.at.returns-then-not-holds c).After-no_row-then-not-holds in (
      kept_same _ _,
      reads_lost _ _ _ l _ right lost c.no_row-then-not-holds.ensures,
      unlogged _ _ _ l _ right (λ a. lost ((right.good _).1 a.leads)) c.requires.1 _,
    )

-- The elimination is begun where the start is live.
alive : (c : Else-not-holds)
    → let a = c.args in
    let h = chain_in a.e.now.given in
    LiveTo h (End (is_short a.e.now.engine) h) h.start
alive c =
    let a = c.args in
    let l = with a.e.now.given a.order.now (read_by (is_paid a.e.now.engine) a.rewards.now) a.work.now in
    start_live (pays (is_paid a.e.now.engine) l.chain l.rewards) _ (rounds a.e.now.engine) l _ c.requires.0.asked.right (eqb-false _ _ (sym c.holds.ensures ∙ c.if-holds.false))
    (eqb-true _ _ (sym c.holds-2.ensures ∙ c.if-not-holds.false))

pub first_rows-requires : goal.first_rows-requires
first_rows-requires c = (makeable_read (is_paid c.args.e.now.engine) c.args.rewards.now c.requires.0.asked, c.requires.2)

-- The first rows, whatever rewards are not read.
made : (c : After-first_rows)
    → let a = c.args in
    let h = chain_in a.e.now.given in
    Made (rounds a.e.now.engine) h.states (first_table a.e.now h (read_by (is_paid a.e.now.engine) a.rewards.now)) a.work.now c.first_rows.new.work c.first_rows.result
made c =
    let a = c.args in
    rw (pays_read (is_paid a.e.now.engine) (chain_in a.e.now.given) a.rewards.now) at c.first_rows.ensures

pub returns-in_err-ok_or : goal.returns-in_err-ok_or
returns-in_err-ok_or c =
    let a = c.args in
    let l = with a.e.now.given a.order.now (read_by (is_paid a.e.now.engine) a.rewards.now) a.work.now in
    let b = c.requires.0 in
    let p = err_from_is_err_and c.from_residual.result c.from_residual.ensures.1 in
    let q = made_so _ _ _ (sym c.ok_or.ensures.value ∙ c.in_err-ok_or.was) in
    let none : c.first_rows.result ≡ None = grind arith in
    let m = rw none at (made (goal.at.returns-in_err-ok_or c).After-first_rows) in
    rw (p.1, p.2, q) (
      m.kept,
      stops_first _ _ _ l _ b.asked.right (alive (goal.at.returns-in_err-ok_or c).Else-not-holds) b.rounds m.is c.at.result c.at.ensures.0 c.at.ensures.1,
      logged_first _ _ _ l _ b.asked.right b.asked.few c.requires.1 c.at.result c.at.ensures.1,
    )

-- The first rows are made, and the walk begins with them.
begins : (c : After-first_rows) → c.first_rows.result ≡ Some (tt {0})
    → let a = c.args in
    let h = chain_in a.e.now.given in
    Reached (rounds a.e.now.engine) h.states (first_table a.e.now h (read_by (is_paid a.e.now.engine) a.rewards.now)) a.work.now c.first_rows.new.work
begins c some =
    let m = rw some at (made c) in
    m.is

pub eliminate-requires : goal.eliminate-requires
eliminate-requires c =
    let a = c.args in
    let l = with a.e.now.given a.order.now (read_by (is_paid a.e.now.engine) a.rewards.now) a.work.now in
    let b = c.requires.0 in
    let some : c.first_rows.result ≡ Some (tt {0}) = grind arith in
    let z = begins (goal.at.eliminate-requires c).After-first_rows some in
    record { fitting = (reached_fitting b.asked.few b.asked.room (spare a.e.now l b) z, b.orders, c.requires.1); order_fits = b.inside }

kept : (c : After-eliminate) → Kept c.args.e.now.given.chain.states c.args.work.now c.first_rows.new.work
    → Kept c.args.e.now.given.chain.states c.args.work.now c.eliminate.new.work
kept c k =
    let a = c.args in
    kept_more k (walk_kept (rounds a.e.now.engine) a.e.now.given.chain.states (going a.e.now) a.order.now _ _ c.eliminate.result c.eliminate.ensures.0)

pub returns-in_err-eliminate : goal.returns-in_err-eliminate
returns-in_err-eliminate c =
    let a = c.args in
    let l = with a.e.now.given a.order.now (read_by (is_paid a.e.now.engine) a.rewards.now) a.work.now in
    let b = c.requires.0 in
    let some : c.first_rows.result ≡ Some (tt {0}) = grind arith in
    let z = begins (goal.at.returns-in_err-eliminate c).After-first_rows some in
    let live = alive (goal.at.returns-in_err-eliminate c).Else-not-holds in
    let p = err_from_is_err_and c.from_residual-in_err-eliminate.result c.from_residual-in_err-eliminate.ensures.1 in
    let f = c.in_err-eliminate.ensures in
    rw (p.1, p.2) (
      kept (goal.at.returns-in_err-eliminate c).After-eliminate z.kept,
      stops_unfit _ _ _ l _ b.asked.right live _ _ z.same b.rounds _ f.0,
      logged_unfit _ _ _ l _ b.asked.right live _ z.same c.in_err-eliminate.field-0.0 f.0.1.inside f.1,
    )

pub last_of-requires : goal.last_of-requires
last_of-requires c =
    let a = c.args in
    let l = with a.e.now.given a.order.now (read_by (is_paid a.e.now.engine) a.rewards.now) a.work.now in
    let b = c.requires.0 in
    let some : c.first_rows.result ≡ Some (tt {0}) = grind arith in
    let z = begins (goal.at.last_of-requires c).After-first_rows some in
    let k = z.kept.len in
    rw c.rounding.ensures (
      reached_fitting b.asked.few (omega (arith, b.asked.room))
          (after_spare _ _ (going a.e.now) a.order.now _ (rw z.same (spare a.e.now l b)) a.e.now.given.chain.states)
          c.in_ok-eliminate.ensures.0.reached,
      b.start,
    )

pub returns : goal.returns
returns c =
    let a = c.args in
    let l = with a.e.now.given a.order.now (read_by (is_paid a.e.now.engine) a.rewards.now) a.work.now in
    let b = c.requires.0 in
    let some : c.first_rows.result ≡ Some (tt {0}) = grind arith in
    let z = begins (goal.at.returns c).After-first_rows some in
    let live = alive (goal.at.returns c).Else-not-holds in
    let f = c.in_ok-eliminate.ensures in (
      kept (goal.at.returns c).After-eliminate z.kept,
      reads _ _ _ l _ b.asked.right live _ _ z.same b.start f.0 c.last_of.result c.last_of.ensures,
      logged_through _ _ _ l _ b.asked.right live _ z.same f.1,
    )
