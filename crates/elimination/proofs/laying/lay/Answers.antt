use mathlib.Core.Path.{refl}
use mathlib.Core.List.{[]}
use native.Mathlib.Omega.{arith}
use Rattle.std.proofs.lemmas.Result.{err_from_is_err_and}
use Rattle.meaning.specs.Refusal.{plain, Lent}
use Rattle.theory.specs.Outcomes.Formed.{few_states, room}
use Rattle.chain.specs.Given.{with}
use Rattle.elimination.proofs.Tables.{kept_more}
use Rattle.elimination.proofs.Cells.{zeros_whole, zeros_kept, zeros_at}
use Rattle.elimination.proofs.Given.{lay_gatherable, lay_given}
use Rattle.elimination.proofs.laying.lay.Goals as goal
use Rattle.elimination.proofs.laying.lay.Goals.{Start}

abbrev l : Start → Lent
l c = with c.args.g.now c.args.order.now [] c.args.work.now

pub returns-in_err-sets : goal.returns-in_err-sets
returns-in_err-sets c =
    let p = err_from_is_err_and c.from_residual.result c.from_residual.ensures.1 in
    rw (p.1, p.2) (c.in_err-sets.ensures, refl)

pub gather-requires : goal.gather-requires
gather-requires c =
    let l = l (goal.at.gather-requires c).Start in
    let f = c.in_ok-sets.ensures in
    let r = room plain l f.0 in
    let z = zeros_whole _ l.work (few_states plain l f.0) r c.clear_work.ensures.table in
    let g = lay_gatherable l _ f.0 f.1.right in (
      record { few = g.few; room = omega (arith, g.room, (zeros_kept _ l.work _ r z).len); sources = g.sources; targets = g.targets; sums = g.sums },
      zeros_at _ l.work _ r z,
    )

pub returns : goal.returns
returns c =
    let l = l (goal.at.returns c).Start in
    let f = c.in_ok-sets.ensures in
    let h = c.gather.ensures in
    let z = zeros_whole _ l.work (few_states plain l f.0) (room plain l f.0) c.clear_work.ensures.table in
    let k = kept_more (zeros_kept _ l.work _ (room plain l f.0) z) h.kept in
    (f.0, f.1, lay_given l _ f.0 f.1.right (record { kept = k; cells = h.cells }))
