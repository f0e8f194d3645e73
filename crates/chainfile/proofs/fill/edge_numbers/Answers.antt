use Prim.Native.Nat.{◌+◌, ◌≤◌, ◌<◌}
use mathlib.Core.Path.{ap}
use native.Mathlib.Omega.{arith}
use Rattle.meaning.specs.Block.{head_edges}
use Rattle.meaning.specs.Salvage.{edge_kept, verdict}
use Rattle.chainfile.specs.Input.{input}
use Rattle.theory.specs.Chains.Picked.{picked_small}
use Rattle.chainfile.proofs.Saving.{none_kept, more_kept, all_kept}
use Rattle.chainfile.proofs.fill.edge_numbers.Goals as goal

pub loop-e-init : goal.loop-e-init
loop-e-init c =
    let a = c.args in
    none_kept (input a.kept.now 0) a.lost.now a.table.now

pub keep-k-requires : goal.keep-k-requires
keep-k-requires c =
    let blocks = c.state_blocks-first.ensures.0 in
    let k : c.loop-e.k ≤ c.loop-e.e = omega (arith, c.loop-e.invariant.is, picked_small (edge_kept (input c.args.kept.now 0) (verdict c.args.lost.now)) c.loop-e.e) in
    (ap (λ z. 1 + z) blocks, omega (arith, blocks, c.loop-e.invariant.upto, c.requires.within), omega (arith, c.loop-e.invariant.upto, c.requires.within))

pub loop-e-preserved : goal.loop-e-preserved
loop-e-preserved c =
    let a = c.args in
    let f = input a.kept.now 0 in
    let inside : c.loop-e.e < head_edges f = omega (arith, c.edges-e-end.ensures.0) in
    more_kept f a.lost.now a.table.now c.requires.room c.loop-e.invariant inside c.keep-k.ensures

pub shape_of-table : goal.shape_of-table
shape_of-table c = c.loop-e.invariant.set.len

pub returns : goal.returns
returns c =
    let a = c.args in
    all_kept (input a.kept.now 0) a.lost.now a.table.now c.requires.room c.loop-e.invariant
    (omega (arith, c.edges-e-end.ensures.0, c.loop-e.invariant.upto))
