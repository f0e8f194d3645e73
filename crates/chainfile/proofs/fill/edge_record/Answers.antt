use Prim.Native.Nat.{ℕ, ◌+◌, min}
use mathlib.Core.Path.{◌≡◌, ◌∙◌, ap}
use native.Mathlib.Omega.{arith}
use lib.ListN.{length}
use Rattle.meaning.specs.Block.{record_size, record_at}
use Rattle.meaning.specs.File.{edge_in}
use Rattle.chain.specs.Edge.{placed}
use Rattle.chainfile.specs.Input.{input}
use Rattle.chainfile.specs.Tells.{edge_from}
use Rattle.octets.proofs.Cut.{cut}
use Rattle.chainfile.proofs.Filling.{cut_edge}
use Rattle.chainfile.proofs.fill.edge_record.Goals as goal
use Rattle.chainfile.proofs.fill.edge_record.Goals.{After-record_at-at}

-- The edge of the bytes that are cut out is edge e.
cut_out : (c : After-record_at-at) (low after : ℕ)
    → let a = c.args in
    let kept = a.kept.now in
    low ≡ min c.record_at-at.result (length kept)
    → after ≡ min (c.record_at-at.result + record_size) (length kept)
    → edge_from (input (cut low after kept) 0) 0 ≡ edge_in (input kept 0) a.e
cut_out c low after begins ends =
    let s = c in
    let kept = s.args.kept.now in
    cut_edge kept c.record_at-at.result begins ends
    ∙ ap (edge_from (input kept 0)) (c.record_at-at.ensures.0 ∙ ap (λ z. record_at z s.args.e) s.requires.0)

pub returns-then-after-kept : goal.returns-then-after-kept
returns-then-after-kept c =
    let at = c.record_at-at.result in
    c.put_record.ensures
    ∙ ap (placed _ c.args.k) (cut_out (goal.at.returns-then-after-kept c).After-record_at-at at (at + record_size) (omega arith) (omega arith))

pub returns-else-after-kept : goal.returns-else-after-kept
returns-else-after-kept c =
    let a = c.args in
    c.put_record-else-after-kept.ensures
    ∙ ap (placed _ a.k) (cut_out (goal.at.returns-else-after-kept c).After-record_at-at c.end.result (length a.kept.now) c.end.ensures (omega arith))
