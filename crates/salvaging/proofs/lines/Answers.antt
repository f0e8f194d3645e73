use mathlib.Core.Path.{refl, sym}
use native.Mathlib.Omega.{arith}
use lib.Seq.{length-take-le}
use Rattle.std.proofs.lemmas.Result.{err_from_is_err_and}
use Rattle.meaning.specs.Salvage.{Salvaged}
use Rattle.chainfile.specs.Input.{input}
use Rattle.chainfile.specs.Tells.{tables}
use Rattle.salvaging.proofs.Read.{Taken, room, front_refused, left_taken}
use Rattle.salvaging.proofs.lines.Goals as goal
use Rattle.salvaging.proofs.lines.Goals.{In_ok-left}

taken : (c : In_ok-left) → let n = c.salvage.new in
    Taken (input c.args.kept.now c.args.more) c.in_ok-left.left.lost c.in_ok-left.left.book (tables n.denominators n.edges n.order n.rewards)
taken c = left_taken room c.in_ok-left.ensures

pub returns-in_err-left : goal.returns-in_err-left
returns-in_err-left c =
    let p = err_from_is_err_and c.from_residual.result c.from_residual.ensures.1 in
    rw (p.1, p.2) (Salvaged.file_refused _ _ (front_refused room _ c.in_err-left.ensures) refl, refl)

pub slice_bounds-denominators-end : goal.slice_bounds-denominators-end
slice_bounds-denominators-end c = (taken (goal.at.slice_bounds-denominators-end c).In_ok-left).denominators

pub slice_bounds-given-end : goal.slice_bounds-given-end
slice_bounds-given-end c = sym (length-take-le _ _ (taken (goal.at.slice_bounds-given-end c).In_ok-left).denominators)

pub overflow_mul-edges : goal.overflow_mul-edges
overflow_mul-edges c = omega (arith, (taken (goal.at.overflow_mul-edges c).In_ok-left).few_edges)

pub slice_bounds-edges-end : goal.slice_bounds-edges-end
slice_bounds-edges-end c = (taken (goal.at.slice_bounds-edges-end c).In_ok-left).edges

pub slice_bounds-given-end-2 : goal.slice_bounds-given-end-2
slice_bounds-given-end-2 c = sym (length-take-le _ _ (taken (goal.at.slice_bounds-given-end-2 c).In_ok-left).edges)

pub slice_bounds-order-end : goal.slice_bounds-order-end
slice_bounds-order-end c = (taken (goal.at.slice_bounds-order-end c).In_ok-left).order

pub slice_bounds-text-end-2 : goal.slice_bounds-text-end-2
slice_bounds-text-end-2 c = sym (length-take-le _ _ (taken (goal.at.slice_bounds-text-end-2 c).In_ok-left).order)

pub text-requires-clause-holds : goal.text-requires-clause-holds
text-requires-clause-holds c =
    let t = taken (goal.at.text-requires-clause-holds c).In_ok-left in (c.args.more, record { size = t.size; opened = t.opened; lent = t.lent })

pub returns : goal.returns
returns c = let t = taken (goal.at.returns c).In_ok-left in c.text.ensures _ (record { size = t.size; opened = t.opened; lent = t.lent })
