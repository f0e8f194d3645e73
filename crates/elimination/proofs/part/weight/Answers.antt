use mathlib.Core.Path.{◌≡◌, ◌∙◌, sym, ap}
use Prim.Native.Nat.{◌+◌, ◌<◌, suc}
use native.Mathlib.Omega.{arith}
use borrow.Author.Tests.{eqb-true, eqb-false}
use lib.ListN.{length, get_or}
use Rattle.meaning.specs.Number.{bit}
use Rattle.elimination.specs.Packed.{targets_of, weights_at}
use Rattle.elimination.proofs.Places.{place_rises, place_most}
use Rattle.elimination.proofs.Along.{weight_some, weight_none}
use Rattle.elimination.proofs.part.weight.Goals as goal
use Rattle.elimination.proofs.part.weight.Goals.{After-place-q}

-- The place of a target is within the part.
within : (c : After-place-q) → weights_at + c.place-q.result < length c.args.part.now
within c =
    let t = targets_of c.args.part.now in
    let e : bit t c.args.j ≡ 1 = eqb-true _ 1 (sym c.holds.ensures ∙ c.if-holds.true) in
    omega (
      arith,
      c.place-q.ensures,
      place_rises t c.args.j (suc c.args.j) (omega arith) e,
      place_most t (suc c.args.j),
      c.requires.1,
    )

pub overflow_add-q : goal.overflow_add-q
overflow_add-q c = omega (arith, within c)

pub offset_bounds-part-q : goal.offset_bounds-part-q
offset_bounds-part-q c = omega (arith, within c)

pub bounds-part-q : goal.bounds-part-q
bounds-part-q c = within (goal.at.bounds-part-q c).After-place-q

pub returns-then-holds : goal.returns-then-holds
returns-then-holds c =
    let p = c.args.part.now in
    ap (λ k. get_or p (weights_at + k) 0) c.place-q.ensures
    ∙ sym (weight_some p c.args.j (eqb-true _ 1 (sym c.holds.ensures ∙ c.if-holds.true)))

pub returns : goal.returns
returns c =
    sym (weight_none c.args.part.now c.args.j (eqb-false _ 1 (sym c.holds.ensures ∙ c.if-holds.false)))
