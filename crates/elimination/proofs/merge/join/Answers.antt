use Prim.Native.Nat.{suc, ◌+◌, ◌-◌, ◌≤◌, ◌<◌, ◌^◌}
use mathlib.Core.Path.{◌≡◌, ap, ◌∙◌}
use native.Mathlib.Omega.{arith}
use lib.ListN.{length-set, set}
use Rattle.meaning.specs.Chain.{most_states, M}
use Rattle.chain.specs.Rising.{place_of}
use Rattle.chain.proofs.Rising.{alone_in}
use Rattle.elimination.specs.Packed.{targets_of, weights_at, end_of_part}
use Rattle.elimination.specs.Filled.{Beside, Closed}
use Rattle.elimination.proofs.Places.{place_rises, place_most, place_below}
use Rattle.elimination.proofs.Along.{weight_small}
use Rattle.elimination.proofs.Merging.{emptied}
use Rattle.elimination.proofs.Alike.{own_target, joined}
use Rattle.elimination.proofs.Replacing.{replaced}
use Rattle.elimination.proofs.merge.join.Goals as goal
use Rattle.elimination.proofs.merge.join.Goals.{After-alone, After-close, After-place-a, After-weight-w}

pub overflow_add-a : goal.overflow_add-a
overflow_add-a c =
    omega (arith, c.place-a.ensures, place_below (targets_of c.args.part.now) c.args.s, c.requires.0.state)

-- The place of s is within the weights.
within : (c : After-place-a) → weights_at + c.place-a.result < c.end-e.result
within c =
    let m = targets_of c.args.part.now in
    omega (arith, c.place-a.ensures, c.end-e.ensures, place_rises m c.args.s (suc c.args.s) (omega arith) c.requires.0.target, place_most m (suc c.args.s))

-- What the numbers are multiplied by fits.
scaled : (c : After-weight-w) → let a = c.args in (a.d ≤ M) × (c.weight-w.result ≤ M)
scaled c =
    (c.requires.0.divisor, rw c.weight-w.ensures (weight_small c.args.part.now c.args.s c.requires.0.own))

pub beside-requires : goal.beside-requires
beside-requires c =
    let h = c.requires.0 in
    let e = c.end-e.ensures in
    (omega arith, omega (arith, within (goal.at.beside-requires c).After-place-a, e, h.held), omega (arith, within (goal.at.beside-requires c).After-place-a, e, h.held, h.small), (scaled (goal.at.beside-requires c).After-weight-w).0, (scaled (goal.at.beside-requires c).After-weight-w).1, h.own, h.other)

pub close-requires : goal.close-requires
close-requires c =
    let h = c.requires.0 in
    let e = c.end-e.ensures in
    let k = c.beside.ensures in (
      within (goal.at.close-requires c).After-place-a,
      omega (arith, e, h.held, k.len),
      omega (arith, e, h.held, h.small),
      (scaled (goal.at.close-requires c).After-weight-w).0,
      (scaled (goal.at.close-requires c).After-weight-w).1,
      λ q g. rw (k.past q (omega arith)) (h.own q (omega arith)),
      h.other,
    )

-- What was made before the number of the targets is written.
made : (c : After-close)
    → let b = c in
    let w = b in
    let a = w.args in
    Beside a.d w.weight-w.result (weights_at + place_of (targets_of a.part.now) a.s) a.pivot.now a.part.now b.beside.new.part
made c = let b = c in rw b.place-a.ensures at b.beside.ensures

moved : (c : After-close)
    → let a = c.args in
    Closed a.d c.weight-w.result (weights_at + place_of (targets_of a.part.now) a.s) (end_of_part a.part.now) a.pivot.now c.beside.new.part c.close.new.part
moved c = rw (c.place-a.ensures, c.end-e.ensures) at c.close.ensures

few : (c : After-close) → targets_of c.args.part.now < 2 ^ most_states
few c = (c.slice_known-2-1.given 0).fits

-- The set of s alone.
one : (c : After-alone) → c.alone.result ≡ 2 ^ c.args.s
one c = alone_in c.alone.ensures c.requires.0.state

pub overflow_sub-part : goal.overflow_sub-part
overflow_sub-part c =
    rw (one c) (own_target c.requires.0 c.requires.1 (made (goal.at.overflow_sub-part c).After-close) (moved (goal.at.overflow_sub-part c).After-close) (few (goal.at.overflow_sub-part c).After-close))

pub shape_of-part : goal.shape_of-part
shape_of-part c =
    length-set c.close.new.part 0 _ ∙ (moved (goal.at.shape_of-part c).After-close).len ∙ (made (goal.at.shape_of-part c).After-close).len

pub returns : goal.returns
returns c =
    let l = c.beside.new.part in
    replaced c.weight-w.ensures
    (joined c.requires.0 c.requires.1 (made (goal.at.returns c).After-close) (moved (goal.at.returns c).After-close) (emptied l (omega (arith, c.requires.0.held, (made (goal.at.returns c).After-close).len))) (few (goal.at.returns c).After-close) (ap (λ x. set c.close.new.part 0 (targets_of c.args.part.now - x)) (one c)))

pub weight-w-requires : goal.weight-w-requires
weight-w-requires c = let h = c.requires.0 in (h.state, h.held)

pub end-e-requires : goal.end-e-requires
end-e-requires c = c.requires.0.held
