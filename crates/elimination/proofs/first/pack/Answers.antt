use Prim.Native.Nat.{ℕ, ◌≤◌}
use mathlib.Core.Path.{◌≡◌, refl, sym, ◌∙◌}
use native.Mathlib.Omega.{arith}
use lib.ListN.{length, get_or, take, length-set}
use lib.Seq.{length-take-le}
use Rattle.elimination.specs.Packed.{weights_at, states_of}
use Rattle.elimination.proofs.Middle.{loaded}
use Rattle.elimination.proofs.Packing.{fronted, none_columns, occupied_columns, occupied_room, packed_from}
use Rattle.elimination.proofs.first.pack.Goals as goal
use Rattle.elimination.proofs.first.pack.Goals.{After-clear, After-load-x, After-weights-t, Start}

pub overflow_sub-n : goal.overflow_sub-n
overflow_sub-n c = let h = c.requires.1 in omega (arith, h.room)

-- The columns of the states are as many.
taken : (c : Start) → let p = c.args.part.now in length (take (states_of p) p) ≡ states_of p
taken c = length-take-le (states_of c.args.part.now) c.args.part.now (omega arith)

pub slice_bounds-occupied-end-2 : goal.slice_bounds-occupied-end-2
slice_bounds-occupied-end-2 c = sym (taken (goal.at.slice_bounds-occupied-end-2 c).Start)

pub occupied-all-requires : goal.occupied-all-requires
occupied-all-requires c = omega (arith, c.requires.1.few, taken (goal.at.occupied-all-requires c).Start)

pub slice_bounds-load-end-2 : goal.slice_bounds-load-end-2
slice_bounds-load-end-2 c = sym (taken (goal.at.slice_bounds-load-end-2 c).Start)

-- The columns of the states, as they were copied.
columns : (c : After-load-x) → (j : ℕ) → get_or c.load-x.result j 0 ≡ get_or (take (states_of c.args.part.now) c.args.part.now) j 0
columns c = loaded _ _ (omega (arith, c.requires.1.few, length-take-le (states_of c.args.part.now) c.args.part.now (omega arith))) c.load-x.ensures

-- The part has room for all numbers before the weights.
room : (c : After-clear) → weights_at ≤ length c.clear.new.part
room c = omega (arith, c.clear.auto.part, c.requires.1.room)

pub bounds-part-2 : goal.bounds-part-2
bounds-part-2 c = simp length-set (omega (arith, room (goal.at.bounds-part-2 c).After-clear))

pub bounds-part-3 : goal.bounds-part-3
bounds-part-3 c = simp length-set (omega (arith, room (goal.at.bounds-part-3 c).After-clear))

pub bounds-part-4 : goal.bounds-part-4
bounds-part-4 c = simp length-set (omega (arith, room (goal.at.bounds-part-4 c).After-clear))

pub weights-t-requires : goal.weights-t-requires
weights-t-requires c =
    let h = c.requires.1 in
    let a = fronted c.args.earns c.args.part.now c.clear.ensures (omega (arith, h.room)) in
    let copy = columns (goal.at.weights-t-requires c).After-load-x in (
      omega (arith, a.len, occupied_room h c.load-x.result copy c.occupied-all.ensures),
      omega arith,
      omega arith,
      occupied_columns h c.load-x.result copy c.occupied-all.ensures,
      none_columns _,
      a.past,
    )

-- The part is as long as it was.
long : (c : After-weights-t) → length c.weights-t.new.part ≡ length c.clear.new.part
long c = c.weights-t.ensures.1.len ∙ simp length-set

pub bounds-part-0 : goal.bounds-part-0
bounds-part-0 c =
    omega (arith, long (goal.at.bounds-part-0 c).After-weights-t, room (goal.at.bounds-part-0 c).After-clear)

pub shape_of-part : goal.shape_of-part
shape_of-part c =
    length-set c.weights-t.new.part 0 c.weights-t.result ∙ long (goal.at.shape_of-part c).After-weights-t ∙ c.clear.auto.part

pub returns : goal.returns
returns c =
    let h = c.requires.1 in
    let a = fronted c.args.earns c.args.part.now c.clear.ensures (omega (arith, h.room)) in
    packed_from h c.load-x.result (columns (goal.at.returns c).After-load-x) a c.weights-t.ensures refl
