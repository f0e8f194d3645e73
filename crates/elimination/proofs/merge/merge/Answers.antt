use Prim.Native.Nat.{ℕ, ◌-◌, ◌≤◌}
use mathlib.Core.List.{List}
use mathlib.Core.Path.{◌≡◌, refl, sym, subst, ◌∙◌}
use native.Mathlib.Nat.{le_refl}
use native.Mathlib.Omega.{arith}
use lib.ListN.{length, length-set, replicate}
use borrow.Rule.Slice.PartMut.{put_mid, mid_of}
use Rattle.elimination.specs.Packed.{targets_of, weights_at}
use Rattle.elimination.specs.Filled.{Emptied}
use Rattle.elimination.proofs.Merging.{merged_by, emptied, emptied_length}
use Rattle.elimination.proofs.Along.{out_first, out_second}
use Rattle.elimination.proofs.Replacing.{spread_columns}
use Rattle.elimination.proofs.merge.merge.Goals as goal
use Rattle.elimination.proofs.merge.merge.Goals.{After-weights-t}

-- A part whose weights are cleared.
clearing : (l : List ℕ) {v : List ℕ} → weights_at ≤ length l → v ≡ replicate (length (mid_of weights_at (length l - weights_at) l)) 0
    → Emptied l (put_mid weights_at (length l - weights_at) l v)
clearing l room e = subst (λ z. Emptied l (put_mid weights_at (length l - weights_at) l z)) (sym e) (emptied l room)

pub weights-t-requires : goal.weights-t-requires
weights-t-requires c =
    let a = c.args in
    let h = c.requires in
    let z = clearing _ (omega (arith, c.beside.ensures.len, c.requires.0.narrow)) c.clear.ensures in (
      rw (emptied_length (le_refl weights_at) c.beside.ensures z) h.0.narrow,
      h.1,
      h.2,
      spread_columns a.part.now a.x.now h.5 _ h.3 (out_first (targets_of a.part.now) (targets_of a.pivot.now)),
      spread_columns a.pivot.now a.y.now h.6 _ h.4 (out_second (targets_of a.part.now) (targets_of a.pivot.now)),
      z.past,
    )

-- The part is as long as it was.
long : (c : After-weights-t) → length c.weights-t.new.part ≡ length c.args.part.now
long c =
    c.weights-t.ensures.1.len
    ∙ emptied_length (le_refl weights_at) c.beside.ensures (clearing _ (omega (arith, c.beside.ensures.len, c.requires.0.narrow)) c.clear.ensures)

pub bounds-part-0-2 : goal.bounds-part-0-2
bounds-part-0-2 c =
    omega (arith, long (goal.at.bounds-part-0-2 c).After-weights-t, c.requires.0.narrow)

pub shape_of-part : goal.shape_of-part
shape_of-part c = length-set c.weights-t.new.part 0 c.weights-t.result ∙ long (goal.at.shape_of-part c).After-weights-t

pub returns : goal.returns
returns c =
    let a = c.args in
    let z = clearing _ (omega (arith, c.beside.ensures.len, c.requires.0.narrow)) c.clear.ensures in
    merged_by (le_refl weights_at) c.beside.ensures z a.s a.x.now a.y.now c.requires.5 c.requires.6 (omega (arith, c.requires.0.narrow)) c.weights-t.ensures refl
