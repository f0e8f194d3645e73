use Prim.Native.Nat.{◌+◌, ◌-◌}
use mathlib.Core.Path.{◌≡◌, ap, ◌∙◌}
use borrow.Rule.Slice.PartMut.{mid_of}
use native.Mathlib.Omega.{arith}
use lib.ListN.{length, length-take, length-drop}
use Rattle.octets.proofs.Storing.{size, not_stored}
use Rattle.octets.proofs.Steps.{put}
use Rattle.octets.specs.Written.{Stored, little_endian}
use Rattle.octets.proofs.store.put_number.Goals as goal
use Rattle.octets.proofs.store.put_number.Goals.{then-buffer-width-via-then-buffer-width, then-buffer-width-via-else-buffer-width+then-buffer-width-2}

pub returns-then-buffer-width : goal.returns-then-buffer-width
returns-then-buffer-width c =
    elim c.then-buffer-width.branch [
      | then-buffer-width-via-then-buffer-width w ↦ not_stored c.args.width c.args.x (omega arith)
      | then-buffer-width-via-else-buffer-width+then-buffer-width-2 w ↦ not_stored c.args.width c.args.x (omega arith)
    ]

pub returns : goal.returns
returns c =
    let a = c.args in
    let n : length (mid_of a.at (a.at + a.width - a.at) a.buffer.now) ≡ a.width = simp (length-take, length-drop) (omega arith) in
    Stored.written (put (omega (arith, size a.width a.x)) (omega arith) (c.store.ensures ∙ ap (λ z. little_endian z a.x) n))
