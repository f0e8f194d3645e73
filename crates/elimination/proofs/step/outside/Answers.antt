use mathlib.Core.Path.{◌≡◌, sym, ◌∙◌}
use Prim.Native.Nat.{◌+◌}
use native.Mathlib.Omega.{arith}
use Rattle.meaning.specs.Row.{cell}
use Rattle.theory.specs.Numbers.Sum.{sum_term}
use Rattle.elimination.specs.Packed.{states_of, unpacked}
use Rattle.elimination.proofs.Laws.{packed_held}
use Rattle.elimination.proofs.Unpacked.{unpacked_weight}
use Rattle.elimination.proofs.step.outside.Goals as goal
use Rattle.elimination.proofs.step.outside.Goals.{After-weight}

pub total-requires : goal.total-requires
total-requires c =
    let h = c.requires in (
      record {
        size = h.2.size;
        inside = h.2.inside;
        held = packed_held (omega arith) h.2;
        bound = omega (arith, h.3.weights);
      },
      c.end-e.ensures,
    )

-- The weight to itself, and what it is a part of.
own : (c : After-weight) → let a = c.args in c.weight.result ≡ cell (unpacked (states_of a.part.now) a.part.now) a.s
own c =
    c.weight.ensures ∙ sym (unpacked_weight (states_of c.args.part.now) c.args.part.now c.args.s c.requires.1)

pub overflow_sub-result : goal.overflow_sub-result
overflow_sub-result c =
    let p = c.args.part.now in
    omega (arith, c.total.ensures, own c, sum_term (cell (unpacked (states_of p) p)) (states_of p + 3) c.args.s (omega (arith, c.requires.1)))

pub returns : goal.returns
returns c =
    (rw (own c, c.total.ensures), omega (arith, c.total.ensures, c.requires.3.weights))

pub end-e-requires : goal.end-e-requires
end-e-requires c = packed_held (omega (arith, c.requires.1)) c.requires.2

pub weight-requires : goal.weight-requires
weight-requires c = (omega (arith, c.requires.0, c.requires.1), packed_held (omega (arith, c.requires.1)) c.requires.2)
