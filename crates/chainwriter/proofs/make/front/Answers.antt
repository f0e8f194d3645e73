use Prim.Native.Nat.{◌/◌, ◌%◌, ◌^◌}
use mathlib.Core.Path.{ap, ◌∙◌}
use native.Mathlib.Omega.{arith}
use borrow.Author.Rules.{rules}
use Rattle.chainwriter.proofs.Making.{stored_outside, stored_stands}
use Rattle.chainwriter.proofs.make.front.Goals as goal

pub returns : goal.returns
returns c =
    record {
      outside = stored_outside 6 _ (search rules) c.put_number.ensures _ (omega arith);
      front = λ k h. stored_stands 6 _ (search rules) c.put_number.ensures k h ∙ ap (λ x. x / 256 ^ k % 256) c.front.ensures;
    }
