use Prim.Native.Nat.{◌/◌, ◌%◌, ◌^◌}
use mathlib.Core.Path.{◌≡◌, ap, ◌∙◌}
use native.Mathlib.Omega.{arith}
use borrow.Author.Rules.{rules}
use Rattle.meaning.specs.Block.{first_sum, second_sum}
use Rattle.theory.specs.Files.Agree.{sum_of}
use Rattle.octets.specs.Input.{input}
use Rattle.fletcher.proofs.Summed.{sums_small}
use Rattle.chainwriter.proofs.Making.{stored_outside, stored_stands, checked}
use Rattle.chainwriter.proofs.make.check.Goals as goal
use Rattle.chainwriter.proofs.make.check.Goals.{After-check-sums}

-- The sums go by the block's own version byte.
own : (c : After-check-sums) → let a = c.args in
    let f = input a.buffer.now 0 in
    (c.check-sums.result.first ≡ sum_of first_sum f a.b) × (c.check-sums.result.second ≡ sum_of second_sum f a.b)
own c =
    let s = c.check-sums.ensures in
    rw (← c.byte.ensures.0) (s.first, s.second)

pub check-requires : goal.check-requires
check-requires c =
    let here = (goal.at.check-requires c).After-check-sums in
    let a = c.args in
    let small = sums_small (input a.buffer.now 0) a.b in
    (omega (arith, (own here).0, small.0), omega (arith, (own here).1, small.1))

pub returns : goal.returns
returns c =
    let here = (goal.at.returns c).After-check-sums in
    checked _ _ _ (stored_outside 2 _ (search rules) c.put_number.ensures _ (omega arith))
    (λ k h. stored_stands 2 _ (search rules) c.put_number.ensures k h ∙ ap (λ x. x / 256 ^ k % 256) c.check.ensures)
    (own here).0 (own here).1
