use Rattle.std.proofs.Common.{◌≡◌, ◌-◌, ◌∙◌, arith}
use Rattle.near.specs.Split.{value_of}
use Rattle.near.proofs.Sums.{Summed, cut_at, summed, raised_part}
use Rattle.near.proofs.word.sum_cut.Goals as goal
use Rattle.near.proofs.word.sum_cut.Goals.{After-part-2}

-- What the two parts come to.
here : (c : After-part-2)
    → Summed (value_of c.args.a) (value_of c.args.b) (c.cut_at-k.result - 33)
here c =
    let a = c.args.a in
    let b = c.args.b in
    let e : c.cut_at-k.result - 33 ≡ cut_at (value_of a) (value_of b) = omega (arith, c.cut_at-k.ensures.0) in
    summed a.first (a.behind - 33) b.first (b.behind - 33) (omega arith) (omega arith) (c.cut_at-k.result - 33) e

pub packed-requires : goal.packed-requires
packed-requires c =
    let a = c.args.a in
    let b = c.args.b in
    let k = c.cut_at-k.result in
    let p = c.part.ensures.0 ∙ raised_part a.first a.behind k (omega arith) (omega (arith, c.cut_at-k.ensures.0)) in
    let q = c.part-2.ensures.0 ∙ raised_part b.first b.behind k (omega arith) (omega (arith, c.cut_at-k.ensures.0)) in
    (omega arith, rw (p, q) (here c).1)

pub returns : goal.returns
returns c =
    let a = c.args.a in
    let b = c.args.b in
    let k = c.cut_at-k.result in
    let p = c.part.ensures.0 ∙ raised_part a.first a.behind k (omega arith) (omega (arith, c.cut_at-k.ensures.0)) in
    let q = c.part-2.ensures.0 ∙ raised_part b.first b.behind k (omega arith) (omega (arith, c.cut_at-k.ensures.0)) in
    c.packed.ensures ∙ rw (p, q) (here (goal.at.returns c).After-part-2).0

pub overflow_sub-k : goal.overflow_sub-k
overflow_sub-k c = omega (arith, c.cut_at-k.ensures.0)
