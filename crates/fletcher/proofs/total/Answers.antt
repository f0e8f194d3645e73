use mathlib.Core.Path.{◌≡◌, ◌∙◌}
use native.Mathlib.Omega.{arith}
use borrow.Author.Rules.{rules}
use Rattle.std.specs.List.{sum}
use Rattle.std.proofs.iter.runs.Sources.{sums}
use Rattle.fletcher.proofs.Columns.{sum_listed}
use Rattle.fletcher.proofs.total.Goals as goal

pub sum-sum-requires-clause-fits : goal.sum-sum-requires-clause-fits
sum-sum-requires-clause-fits c = search (rules, sums)

pub returns : goal.returns
returns c =
    let l = c.args.numbers.now in
    let all : c.sum-sum.result ≡ sum l = search rules in
    (c.from.ensures ∙ all ∙ sum_listed l (search rules), omega arith)
