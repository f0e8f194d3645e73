use Prim.Native.Nat.{◌≤◌}
use mathlib.Core.Path.{sym}
use native.Mathlib.Omega.{arith}
use lib.ListN.{length}
use lib.Seq.{length-take-le}
use borrow.Author.Rules.{rules}
use Rattle.figures.proofs.Judged.{other_size, asked_judged}
use Rattle.figures.proofs.shares.judged.Goals as goal
use Rattle.figures.proofs.shares.judged.Goals.{After-numerators-table}

pub returns-then-shares-n : goal.returns-then-shares-n
returns-then-shares-n c = record { told = λ f s. rw (c.from.ensures.0, c.from.ensures.1) (other_size s c.if-shares-n.true) }

-- The table has room for the numerators.
room : (c : After-numerators-table) → c.args.opened.now.given.chain.states ≤ length c.numerators-table.result
room c = omega (arith, c.numerators-table.ensures.0, c.requires)

pub slice_bounds-check-end : goal.slice_bounds-check-end
slice_bounds-check-end c = sym (length-take-le _ _ (room (goal.at.slice_bounds-check-end c).After-numerators-table))

pub returns : goal.returns
returns c = record { told = λ f s. asked_judged s (search rules) c.four_byte_number.ensures c.numerators-table.ensures.1 c.check.ensures }

pub slice_bounds-table-end : goal.slice_bounds-table-end
slice_bounds-table-end c = room (goal.at.slice_bounds-table-end c).After-numerators-table
