use Rattle.std.proofs.Common.{◌≡◌, ◌-◌, length, arith}
use Rattle.meaning.specs.Near.{longest}
use Rattle.near.specs.Row.{value_at}
use Rattle.theory.specs.Numbers.Cuts.{cut_padded}
use Rattle.near.proofs.row.total.Goals as goal
use Rattle.near.proofs.row.total.Goals.{After-saturating_sub-k}

-- The exponent that the weights are cut at.
here : (c : After-saturating_sub-k)
    → let l = c.args.row.now in c.saturating_sub-k.result ≡ longest (value_at l) (length l) - 56
here c = omega (arith, c.saturating_sub-k.ensures, c.most.ensures.0)

pub packed-requires : goal.packed-requires
packed-requires c =
    let l = c.args.row.now in
    (omega arith, rw c.added.ensures (cut_padded (value_at l) (length l) c.saturating_sub-k.result (here (goal.at.packed-requires c).After-saturating_sub-k)))
