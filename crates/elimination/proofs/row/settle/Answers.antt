use Prim.Native.Nat.{◌-◌}
use mathlib.Core.Path.{◌∙◌}
use borrow.Rule.Slice.PartMut.{put_mid}
use Rattle.meaning.specs.Row.{divisor}
use Rattle.elimination.specs.Packed.{reward_at, states_of, unpacked}
use Rattle.elimination.proofs.Rows.{tested_fit, tested_exact, became}
use Rattle.elimination.proofs.Stored.{Divided}
use Rattle.elimination.proofs.Settling.{lent_divisor, lent_lowest, divided_total, lowest_ready, kept_exact, kept_tested, kept_rounded}
use Rattle.elimination.proofs.row.settle.Goals as goal
use Rattle.elimination.proofs.row.settle.Goals.{After-reduce-divisor}

-- The part in lowest terms.
reduced : (c : After-reduce-divisor)
    → let p = c.args.part.now in
    Divided (divisor (unpacked (states_of p) p)) p (put_mid reward_at (c.end-e.result - reward_at) p c.reduce-divisor.new.row)
reduced c =
    let h = c.requires in
    lent_lowest h.2 c.end-e.ensures h.1 c.reduce-divisor.ensures.0

pub bound-requires : goal.bound-requires
bound-requires c =
    let h = c.requires in
    lowest_ready (reduced (goal.at.bound-requires c).After-reduce-divisor) h.1 h.0 h.2 c.end-e.ensures (h.3 c.if-rounding.true)

pub returns-then-rounding : goal.returns-then-rounding
returns-then-rounding c =
    let y = c.if-rounding.true in
    let h = c.requires in
    let k = kept_rounded (reduced (goal.at.returns-then-rounding c).After-reduce-divisor) h.1 c.args.rounding y (h.3 y) c.bound.ensures in
    became k.1 k.0 (tested_fit k.2 (c.reduce-divisor.ensures.1 ∙ lent_divisor h.2 c.end-e.ensures))

pub fits-requires : goal.fits-requires
fits-requires c =
    divided_total (reduced (goal.at.fits-requires c).After-reduce-divisor) c.requires.2 c.end-e.ensures

pub returns : goal.returns
returns c =
    let y = c.if-rounding.false in
    let h = c.requires in
    let k = kept_exact (reduced (goal.at.returns c).After-reduce-divisor) h.1 c.args.rounding y in
    became k.1 k.0
    (kept_tested (reduced (goal.at.returns c).After-reduce-divisor) h.1 y
    (rw c.then_some.ensures (tested_exact c.fits.result c.fits.ensures (c.reduce-divisor.ensures.1 ∙ lent_divisor h.2 c.end-e.ensures))))
