use mathlib.Core.Bool.{not}
use Rattle.theory.specs.Numbers.Decide.{holds, fails}
use Rattle.survey.specs.Grow.{Open, way}
use Rattle.survey.proofs.Growth.{end_below, unchanged, with_head}
use Rattle.survey.proofs.Members.{one}
use Rattle.survey.proofs.reach.join.Goals as goal

pub is_open-requires : goal.is_open-requires
is_open-requires c =
    let a = c.args in
    rw c.tail-i.ensures (end_below a.back a.edges.now a.e c.requires.edge_there c.requires.ends_right)

pub returns-then-is_open : goal.returns-then-is_open
returns-then-is_open c =
    let a = c.args in
    let w = way a.back a.barrier a.edges.now in
    let o = holds (Open w.barrier a.set c.tail-i.result) c.is_open.ensures c.if-is_open.true in
    let j = rw (← c.tail-j.ensures) at (end_below (not a.back) a.edges.now a.e c.requires.edge_there c.requires.ends_right) in
    rw (one c.alone.ensures j) (with_head w a.set a.e c.tail-j.result c.tail-j.ensures c.requires.edge_there (rw c.tail-i.ensures at o))

pub returns : goal.returns
returns c =
    let a = c.args in
    let n = fails (Open a.barrier a.set c.tail-i.result) c.is_open.ensures c.if-is_open.false in
    unchanged (λ o. absurd (n (rw c.tail-i.ensures o)))
