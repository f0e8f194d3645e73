use Rattle.elimination.proofs.Along.{weight_small}
use Rattle.elimination.proofs.Replacing.{replaced}
use Rattle.elimination.proofs.merge.replace.Goals as goal

pub join-requires : goal.join-requires
join-requires c =
    let h = c.requires.0 in
    let e = c.alike.ensures c.if-alike.true in
    (h, record { same = e.0; some = e.1 })

pub weight-w-requires : goal.weight-w-requires
weight-w-requires c = let h = c.requires.0 in (h.state, h.held)

pub merge-requires : goal.merge-requires
merge-requires c =
    let a = c.args in
    let h = c.requires.0 in (
      h.room,
      h.divisor,
      rw c.weight-w.ensures (weight_small a.part.now a.s h.own),
      h.own,
      h.other,
      c.spread-x.ensures,
      c.requires.1,
    )

pub returns : goal.returns
returns c =
    replaced c.weight-w.ensures c.merge.ensures

pub returns-then-alike : goal.returns-then-alike
returns-then-alike c = c.join.ensures

pub spread-x-requires : goal.spread-x-requires
spread-x-requires c = c.requires.0.held
