use Rattle.survey.specs.Sets.{chain_in}
use Rattle.meaning.specs.Chain.{End}
use Rattle.survey.proofs.Members.{end_grown, sets_right, sets_missed}
use Rattle.survey.proofs.reach.sets.Goals as goal

pub returns : goal.returns
returns c =
    let a = c.args in
    let k = chain_in a.g.now in
    let g = end_grown a.g.now.edges.now (End a.short k) c.ends.result c.ends.ensures c.good-good.result c.good-good.ensures in
    let t = c.reached-reached.ensures a.g.now.denominators.now in
    record {
      right = sets_right k a.short c.good-good.result c.reached-reached.result g t c.alive.result c.alive.ensures;
      missed = sets_missed k a.short c.good-good.result c.reached-reached.result g t c.astray.result c.astray.ensures;
    }
