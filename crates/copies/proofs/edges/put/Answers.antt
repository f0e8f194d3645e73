use Rattle.copies.proofs.Growing.{grown_more}
use Rattle.copies.proofs.edges.put.Goals as goal

pub returns : goal.returns
returns c =
    grown_more (grown_more (grown_more c.add-second.ensures c.add-third.ensures) c.add-fourth.ensures) c.add.ensures
