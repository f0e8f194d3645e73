use Rattle.meaning.specs.Text.{bytes_of}
use Rattle.text.proofs.Paging.{and, then}
use Rattle.report.proofs.Room.{retold}
use Rattle.report.proofs.print.seven_lines.Goals as goal

pub returns : goal.returns
returns c =
    let chance = retold (bytes_of "chance ") c.from.ensures c.answer_line.ensures in
    let reward = retold (bytes_of "reward ") c.from-2.ensures c.answer_line-2.ensures in
    then (and (and c.count_lines.ensures chance) reward) c.bounds_line.ensures
