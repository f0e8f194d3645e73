use Rattle.egorstream.proofs.Replied.{four_numbers}
use Rattle.egorstream.proofs.reply.reply.Goals as goal

pub returns : goal.returns
returns c =
    let a = c.args in
    four_numbers a.lower.numerator a.lower.denominator a.upper.numerator a.upper.denominator c.requires c.put_number-second.ensures c.put_number-third.ensures c.put_number-fourth.ensures
    c.put_number.ensures
