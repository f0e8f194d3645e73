use Rattle.octets.specs.Input.{input}
use Rattle.chaintext.proofs.Making.{few, all_kept}
use Rattle.chaintext.proofs.make.Goals as goal

pub returns : goal.returns
returns c =
    all_kept c.args.text.now c.args.more (few (input c.args.text.now c.args.more) c.too_long.result c.too_long.ensures c.if-too_long.false) c.translate.ensures
