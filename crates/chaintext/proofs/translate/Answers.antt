use Rattle.std.proofs.Common.{rules}
use Rattle.std.proofs.lemmas.Result.{err_from_is_err_and}
use Rattle.chaintext.proofs.Making.{zeros, made, refused, short_text_lem}
use Rattle.chaintext.proofs.translate.Goals as goal

pub read-requires : goal.read-requires
read-requires c = (search rules, zeros)

pub returns-in_err-held : goal.returns-in_err-held
returns-in_err-held c =
    let p = err_from_is_err_and c.from_residual.result c.from_residual.ensures.1 in
    rw (p.1, p.2) (refused c.in_err-held.ensures (short_text_lem c.args.text.now c.requires.0) c.requires.1)

pub returns : goal.returns
returns c = made c.in_ok-held.ensures (short_text_lem c.args.text.now c.requires.0) c.requires.1 c.write.ensures
