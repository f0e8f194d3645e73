use Rattle.std.proofs.Common.{refl}
use Rattle.std.proofs.lemmas.Bool.Decides.{Decides-eqb}
use Rattle.std.proofs.lemmas.Slice.Eq.{starts_is}
use Rattle.chaintext.proofs.Words.{word_stands, word_missing}
use Rattle.chaintext.proofs.pieces.word.Goals as goal

pub returns-then-starts_with : goal.returns-then-starts_with
returns-then-starts_with c =
    let a = c.args in
    word_stands a.line.now a.word.now a.at c.requires
    ((starts_is Decides-eqb _ a.word.now c.starts_with.result c.starts_with.ensures.value).0 c.if-starts_with.true)
    (c.if-starts_with.ensures.bound refl)

pub returns-else-starts_with : goal.returns-else-starts_with
returns-else-starts_with c =
    let a = c.args in
    word_missing a.line.now a.word.now a.at c.starts_with.result
    ((starts_is Decides-eqb _ a.word.now c.starts_with.result c.starts_with.ensures.value).1) c.if-starts_with.false
