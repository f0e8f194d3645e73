use Rattle.std.proofs.Common.{rules, tests, refl, ◌<◌, ◌+◌, ◌*◌, get_or}
use Rattle.meaning.specs.Block.{record_size, flag_byte}
use Rattle.blocks.proofs.Any.{any_below}
use Rattle.blocks.proofs.records.flag_wrong.Goals as goal

pub returns : goal.returns
returns c =
    let a = c.args in
    any_below _ _ (λ k. 1 < get_or a.kept.now (a.at + record_size * k + flag_byte) 0) a.count c.any.result c.any.ensures.ran refl (λ x q k. search (rules, tests)) (λ x q k. search (rules, tests))
