use Rattle.std.proofs.Common.{rules, tests, refl, ◌+◌, ◌*◌}
use Rattle.meaning.specs.Block.{record_size, edge_reward_byte, weight_byte}
use Rattle.meaning.specs.File.{NonZero}
use Rattle.octets.specs.Input.{input}
use Rattle.blocks.proofs.Any.{any_below}
use Rattle.blocks.proofs.records.reserved_wrong.Goals as goal

pub returns : goal.returns
returns c =
    let a = c.args in
    any_below _ _ (λ k. NonZero (input a.kept.now 0) (a.at + record_size * k + edge_reward_byte) (a.at + record_size * k + weight_byte)) a.count c.any.result c.any.ensures.ran refl (λ x q k. search (rules, tests)) (λ x q k. search (rules, tests))
