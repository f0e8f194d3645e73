use Rattle.std.proofs.Common.{◌+◌, ap, ◌∙◌, ap₂, mul_comm}
use Rattle.near.specs.Word.{word, value}
use Rattle.near.specs.Split.{value_of}
use Rattle.near.proofs.word.mix.Goals as goal

pub returns : goal.returns
unfolding value
returns c =
    let a = c.args in
    c.sum.ensures ∙ ap word (ap₂ (λ y z. y + z) (c.times.ensures.0 ∙ mul_comm (value_of a.d) (value a.x)) c.times-2.ensures.0)
