use Rattle.std.proofs.Common.{ap, ◌+◌, subst}
use Rattle.octets.specs.Input.{input}
use Rattle.judge.specs.Tells.{further}
use Rattle.judge.proofs.Blocks.{front}
use Rattle.judge.proofs.front.Goals as goal

pub returns : goal.returns
returns c =
    let f = input c.args.kept.now c.args.more in
    front f c.in_ok-begins.ensures c.further.result
    (subst (λ z. further f (1 + z) c.further.result) c.state_blocks.ensures.0 (c.further.ensures c.args.more))
