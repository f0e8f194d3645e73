use borrow.Author.Rules.{rules}
use Rattle.input.proofs.Taking.{takes}
use Rattle.input.proofs.Giving.{gives}
use Rattle.input.proofs.read_part.Goals as goal

pub returns : goal.returns
returns g c =
    let k = c.keep-length in
    record {
      step = takes _ _ k.ensures.read k.ensures.kept_after (search rules) (search rules) (search rules);
      known = gives _ _ k.ensures.read k.ensures.kept_after (search rules) (search rules) c.in_ok-count.ensures.bytes.0;
    }
