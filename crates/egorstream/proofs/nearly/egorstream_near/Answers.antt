use Rattle.egorstream.proofs.Nearing.{small, nears}
use Rattle.egorstream.proofs.nearly.egorstream_near.Goals as goal

pub reply-requires : goal.reply-requires
reply-requires c = small c.near.result c.near.ensures

pub returns : goal.returns
returns c = nears c.near.result c.near.ensures c.reply.ensures
