use Rattle.theory.specs.Files.StepsOne.{file_steps_place}
use Rattle.egorstream.proofs.Stepping.{stepped}
use Rattle.egorstream.proofs.steps.egorstream_steps.Goals as goal

pub reply-requires : goal.reply-requires
reply-requires c = file_steps_place c.traced-t.ensures.outcome

pub returns : goal.returns
returns c = stepped c.traced-t.ensures _ c.fill.ensures c.reply.result c.reply.ensures
