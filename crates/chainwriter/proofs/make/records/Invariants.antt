use Rattle.chainwriter.specs.Source.{source}
use Rattle.blocks.specs.Kinds.{byte_of}
use Rattle.chainwriter.specs.Made.{Slots}
use Rattle.chainwriter.proofs.make.records.Given as goal

abbrev pub invariant-loop-i : goal.invariant-loop-i
invariant-loop-i l =
    Slots (source l.s) (byte_of l.content.kind) l.content.count l.content.begin l.initial.buffer l.b l.i l.buffer
