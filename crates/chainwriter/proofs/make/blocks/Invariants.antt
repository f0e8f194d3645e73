use Rattle.chainwriter.specs.Source.{source}
use Rattle.chainwriter.specs.Made.{Filed}
use Rattle.chainwriter.proofs.make.blocks.Given as goal

abbrev pub invariant-loop-b : goal.invariant-loop-b
invariant-loop-b l =
    Filed (source l.s) l.initial.buffer l.b l.buffer
