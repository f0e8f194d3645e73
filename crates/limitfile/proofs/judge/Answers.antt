use mathlib.Core.Path.{refl}
use Rattle.meaning.specs.Limit.{IsLimit}
use Rattle.meaning.specs.FileLimit.{FileLimit}
use Rattle.theory.specs.Numbers.Decide.{holds, fails}
use Rattle.limit.specs.Told.{told}
use Rattle.limitfile.proofs.judge.Goals as goal

pub asked-requires : goal.asked-requires
asked-requires c = holds (IsLimit (told c.args.m)) c.sound.ensures c.if-sound.true

pub returns-else-sound : goal.returns-else-sound
returns-else-sound c =
    rw (c.from.ensures.0, c.from.ensures.1) (FileLimit.no_limit_lem (fails (IsLimit (told c.args.m)) c.sound.ensures c.if-sound.false) refl)
