-- Verdicts, in the words of meaning.
use Rattle.meaning.specs.FileLimit.{kept, broken, undecided, refused, judged}
use Rattle.meaning.specs.FileLimit as meant
use Rattle.std.specs.Prelude.{Result, Ok, Err}
use Rattle.chain.specs.Refusal.{number_of}
use Rattle.chain.specs.declared.refusal.Refusal.{Refusal}
use Rattle.near.specs.Answer.{told_between}
use Rattle.limitfile.specs.declared.Verdict.{Verdict}
use Rattle.limitfile.specs.declared.Verdict.TheVariants.{Kept, Broken, Open}
use Rattle.limitfile.specs.declared.Limited.{Limited}

abbrev pub told_verdict : Verdict → meant.Verdict
told_verdict Kept = kept
told_verdict Broken = broken
told_verdict Open = undecided

abbrev pub told_limited : Result Limited Refusal → meant.Limited
told_limited (Ok l) = judged (told_verdict l.verdict) (told_between l.chance)
told_limited (Err r) = refused (number_of r.fault) r.place
