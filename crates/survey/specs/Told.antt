-- Document 01's numbers for each case of a survey.
use Rattle.meaning.specs.Survey.{Survey as Numbers, no_survey, surveys}
use Rattle.survey.specs.Sets.{sets_of}
use Rattle.std.specs.Prelude.{Result, Ok, Err}
use Rattle.chain.specs.declared.refusal.Refusal.{Refusal}
use Rattle.chain.specs.Refusal.{number_of}
use Rattle.survey.specs.declared.Survey.{Survey}

abbrev pub told : Result Survey Refusal → Numbers
told (Ok s) = surveys (sets_of s.sets) s.sets.missed s.goals s.live
told (Err r) = no_survey (number_of r.fault) r.place
