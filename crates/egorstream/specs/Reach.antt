-- What the face of the chance within so many steps answers, in the words of `meaning`.
use Rattle.meaning.specs.Within.{Within}
use Rattle.egorstream.specs.declared.within.Reached.{Reached}

abbrev pub told : Reached → Within
told r = record { number = r.number; place = r.place; parts = r.parts }
