-- From a file's trace, what `fill` writes and what is replied, to the step list's face.
use Prim.Native.Nat.{ℕ}
use mathlib.Core.Path.{◌≡◌, refl}
use mathlib.Core.List.{List, []}
use Rattle.meaning.specs.Number.{filled}
use Rattle.meaning.specs.Outcome.{Answer}
use Rattle.meaning.specs.Steps.{StepRecord}
use Rattle.meaning.specs.Block.{Input}
use Rattle.meaning.specs.FileSteps.{FileSteps, file_refused, asked}
use Rattle.theory.specs.Files.StepsOne.{file_steps_one}
use Rattle.engines.specs.declared.answer.Trace.{Trace}
use Rattle.figures.specs.Traced.{FileTraced}
use Rattle.steplist.specs.Told.{records_for}
use Rattle.steplist.proofs.Promised.{all_given, put_in}
use Rattle.egorstream.specs.declared.steps.Stepped.{Stepped}
use Rattle.egorstream.specs.Steps.{Replies, answer_of}

-- The records that an empty list would be are those at the front of any other.
moved : {f : Input} {list count : ℕ} {a : Answer} {rs : List StepRecord} (before : List StepRecord) → FileSteps f list [] a count rs
    → FileSteps f list before a count (filled rs before)
moved before (file_refused number place r e c k) = file_refused number place r e c (rw k refl)
moved before (asked accepted work o) = asked accepted work (put_in before o)

pub stepped : {f : Input} {list : ℕ} {t : Trace} → FileTraced f list t → (before : List StepRecord) {after : List StepRecord}
    → after ≡ filled (records_for t list) before → (r : Stepped) → Replies t r → FileSteps f list before (answer_of r) r.count after
stepped {list = list} {t} p before e r h = rw (h.answer, h.count, e, all_given t list p.few p.inside) (moved before p.outcome)

-- What the face promises determines its answer and the list afterwards.
pub stepped_unique : {f : Input} {list : ℕ} {before after after' : List StepRecord} (r r' : Stepped)
    → FileSteps f list before (answer_of r) r.count after → FileSteps f list before (answer_of r') r'.count after'
    → (r ≡ r') × (after ≡ after')
stepped_unique r r' o o' =
    let e = file_steps_one o o' in (
      λ i. record {
        number = (e.0 i).number;
        place = (e.0 i).place;
        count = e.1 i;
        numerator = (e.0 i).numerator;
        denominator = (e.0 i).denominator;
      },
      e.2,
    )
