-- What the companion promises, from what the engine promises of its trace and what `fill` writes.
use mathlib.Core.Path.{◌≡◌, refl, ap, ◌∙◌}
use Prim.Native.Nat.{ℕ, ◌≤◌}
use native.Mathlib.Omega.{arith}
use mathlib.Core.List.{List, []}
use Rattle.theory.specs.Numbers.Tab.{filled_nothing}
use Rattle.meaning.specs.Number.{tab_from, filled}
use Rattle.meaning.specs.Chain.{most_states}
use Rattle.meaning.specs.Refusal.{Lent}
use Rattle.meaning.specs.Outcome.{Answer}
use Rattle.meaning.specs.Steps.{StepRecord as Numbers, Listed, untouched, listed, records_to, StepsOutcome}
use Rattle.engines.specs.Answer.{told_chance}
use Rattle.steplist.specs.declared.Steps.{Steps}
use Rattle.engines.specs.declared.answer.Trace.{Trace}
use Rattle.engines.specs.Trace.{count_in, record_in, records_in, Traced}
use Rattle.steplist.specs.Told.{shown, records_for}

-- The records that an empty list would be are those at the front of any other.
moved : {l : Lent} {a : Answer} {count : ℕ} {rs : List Numbers} (before : List Numbers) → Listed l a [] count rs
    → Listed l a before count (filled rs before)
moved before (untouched number place r z e) = untouched number place r z (rw e refl)
moved {l} before (listed w k r p f c e) =
    listed w k r p f c (ap (λ (z : List Numbers). filled z before) (e ∙ filled_nothing (records_to l k p)))

pub put_in : {l : Lent} {a : Answer} {count : ℕ} {work : List ℕ} {rs : List Numbers} (before : List Numbers) → StepsOutcome l [] a count work rs
    → StepsOutcome l before a count work (filled rs before)
put_in before o = record { outcome = o.outcome; list = moved before o.list }

-- A list is given all records of a trace where there are no more than 64 and it has the room.
pub all_given : (t : Trace) (room : ℕ) → count_in t.numbers ≤ most_states → count_in t.numbers ≤ room
    → records_for t room ≡ records_in t.numbers
all_given t room few inside =
    let all : shown t room ≡ count_in t.numbers = omega (arith, few, inside) in
    ap (λ (k : ℕ). tab_from 0 k (record_in t.numbers)) all

pub promised : {l : Lent} {t : Trace} {work : List ℕ} → Traced l t work → (before : List Numbers) {after : List Numbers}
    → after ≡ filled (records_for t l.list) before → (r : Steps) → r.chance ≡ t.chance → r.count ≡ count_in t.numbers
    → StepsOutcome l before (told_chance r.chance) r.count work after
promised {l} {t} p before e r same count =
    rw (same, count, e, all_given t l.list p.few p.inside) (put_in before p.outcome)
