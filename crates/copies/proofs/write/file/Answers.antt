use mathlib.Core.Path.{refl}
use native.Mathlib.Omega.{arith}
use borrow.Author.Rules.{rules}
use Rattle.meaning.specs.Copies.{PlanFiled, Sensible, copies_wrong, weight_wrong}
use Rattle.copies.specs.Told.{told_plan}
use Rattle.copies.proofs.Filing.{some, none}
use Rattle.theory.specs.Numbers.Decide.{holds, fails}
use Rattle.copies.proofs.write.file.Goals as goal
use Rattle.copies.proofs.write.file.Goals.{In_default}

pub returns-then-many : goal.returns-then-many
returns-then-many c =
    let beyond = c.beyond-many in
    PlanFiled.refused 30 0 (copies_wrong (holds _ {b = beyond.result} beyond.ensures (search rules))) c.refused.ensures refl

pub returns-in-Some : goal.returns-in-Some
returns-in-Some c =
    let beyond = c.beyond-many in
    let wrong = some (told_plan c.args.plan) c.wrong-wrong.ensures c.in-Some.is in
    PlanFiled.refused 31 c.in-Some.place
    (weight_wrong (fails _ {b = beyond.result} beyond.ensures (search rules)) c.in-Some.place wrong.here wrong.before)
    c.refused-in-Some.ensures refl

sensible : (c : In_default) → Sensible (told_plan c.args.plan)
sensible c =
    let beyond = c.beyond-many in
    record {
      copies = fails _ {b = beyond.result} beyond.ensures (search rules);
      weights = none (told_plan c.args.plan) c.wrong-wrong.ensures c.in_default.is;
    }

pub tables-requires : goal.tables-requires
tables-requires c = sensible (goal.at.tables-requires c).In_default

pub returns : goal.returns
returns c = PlanFiled.filed (sensible (goal.at.returns c).In_default) c.tables.ensures
