use native.Mathlib.Omega.{arith}
use borrow.Author.Rules.{rules}
use Rattle.meaning.specs.Fewest.{FewestReport}
use Rattle.theory.specs.Numbers.Decide.{holds, fails}
use Rattle.report.proofs.Refusals.{printed, short, number_told}
use Rattle.planning.proofs.scanned.fewest.Goals as goal

pub returns-then-buffer-lt-FEWEST_ROOM : goal.returns-then-buffer-lt-FEWEST_ROOM
returns-then-buffer-lt-FEWEST_ROOM c = short c.from.result (omega arith) c.from.ensures

pub returns-then-wrong-ne0 : goal.returns-then-wrong-ne0
returns-then-wrong-ne0 c =
    let answer = c.answer in
    let weighed = c.weighed-wrong in
    number_told weighed.result.number weighed.result.place answer.result (omega arith) (search rules) (search rules) c.refused.ensures
    (λ t e. FewestReport.refused _ _ (weighed.ensures.wrong (search rules)) e) answer.ensures

pub both-requires : goal.both-requires
both-requires c =
    let sound = c.sound in
    let weighed = c.weighed-wrong in
    (weighed.ensures.serve (search rules), holds _ {b = sound.result} sound.ensures (search rules), search rules)

pub returns-then-sound : goal.returns-then-sound
returns-then-sound c = printed (search rules) c.both.ensures

pub returns : goal.returns
returns c =
    let answer = c.answer-2 in
    let sound = c.sound in
    let weighed = c.weighed-wrong in
    number_told 35 0 answer.result (omega arith) (search rules) (omega arith) c.refused-2.ensures
    (λ t e. FewestReport.no_limit_lem (weighed.ensures.serve (search rules)) (fails _ {b = sound.result} sound.ensures (search rules)) e)
    answer.ensures
