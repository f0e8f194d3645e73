use Rattle.meaning.specs.File.{CheckFault, BlockNumberFault, KindFault, ContentFault, BlockRefused}
use Rattle.theory.specs.Numbers.Decide.{holds, fails}
use Rattle.octets.specs.Input.{input}
use Rattle.theory.specs.Files.Right.{right}
use Rattle.blocks.proofs.block.in_turn.Goals as goal
use Rattle.blocks.proofs.block.in_turn.Goals.{Else-block_number_wrong, Else-check_wrong, Else-kind_wrong}

-- What is not wrong once its test is passed.
checks : (c : Else-check_wrong) → let a = c.args in CheckFault (input a.kept.now 0) a.b → ⊥
checks c = fails _ c.check_wrong.ensures c.if-check_wrong.false

numbers : (c : Else-block_number_wrong) → let a = c.args in BlockNumberFault (input a.kept.now 0) a.b → ⊥
numbers c = fails _ c.block_number_wrong.ensures c.if-block_number_wrong.false

kinds : (c : Else-kind_wrong) → let a = c.args in KindFault (input a.kept.now 0) a.b → ⊥
kinds c = fails _ c.kind_wrong.ensures c.if-kind_wrong.false

pub returns-then-check_wrong : goal.returns-then-check_wrong
returns-then-check_wrong c = λ more. BlockRefused.check_refused (holds _ c.check_wrong.ensures c.if-check_wrong.true)

pub returns-then-block_number_wrong : goal.returns-then-block_number_wrong
returns-then-block_number_wrong c = λ more. BlockRefused.block_number_refused (checks (goal.at.returns-then-block_number_wrong c).Else-check_wrong) (holds _ c.block_number_wrong.ensures c.if-block_number_wrong.true)

pub returns-then-kind_wrong : goal.returns-then-kind_wrong
returns-then-kind_wrong c = λ more.
    let d = c in
    BlockRefused.kind_refused (checks (goal.at.returns-then-kind_wrong c).Else-check_wrong) (numbers (goal.at.returns-then-kind_wrong c).Else-block_number_wrong) (holds _ c.kind_wrong.ensures c.if-kind_wrong.true)

pub returns-then-content_wrong : goal.returns-then-content_wrong
returns-then-content_wrong c = λ more.
    let d = c in
    let e = d in
    BlockRefused.content_refused (checks (goal.at.returns-then-content_wrong c).Else-check_wrong) (numbers (goal.at.returns-then-content_wrong c).Else-block_number_wrong) (kinds (goal.at.returns-then-content_wrong c).Else-kind_wrong)
    (holds (ContentFault (input e.args.kept.now more) e.args.b)
    (c.content_wrong.ensures more) c.if-content_wrong.true)

pub returns : goal.returns
returns c = λ more.
    let d = c in
    let e = d in
    let a = e.args in
    right (input a.kept.now more) a.b (checks (goal.at.returns c).Else-check_wrong) (numbers (goal.at.returns c).Else-block_number_wrong) (kinds (goal.at.returns c).Else-kind_wrong)
    (fails (ContentFault (input a.kept.now more) a.b) (c.content_wrong.ensures more) c.if-content_wrong.false)
