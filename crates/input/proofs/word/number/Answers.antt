use mathlib.Core.Path.{refl, sym}
use native.Mathlib.Omega.{arith}
use borrow.Author.Tests.{eqb-true}
use borrow.Author.Rules.{rules}
use Rattle.meaning.specs.Text.{WordOutcome}
use Rattle.input.proofs.ReadWord.{read_none, read_stuck, read_more, read_large, read_all}
use Rattle.input.proofs.word.number.Goals as goal
use Rattle.input.proofs.word.number.Goals.{then-is_empty-via-then-is_empty, then-is_empty-via-else-is_empty+then-word-gt-DIGITS}

pub returns-then-is_empty : goal.returns-then-is_empty
returns-then-is_empty c =
    elim c.then-is_empty.branch [
      | then-is_empty-via-then-is_empty w ↦ WordOutcome.nothing (λ d. omega (arith, d.some, eqb-true _ _ (sym w.if-is_empty.ensures))) refl
      | then-is_empty-via-else-is_empty+then-word-gt-DIGITS w ↦ WordOutcome.nothing (λ d. omega (arith, d.few)) refl
    ]

pub loop-byte-init : goal.loop-byte-init
loop-byte-init c = read_none

pub returns-in_default : goal.returns-in_default
returns-in_default c = WordOutcome.nothing (read_stuck c.loop-byte.invariant (search rules) c.in_default.ensures) refl

pub returns-in_default-pushed : goal.returns-in_default-pushed
returns-in_default-pushed c =
    WordOutcome.nothing (read_large c.loop-byte.invariant (search rules) c.in-Some.ensures c.in_default-pushed.ensures) refl

pub loop-byte-preserved : goal.loop-byte-preserved
loop-byte-preserved c = read_more c.loop-byte.invariant (search rules) c.in-Some.ensures c.in-Some-pushed.ensures (omega arith)

pub returns : goal.returns
returns c = read_all c.loop-byte.invariant (search rules) (search rules) (search rules)
