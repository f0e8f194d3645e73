use Rattle.std.proofs.Common.{refl, sym, ◌∙◌, rules}
use Rattle.theory.specs.Numbers.Decide.{fails}
use Rattle.blocks.proofs.Law.{agrees}
use Rattle.blocks.proofs.Content.{head_decides}
use Rattle.blocks.proofs.block.content_wrong.Goals as goal
use Rattle.blocks.proofs.block.content_wrong.Goals.{then-number-count, else-number-count}

-- Count and rest are right where the kinds are matched.
pub returns-in-Head : goal.returns-in-Head
returns-in-Head c = λ more.
    elim c.if-number-count.branch [
      | then-number-count w ↦ absurd (search (rules, w.if-number-count.true, w.value-is, c.if-written.false))
      | else-number-count w ↦
          head_decides
          (record {
            counted = c.count-count.ensures.0;
            counts = agrees c.number.ensures.0 refl w.if-number-count.false;
            clear = fails _ w.written.ensures (sym w.value-is ∙ c.if-written.false);
          })
          more (sym c.in-Head.ensures) c.head_wrong.result c.head_wrong.ensures
    ]
