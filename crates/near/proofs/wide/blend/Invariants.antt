use Rattle.std.proofs.Common.{◌+◌, ◌*◌}
use Rattle.near.specs.Word.{word, value}
use Rattle.near.specs.Row.{value_at, joined}
use Rattle.near.specs.Gap.{Spanned}
use Rattle.near.proofs.wide.blend.Given as goal

abbrev pub invariant-loop-j : goal.invariant-loop-j
invariant-loop-j l =
    Spanned (λ i. word (value_at l.initial.row i * value l.d + value l.w * value_at (joined l.pivot) i)) l.from l.j l.initial.row l.row
