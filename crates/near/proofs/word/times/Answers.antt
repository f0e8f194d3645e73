use Rattle.std.proofs.Common.{sym, arith}
use Rattle.near.proofs.Sums.{times_small, times_value}
use Rattle.near.proofs.word.times.Goals as goal

pub overflow_mul-result : goal.overflow_mul-result
overflow_mul-result c = let a = c.args in omega (arith, times_small a.p a.w.first (omega arith) (omega arith))

pub returns : goal.returns
returns c =
    let a = c.args in
    (sym (times_value a.p a.y a.w.first a.w.behind c.requires.2.1), (times_small a.p a.w.first (omega arith) (omega arith), omega arith, omega arith))
