use mathlib.Core.Path.{◌≡◌, sym, ◌∙◌}
use native.Mathlib.Omega.{arith}
use native.Mathlib.Nat.{mod-one}
use lib.Bits.{bit_or}
use lib.Count.{count_trailing_zeros}
use lib.Pow.{pow_pos}
use Rattle.std.specs.List.{fold}
use Rattle.std.proofs.Common.{rules}
use Rattle.chain.proofs.Rising.{alone_in}
use Rattle.chain.proofs.Divisors.{gcd_of_divided, joined_lowest}
use Rattle.chain.proofs.divisor.lowest_bit.Goals as goal

pub returns-then-g-eq1 : goal.returns-then-g-eq1
returns-then-g-eq1 c = let e : c.args.g ≡ 1 = omega arith in rw e (sym (gcd_of_divided c.args.row.now 1 (λ k h. mod-one _)))

pub returns : goal.returns
returns c =
    let l = c.args.row.now in
    let all : c.fold-all.result ≡ fold bit_or c.args.g l = search rules in
    let w = joined_lowest l c.args.g c.lowest.result (omega (arith, c.requires, pow_pos (count_trailing_zeros 64 c.args.g))) (omega (arith, all)) c.requires (rw all at c.lowest.ensures.0) in
    alone_in c.alone.ensures w.0 ∙ w.1
