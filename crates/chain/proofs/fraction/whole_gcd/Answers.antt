use mathlib.Core.Path.{◌≡◌, ap, ◌∙◌}
use Prim.Native.Nat.{◌*◌, ◌^◌, ◌%◌}
use native.Mathlib.Omega.{arith}
use native.Mathlib.Nat.{mod-eq_of_lt}
use Rattle.meaning.specs.Number.{gcd}
use Rattle.theory.specs.Numbers.Twos.{twos, pair_gcd, gcd_le}
use Rattle.chain.proofs.fraction.whole_gcd.Goals as goal

pub odd_gcd-requires : goal.odd_gcd-requires
odd_gcd-requires c =
    let a = c.args in
    ((twos 64 a.a c.requires.0 (omega arith)).odd, (twos 64 a.b c.requires.1 (omega arith)).odd)

pub returns : goal.returns
returns c =
    let a = c.args.a in
    let b = c.args.b in
    let e : c.odd_gcd.result * 2 ^ c.min.result ≡ gcd a b =
    rw (c.odd_gcd.ensures, c.min.ensures) (pair_gcd 64 a b _ _ (twos 64 a c.requires.0 (omega arith)) (twos 64 b c.requires.1 (omega arith))) in
    ap (λ z. z % 2 ^ 64) e ∙ mod-eq_of_lt (omega (arith, gcd_le a b (omega arith)))
