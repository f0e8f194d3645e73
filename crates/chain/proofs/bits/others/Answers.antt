use Prim.Native.Nat.{◌+◌, ◌-◌, ◌%◌}
use mathlib.Core.Path.{◌≡◌}
use native.Mathlib.Omega.{arith}
use lib.Bits.{and_le_r, and_zero_l}
use Rattle.chain.proofs.Rising.{others_gone, others_kept}
use Rattle.chain.proofs.bits.others.Goals as goal

pub returns : goal.returns
returns c =
    let s = c.args.set in (
      λ some.
          let less : (s + 18446744073709551615) % 18446744073709551616 ≡ s - 1 = omega arith in
          rw less
          (record {
            less = omega (arith, and_le_r s (s - 1));
            gone = λ t h. others_gone t s h;
            kept = λ t h i d. others_kept t s i h d;
          }),
      λ none. rw none (and_zero_l 18446744073709551615),
    )
