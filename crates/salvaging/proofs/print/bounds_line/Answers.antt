use Prim.Native.Nat.{ℕ, ◌^◌, ◌≤◌, ◌<◌}
use native.Mathlib.Omega.{arith}
use lib.ListN.{length, length-append}
use borrow.Author.Rules.{rules}
use Rattle.meaning.specs.Report.{fraction_text}
use Rattle.theory.specs.Numbers.Decimal.{digits}
use Rattle.text.proofs.Paging.{one}
use Rattle.salvaging.proofs.print.bounds_line.Goals as goal
use Rattle.salvaging.proofs.print.bounds_line.Goals.{Start}

-- The fractions' numbers have room in their types.
fraction_wide : (p q : ℕ) → p < 2 ^ 64 → q < 2 ^ 64 → length (fraction_text p q) ≤ 41
fraction_wide p q h k = simp length-append (omega (arith, digits 19 p (omega arith), digits 19 q (omega arith)))

small : (s : Start) → let b = s.args.bounds in
    (b.lower.numerator < 2 ^ 64) × (b.lower.denominator < 2 ^ 64) × (b.upper.numerator < 2 ^ 64) × (b.upper.denominator < 2 ^ 64)
small s = search rules

pub returns : goal.returns
returns c =
    let (p, q, u, t) = small (goal.at.returns c).Start in
    let b = c.args.bounds in
    let lower : length (fraction_text b.lower.numerator b.lower.denominator) ≤ 41 = fraction_wide _ _ p q in
    let upper : length (fraction_text b.upper.numerator b.upper.denominator) ≤ 41 = fraction_wide _ _ u t in
    (one c.bounds_line.ensures, simp length-append (omega (arith, simp length-append at lower, simp length-append at upper)))
