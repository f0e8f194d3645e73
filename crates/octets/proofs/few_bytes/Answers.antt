use Prim.Native.Nat.{ℕ, ◌+◌, ◌*◌, ◌-◌, ◌^◌, ◌≤◌, ◌<◌, min}
use mathlib.Core.Path.{◌≡◌, ap, ◌∙◌}
use mathlib.Core.List.{List}
use native.Mathlib.Nat.{pow-le-pow_right}
use native.Mathlib.Omega.{arith}
use lib.ListN.{length, get_or, take, length-take, get_or-eq_default}
use lib.Seq.{get_or-take}
use Rattle.meaning.specs.Number.{sum_to}
use Rattle.theory.specs.Numbers.Sum.{sum_ext}
use Rattle.theory.specs.Numbers.Little.{stays}
use Rattle.octets.proofs.Cut.{cut, cut_from}
use Rattle.octets.proofs.few_bytes.Goals as goal

-- Of the bytes that are not kept nothing counts.
module _ (kept bytes : List ℕ) (at width : ℕ) (few : length bytes ≤ width) (place : (k : ℕ) → k < width → get_or bytes k 0 ≡ get_or kept (at + k) 0) where
  abbrev digits : ℕ → ℕ
  digits k = get_or bytes k 0 * 256 ^ k

  number : {r : ℕ} → (r ≡ sum_to digits (length bytes)) × (r < 256 ^ length bytes) → (r ≡ sum_to (λ k. get_or kept (at + k) 0 * 256 ^ k) width) × (r < 256 ^ width)
  number g =
      let n = length bytes in
      let whole : n + (width - n) ≡ width = omega (arith, few) in (
        g.0
            ∙ stays digits n (width - n) (λ k l. ap (λ z. z * 256 ^ k) (get_or-eq_default bytes 0 l) ∙ omega arith)
            ∙ ap (sum_to digits) whole
            ∙ sum_ext _ _ width (λ k l. ap (λ z. z * 256 ^ k) (place k l)),
        omega (arith, g.1, pow-le-pow_right {n = 256} (omega arith) {i = n} {j = width} few),
      )

-- All that is kept from place `at` on.
module _ (kept : List ℕ) (at : ℕ) {low : ℕ} (begins : low ≡ min at (length kept)) where
  abbrev left : List ℕ
  left = cut low (length kept) kept

  left_at : (width k : ℕ) → k < width → get_or left k 0 ≡ get_or kept (at + k) 0
  left_at width k h = cut_from kept at (length kept + width) begins (omega arith) k (omega arith)

pub returns-then-left-width : goal.returns-then-left-width
returns-then-left-width c =
    let a = c.args in
    let b = c.end.ensures in
    number a.kept.now (left a.kept.now a.at b) a.at a.width (omega (arith, c.if-left-width.true)) (left_at a.kept.now a.at b a.width) c.whole_number.ensures

pub returns-else-left-width : goal.returns-else-left-width
returns-else-left-width c =
    let a = c.args in
    let b = c.end.ensures in
    number a.kept.now (take a.width (left a.kept.now a.at b)) a.at a.width (omega (arith, length-take a.width (left a.kept.now a.at b)))
    (λ k h. get_or-take a.width (left a.kept.now a.at b) k 0 h ∙ left_at a.kept.now a.at b a.width k h)
    c.whole_number-else-left-width.ensures
