use Prim.Native.Nat.{ℕ, ◌+◌, ◌%◌, ◌≤◌, ◌<◌}
use mathlib.Core.Path.{◌≡◌, ap, ◌∙◌}
use native.Mathlib.Omega.{arith}
use Rattle.meaning.specs.Block.{byte, block_byte, first_sum, second_sum, checked_bytes}
use Rattle.theory.specs.Files.Sums.{first_like, second_like}
use Rattle.octets.specs.Input.{input}
use Rattle.octets.proofs.Cut.{cut, cut_at_lem}
use Rattle.fletcher.proofs.check.Goals as goal

pub returns : goal.returns
returns c =
    let cutting = c in
    let start = cutting in
    let a = start.args in
    let f = input a.kept.now 0 in
    let at = start.block_start-at.result in
    let h : at ≤ cutting.end-e.result = omega (arith, cutting.end-e.ensures, start.block_start-at.ensures.0) in
    let m = start.of.result in
    let own : (j : ℕ) → j < checked_bytes → byte (input (cut at cutting.end-e.result f.kept) 0) j % m.modulus ≡ block_byte f a.b j % m.modulus =
    λ j l. ap (λ z. z % m.modulus) (cut_at_lem f.kept (at + checked_bytes) cutting.end-e.ensures at h j (omega arith) ∙ start.block_start-at.ensures.1 j) in
    let e = start.of.ensures in record {
      first = c.both.ensures.0
          ∙ first_like m.modulus m.begin _ _ checked_bytes own
          ∙ (λ i. first_sum (e.0 i) (e.1 i) (block_byte f a.b) checked_bytes);
      second = c.both.ensures.1
          ∙ second_like m.modulus m.begin _ _ checked_bytes own
          ∙ (λ i. second_sum (e.0 i) (e.1 i) (block_byte f a.b) checked_bytes);
    }
