-- A block that lies past the bytes: all of its own are 0, so its check is right and its block number is not.
use Prim.Native.Nat.{ℕ, zero, suc, ◌+◌, ◌%◌, ◌<◌}
use mathlib.Core.Path.{◌≡◌, refl, sym, ap, ap₂, ◌∙◌}
use mathlib.Core.Logic.{⊎_elim}
use mathlib.Core.List.{List}
use native.Mathlib.Omega.{arith}
use lib.ListN.{length, get_or-eq_default}
use Rattle.meaning.specs.Block.{Input, byte, block_at, block_number_at, first_sum, second_sum, checked_bytes}
use Rattle.meaning.specs.File.{BlockRefused}
use Rattle.theory.specs.Numbers.Little.{past}
use Rattle.theory.specs.Files.Agree.{sum_of}
use Rattle.theory.specs.Files.Sums.{first_like, second_like}
use Rattle.octets.specs.Input.{input}

-- Zeros add nothing to sums that begin at 0.
first_zeros : (n : ℕ) → first_sum 255 0 (λ _. 0) n ≡ 0
unfolding first_sum
first_zeros zero = refl
first_zeros (suc n) = ap (λ z. (z + 0) % 255) (first_zeros n)

second_zeros : (n : ℕ) → second_sum 255 0 (λ _. 0) n ≡ 0
unfolding second_sum
second_zeros zero = refl
second_zeros (suc n) = ap₂ (λ x y. (x + y) % 255) (second_zeros n) (first_zeros (suc n))

module _ (kept : List ℕ) (more b : ℕ) (h : length kept < block_at b) where
  abbrev f : Input
  f = input kept more

  nought : (j : ℕ) → byte f (block_at b + j) ≡ 0
  nought j = get_or-eq_default kept 0 (omega arith)

  first : sum_of first_sum f b ≡ 0
  first = rw (nought 1) (first_like 255 0 _ (λ _. 0) checked_bytes (λ j l. ap (λ z. z % 255) (nought j)) ∙ first_zeros checked_bytes)

  second : sum_of second_sum f b ≡ 0
  second = rw (nought 1) (second_like 255 0 _ (λ _. 0) checked_bytes (λ j l. ap (λ z. z % 255) (nought j)) ∙ second_zeros checked_bytes)

  pub past_refused : BlockRefused f b 22
  past_refused =
      BlockRefused.block_number_refused
      (⊎_elim (λ w. w (nought checked_bytes ∙ sym first)) (λ w. w (get_or-eq_default kept 0 (omega arith) ∙ sym second)))
      (λ e. omega (arith, e, past kept (block_number_at b) 2 (omega arith)))
