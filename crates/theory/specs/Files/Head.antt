-- What the head block of a file shows: 20 to 23 are found by computing.
use Rattle.std.specs.Prelude.{ℕ, ◌+◌, ◌%◌, ◌≤◌, ◌≡◌, length, take}
use Rattle.std.proofs.Common.{ap, ◌∙◌, arith, length-take-le, get_or-take}
use Rattle.std.proofs.Math.Logic.Dec
use Rattle.std.proofs.Math.Option.{Option, some, none}
use Rattle.std.proofs.Math.Decide.{ℕ_discrete, dec_le}
use Rattle.meaning.specs.Block.{
  Input,
  input_length,
  byte,
  block_byte,
  number_at,
  block_size,
  kind_at,
  block_number_at,
  check_at,
  first_sum,
  second_sum,
  first_version,
  second_version,
  version_in,
  check_modulus,
  check_begin,
  checked_bytes,
}
use Rattle.meaning.specs.File.{
  LengthFault,
  CheckFault,
  BlockNumberFault,
  kind_of,
  VersionFault,
  KindFault,
  check_refused,
  block_number_refused,
  kind_refused,
  FileRefused,
  length_wrong,
  head_wrong,
}
use Rattle.theory.specs.Numbers.Search.{turned, either}
use Rattle.theory.specs.Files.Fletcher.{fletcher, fletcher_is}

unfoldable pub lengthy : (f : Input) → Dec (LengthFault f)
unfolding either ℕ_discrete Dec.not
lengthy f = either (ℕ_discrete (input_length f) 0) (Dec.not (ℕ_discrete (input_length f % block_size) 0))

-- The sums of the head, where all the bytes they are over are kept.
abbrev pub sums : Input → ℕ × ℕ
sums f = let s = check_begin (version_in f 0) in fletcher (check_modulus (version_in f 0)) s s (take checked_bytes f.kept)

pub sums_are : (f : Input) → checked_bytes ≤ length f.kept
    → let m = check_modulus (version_in f 0) in
    let s = check_begin (version_in f 0) in
    sums f ≡ (first_sum m s (block_byte f 0) checked_bytes, second_sum m s (block_byte f 0) checked_bytes)
unfolding first_sum second_sum
sums_are f h =
    let n = length-take-le checked_bytes f.kept h in
    rw n at
    (fletcher_is (check_modulus (version_in f 0)) (check_begin (version_in f 0)) (block_byte f 0) 0 (take checked_bytes f.kept)
    (λ j l. get_or-take checked_bytes f.kept j 0 (omega arith) ∙ ap (byte f) (omega arith)))

unfoldable pub checked : (f : Input) → checked_bytes ≤ length f.kept → Dec (CheckFault f 0)
unfolding either ℕ_discrete Dec.not turned fletcher
checked f h =
    turned (λ z. rw (sums_are f h) at z) (λ z. rw (sums_are f h) z)
    (either (Dec.not (ℕ_discrete (byte f (check_at 0)) (sums f).0)) (Dec.not (ℕ_discrete (byte f (check_at 0 + 1)) (sums f).1)))

unfoldable pub numbered : (f : Input) → Dec (BlockNumberFault f 0)
unfolding ℕ_discrete Dec.not
numbered f = Dec.not (ℕ_discrete (number_at f (block_number_at 0) 2) 0)

unfoldable pub versioned : (f : Input) → Dec (VersionFault f 0)
unfolding either ℕ_discrete Dec.not Dec.and
versioned f =
    either (Dec.and (Dec.not (ℕ_discrete (version_in f 0) first_version)) (Dec.not (ℕ_discrete (version_in f 0) second_version)))
    (Dec.not (ℕ_discrete (version_in f 0) (version_in f 0)))

unfoldable pub kinds : (f : Input) → Dec (KindFault f 0)
unfolding either ℕ_discrete Dec.not versioned
kinds f = either (Dec.not (ℕ_discrete (byte f (kind_at 0)) (kind_of f 0))) (versioned f)

-- The first of 20 to 23 that the head is refused by, if it is.
unfoldable pub headed : (f : Input) → Option ((number : ℕ) × FileRefused f number 0)
unfolding lengthy checked numbered kinds dec_le
headed f =
    elim (lengthy f) [
      | yes w ↦ some (20, length_wrong w)
      | no w ↦ elim (dec_le checked_bytes (length f.kept)) [
        | no h ↦ none
        | yes h ↦ elim (checked f h) [
          | yes c ↦ some (21, head_wrong 21 w (check_refused c))
          | no c ↦ elim (numbered f) [
            | yes p ↦ some (22, head_wrong 22 w (block_number_refused c p))
            | no p ↦ elim (kinds f) [
              | yes k ↦ some (23, head_wrong 23 w (kind_refused c p k))
              | no k ↦ none
            ]
          ]
        ]
      ]
    ]
