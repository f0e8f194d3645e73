-- A run of zeros in one block of an accepted version 2 file, filled with FF: the check sees it, but for two lengths; and what those two meet.
use Rattle.std.specs.Prelude.{ℕ, suc, ◌+◌, ◌≤◌, ◌<◌, ◌≡◌, ◌⊎◌}
use Rattle.std.proofs.Common.{sym, ◌∙◌, inl, inr, ⊎_elim, arith}
use Rattle.meaning.specs.Block.{
  Input,
  input_length,
  byte,
  block_byte,
  block_at,
  version_at,
  check_at,
  checked_bytes,
  second_version,
  version_in,
  demanded,
}
use Rattle.meaning.specs.File.{CheckFault, FileRefused, Accepted}
use Rattle.theory.specs.Numbers.Sum.{below}
use Rattle.theory.specs.Files.Sums.{Filled, run_seen, run_unseen}
use Rattle.theory.specs.Files.Right.{right_laid}
use Rattle.theory.specs.Files.Damage.{Elsewhere, seen, unseen}

-- g is f with a run of zeros in block b, of one or more bytes from its byte k on, filled with FF.
pub record Overwritten (f g : Input) (b k long : ℕ) : Type 0 where
  pub same_length : input_length f ≡ input_length g
  pub run : Filled (byte f) (byte g) (block_at b + k) long
  pub some : 0 < long
  pub within : k + long ≤ checked_bytes

-- The two lengths whose sum modulo 251 is that of the zeros.
abbrev pub Whole : ℕ → Type 0
Whole long = (long ≡ 251) ⊎ (long ≡ 502)

module _ {f g : Input} {b k long : ℕ} (accepted : Accepted f) (inside : b < demanded f) (second : version_in f 0 ≡ second_version)
    (over : Overwritten f g b k long)
  where
    pub beside : (i : ℕ) → (i < block_at b + k) ⊎ (block_at b + k + long ≤ i) → byte f i ≡ byte g i
    beside i h = sym (over.run.others i h)

    pub there : Elsewhere f g b
    there =
        record {
          same_length = over.same_length;
          others = λ i. ⊎_elim (λ l. beside i (inl (omega arith))) (λ l. beside i (inr (omega (arith, over.within))));
        }

    shifted : Filled (block_byte f b) (block_byte g b) k long
    shifted =
        record {
          zeros = λ i l h. over.run.zeros (block_at b + i) (omega arith) (omega arith);
          ones = λ i l h. over.run.ones (block_at b + i) (omega arith) (omega arith);
          others = λ i. ⊎_elim (λ l. over.run.others (block_at b + i) (inl (omega arith))) (λ l. over.run.others (block_at b + i) (inr (omega arith)));
        }

    -- A byte that is not zero is not in the run.
    apart : (i : ℕ) → (byte f i ≡ 0 → ⊥) → byte f i ≡ byte g i
    apart i d =
        ⊎_elim (λ (l : i < block_at b + k). beside i (inl l))
        (λ (l : block_at b + k ≤ i).
        ⊎_elim (λ (h : i < block_at b + k + long). absurd (d (over.run.zeros i l h))) (λ h. beside i (inr h)) (below i (block_at b + k + long)))
        (below i (block_at b + k))

    own : version_in f b ≡ second_version
    own = (right_laid (accepted.blocks b inside)).versioned ∙ second

    pub version : version_in g b ≡ second_version
    version = sym (apart (version_at b) (λ z. omega (arith, own))) ∙ own

    checks : (i : ℕ) → check_at b ≤ i → i < block_at (suc b) → byte f i ≡ byte g i
    checks i l h = beside i (inr (omega (arith, over.within)))

    -- Any other length: 21 at that block.
    pub run_refused : (Whole long → ⊥) → FileRefused g 21 b
    run_refused d =
        seen accepted inside there second version checks
        (λ e. d (run_seen shifted checked_bytes over.within (omega arith) over.some e))

    -- Those two: the check still matches.
    pub run_matches : Whole long → CheckFault g b → ⊥
    run_matches c =
        let e = run_unseen shifted checked_bytes over.within c in
        unseen accepted inside there second version checks e.0 e.1
