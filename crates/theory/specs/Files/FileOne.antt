-- What the definitions allow for one chain file and one set of tables is one answer, and one set of tables afterwards.
use Rattle.std.specs.Prelude.{ℕ, ◌≤◌, ◌<◌, ◌≡◌, refl}
use Rattle.std.proofs.Common.{sym, ap₂, subst, ◌∙◌, arith}
use Rattle.meaning.specs.Block.{Input}
use Rattle.meaning.specs.File.{
  BlockRefused,
  BlockRight,
  FileRefused,
  Accepted,
  Tables,
  Reading,
  no_reading,
  ReadOutcome,
}

-- A block is refused with one number.
pub block_one : {f : Input} {b n n' : ℕ} → BlockRefused f b n → BlockRefused f b n' → n ≡ n'
block_one (BlockRefused.check_refused w) (BlockRefused.check_refused w') = refl
block_one (BlockRefused.check_refused w) (BlockRefused.block_number_refused c' w') = absurd (c' w)
block_one (BlockRefused.check_refused w) (BlockRefused.kind_refused c' p' w') = absurd (c' w)
block_one (BlockRefused.check_refused w) (BlockRefused.content_refused c' p' k' w') = absurd (c' w)
block_one (BlockRefused.block_number_refused c w) (BlockRefused.check_refused w') = absurd (c w')
block_one (BlockRefused.block_number_refused c w) (BlockRefused.block_number_refused c' w') = refl
block_one (BlockRefused.block_number_refused c w) (BlockRefused.kind_refused c' p' w') = absurd (p' w)
block_one (BlockRefused.block_number_refused c w) (BlockRefused.content_refused c' p' k' w') = absurd (p' w)
block_one (BlockRefused.kind_refused c p w) (BlockRefused.check_refused w') = absurd (c w')
block_one (BlockRefused.kind_refused c p w) (BlockRefused.block_number_refused c' w') = absurd (p w')
block_one (BlockRefused.kind_refused c p w) (BlockRefused.kind_refused c' p' w') = refl
block_one (BlockRefused.kind_refused c p w) (BlockRefused.content_refused c' p' k' w') = absurd (k' w)
block_one (BlockRefused.content_refused c p k w) (BlockRefused.check_refused w') = absurd (c w')
block_one (BlockRefused.content_refused c p k w) (BlockRefused.block_number_refused c' w') = absurd (p w')
block_one (BlockRefused.content_refused c p k w) (BlockRefused.kind_refused c' p' w') = absurd (k w')
block_one (BlockRefused.content_refused c p k w) (BlockRefused.content_refused c' p' k' w') = refl

-- A block is refused by 21 to 24, and a file by 20 to 24.
pub block_numbers : {f : Input} {b n : ℕ} → BlockRefused f b n → (21 ≤ n) × (n ≤ 24)
block_numbers (BlockRefused.check_refused w) = (omega arith, omega arith)
block_numbers (BlockRefused.block_number_refused c w) = (omega arith, omega arith)
block_numbers (BlockRefused.kind_refused c p w) = (omega arith, omega arith)
block_numbers (BlockRefused.content_refused c p k w) = (omega arith, omega arith)

pub file_numbers : {f : Input} {n p : ℕ} → FileRefused f n p → (20 ≤ n) × (n ≤ 24)
file_numbers (FileRefused.length_wrong w) = (omega arith, omega arith)
file_numbers (FileRefused.head_wrong n l w) = let h = block_numbers w in (omega arith, omega arith)
file_numbers (FileRefused.total_wrong l h w) = (omega arith, omega arith)
file_numbers (FileRefused.block_wrong n b l t z m a w) = let h = block_numbers w in (omega arith, omega arith)

-- The first block that is refused is one.
first_one : {f : Input} {b b' n n' : ℕ} → ((a : ℕ) → a < b → BlockRight f a) → BlockRefused f b n
    → ((a : ℕ) → a < b' → BlockRight f a) → BlockRefused f b' n' → (n ≡ n') × (b ≡ b')
first_one {f} {b} {b'} {n} {n'} l w l' w' =
    let x : b < b' → ⊥ = λ h. l' b h n w in
    let y : b' < b → ⊥ = λ h. l b' h n' w' in
    let e : b ≡ b' = omega arith in
    (block_one w (subst (λ z. BlockRefused f z n') (sym e) w'), e)

-- A file is refused with one number at one place.
pub file_one : {f : Input} {n p n' p' : ℕ} → FileRefused f n p → FileRefused f n' p' → (n ≡ n') × (p ≡ p')
file_one (FileRefused.length_wrong w) (FileRefused.length_wrong w') = (refl, refl)
file_one (FileRefused.length_wrong w) (FileRefused.head_wrong n' l' w') = absurd (l' w)
file_one (FileRefused.length_wrong w) (FileRefused.total_wrong l' h' w') = absurd (l' w)
file_one (FileRefused.length_wrong w) (FileRefused.block_wrong n' b' l' t' z' m' a' w') = absurd (l' w)
file_one (FileRefused.head_wrong n l w) (FileRefused.length_wrong w') = absurd (l w')
file_one (FileRefused.head_wrong n l w) (FileRefused.head_wrong n' l' w') = (block_one w w', refl)
file_one (FileRefused.head_wrong n l w) (FileRefused.total_wrong l' h' w') = absurd (h' n w)
file_one (FileRefused.head_wrong n l w) (FileRefused.block_wrong n' b' l' t' z' m' a' w') = absurd (a' 0 z' n w)
file_one (FileRefused.total_wrong l h w) (FileRefused.length_wrong w') = absurd (l w')
file_one (FileRefused.total_wrong l h w) (FileRefused.head_wrong n' l' w') = absurd (h n' w')
file_one (FileRefused.total_wrong l h w) (FileRefused.total_wrong l' h' w') = (refl, refl)
file_one (FileRefused.total_wrong l h w) (FileRefused.block_wrong n' b' l' t' z' m' a' w') = absurd (t' w)
file_one (FileRefused.block_wrong n b l t z m a w) (FileRefused.length_wrong w') = absurd (l w')
file_one (FileRefused.block_wrong n b l t z m a w) (FileRefused.head_wrong n' l' w') = absurd (a 0 z n' w')
file_one (FileRefused.block_wrong n b l t z m a w) (FileRefused.total_wrong l' h' w') = absurd (t w')
file_one (FileRefused.block_wrong n b l t z m a w) (FileRefused.block_wrong n' b' l' t' z' m' a' w') = first_one a w a' w'

-- No file is both accepted and refused.
pub accepted_unrefused : {f : Input} {n p : ℕ} → Accepted f → FileRefused f n p → ⊥
accepted_unrefused a (FileRefused.length_wrong w) = a.whole w
accepted_unrefused a (FileRefused.head_wrong n l w) = a.blocks 0 (omega arith) n w
accepted_unrefused a (FileRefused.total_wrong l h w) = a.total w
accepted_unrefused a (FileRefused.block_wrong n b l t z m e w) = a.blocks b m n w

-- One answer, and one set of tables.
pub read_one : {f : Input} {before : Tables} {a a' : Reading} {after after' : Tables} → ReadOutcome f before a after
    → ReadOutcome f before a' after' → (a ≡ a') × (after ≡ after')
read_one (ReadOutcome.short s e t) (ReadOutcome.short s' e' t') = (e ∙ sym e', t ∙ sym t')
read_one (ReadOutcome.short s e t) (ReadOutcome.refused s' n' p' w' e' t') = absurd (s' s)
read_one (ReadOutcome.short s e t) (ReadOutcome.accepted s' w' e' t') = absurd (s' s)
read_one (ReadOutcome.refused s n p w e t) (ReadOutcome.short s' e' t') = absurd (s s')
read_one (ReadOutcome.refused s n p w e t) (ReadOutcome.refused s' n' p' w' e' t') =
    let o = file_one w w' in (e ∙ ap₂ no_reading o.0 o.1 ∙ sym e', t ∙ sym t')
read_one (ReadOutcome.refused s n p w e t) (ReadOutcome.accepted s' w' e' t') = absurd (accepted_unrefused w' w)
read_one (ReadOutcome.accepted s w e t) (ReadOutcome.short s' e' t') = absurd (s s')
read_one (ReadOutcome.accepted s w e t) (ReadOutcome.refused s' n' p' w' e' t') = absurd (accepted_unrefused w w')
read_one (ReadOutcome.accepted s w e t) (ReadOutcome.accepted s' w' e' t') = (e ∙ sym e', t ∙ sym t')
