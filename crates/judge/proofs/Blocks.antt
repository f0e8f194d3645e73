-- What the blocks that are found right or wrong tell of the file.
use Rattle.std.proofs.Common.{ℕ, ◌+◌, ◌<◌, ◌≡◌, true, Result, Ok, Err, MatchResult, sym, subst, ⊎_elim, arith}
use Rattle.std.specs.Result.{is_ok}
use Rattle.std.proofs.lemmas.Bool.{false≢true}
use Rattle.chain.specs.Refusal.{number_of}
use Rattle.chain.specs.declared.refusal.Fault.{Fault}
use Rattle.chain.specs.declared.refusal.Refusal.{Refusal}
use Rattle.blocks.specs.Tested.{tested}
use Rattle.meaning.specs.Block.{Input, state_blocks, demanded}
use Rattle.meaning.specs.File.{BlockRight, FileRefused}
use Rattle.meaning.specs.Salvage.{FrontRefused}
use Rattle.theory.specs.Numbers.Sum.{same, last_or_below}
use Rattle.judge.specs.Tells.{Verdict, Begun, FirstWrong, further, judged, fronted}

-- The head and further blocks together.
module _ (f : Input) (begun : Begun f) where
  blocks : (end : ℕ) → ((b : ℕ) → 0 < b → b < end → BlockRight f b) → (b : ℕ) → b < end → BlockRight f b
  blocks end right b h =
      ⊎_elim (λ (e : b ≡ 0). subst (BlockRight f) (sym e) begun.head) (λ (d : b ≡ 0 → ⊥). right b (omega arith) h) (same b 0)

  pub judge : (r : Verdict) → further f (demanded f) r → judged f r
  judge (Ok u) right = record { whole = begun.whole; total = begun.total; blocks = blocks (demanded f) right }
  judge (Err r) w = FileRefused.block_wrong _ r.place begun.whole begun.total w.after w.below (blocks r.place w.before) w.refused

  pub front : (r : Verdict) → further f (1 + state_blocks f) r → fronted f r
  front (Ok u) right =
      record { whole = begun.whole; total = begun.total; blocks = λ b h. blocks (1 + state_blocks f) right b (omega arith) }
  front (Err r) w =
      FrontRefused.states_wrong _ r.place begun.whole begun.total w.after (omega (arith, w.below)) (blocks r.place w.before) w.refused

-- The test of block b, whose refusal is at b.
module _ (f : Input) (b : ℕ) (after : 0 < b) (before : (a : ℕ) → 0 < a → a < b → BlockRight f a) where
  pub wrong : (end : ℕ) (r : Result Unit Fault) (e : Refusal) → tested f b r → b < end → MatchResult r (λ _. ⊥) (λ fault. (e.fault ≡ fault) × (e.place ≡ b))
      → FirstWrong f end (number_of e.fault) e.place
  wrong end (Ok u) e t h m = absurd m
  wrong end (Err fault) e t h m = rw (m.0, m.1) (record { after = after; below = h; before = before; refused = t })

  pub right : (r : Result Unit Fault) → tested f b r → true ≡ is_ok r → (a : ℕ) → 0 < a → a < b + 1 → BlockRight f a
  right (Ok u) t e a h l = last_or_below {j = a} {n = b} (omega arith) (λ q. rw q t) (before a h)
  right (Err fault) t e a h l = absurd (false≢true (sym e))
