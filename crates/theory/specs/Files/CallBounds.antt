-- The call in the modes that ask for the bounds: one outcome, whichever of them is named, and an answer wherever the chain meets none of 3 to 10.
use Rattle.std.specs.Prelude.{ℕ, zero, suc, ◌≤◌, ◌≡◌, refl, List, length}
use Rattle.std.proofs.Common.{◌∙◌, inl, inr, ⊎_elim, arith}
use Rattle.meaning.specs.Refusal.{plain, Applies, WellFormed}
use Rattle.meaning.specs.Block.{Input, whole_file, head_states, order_in}
use Rattle.meaning.specs.File.{Accepted, plain_in}
use Rattle.meaning.specs.Call.{default_mode, bounds_mode, AsksBounds, answer_length, Said, CallOutcome, mode_wrong, answer_short, file_refused, chain_refused, answered}
use Rattle.theory.specs.Numbers.Tab.{tab_length}
use Rattle.theory.specs.Outcomes.Formed.{room_enough}
use Rattle.theory.specs.Outcomes.OwnWork.{own_room}
use Rattle.theory.specs.Outcomes.DemandThree.{bounds_answer}
use Rattle.theory.specs.Files.Right.{Bounded, bounded}
use Rattle.theory.specs.Files.FileOne.{accepted_unrefused}
use Rattle.theory.specs.Files.Written.{shaped}
use Rattle.theory.specs.Files.CallOne.{modes_apart, call_one}

-- A mode that asks for the bounds is none of the wrong ones.
bounds_most : {mode : ℕ} → AsksBounds mode → mode ≤ bounds_mode
bounds_most m = ⊎_elim (λ e. omega arith) (λ e. omega arith) m

module _ {mode mode' : ℕ} (m : AsksBounds mode) (m' : AsksBounds mode') where
  said_alike : {f : Input} {number : ℕ} {bytes : List ℕ} → Said f mode number bytes → Said f mode' number bytes
  said_alike (Said.exactly e a w o n g) = absurd (modes_apart e m)
  said_alike (Said.bounded e a w o n g) = Said.bounded m' a w o n g

  -- What comes in one such mode comes in each.
  pub bounds_alike : {file before after : List ℕ} {returned : ℕ} → CallOutcome file mode before returned after
      → CallOutcome file mode' before returned after
  bounds_alike (mode_wrong h e k) = absurd (omega (arith, bounds_most m))
  bounds_alike (answer_short h l e k) = answer_short (bounds_most m') l e k
  bounds_alike (file_refused h l n p r e k) = file_refused (bounds_most m') l n p r e k
  bounds_alike (chain_refused h l a n b s z e k) = chain_refused (bounds_most m') l a n b (said_alike s) z e k
  bounds_alike (answered h l a b s e k) = answered (bounds_most m') l a b (said_alike s) e k

-- Mode 0 and mode 2 give one outcome, for every file and every answer: what is returned, and the answer bytes afterwards.
pub call_modes : {file before after after' : List ℕ} {r r' : ℕ} → CallOutcome file default_mode before r after
    → CallOutcome file bounds_mode before r' after' → (r ≡ r') × (after ≡ after')
call_modes o o' = call_one (bounds_alike (inl refl) (inr refl) o) o'

-- An accepted file whose chain meets none of 3 to 10.
module _ {file : List ℕ} (taken : Accepted (whole_file file)) (clear : (k p : ℕ) → 3 ≤ k → Applies plain (plain_in (whole_file file)) k p → ⊥) where
  abbrev f : Input
  f = whole_file file

  formed : WellFormed plain (plain_in f)
  formed = record { none = go (bounded f (taken.blocks 0 (omega arith))) }
    where
      go : Bounded f → (k p : ℕ) → Applies plain (plain_in f) k p → ⊥
      go b zero p h = h
      go b (suc zero) p h = shaped b plain (omega arith) (tab_length 0 (head_states f) (order_in f)) refl h.1
      go b (suc (suc zero)) p h = room_enough (own_room (head_states f) b.few_states) (omega arith) h.1
      go b (suc (suc (suc k))) p h = clear (suc (suc (suc k))) p (omega arith) h

  -- With room for the answer it is answered: 12 never comes.
  pub call_answers : {before after : List ℕ} {mode returned : ℕ} → AsksBounds mode → answer_length ≤ length before
      → CallOutcome file mode before returned after → returned ≡ 0
  call_answers m long (mode_wrong h e k) = absurd (omega (arith, bounds_most m))
  call_answers m long (answer_short h l e k) = absurd (omega arith)
  call_answers m long (file_refused h l n p r e k) = absurd (accepted_unrefused taken r)
  call_answers m long (chain_refused h l a n b s z e k) = absurd (omega (arith, says m s))
    where
      says : {mode number : ℕ} {bytes : List ℕ} → AsksBounds mode → Said f mode number bytes → number ≡ 0
      says m (Said.exactly e a w o n g) = absurd (modes_apart e m)
      says m (Said.bounded e a w o n g) = n ∙ bounds_answer (plain_in f) formed a w o
  call_answers m long (answered h l a b s e k) = e
