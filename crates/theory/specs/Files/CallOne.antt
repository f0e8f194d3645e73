-- The call from C has one outcome for one file, mode and answer: what it returns, and the answer bytes afterwards.
use Rattle.std.specs.Prelude.{ℕ, ◌≡◌, List}
use Rattle.std.proofs.Common.{sym, ap, ◌∙◌, ⊎_elim, arith}
use Rattle.meaning.specs.Number.{filled}
use Rattle.meaning.specs.Outcome.{Answer, Bounds}
use Rattle.meaning.specs.Block.{Input}
use Rattle.meaning.specs.File.{plain_in}
use Rattle.meaning.specs.Call.{AsksExact, AsksBounds, answer_bytes, Said, CallOutcome, mode_wrong, answer_short, file_refused, chain_refused, answered}
use Rattle.theory.specs.Outcomes.Entries.{chance_determined, bounds_determined}
use Rattle.theory.specs.Files.FileOne.{file_one, accepted_unrefused}

exact_bytes : Answer → List ℕ
exact_bytes a = answer_bytes a.numerator a.denominator a.numerator a.denominator

bounds_bytes : Bounds → List ℕ
bounds_bytes a = answer_bytes a.lower_numerator a.lower_denominator a.upper_numerator a.upper_denominator

-- No mode asks for both engines.
pub modes_apart : {mode : ℕ} → AsksExact mode → AsksBounds mode → ⊥
modes_apart m n = ⊎_elim (λ d. omega arith) (λ e. omega arith) n

-- What the engine of a mode says is one.
pub said_one : {f : Input} {mode n n' : ℕ} {b b' : List ℕ} → Said f mode n b → Said f mode n' b' → (n ≡ n') × (b ≡ b')
unfolding exact_bytes bounds_bytes
said_one {f} (Said.exactly m a w o e g) (Said.exactly m' a' w' o' e' g') =
    let q = (chance_determined (plain_in f) o o').0 in
    (e ∙ ap (λ (a : Answer). a.number) q ∙ sym e', g ∙ ap exact_bytes q ∙ sym g')
said_one (Said.exactly m a w o e g) (Said.bounded m' a' w' o' e' g') = absurd (modes_apart m m')
said_one (Said.bounded m a w o e g) (Said.exactly m' a' w' o' e' g') = absurd (modes_apart m' m)
said_one {f} (Said.bounded m a w o e g) (Said.bounded m' a' w' o' e' g') =
    let q = (bounds_determined (plain_in f) o o').0 in
    (e ∙ ap (λ (a : Bounds). a.number) q ∙ sym e', g ∙ ap bounds_bytes q ∙ sym g')

-- Of two outcomes that both pass a test, or both fail it, the later tests decide.
pub call_one : {file before after after' : List ℕ} {mode r r' : ℕ} → CallOutcome file mode before r after → CallOutcome file mode before r' after'
    → (r ≡ r') × (after ≡ after')
call_one (mode_wrong m e k) (mode_wrong m' e' k') = (e ∙ sym e', k ∙ sym k')
call_one (mode_wrong m e k) (answer_short m' l' e' k') = absurd (omega arith)
call_one (mode_wrong m e k) (file_refused m' l' n' p' r' e' k') = absurd (omega arith)
call_one (mode_wrong m e k) (chain_refused m' l' a' n' b' s' z' e' k') = absurd (omega arith)
call_one (mode_wrong m e k) (answered m' l' a' b' s' e' k') = absurd (omega arith)
call_one (answer_short m l e k) (mode_wrong m' e' k') = absurd (omega arith)
call_one (answer_short m l e k) (answer_short m' l' e' k') = (e ∙ sym e', k ∙ sym k')
call_one (answer_short m l e k) (file_refused m' l' n' p' r' e' k') = absurd (omega arith)
call_one (answer_short m l e k) (chain_refused m' l' a' n' b' s' z' e' k') = absurd (omega arith)
call_one (answer_short m l e k) (answered m' l' a' b' s' e' k') = absurd (omega arith)
call_one (file_refused m l n p r e k) (mode_wrong m' e' k') = absurd (omega arith)
call_one (file_refused m l n p r e k) (answer_short m' l' e' k') = absurd (omega arith)
call_one (file_refused m l n p r e k) (file_refused m' l' n' p' r' e' k') = (e ∙ (file_one r r').0 ∙ sym e', k ∙ sym k')
call_one (file_refused m l n p r e k) (chain_refused m' l' a' n' b' s' z' e' k') = absurd (accepted_unrefused a' r)
call_one (file_refused m l n p r e k) (answered m' l' a' b' s' e' k') = absurd (accepted_unrefused a' r)
call_one (chain_refused m l a n b s z e k) (mode_wrong m' e' k') = absurd (omega arith)
call_one (chain_refused m l a n b s z e k) (answer_short m' l' e' k') = absurd (omega arith)
call_one (chain_refused m l a n b s z e k) (file_refused m' l' n' p' r' e' k') = absurd (accepted_unrefused a r')
call_one (chain_refused m l a n b s z e k) (chain_refused m' l' a' n' b' s' z' e' k') = (e ∙ (said_one s s').0 ∙ sym e', k ∙ sym k')
call_one (chain_refused m l a n b s z e k) (answered m' l' a' b' s' e' k') = absurd (omega (arith, (said_one s s').0))
call_one (answered m l a b s e k) (mode_wrong m' e' k') = absurd (omega arith)
call_one (answered m l a b s e k) (answer_short m' l' e' k') = absurd (omega arith)
call_one (answered m l a b s e k) (file_refused m' l' n' p' r' e' k') = absurd (accepted_unrefused a r')
call_one (answered m l a b s e k) (chain_refused m' l' a' n' b' s' z' e' k') = absurd (omega (arith, (said_one s s').0))
call_one {before = before} (answered m l a b s e k) (answered m' l' a' b' s' e' k') =
    (e ∙ sym e', k ∙ ap (λ b. filled b before) (said_one s s').1 ∙ sym k')
