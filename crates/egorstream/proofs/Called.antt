-- From a file's figures to the outcome of the call.
use Prim.Native.Nat.{ℕ, ◌≤◌, ◌<◌}
use mathlib.Core.Path.{◌≡◌, refl, sym, ap, subst, ◌∙◌}
use mathlib.Core.Logic.{inl, inr, ⊎_elim}
use mathlib.Core.List.{List}
use native.Mathlib.Omega.{arith}
use lib.ListN.{length}
use Rattle.std.proofs.Common.{Result, Ok, Err, MatchResult}
use Rattle.meaning.specs.Outcome.{Answer, Bounds}
use Rattle.meaning.specs.Block.{whole_file}
use Rattle.meaning.specs.Call.{exact_mode, bounds_mode, AsksExact, AsksBounds, answer_length, Said, CallOutcome}
use Rattle.theory.specs.Numbers.Sum.{below}
use Rattle.theory.specs.Files.FileOne.{file_numbers}
use Rattle.chain.specs.declared.fraction.Fraction.{Fraction}
use Rattle.chain.specs.declared.refusal.Refusal.{Refusal}
use Rattle.chain.proofs.Faults.{above_0}
use Rattle.engines.specs.Answer.{told_chance, told_bounds}
use Rattle.engines.specs.declared.answer.Bounds.{Bounds as Pair}
use Rattle.figures.specs.Found.{FileChance, FileBounds, refused, accepted}
use Rattle.egorstream.specs.Answered.{Answered}

pub exact_mode_lem : {file before after : List ℕ} {mode r : ℕ} → AsksExact mode → CallOutcome file exact_mode before r after
    → CallOutcome file mode before r after
exact_mode_lem {file} {before} {after} {r = r} e = subst (λ mode. CallOutcome file mode before r after) (sym e)

-- A mode that is not wrong and not exact asks for the bounds.
pub other_mode : {mode : ℕ} → mode ≤ bounds_mode → (AsksExact mode → ⊥) → AsksBounds mode
other_mode {mode} h n = ⊎_elim (λ l. inl (omega arith)) (λ l. inr (omega arith)) (below mode exact_mode)

module _ {file before : List ℕ} (room : answer_length ≤ length before) where
  -- The exact fraction stands twice.
  pub exactly : (chance : Result Fraction Refusal) (found : Result Pair Refusal) {returned : ℕ} {after : List ℕ}
      → MatchResult chance (λ p. found ≡ Ok (record { lower = p; upper = p })) (λ r. found ≡ Err r) → FileChance (whole_file file) (told_chance chance)
      → Answered found before returned after → CallOutcome file exact_mode before returned after
  exactly (Ok p) found m (refused n q w e) x = absurd (omega (arith, file_numbers w, ap (λ (a : Answer). a.number) e))
  exactly (Ok p) found {returned} {after} m (accepted a f) x =
      let y = subst (λ (r : Result Pair Refusal). Answered r before returned after) m x in
      CallOutcome.answered (omega arith) room a _ (Said.exactly refl _ f.work f.outcome refl refl) y.0 y.1
  exactly (Err r) found {returned} {after} m (refused n q w e) x =
      let y = subst (λ (r : Result Pair Refusal). Answered r before returned after) m x in
      CallOutcome.file_refused (omega arith) room n q w (y.0 ∙ ap (λ (a : Answer). a.number) e) y.1
  exactly (Err r) found {returned} {after} m (accepted a f) x =
      let y = subst (λ (r : Result Pair Refusal). Answered r before returned after) m x in
      CallOutcome.chain_refused (omega arith) room a _ _ (Said.exactly refl _ f.work f.outcome refl refl) (above_0 r.fault) y.0 y.1

  pub bounded : (found : Result Pair Refusal) {returned : ℕ} {after : List ℕ} → FileBounds (whole_file file) (told_bounds found)
      → Answered found before returned after → CallOutcome file bounds_mode before returned after
  bounded (Ok b) (refused n q w e) x = absurd (omega (arith, file_numbers w, ap (λ (a : Bounds). a.number) e))
  bounded (Ok b) (accepted a f) x =
      CallOutcome.answered (omega arith) room a _ (Said.bounded (inr refl) _ f.work f.outcome refl refl) x.0 x.1
  bounded (Err r) (refused n q w e) x =
      CallOutcome.file_refused (omega arith) room n q w (x.0 ∙ ap (λ (a : Bounds). a.number) e) x.1
  bounded (Err r) (accepted a f) x =
      CallOutcome.chain_refused (omega arith) room a _ _ (Said.bounded (inr refl) _ f.work f.outcome refl refl) (above_0 r.fault) x.0 x.1
