-- The call with a file of a well-formed chain, in a mode that asks for the exact chance: it answers the chance, or refuses with 12.
use Rattle.std.specs.Prelude.{ℕ, ◌≤◌, ◌≡◌, ◌⊎◌, List, [], length}
use Rattle.std.proofs.Common.{ap₂, subst, ◌∙◌, inl, inr, ⊎_elim, arith}
use Rattle.meaning.specs.Chain.{Chain}
use Rattle.meaning.specs.Figure.{Chance}
use Rattle.meaning.specs.Refusal.{Lent, own_work, plain, WellFormed}
use Rattle.meaning.specs.Outcome.{ChanceOutcome}
use Rattle.meaning.specs.Block.{whole_file}
use Rattle.meaning.specs.File.{plain_in}
use Rattle.meaning.specs.Write.{FileOf}
use Rattle.meaning.specs.Call.{AsksExact, answer_length, answer_number, Said, CallOutcome, mode_wrong, answer_short, file_refused, chain_refused, answered}
use Rattle.meaning.specs.Demand.{TooLarge}
use Rattle.theory.specs.Outcomes.DemandTwo.{chance_answers, chance_refuses}
use Rattle.theory.specs.Files.FileOne.{accepted_unrefused}
use Rattle.theory.specs.Files.CallOne.{modes_apart}
use Rattle.theory.specs.Files.CallRead.{call_chance}

-- What is returned for the chain of l, and the fraction that is read back.
pub data Exactly (l : Lent) (returned p q : ℕ) : Type 0 where
  answers : returned ≡ 0 → (TooLarge l → ⊥) → Chance l.chain p q → Exactly l returned p q
  refuses : returned ≡ 12 → TooLarge l → Exactly l returned p q

-- What the exact entry is lent by the call.
abbrev pub asked : Lent → Lent
asked l = own_work l.chain l.order []

module _ {l : Lent} {file : List ℕ} {mode : ℕ} (asks : AsksExact mode) (x : FileOf l file)
    (formed : WellFormed plain (asked l))
  where
    -- What the engine says: 12 exactly where a row does not fit, and else 0.
    says : {number : ℕ} {bytes : List ℕ} → Said (whole_file file) mode number bytes
        → ((number ≡ 0) × (TooLarge (asked l) → ⊥)) ⊎ ((number ≡ 12) × TooLarge (asked l))
    says (Said.bounded m a w o e g) = absurd (modes_apart asks m)
    says (Said.exactly m a w o e g) =
        let same : plain_in (whole_file file) ≡ asked l = ap₂ (λ c o. own_work c o []) x.chain x.order in
        let o' : ChanceOutcome (asked l) a w = subst (λ l. ChanceOutcome l a w) same o in
        let fit = chance_refuses (asked l) formed a w o' in
        ⊎_elim
        (λ (z : a.number ≡ 0).
        let none : TooLarge (asked l) → ⊥ = λ f. let t : a.number ≡ 12 = fit.1 f in omega arith in
        inl (e ∙ z, none))
        (λ (z : a.number ≡ 12). inr (e ∙ z, fit.0 z))
        (chance_answers (asked l) formed a w o')

    pub call_exactly : {before after : List ℕ} {returned : ℕ} → answer_length ≤ length before → CallOutcome file mode before returned after
        → Exactly (asked l) returned (answer_number after 0) (answer_number after 1)
    call_exactly room (mode_wrong m e k) = absurd (omega arith)
    call_exactly room (answer_short m s e k) = absurd (omega arith)
    call_exactly room (file_refused m s number place r e k) = absurd (accepted_unrefused x.accepted r)
    call_exactly room (chain_refused m s a number bytes t z e k) =
        ⊎_elim (λ u. absurd (let n : number ≡ 0 = u.0 in omega arith)) (λ u. refuses (e ∙ u.0) u.1) (says t)
    call_exactly {before} {after} room (answered m s a bytes t e k) =
        ⊎_elim
        (λ u.
        let o = subst (λ r. CallOutcome file mode before r after) e (CallOutcome.answered m s a bytes t e k) in
        answers e u.1 (subst (λ (c : Chain). Chance c (answer_number after 0) (answer_number after 1)) x.chain (call_chance asks o).0))
        (λ u. absurd (let n : ◌≡◌ {A = ℕ} 0 12 = u.0 in omega arith))
        (says t)
