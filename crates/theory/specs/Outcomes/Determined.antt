-- What the definitions allow for one input is one outcome: number, place, fractions and work table.
use Rattle.std.specs.Prelude.{ℕ, suc, ◌<◌, ◌≡◌, refl, Bool, List}
use Rattle.std.proofs.Common.{sym, ap₂, subst, ◌∙◌, arith}
use Rattle.meaning.specs.Step.{Sets}
use Rattle.meaning.specs.Refusal.{Lent, Entry, Refused, WellFormed}
use Rattle.meaning.specs.Stop.{Stops, before_steps, in_step}
use Rattle.meaning.specs.Outcome.{Outcome, refused, stopped, answered}

pub meet : (a b : ℕ) → (a < b → ⊥) → (b < a → ⊥) → a ≡ b
meet a b f g = omega arith

-- The numbers 1 to 11: one number, at one place.
module _ {x : Entry} {l : Lent} where
  refused_number : {k p k' p' : ℕ} → Refused x l k p → Refused x l k' p' → k ≡ k'
  refused_number {k} {p} {k'} {p'} r s =
      meet k k' (λ h. s.number_least k p h r.applies) (λ h. r.number_least k' p' h s.applies)

  refused_place : {k p p' : ℕ} → Refused x l k p → Refused x l k p' → p ≡ p'
  refused_place {k} {p} {p'} r s = meet p p' (λ h. s.place_least p h r.applies) (λ h. r.place_least p' h s.applies)

  pub refused_one : {k p k' p' : ℕ} → Refused x l k p → Refused x l k' p' → (k ≡ k') × (p ≡ p')
  refused_one {k} {p} {k'} {p'} r s =
      let e = refused_number r s in (e, refused_place r (subst (λ z. Refused x l z p') (sym e) s))

-- The number 12: it comes first at one place.
module _ {pay : ℕ → ℕ} {b : Bool} {l : Lent} {k : Sets} where
  pub stops_one : {n p n' p' : ℕ} → Stops pay b l k n p → Stops pay b l k n' p' → (n ≡ n') × (p ≡ p')
  stops_one (before_steps a) (before_steps a') = (refl, refl)
  stops_one (before_steps a) (in_step q h' w' f') = absurd (w' 0 (omega arith) a)
  stops_one (in_step p h w f) (before_steps a') = absurd (w 0 (omega arith) a')
  stops_one (in_step p h w f) (in_step q h' w' f') = (refl, meet p q (λ z. w' (suc p) z f) (λ z. w (suc q) z f'))

pub refused_unformed : {x : Entry} {l : Lent} {n p : ℕ} → Refused x l n p → WellFormed x l → ⊥
refused_unformed {n = n} {p} r w = w.none n p r.applies

-- An entry's outcome is one where what stops it is one, and its figure is.
module _
    {A : Type 0}
    {x : Entry}
    {l : Lent}
    {refusal : ℕ → ℕ → A}
    {Stop : ℕ → ℕ → Type 0}
    {Figure : A → Type 0}
    (stop_one : (n p n' p' : ℕ) → Stop n p → Stop n' p' → (n ≡ n') × (p ≡ p'))
    (figure_one : WellFormed x l → (a a' : A) → Figure a → Figure a' → a ≡ a')
  where
    pub outcome_one : {a a' : A} {w w' : List ℕ} → Outcome x l refusal Stop Figure a w → Outcome x l refusal Stop Figure a' w'
        → (a ≡ a') × (w ≡ w')
    outcome_one (refused n p r e s) (refused n' p' r' e' s') =
        let o = refused_one r r' in (e ∙ ap₂ refusal o.0 o.1 ∙ sym e', s ∙ sym s')
    outcome_one (refused n p r e s) (stopped n' p' f' t' e' s') = absurd (refused_unformed r f')
    outcome_one (refused n p r e s) (answered f' t' g' s') = absurd (refused_unformed r f')
    outcome_one (stopped n p f t e s) (refused n' p' r' e' s') = absurd (refused_unformed r' f)
    outcome_one (stopped n p f t e s) (stopped n' p' f' t' e' s') =
        let o = stop_one n p n' p' t t' in (e ∙ ap₂ refusal o.0 o.1 ∙ sym e', s ∙ sym s')
    outcome_one (stopped n p f t e s) (answered f' t' g' s') = absurd (t' n p t)
    outcome_one (answered f t g s) (refused n' p' r' e' s') = absurd (refused_unformed r' f)
    outcome_one (answered f t g s) (stopped n' p' f' t' e' s') = absurd (t n' p' t')
    outcome_one {a} {a'} (answered f t g s) (answered f' t' g' s') = (figure_one f a a' g g', s ∙ sym s')
