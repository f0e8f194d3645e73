-- With a list of n records or more the companion refuses, stops and answers as the entry for the chance does.
use Rattle.std.specs.Prelude.{ℕ, ◌≤◌, ◌<◌, ◌⊎◌, Bool, List, [], ◌∷◌}
use Rattle.std.proofs.Common.{inl, inr, arith}
use Rattle.meaning.specs.Row.{exact}
use Rattle.meaning.specs.Step.{Sets}
use Rattle.meaning.specs.Refusal.{Lent, with_list, Entry, plain, listing, never, whole, faults}
use Rattle.meaning.specs.Stop.{earns, Stopped, Stops, before_steps, in_step}
use Rattle.meaning.specs.Outcome.{Outcome, refused, stopped, answered, Answer, refusal, ChanceFigure, chance, ChanceOutcome}
use Rattle.meaning.specs.Steps.{StepRecord, StepsOutcome}
use Rattle.theory.specs.Outcomes.Computed.{set_in}
use Rattle.theory.specs.Outcomes.StepsComputed.{Written, written}
use Rattle.theory.specs.Outcomes.Bare.{reshaped, Entails, none, more, same_refused, same_formed}

-- Two lists of faults that differ in 1 and 2 alone.
every_own : (fs : List (ℕ → Type 0)) → Entails fs fs
every_own [] = none
every_own (f ∷ fs) = more (λ p a. a) (every_own fs)

but_two : (F G H K : Type 0) (fs : List (ℕ → Type 0)) → (F → H) → (G → K)
    → Entails (never ∷ whole F ∷ whole G ∷ fs) (never ∷ whole H ∷ whole K ∷ fs)
but_two F G H K fs f g =
    more (λ p a. a)
    (more {F = whole F} {G = whole H} (λ p a. (a.0, f a.1))
    (more {F = whole G} {G = whole K} (λ p a. (a.0, g a.1)) (every_own fs)))

module _ (l : Lent) (room : l.chain.states ≤ l.list) where
  listing_plain : Entails (faults listing l) (faults plain (with_list 0 l))
  listing_plain = but_two _ _ _ _ _ (reshaped (λ h. h) (λ h. h) (λ h. h)) asked
    where
      asked : {w r : ℕ} → (w < r) ⊎ (l.list < l.chain.states) → (w < r) ⊎ (0 < 0)
      asked (inl h) = inl h
      asked (inr h) = absurd (omega (arith, h, room))

  plain_listing : Entails (faults plain (with_list 0 l)) (faults listing l)
  plain_listing = but_two _ _ _ _ _ (reshaped (λ h. h) (λ h. h) (λ h. h)) asked
    where
      asked : {w r : ℕ} → (w < r) ⊎ (0 < 0) → (w < r) ⊎ (l.list < l.chain.states)
      asked (inl h) = inl h
      asked (inr h) = absurd (omega (arith, h))

-- What stops the elimination, and the figure, do not ask for the list.
stops_relisted : {pay : ℕ → ℕ} {b : Bool} {l : Lent} {k : Sets} {number place : ℕ} (list : ℕ) → Stops pay b l k number place → Stops pay b (with_list list l) k number place
stops_relisted list (before_steps f) = before_steps f
stops_relisted list (in_step p h w f) = in_step p h w f

pub stopped_relisted : {pay : ℕ → ℕ} {b : Bool} {l : Lent} (list number place : ℕ) → Stopped pay b l number place → Stopped pay b (with_list list l) number place
stopped_relisted list number place s = record { sets = s.sets; right = s.right; alive = s.alive; stops = stops_relisted list s.stops }

figure_relisted : {l : Lent} {a : Answer} (list : ℕ) → ChanceFigure l a → ChanceFigure (with_list list l) a
figure_relisted list (chance p q h e) = chance p q h e

abbrev Says : Entry → Lent → Answer → List ℕ → Type 0
Says x l = Outcome x l refusal (Stopped (earns plain l) exact l) (ChanceFigure l)

says_relisted : {x y : Entry} {l : Lent} {a : Answer} {w : List ℕ} (list : ℕ) → Entails (faults x l) (faults y (with_list list l))
    → Entails (faults y (with_list list l)) (faults x l) → Says x l a w → Says y (with_list list l) a w
says_relisted list there back (refused number place r e s) = refused number place (same_refused there back r) e s
says_relisted list there back (stopped number place f t e s) =
    stopped number place (same_formed there back f) (stopped_relisted list number place t) e s
says_relisted {l} list there back (answered f u g s) =
    answered (same_formed there back f) (λ number place t. u number place (stopped_relisted l.list number place t)) (figure_relisted list g) s

module _ (l : Lent) (room : l.chain.states ≤ l.list) {a : Answer} {w : List ℕ} where
  -- Its answer and its work table are those of the entry for the chance.
  pub steps_as_chance : {before after : List StepRecord} {count : ℕ} → StepsOutcome l before a count w after → ChanceOutcome (with_list 0 l) a w
  steps_as_chance s = says_relisted 0 (listing_plain l room) (plain_listing l room) s.outcome

  -- And what the entry for the chance says the companion says, with its records.
  pub chance_as_steps : ChanceOutcome (with_list 0 l) a w → Written l a w
  chance_as_steps o =
      set_in listing l (λ k right. written k right (says_relisted l.list (plain_listing l room) (listing_plain l room) o))
