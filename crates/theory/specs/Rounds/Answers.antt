-- What is answered within k steps: it is there, it is one, and it is held to the true chance within k steps and to the chance.
use Rattle.std.specs.Prelude.{ℕ, ◌+◌, ◌*◌, ◌^◌, ◌≤◌, ◌<◌, ◌≡◌, refl}
use Rattle.std.proofs.Common.{sym, ap, ap₂, ◌∙◌, ⊎_elim, inl, arith, mul-le-mul_left, eq-eqb, ne_eqb}
use Rattle.std.proofs.Math.Nat.{le_of_mul-le-mul_left}
use Rattle.meaning.specs.Number.{bit}
use Rattle.meaning.specs.Chain.{Chain, denominator, Goal}
use Rattle.meaning.specs.Figure.{Chance}
use Rattle.meaning.specs.Refusal.{Lent, bare, WellFormed}
use Rattle.meaning.specs.Within.{most_steps, all_parts, held, common, reached_in, Within, no_within, within, WithinOutcome, many_steps, refused, answered}
use Rattle.theory.specs.Numbers.Sum.{below}
use Rattle.theory.specs.Outcomes.Existence.{chances_exist}
use Rattle.theory.specs.Outcomes.Formed.{formed_fine, start_in}
use Rattle.theory.specs.Outcomes.Look.{LookResult, look}
use Rattle.theory.specs.Outcomes.Determined.{refused_one, refused_unformed}
use Rattle.theory.specs.Rounds.Round.{Ready, common_some}
use Rattle.theory.specs.Rounds.Held.{held_below, held_near, held_rises}
use Rattle.theory.specs.Rounds.Reached.{reached_below}

-- One answer for one chain and one k.
pub within_one : {l : Lent} {k : ℕ} {a a' : Within} → WithinOutcome l k a → WithinOutcome l k a' → a ≡ a'
within_one (many_steps h e) (many_steps h' e') = e ∙ sym e'
within_one (many_steps h e) (refused h' n' p' r' e') = absurd (omega arith)
within_one (many_steps h e) (answered h' w' e') = absurd (omega arith)
within_one (refused h n p r e) (many_steps h' e') = absurd (omega arith)
within_one (refused h n p r e) (refused h' n' p' r' e') = let o = refused_one r r' in e ∙ ap₂ no_within o.0 o.1 ∙ sym e'
within_one (refused h n p r e) (answered h' w' e') = absurd (refused_unformed r w')
within_one (answered h w e) (many_steps h' e') = absurd (omega arith)
within_one (answered h w e) (refused h' n' p' r' e') = absurd (refused_unformed r' w)
within_one (answered h w e) (answered h' w' e') = e ∙ sym e'

-- And always one.
pub within_exists : (l : Lent) (k : ℕ) → (a : Within) × WithinOutcome l k a
within_exists l k =
    ⊎_elim
    (λ (h : most_steps < k). (no_within 32 0, many_steps h refl))
    (λ (h : k ≤ most_steps).
    elim (look bare l) [
      | LookResult.refused n p r ↦ (no_within n p, refused h n p r refl)
      | LookResult.formed w ↦ (within (held l.chain k l.chain.start), answered h w refl)
    ])
    (below most_steps k)

-- A well-formed chain.
module _ (l : Lent) (formed : WellFormed bare l) where
  abbrev c : Chain
  c = l.chain

  pub formed_ready : Ready c
  formed_ready =
      record {
        fine = formed_fine bare l formed refl;
        some = λ i h. ⊎_elim (λ (z : 0 < denominator c i). z) (λ z. absurd (formed.none 5 i (h, inl (omega arith)))) (below 0 (denominator c i));
      }

  inside : c.start < c.states
  inside = start_in bare l formed

  -- The true chance within k steps is at most the chance.
  pub reached_chance : (k p q : ℕ) → Chance c p q → reached_in c k c.start * q ≤ p * common c ^ k
  reached_chance k p q chance =
      let (d, x, s) = chances_exist bare l formed refl in
      cancel (reached_in c k c.start) (x c.start) (common c ^ k) p q d s.whole (chance.share d x s)
      (reached_below formed_ready d x s k c.start inside)
    where
      cancel : (r x w p q d : ℕ) → 0 < d → p * d ≡ x * q → r * d ≤ x * w → r * q ≤ p * w
      cancel r x w p q d some e h = le_of_mul-le-mul_left {k = d} (omega (arith, mul-le-mul_left q h, ap (λ z. z * w) e)) some

  -- An answer of k steps, k at most 1,000.
  module _ {k : ℕ} {a : Within} (few : k ≤ most_steps) (o : WithinOutcome l k a) where
    pub within_held : a ≡ within (held c k c.start)
    within_held = within_one o (answered few formed refl)

    -- It is at most the true chance within k steps, and falls short of it by at most k parts.
    pub within_below : a.parts * common c ^ k ≤ all_parts * reached_in c k c.start
    within_below = rw within_held (held_below formed_ready k c.start inside)

    pub within_near : all_parts * reached_in c k c.start ≤ (a.parts + k) * common c ^ k
    within_near = rw within_held (held_near formed_ready k c.start inside)

    -- And at most the chance.
    pub within_chance : (p q : ℕ) → Chance c p q → a.parts * q ≤ all_parts * p
    within_chance p q chance =
        cancel a.parts (reached_in c k c.start) (common c ^ k) all_parts p q (common_some formed_ready k) within_below (reached_chance k p q chance)
      where
        cancel : (h r w u p q : ℕ) → 0 < w → h * w ≤ u * r → r * q ≤ p * w → h * q ≤ u * p
        cancel h r w u p q some e f = le_of_mul-le-mul_left {k = w} (omega (arith, mul-le-mul_left q e, mul-le-mul_left u f)) some

  -- With no step only a goal start is nonzero.
  module _ {a : Within} (o : WithinOutcome l 0 a) where
    pub within_goal : Goal c c.start → a ≡ within all_parts
    unfolding held
    within_goal g = within_held (omega arith) o ∙ rw (eq-eqb (bit c.goals c.start) 1 g)

    pub within_none : (Goal c c.start → ⊥) → a ≡ within 0
    unfolding held
    within_none g = within_held (omega arith) o ∙ rw (ne_eqb (bit c.goals c.start) 1 g)

  -- With more steps there are no fewer parts.
  pub within_rises : {k m : ℕ} {a b : Within} → k ≤ m → m ≤ most_steps → WithinOutcome l k a → WithinOutcome l m b → a.parts ≤ b.parts
  within_rises {k} {m} h few o o' =
      rw (within_held {k = k} (omega arith) o, within_held few o') (held_rises formed_ready k m c.start inside h)
