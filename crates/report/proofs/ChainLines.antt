-- The lines of a file: the single line of a refusal, or seven.
use Prim.Native.Nat.{ℕ, ◌*◌, ◌≤◌}
use mathlib.Core.Bool.{false}
use mathlib.Core.Path.{◌≡◌, refl, ap, ap₂, subst}
use mathlib.Core.List.{List, ◌++◌}
use native.Mathlib.Omega.{arith}
use lib.ListN.{length}
use Rattle.std.proofs.Common.{Ok, Err}
use Rattle.meaning.specs.Chain.{edge_size, Goal, Live, edge_number}
use Rattle.meaning.specs.Refusal.{Lent, plain, paid, bare, faults, WellFormed}
use Rattle.meaning.specs.Outcome.{Answer, Bounds as Numbers, no_bounds, Outcome, BoundsFigure, BoundsOutcome, RewardOutcome}
use Rattle.meaning.specs.Survey.{Count, Survey, SurveyOutcome}
use Rattle.meaning.specs.Block.{Input, head_states, head_edges}
use Rattle.meaning.specs.File.{edge_in, chain_in, plain_in, paid_in, FileRefused, Accepted}
use Rattle.meaning.specs.Text.{bytes_of}
use Rattle.meaning.specs.Report.{refused_text, lines_text, Report, report_room}
use Rattle.theory.specs.Numbers.Tab.{tab_length}
use Rattle.theory.specs.Outcomes.Formed.{few_states, few_edges}
use Rattle.theory.specs.Outcomes.Bare.{bare_formed, Entails, none, more, entails_at, reshaped}
use Rattle.chain.specs.Refusal.{number_of}
use Rattle.chain.specs.declared.refusal.Refusal.{Refusal}
use Rattle.chain.proofs.Faults.{above_0}
use Rattle.octets.specs.Written.{Room}
use Rattle.engines.specs.Answer.{told_chance, told_reward, told_bounds}
use Rattle.engines.specs.declared.answer.Bounds.{Bounds}
use Rattle.figures.specs.Found.{ReportAsked}
use Rattle.figures.specs.declared.answer.Report.{Report as Found}
use Rattle.report.specs.Lines.{Lasts, Ends, told_lines}
use Rattle.report.proofs.Lasting.{lasts_reward, reward_ended, reward_lasts}
use Rattle.report.proofs.Brief.{file_brief}
use Rattle.report.proofs.Lengths.{refusal_short}
use Rattle.report.proofs.Room.{reward_brief, report_short}

module _ {f : Input} {r : Found} (a : Accepted f) (x : ReportAsked f r) where
  -- What the entry for the reward refuses but by 12 ends the report, and anything else leaves the chain well formed.
  pub reward_line : {y : Refusal} → (r.reward ≡ Err y) × Ends (number_of y.fault) → Report f (refused_text (number_of y.fault) y.place ++ bytes_of "\n")
  reward_line {y} (e, n) =
      let o = subst (λ z. RewardOutcome (paid_in f) (told_reward z) x.reward.work) e x.reward.outcome.outcome in
      Report.chain_refused (number_of y.fault) y.place a (reward_ended o n) refl

  pub formed : Lasts r.reward → WellFormed paid (paid_in f)
  formed h = reward_lasts x.reward.outcome.outcome (lasts_reward r.reward h)

-- At most all are counted.
count_most : {P : ℕ → Type 0} {n k : ℕ} → Count P n k → k ≤ n
count_most Count.none = omega arith
count_most (Count.one p a) = omega (arith, count_most a)
count_most (Count.skip d a) = omega (arith, count_most a)

-- There is room for the line of what the entry for the reward refuses.
pub refusal_room : {l : Lent} {a : Answer} {w : List ℕ} (buffer : List ℕ) → report_room ≤ length buffer → RewardOutcome l a w
    → Room buffer 0 (refused_text a.number a.place ++ bytes_of "\n")
refusal_room {a = a} buffer h o = omega (arith, refusal_short a.number a.place (reward_brief o))

-- There is room for the line of what the reader refuses.
pub file_room : {f : Input} {number place : ℕ} (buffer : List ℕ) → report_room ≤ length buffer → FileRefused f number place
    → Room buffer 0 (refused_text number place ++ bytes_of "\n")
file_room {number = number} {place} buffer h w = omega (arith, refusal_short number place (file_brief w).1)

-- What a survey of a well-formed chain counts.
surveyed : {l : Lent} {a : Survey} → WellFormed bare l → SurveyOutcome false l a
    → Count (Goal l.chain) l.chain.states a.goals × Count (Live l.chain) l.chain.states a.live
surveyed formed (SurveyOutcome.refused n p w e) = absurd (formed.none n p w.applies)
surveyed formed (SurveyOutcome.surveyed w s t m d g k a b e) = rw e (a, b)

-- What is well formed with its rewards is well formed without.
without : (f : Input) → Entails (faults plain (plain_in f)) (faults paid (paid_in f))
without f =
    more (λ p a. a)
    (more (λ p a. (a.0, reshaped (λ h. h) (λ h. h) (λ h. absurd (h refl)) a.1))
    (more (λ p a. a)
    (more (λ p a. a)
    (more (λ p a. a)
    (more (λ p a. a)
    (more (λ p a. a)
    (more (λ p a. a)
    (more (λ p a. a)
    (more (λ p a. a)
    (more (λ p a. a)
    (more (λ p a. absurd a) none)))))))))))

module _ {f : Input} {r : Found} (formed : WellFormed paid (paid_in f)) (x : ReportAsked f r) where
  -- The entry for the bounds refuses nothing that the other does not.
  pub bounded : {y : Refusal} → r.bounds ≡ Err y → ⊥
  bounded {y} e = go (subst (λ z. BoundsOutcome (plain_in f) (told_bounds z) x.bounds.work) e x.bounds.outcome)
    where
      number : {z : Numbers} → no_bounds (number_of y.fault) y.place ≡ z → number_of y.fault ≡ z.number
      number q = ap (λ (z : Numbers). z.number) q

      go : BoundsOutcome (plain_in f) (no_bounds (number_of y.fault) y.place) x.bounds.work → ⊥
      go (Outcome.refused n p z q s) = formed.none n p (entails_at (without f) n p z.applies)
      go (Outcome.stopped n p z t q s) = absurd t
      go (Outcome.answered z t (BoundsFigure.won g q) s) = omega (arith, number q, above_0 y.fault)
      go (Outcome.answered z t (BoundsFigure.lost g q) s) = omega (arith, number q, above_0 y.fault)
      go (Outcome.answered z t (BoundsFigure.live k u v p q s' t' b e) s) = omega (arith, number e, above_0 y.fault)

  counted : Count (Goal (chain_in f)) (head_states f) r.counts.goals × Count (Live (chain_in f)) (head_states f) r.counts.live
  counted = rw (x.counts.goals, x.counts.live) (surveyed (bare_formed paid (paid_in f) formed) x.counts.outcome)

  edges : r.counts.edges ≡ head_edges f
  edges = omega (arith, x.counts.edges, tab_length 0 (edge_size * head_edges f) (edge_number (edge_in f)))

  module _ {bounds : Bounds} (e : r.bounds ≡ Ok bounds) where
    between : BoundsOutcome (plain_in f) (told_bounds (Ok bounds)) x.bounds.work
    between = subst (λ z. BoundsOutcome (plain_in f) (told_bounds z) x.bounds.work) e x.bounds.outcome

    pub lines_room : (buffer : List ℕ) → report_room ≤ length buffer → Room buffer 0 (told_lines r bounds)
    lines_room buffer h =
        let c = r.counts in
        omega (
          arith,
          report_short c.states c.edges c.goals c.live
              (omega (arith, x.counts.states, few_states paid (paid_in f) formed)) (omega (arith, x.counts.edges, few_edges paid (paid_in f) formed))
              (omega (arith, count_most counted.0, few_states paid (paid_in f) formed)) (omega (arith, count_most counted.1, few_states paid (paid_in f) formed))
              x.chance.outcome x.reward.outcome.outcome between,
        )

    pub lines_report : Accepted f → Report f (told_lines r bounds)
    lines_report a =
        let c = r.counts in
        let chance = told_chance r.chance in
        let reward = told_reward r.reward in
        let both = told_bounds (Ok bounds) in
        Report.reported a formed c.goals c.live counted.0 counted.1 chance reward both x.chance.work x.reward.work x.bounds.work
        x.chance.outcome x.reward.outcome.outcome between
        (ap₂ (λ s k. lines_text s k c.goals c.live chance reward both) x.counts.states edges)
