-- What is said of the fewest copies holds: it is one answer; that many copies or more keep the limit, and below the first that is open all break it.
use Rattle.std.specs.Prelude.{ℕ, ◌+◌, ◌-◌, ◌^◌, ◌≤◌, ◌<◌, ◌≡◌, refl, ◌↔◌}
use Rattle.std.proofs.Common.{sym, ◌∙◌, ⊎_elim, arith}
use Rattle.meaning.specs.Figure.{Chance}
use Rattle.meaning.specs.Refusal.{plain}
use Rattle.meaning.specs.Near.{Near}
use Rattle.meaning.specs.Copies.{Plan, most_copies, Sensible, copies_chain, copies_lent}
use Rattle.meaning.specs.Limit.{Limit}
use Rattle.meaning.specs.FileLimit.{Verdict, kept, broken}
use Rattle.meaning.specs.PlanTable.{Weights, with_copies}
use Rattle.meaning.specs.Fewest.{PlanVerdict, Verdicts, Fewest}
use Rattle.theory.specs.Numbers.Sum.{below}
use Rattle.theory.specs.Outcomes.Existence.{chance_is_there}
use Rattle.theory.proofs.Limits.Verdict.{Within, verdict_kept, verdict_broken, within_below}
use Rattle.theory.specs.Plans.Formed.{copies_plain}
use Rattle.theory.specs.Plans.More.{answered}
use Rattle.theory.proofs.Plans.More.{more_copies_most}
use Rattle.theory.specs.Plans.Judged.{sensible_copies}

-- A plan that is kept has a chance of at most the limit, and one that is broken has not.
module _ {j : Plan} (sensible : Sensible j) {m : Limit} {a : Near} {v : Verdict} (o : PlanVerdict j m a v) where
  pub plan_kept : v ≡ kept → {p q : ℕ} → Chance (copies_chain j) p q → Within m p q
  plan_kept e = verdict_kept (copies_lent j) (copies_plain sensible) m o.exact (λ z. (answered o.answer z).1) o.near (sym o.is ∙ e)

  pub plan_broken : v ≡ broken → {p q : ℕ} → Chance (copies_chain j) p q → Within m p q → ⊥
  plan_broken e = verdict_broken (copies_lent j) (copies_plain sensible) m o.exact (λ z. (answered o.answer z).1) o.near (sym o.is ∙ e)

module _ {x : Weights} {m : Limit} (sensible : Sensible (with_copies x 1)) {a : ℕ → Near} {v : ℕ → Verdict} (all : Verdicts x m a v) where
  abbrev ChanceOf : ℕ → ℕ → ℕ → Type 0
  ChanceOf c = Chance (copies_chain (with_copies x c))

  -- Where fewer copies keep the limit, so do more.
  more_keep : {n c : ℕ} → 0 < n → n ≤ c → c ≤ most_copies → {p q p' q' : ℕ} → ChanceOf n p q → ChanceOf c p' q' → Within m p q → Within m p' q'
  more_keep {n} {c} some h few {p} {q} {p'} {q'} C C' k =
      within_below p' q' p q m.digits (10 ^ m.tens) C.lowest.whole
      (more_copies_most x (sensible_copies sensible some (omega arith)) (sensible_copies sensible (omega arith) few) h C C')
      k

  there : (c : ℕ) → 0 < c → c ≤ most_copies → (p : ℕ) × (q : ℕ) × ChanceOf c p q
  there c some few = chance_is_there plain (copies_lent (with_copies x c)) (copies_plain (sensible_copies sensible some few)) refl

  module _ {fewest first : ℕ} (h : Fewest v fewest first) where
    -- With the fewest copies, or more, the chance is at most the limit.
    pub fewest_keeps : {c : ℕ} → fewest ≤ c → c ≤ most_copies → {p q : ℕ} → ChanceOf c p q → Within m p q
    fewest_keeps {c} l few C =
        let (p, q, D) = there fewest h.some (omega arith) in
        more_keep h.some l few D C
        (plan_kept (sensible_copies sensible h.some (omega arith)) (all fewest h.some (omega arith)) (h.keeps (omega arith)) D)

    -- Below the first that is open, it is above.
    pub fewest_breaks : {c : ℕ} → 0 < c → c < first → {p q : ℕ} → ChanceOf c p q → Within m p q → ⊥
    fewest_breaks {c} some l C k =
        let i : ℕ = first - 1 in
        let inside : i ≤ most_copies = omega (arith, h.first_most, h.most) in
        let (p, q, D) = there i (omega arith) inside in
        plan_broken (sensible_copies sensible (omega arith) inside) (all i (omega arith) inside) (h.breaks (omega arith)) D
        (more_keep some (omega arith) inside C D k)

    -- With nothing open, they are the fewest: just those with fewer are above.
    pub fewest_exact : first ≡ fewest → {c : ℕ} → 0 < c → c ≤ most_copies → {p q : ℕ} → ChanceOf c p q → Within m p q ↔ (fewest ≤ c)
    fewest_exact e {c} some few C = (
      λ k. ⊎_elim (λ (l : c < fewest). absurd (fewest_breaks some (omega arith) C k)) (λ l. l) (below c fewest),
      λ l. fewest_keeps l few C,
    )

    -- Where none is kept and nothing is open, no number of copies keeps the limit.
    pub fewest_none : first ≡ most_copies + 1 → {c : ℕ} → 0 < c → c ≤ most_copies → {p q : ℕ} → ChanceOf c p q → Within m p q → ⊥
    fewest_none e some few = fewest_breaks some (omega arith)
