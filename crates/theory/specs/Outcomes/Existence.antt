-- Every well-formed chain has its chances, and where the goal is not missed its expected rewards; and any two assignments agree.
use Rattle.std.specs.Prelude.{ℕ, ◌*◌, ◌<◌, ◌≡◌, false}
use Rattle.meaning.specs.Chain.{FromStart}
use Rattle.meaning.specs.Figure.{Shares, Chance, Missed, Earns, Expected}
use Rattle.meaning.specs.Refusal.{Lent, Entry, WellFormed}
use Rattle.theory.specs.Figures.Shares.{shares_exist, shares_agree}
use Rattle.theory.specs.Figures.Earnings.{earns_exist, earns_agree}
use Rattle.theory.specs.Figures.Unique.{chance_exists, expected_exists}
use Rattle.theory.specs.Outcomes.Formed.{formed_fine, start_in}

module _ (x : Entry) (l : Lent) (formed : WellFormed x l) (whole : x.short ≡ false) where
  pub chances_exist : (d : ℕ) × (s : ℕ → ℕ) × Shares l.chain d s
  chances_exist = shares_exist (formed_fine x l formed whole)

  pub chances_agree : {d e : ℕ} {s t : ℕ → ℕ} → Shares l.chain d s → Shares l.chain e t → (i : ℕ) → i < l.chain.states
      → s i * e ≡ t i * d
  chances_agree = shares_agree (formed_fine x l formed whole)

  -- So the chance is a fraction in lowest terms.
  pub chance_is_there : (p : ℕ) × (q : ℕ) × Chance l.chain p q
  chance_is_there = chance_exists (formed_fine x l formed whole) (start_in x l formed)

  module _ (sure : Missed l.chain → ⊥) (pay : ℕ → ℕ) where
    pub rewards_exist : (d : ℕ) × (y : ℕ → ℕ) × Earns l.chain pay d y
    rewards_exist = earns_exist (formed_fine x l formed whole) (start_in x l formed) sure pay

    pub rewards_agree : {d e : ℕ} {y z : ℕ → ℕ} → Earns l.chain pay d y → Earns l.chain pay e z → (i : ℕ) → FromStart l.chain i
        → y i * e ≡ z i * d
    rewards_agree = earns_agree (formed_fine x l formed whole) (start_in x l formed) sure pay

    pub reward_is_there : (p : ℕ) × (q : ℕ) × Expected l.chain pay p q
    reward_is_there = expected_exists (formed_fine x l formed whole) (start_in x l formed) sure pay
