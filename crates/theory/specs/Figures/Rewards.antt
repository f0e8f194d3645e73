-- The figures of two chains whose edges differ in rewards alone; and the reward's equation as it stood before edges had rewards.
use Rattle.std.specs.Prelude.{ℕ, ◌+◌, ◌*◌, ◌<◌, ◌≡◌, ◌↔◌, List}
use Rattle.std.proofs.Common.{sym, ap, ◌∙◌, arith}
use Rattle.meaning.specs.Number.{Lowest}
use Rattle.meaning.specs.Chain.{Chain, denominator, edge_count, edge_reward, along, Goal, FromStart}
use Rattle.meaning.specs.Figure.{Shares, Chance, Missed, earned, Earns, Expected}
use Rattle.theory.specs.Chains.Rewards.{edge_rewards_none, RewardsAlone, swapped, repaid, same_flow, same_path, same_reached}

module _ {c : Chain} {edges : List ℕ} (s : RewardsAlone c.edges edges) where
  same_shares : {d : ℕ} {x : ℕ → ℕ} → Shares c d x → Shares (repaid edges c) d x
  same_shares {x = x} h =
      record {
        whole = h.whole;
        won = h.won;
        lost = λ i l n. h.lost i l (λ g. n (same_path s g));
        flows = λ i l n g. h.flows i l n (same_path (swapped s) g) ∙ same_flow s i x;
      }

  pub same_missed : Missed c → Missed (repaid edges c)
  same_missed m = (m.0, same_reached s m.1, λ g. m.2 (same_path (swapped s) g))

  -- The reward's equation asks what is earned only of states that are reached and no goals.
  same_earns : {pay pay' : ℕ → ℕ} {d : ℕ} {y : ℕ → ℕ} → ((i : ℕ) → (Goal c i → ⊥) → pay i ≡ pay' i) → Earns c pay d y → Earns (repaid edges c) pay' d y
  same_earns {d = d} {y} pays h =
      record {
        whole = h.whole;
        won = λ i f g. h.won i (back f) g;
        flows = λ i f n. h.flows i (back f) n ∙ omega (arith, ap (λ z. z * d) (pays i n), same_flow s i y);
      }
    where
      back : {i : ℕ} → FromStart (repaid edges c) i → FromStart c i
      back f = same_reached {c = repaid edges c} {edges = c.edges} (swapped s) f

module _ {c : Chain} {edges : List ℕ} (s : RewardsAlone c.edges edges) where
  -- One chance.
  pub same_chance : {p q : ℕ} → Chance c p q → Chance (repaid edges c) p q
  same_chance h =
      record { lowest = h.lowest; share = λ d x f. h.share d x (same_shares {c = repaid edges c} {edges = c.edges} (swapped s) f) }

  -- One expected reward, where the states that are no goals earn the same.
  pub same_expected : {pay pay' : ℕ → ℕ} {p q : ℕ} → ((i : ℕ) → (Goal c i → ⊥) → pay i ≡ pay' i) → Expected c pay p q → Expected (repaid edges c) pay' p q
  same_expected pays h =
      record {
        lowest = h.lowest;
        share = λ d y f. h.share d y (same_earns {c = repaid edges c} {edges = c.edges} (swapped s) (λ i n. sym (pays i n)) f);
      }

-- What a turn earned, times its denominator, before edges had rewards.
abbrev pub old_earned : Chain → (ℕ → ℕ) → ℕ → ℕ
old_earned c r i = r i * denominator c i

-- The equation as it was: denominator times y equals denominator times reward plus the sum of weight times y of the target.
pub record OldEarns (c : Chain) (r : ℕ → ℕ) (d : ℕ) (y : ℕ → ℕ) : Type 0 where
  pub whole : 0 < d
  pub won : (i : ℕ) → FromStart c i → Goal c i → y i ≡ 0
  pub flows : (i : ℕ) → FromStart c i → (Goal c i → ⊥) → denominator c i * y i ≡ denominator c i * (r i * d) + along c i y

pub record OldExpected (c : Chain) (r : ℕ → ℕ) (p q : ℕ) : Type 0 where
  pub lowest : Lowest p q
  pub share : (d : ℕ) (y : ℕ → ℕ) → OldEarns c r d y → p * d ≡ y c.start * q

-- Where no edge has a reward, the equation and the figure are those of then.
module _ (c : Chain) (r : ℕ → ℕ) (none : (e : ℕ) → e < edge_count c.edges → edge_reward c.edges e ≡ 0) where
  pub earned_old : (i : ℕ) → earned c r i ≡ old_earned c r i
  earned_old i = omega (arith, edge_rewards_none c.edges i none)

  equation_old : {d : ℕ} {y : ℕ → ℕ} → Earns c (earned c r) d y → OldEarns c r d y
  equation_old {d} h =
      record { whole = h.whole; won = h.won; flows = λ i f n. h.flows i f n ∙ omega (arith, ap (λ z. z * d) (earned_old i)) }

  earns_now : {d : ℕ} {y : ℕ → ℕ} → OldEarns c r d y → Earns c (earned c r) d y
  earns_now {d} h =
      record { whole = h.whole; won = h.won; flows = λ i f n. h.flows i f n ∙ omega (arith, ap (λ z. z * d) (earned_old i)) }

  pub expected_old : {p q : ℕ} → Expected c (earned c r) p q ↔ OldExpected c r p q
  expected_old = (
    λ h. record { lowest = h.lowest; share = λ d y f. h.share d y (earns_now f) },
    λ h. record { lowest = h.lowest; share = λ d y f. h.share d y (equation_old f) },
  )
