-- The numbers 1 to 11 and their places are small.
use Rattle.std.specs.Prelude.{ℕ, zero, suc, ◌+◌, ◌≤◌, ◌<◌, refl, Bool, true, false, List, [], ◌∷◌, length, get_or}
use Rattle.std.proofs.Common.{arith}
use Rattle.meaning.specs.Chain.{most_states, most_edges, edge_count}
use Rattle.meaning.specs.Refusal.{Lent, Entry, Misshaped, RewardFault, of_state, of_edge, never, lent_fault, faults, Refused}

at_most : (x y : ℕ) → (y < x → ⊥) → x ≤ y
at_most x y f = omega arith

-- Each fault of a list is at a place up to the bound.
abbrev Within : ℕ → List (ℕ → Type 0) → Type 0
Within b [] = Unit {0}
Within b (F ∷ Fs) = ((p : ℕ) → F p → p ≤ b) × Within b Fs

within_at : {b : ℕ} (Fs : List (ℕ → Type 0)) → Within b Fs → (k p : ℕ) → get_or Fs k never p → (k < length Fs) × (p ≤ b)
within_at [] w k p h = absurd h
within_at (F ∷ Fs) w zero p h = (omega arith, w.0 p h)
within_at (F ∷ Fs) w (suc k) p h = let rest = within_at Fs w.1 k p h in (omega arith, rest.1)

lent_within : {b : ℕ} (lent : Bool) (F : ℕ → Type 0) → ((p : ℕ) → F p → p ≤ b) → (p : ℕ) → lent_fault lent F p → p ≤ b
lent_within true F w p h = w p h
lent_within false F w p h = absurd h

faults_within : (x : Entry) (l : Lent) → l.chain.states ≤ most_states → edge_count l.chain.edges ≤ most_edges
    → Within (most_states + most_edges) (faults x l)
faults_within x l states edges = (
  (λ p h. absurd h),
  (
    (λ p h. omega (arith, h.0)),
    (
      (λ p h. omega (arith, h.0)),
      (
        (λ p h. omega (arith, h.0)),
        (
          (λ p h. omega (arith, h.0)),
          (
            (λ p h. omega (arith, h.0)),
            (
              (λ p h. omega (arith, h.0)),
              (
                (λ p h. omega (arith, h.0)),
                (
                  (λ p h. omega (arith, h.0)),
                  (
                    (λ p h. omega (arith, h.0)),
                    (
                      lent_within x.order _ (λ p h. omega (arith, h.0)),
                      (
                        lent_within x.rewards _ paid_within,
                        tt,
                      ),
                    ),
                  ),
                ),
              ),
            ),
          ),
        ),
      ),
    ),
  ),
)
  where
    paid_within : (p : ℕ) → RewardFault l.chain.states l.rewards l.chain.edges p → p ≤ most_states + most_edges
    paid_within _ (of_state i h) = omega (arith, h.0)
    paid_within _ (of_edge e h) = omega (arith, h.0)

-- A refusal's number is 1 to 11, and its place is at most the greatest numbers of states and edges together.
pub refused_places : {x : Entry} {l : Lent} (number place : ℕ) → Refused x l number place → (1 ≤ number) × (number ≤ 11) × (place ≤ most_states + most_edges)
refused_places zero place r = absurd r.applies
refused_places (suc zero) place r = (omega arith, omega arith, omega (arith, r.applies.0))
refused_places {x} {l} (suc (suc k)) place r =
    let shape : Misshaped x l.chain.states (length l.chain.denominators) (length l.chain.edges) (length l.order) (length l.rewards) → ⊥ =
    λ m. r.number_least 1 0 (omega arith) (refl, m) in
    let states : l.chain.states ≤ most_states = at_most _ _ (λ h. shape (Misshaped.many_states h)) in
    let edges : edge_count l.chain.edges ≤ most_edges = at_most _ _ (λ h. shape (Misshaped.many_edges h)) in
    let n = within_at (faults x l) (faults_within x l states edges) (suc (suc k)) place r.applies in
    (omega arith, omega arith, n.1)
