-- The tables of two chains whose edges differ in rewards alone, where live states earn the same.
use Rattle.std.specs.Prelude.{ℕ, ◌-◌, ◌≡◌, Bool, List}
use Rattle.std.proofs.Math.Path.{refl, ap}
use Rattle.std.proofs.Math.Bool.{true, false}
use Rattle.std.proofs.Math.Dec.{eqb}
use Rattle.std.proofs.Common.{eqb-true}
use Rattle.meaning.specs.Number.{only, choose, bit}
use Rattle.meaning.specs.Chain.{Chain}
use Rattle.meaning.specs.Row.{width, settled}
use Rattle.meaning.specs.Step.{Sets, given, first_row, no_row, goes, first, after, stage}
use Rattle.theory.specs.Numbers.Tab.{tab_ext}
use Rattle.theory.specs.Chains.Rewards.{RewardsAlone, repaid, same_flow}

module _ (b : Bool) (c : Chain) (k : Sets) (edges : List ℕ) (s : RewardsAlone c.edges edges) (pay pay' : ℕ → ℕ)
    (pays : (i : ℕ) → bit k.live i ≡ 1 → pay i ≡ pay' i)
  where
    same_given : (u i : ℕ) → pay i ≡ pay' i → given c k pay u i ≡ given (repaid edges c) k pay' u i
    unfolding given
    same_given u i e =
        tab_ext (width c.states) _ _ (λ j h.
        rw (e, same_flow s i (λ t. only (eqb t j) 1), same_flow s i (bit c.goals), same_flow s i (λ t. 1 - bit k.good t)))

    same_first : first b c k pay (λ _. 0) ≡ first b (repaid edges c) k pay' (λ _. 0)
    unfolding first
    same_first = tab_ext c.states _ _ (λ i h. go i (eqb (bit k.live i) 1) refl)
      where
        go : (i : ℕ) (t : Bool) → eqb (bit k.live i) 1 ≡ t
            → choose t (first_row b c k pay 0 i) (no_row c.states) ≡ choose t (first_row b (repaid edges c) k pay' 0 i) (no_row c.states)
        go i true e = ap (settled b c.states) (same_given 0 i (pays i (eqb-true (bit k.live i) 1 e)))
        go i false e = refl

    pub same_stage : (o : List ℕ) (p : ℕ) → stage b c k pay o p ≡ stage b (repaid edges c) k pay' o p
    same_stage o p = ap (λ t. after b c.states (goes c.start k.live) o t p) same_first
