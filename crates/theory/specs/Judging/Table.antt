-- A table over d is the chance at every state exactly where no state is broken; and exactly where it agrees with every assignment at every state.
use Rattle.std.specs.Prelude.{ℕ, ◌*◌, ◌<◌, ◌≡◌}
use Rattle.std.proofs.Common.{ap, arith}
use Rattle.std.proofs.Math.Logic.Dec
use Rattle.std.proofs.Math.Decide.{ℕ_discrete}
use Rattle.std.proofs.Math.Nat.{eq_of_mul-eq-mul_left}
use Rattle.meaning.specs.Chain.{Chain, denominator, to, along, Goal, ToGoal, PathTo}
use Rattle.meaning.specs.Figure.{Shares}
use Rattle.meaning.specs.Judge.{Broken, goal_value, zero_value, equation}
use Rattle.theory.specs.Numbers.Search.{turned}
use Rattle.theory.specs.Chains.Path.{dec_goal, dec_to_goal}
use Rattle.theory.specs.Chains.Flow.{flow_ext, flow_scale}
use Rattle.theory.specs.Chains.Fine.{Fine}
use Rattle.theory.specs.Figures.Shares.{shares_exist, shares_agree}
use Rattle.theory.specs.Files.Right.{stable}

module _ {c : Chain} {d : ℕ} {x : ℕ → ℕ} where
  -- Each kind of state can be broken in its own way alone.
  pub broken_goal : {i : ℕ} → Goal c i → Broken c d x i → x i ≡ d → ⊥
  broken_goal g (goal_value h n) = n
  broken_goal {i} g (zero_value h n) = absurd (h (PathTo.here i g))
  broken_goal g (equation h t n) = absurd (h g)

  pub broken_zero : {i : ℕ} → (ToGoal c i → ⊥) → Broken c d x i → x i ≡ 0 → ⊥
  broken_zero {i} p (goal_value h n) = absurd (p (PathTo.here i h))
  broken_zero p (zero_value h n) = n
  broken_zero p (equation h t n) = absurd (p t)

  pub broken_equation : {i : ℕ} → (Goal c i → ⊥) → ToGoal c i → Broken c d x i → denominator c i * x i ≡ along c i x → ⊥
  broken_equation g p (goal_value h n) = absurd (g h)
  broken_equation g p (zero_value h n) = absurd (h p)
  broken_equation g p (equation h t n) = n

  pub dec_broken : (i : ℕ) → Dec (Broken c d x i)
  dec_broken i =
      elim (dec_goal c i) [
        | yes g ↦ turned (goal_value g) (broken_goal g) (Dec.not (ℕ_discrete (x i) d))
        | no g ↦
            elim (dec_to_goal c i) [
              | yes p ↦ turned (equation g p) (broken_equation g p) (Dec.not (ℕ_discrete (denominator c i * x i) (along c i x)))
              | no p ↦ turned (zero_value p) (broken_zero p) (Dec.not (ℕ_discrete (x i) 0))
            ]
      ]

  pub shares_unbroken : Shares c d x → (i : ℕ) → i < c.states → Broken c d x i → ⊥
  shares_unbroken s i h (goal_value g n) = n (s.won i h g)
  shares_unbroken s i h (zero_value p n) = n (s.lost i h p)
  shares_unbroken s i h (equation g p n) = n (s.flows i h g p)

  pub unbroken_shares : 0 < d → ((i : ℕ) → i < c.states → Broken c d x i → ⊥) → Shares c d x
  unbroken_shares some none =
      record {
        whole = some;
        won = λ i h g. stable _ _ (λ n. none i h (goal_value g n));
        lost = λ i h p. stable _ _ (λ n. none i h (zero_value p n));
        flows = λ i h g p. stable _ _ (λ n. none i h (equation g p n));
      }

-- x i over d is the chance at state i: it agrees there with every assignment, by cross products.
abbrev pub ChanceAt : Chain → ℕ → (ℕ → ℕ) → ℕ → Type 0
ChanceAt c d x i = (e : ℕ) (y : ℕ → ℕ) → Shares c e y → x i * e ≡ y i * d

module _ {c : Chain} (fine : Fine c) {d : ℕ} {x : ℕ → ℕ} where
  pub shares_chances : Shares c d x → (i : ℕ) → i < c.states → ChanceAt c d x i
  shares_chances s i h e y t = shares_agree fine s t i h

  -- Any assignment carries its equations over.
  carry_over : {e : ℕ} {y : ℕ → ℕ} → Shares c e y → 0 < d → ((i : ℕ) → i < c.states → x i * e ≡ y i * d) → Shares c d x
  carry_over {e} {y} s some agree =
      record {
        whole = some;
        won = λ i h g. eq_of_mul-eq-mul_left e s.whole (x i) d (omega (arith, agree i h, ap (λ z. z * d) (s.won i h g)));
        lost = λ i h p. eq_of_mul-eq-mul_left e s.whole (x i) 0 (omega (arith, agree i h, ap (λ z. z * d) (s.lost i h p)));
        flows = λ i h g p.
            eq_of_mul-eq-mul_left e s.whole (denominator c i * x i) (along c i x)
            (omega (
              arith,
              ap (λ z. denominator c i * z) (agree i h),
              ap (λ z. d * z) (s.flows i h g p),
              flow_scale c.edges i d y,
              flow_ext c.edges i (λ t. d * y t) (λ t. e * x t) (λ k l q. omega (arith, agree (to c.edges k) (fine.targets k l))),
              flow_scale c.edges i e x,
            ));
      }

  pub chances_shares : 0 < d → ((i : ℕ) → i < c.states → ChanceAt c d x i) → Shares c d x
  chances_shares some agree = let (e, y, s) = shares_exist fine in carry_over s some (λ i h. agree i h e y s)
