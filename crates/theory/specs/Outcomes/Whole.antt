-- From a well-formed input and right sets to the figures.
use Rattle.std.specs.Prelude.{ℕ, ◌+◌, ◌*◌, ◌≤◌, ◌<◌, ◌≡◌, refl, ◌⊎◌, Bool, true, false, List}
use Rattle.std.specs.Int.{◌∣◌}
use Rattle.std.proofs.Common.{sym, subst, inl, arith, add-zero}
use Rattle.std.proofs.Math.Nat.{eq-one_of_dvd-one, dvd-mul_right}
use Rattle.meaning.specs.Number.{Reduced, Lowest}
use Rattle.meaning.specs.Chain.{Chain, Goal, End, ToGoal, FromStart, LiveTo, Live}
use Rattle.meaning.specs.Figure.{Shares, Chance, Missed, Expected}
use Rattle.meaning.specs.Row.{Row, cell, goal_column, unknown_column, reward, exact, rounding}
use Rattle.meaning.specs.Step.{row, Sets, RightTo, Right, outside, unknown, stage, RoundedAt}
use Rattle.meaning.specs.Refusal.{Lent, Entry, plain, WellFormed}
use Rattle.meaning.specs.Stop.{earns}
use Rattle.meaning.specs.Outcome.{last_row}
use Rattle.theory.specs.Numbers.Gcd.{reduced_share}
use Rattle.theory.specs.Rows.Settle.{one_engine}
use Rattle.theory.specs.Stages.Last.{PreparedTo, Prepared, prepared_whole, last_loose, last_known, chance_least, chance_most, chance_exact, reward_exact}
use Rattle.theory.specs.Stages.Unrounded.{unrounded}
use Rattle.theory.specs.Outcomes.Formed.{formed_fine_to, formed_fine, unpaid, start_in, order_in_lem, order_new, order_every}

-- A goal is an end, and an end is a goal or a state with weight that is Unknown at first.
pub goal_end : (short : Bool) (c : Chain) (i : ℕ) → Goal c i → End short c i
goal_end false c i g = g
goal_end true c i g = inl g

end_goal : (short : Bool) (c : Chain) (i : ℕ) → End short c i → Goal c i ⊎ (0 < unknown short c i)
end_goal false c i g = inl g
end_goal true c i e = e

module _ (x : Entry) (l : Lent) (formed : WellFormed x l) (lent : x.order ≡ true) where
  pub formed_prepared_to : (k : Sets) → RightTo l.chain (End x.short l.chain) k
      → PreparedTo l.chain k l.order (unknown x.short l.chain) (End x.short l.chain)
  formed_prepared_to k right =
      record {
        fine = formed_fine_to x l formed;
        right = right;
        ends = goal_end x.short l.chain;
        are = end_goal x.short l.chain;
        orders = order_in_lem x l formed lent;
        once = order_new x l formed lent;
        every = order_every x l formed lent;
        start = start_in x l formed;
      }

  pub formed_prepared : x.short ≡ false → (k : Sets) → Right l.chain k → Prepared l.chain k l.order
  formed_prepared whole k right =
      record {
        fine = formed_fine x l formed whole;
        right = right;
        orders = order_in_lem x l formed lent;
        once = order_new x l formed lent;
        every = order_every x l formed lent;
        start = start_in x l formed;
      }

  -- The start's row at the end has weight outside its own loop, in the bounds engine.
  pub last_whole : (k : Sets) → RightTo l.chain (End x.short l.chain) k → LiveTo l.chain (End x.short l.chain) l.chain.start
      → 0 < outside l.chain.states l.chain.start (last_row x.short l k)
  last_whole k right alive =
      let c = l.chain in
      last_loose c k l.order (unknown x.short c) (End x.short c) (formed_prepared_to k right) rounding (earns plain l)
      (λ _. unpaid plain l refl) alive

module _ (c : Chain) (k : Sets) (o : List ℕ) (ready : Prepared c k o) (pay : ℕ → ℕ) where
  abbrev n : ℕ
  n = c.states

  -- The start's row at the end, and its D.
  abbrev last : Bool → Row
  last b = row (stage b c k pay o n) c.start

  abbrev D : Bool → ℕ
  D b = outside n c.start (last b)

  free : exact ≡ rounding → (i : ℕ) → pay i ≡ 0
  free e = one_engine exact refl e

  module _ (alive : Live c c.start) where
    -- The exact engine: D is above 0, so that the figures have lowest terms; Unknown is 0.
    pub exact_whole : 0 < D exact
    exact_whole = last_loose c k o (λ _. 0) (Goal c) (prepared_whole ready) exact pay free alive

    pub exact_known : cell (last exact) (unknown_column n) ≡ 0
    exact_known = last_known c k o (λ _. 0) (Goal c) (prepared_whole ready) exact pay free alive refl (λ _. refl)

    pub exact_chance : (p q : ℕ) → Reduced (cell (last exact) (goal_column n)) (D exact) p q → Chance c p q
    exact_chance p q h =
        record {
          lowest = h.lowest;
          share = λ d x s.
              reduced_share _ (D exact) p q d (x c.start) h exact_whole (chance_exact c k o ready exact pay free alive d x s refl);
        }

    pub exact_reward : (Missed c → ⊥) → (p q : ℕ) → Reduced (reward n (last exact)) (D exact) p q → Expected c pay p q
    exact_reward sure p q h =
        record {
          lowest = h.lowest;
          share = λ d y s.
              reduced_share _ (D exact) p q d (y c.start) h exact_whole (reward_exact c k o ready exact pay free alive sure d y s refl);
        }

    -- The bounds engine where nothing is rounded: both bounds are the chance.
    module _ (none : (q : ℕ) → q ≤ n → RoundedAt c k pay o q → ⊥) where
      pub lower_chance : (p q : ℕ) → Reduced (cell (last rounding) (goal_column n)) (D rounding) p q → Chance c p q
      lower_chance p q h = exact_chance p q (rw (unrounded c k pay o n none) at h)

      pub upper_chance : (p q : ℕ)
          → Reduced (cell (last rounding) (goal_column n) + cell (last rounding) (unknown_column n)) (D rounding) p q → Chance c p q
      upper_chance p q h = exact_chance p q (rw (exact_known, add-zero) at (rw (unrounded c k pay o n none) at h))

    -- The bounds engine, which earns nothing: D is above 0, and the chance lies between its two fractions.
    module _ (unpaid : (i : ℕ) → pay i ≡ 0) where
      pub bounds_whole : 0 < D rounding
      bounds_whole = last_loose c k o (λ _. 0) (Goal c) (prepared_whole ready) rounding pay (λ _. unpaid) alive

      module _ (d : ℕ) (x : ℕ → ℕ) (share : Shares c d x) where
        pub lower_bound : cell (last rounding) (goal_column n) * d ≤ x c.start * D rounding
        lower_bound = chance_least c k o ready rounding pay (λ _. unpaid) alive d x share

        pub upper_bound : x c.start * D rounding ≤ (cell (last rounding) (goal_column n) + cell (last rounding) (unknown_column n)) * d
        upper_bound = chance_most c k o ready rounding pay (λ _. unpaid) alive d x share

-- Where the start is a goal, or has no path to one.
pub one_lowest : (p : ℕ) → Lowest p 1
one_lowest p =
    record {
      whole = omega arith;
      prime = λ k a b e f. eq-one_of_dvd-one (subst (λ z. k ∣ z) (sym f) (dvd-mul_right k b));
    }

module _ (c : Chain) where
  pub chance_won : c.start < c.states → Goal c c.start → Chance c 1 1
  chance_won h g = record { lowest = one_lowest 1; share = λ d x s. omega (arith, s.won c.start h g) }

  pub chance_lost : c.start < c.states → (ToGoal c c.start → ⊥) → Chance c 0 1
  chance_lost h g = record { lowest = one_lowest 0; share = λ d x s. omega (arith, s.lost c.start h g) }

  pub reward_won : (pay : ℕ → ℕ) → Goal c c.start → Expected c pay 0 1
  reward_won pay g = record { lowest = one_lowest 0; share = λ d y s. omega (arith, s.won c.start FromStart.begin g) }
