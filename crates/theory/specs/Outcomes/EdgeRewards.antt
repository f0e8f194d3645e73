-- Two inputs whose edges differ in rewards alone: one chance, one pair of bounds, one step list; and one expected reward where they differ on
-- edges that leave a goal.
use Rattle.std.specs.Prelude.{ℕ, ◌+◌, ◌*◌, ◌<◌, ◌≡◌, refl, List, Bool, false, length}
use Rattle.std.proofs.Common.{sym, ap, subst, ◌∙◌, arith}
use Rattle.meaning.specs.Number.{filled, Reduced}
use Rattle.meaning.specs.Chain.{Chain, denominator, edge_count, from, edge_reward, Goal}
use Rattle.meaning.specs.Row.{cell, goal_column, unknown_column, exact, rounding}
use Rattle.meaning.specs.Step.{row, Sets, Right, outside, goes}
use Rattle.meaning.specs.Refusal.{Lent, Entry, plain, paid, listing, whole, Misshaped, RoomFault, EndFault, WeightFault, PairFault, SumFault, RewardFault, lent_fault, faults, Applies, WellFormed}
use Rattle.meaning.specs.Stop.{reward_of, earns, turn, table_at, Unfit, Stops, before_steps, in_step, Stopped}
use Rattle.meaning.specs.Outcome.{Outcome, refused, stopped, answered, Answer, refusal, ChanceFigure, chance, ChanceOutcome, RewardFigure, RewardOutcome, Bounds, last_row, BoundsFigure, BoundsOutcome}
use Rattle.meaning.specs.Steps.{StepRecord, records_along, records_to, FinishedTo, Listed, untouched, listed, StepsOutcome}
use Rattle.theory.specs.Chains.Rewards.{RewardsAlone, swapped, repaid, same_count, same_flow, same_path, same_pay, same_live, same_right}
use Rattle.theory.specs.Figures.Rewards.{same_chance, same_missed, same_expected}
use Rattle.theory.specs.Stages.Rewards.{same_stage}
use Rattle.theory.specs.Outcomes.Bare.{Entails, none, more, same_refused, same_formed}
use Rattle.theory.specs.Outcomes.Formed.{unpaid}

-- What is lent, with other edges.
abbrev pub lent_repaid : List ℕ → Lent → Lent
lent_repaid edges l =
    record { chain = repaid edges l.chain; order = l.order; rewards = l.rewards; work = l.work; list = l.list }

module _ (x : Entry) (l : Lent) (edges : List ℕ) (s : RewardsAlone l.chain.edges edges) where
  abbrev c : Chain
  c = l.chain

  -- No number but 11 looks at the rewards of edges.
  faults_same : ((p : ℕ) → Applies x l 11 p → Applies x (lent_repaid edges l) 11 p) → Entails (faults x l) (faults x (lent_repaid edges l))
  faults_same rewards =
      more (λ p a. a)
      (more shape
      (more room
      (more (λ p a. a)
      (more (λ p a. a)
      (more (λ p a. a) (more ends (more weights (more pairs (more sums (more (λ p a. a) (more rewards none)))))))))))
    where
      shape : (p : ℕ)
          → whole (Misshaped x c.states (length c.denominators) (length c.edges) (length l.order) (length l.rewards)) p
          → whole (Misshaped x c.states (length c.denominators) (length edges) (length l.order) (length l.rewards)) p
      shape p a =
          (a.0, subst (λ n. Misshaped x c.states (length c.denominators) n (length l.order) (length l.rewards)) s.lengths a.1)

      room : (p : ℕ) → whole (RoomFault x c.states (edge_count c.edges) (length l.work) l.list) p
          → whole (RoomFault x c.states (edge_count edges) (length l.work) l.list) p
      room p a = (a.0, subst (λ n. RoomFault x c.states n (length l.work) l.list) (same_count s) a.1)

      inside : (e : ℕ) → e < edge_count c.edges → e < edge_count edges
      inside e h = omega (arith, h, same_count s)

      ends : (e : ℕ) → EndFault c.states c.edges e → EndFault c.states edges e
      ends e a = (inside e a.0, rw (← s.froms e, ← s.tos e) a.1)

      weights : (e : ℕ) → WeightFault c.edges e → WeightFault edges e
      weights e a = (inside e a.0, rw (← s.weights e) a.1)

      pairs : (e : ℕ) → PairFault c.edges e → PairFault edges e
      pairs e (h, (d, (l, (f, t)))) =
          (inside e h, (d, (l, (sym (s.froms d) ∙ f ∙ s.froms e, sym (s.tos d) ∙ t ∙ s.tos e))))

      sums : (i : ℕ) → SumFault x.short c.states c.denominators c.edges i → SumFault x.short c.states c.denominators edges i
      sums i a = (a.0, rw (← same_flow s i (λ _. 1)) a.1)

-- The tables, where live states earn the same; and what stops the elimination.
module _ (b : Bool) (l : Lent) (edges : List ℕ) (s : RewardsAlone l.chain.edges edges) (pay pay' : ℕ → ℕ)
    (pays : (i : ℕ) → (Goal l.chain i → ⊥) → pay i ≡ pay' i)
  where
    tables_same : (k : Sets) → Right l.chain k → (p : ℕ) → table_at pay b l k p ≡ table_at pay' b (lent_repaid edges l) k p
    tables_same k right = same_stage b l.chain k edges s pay pay' (λ i h. pays i ((right.live i).0 h).unwon) l.order

    pub stopped_same : {number place : ℕ} → Stopped pay b l number place → Stopped pay' b (lent_repaid edges l) number place
    stopped_same h =
        record { sets = h.sets; right = same_right s h.right; alive = same_live s h.alive; stops = go h.stops }
      where
        there : (q : ℕ) → table_at pay b l h.sets q ≡ table_at pay' b (lent_repaid edges l) h.sets q
        there = tables_same h.sets h.right

        go : {number place : ℕ} → Stops pay b l h.sets number place → Stops pay' b (lent_repaid edges l) h.sets number place
        go (before_steps f) = before_steps (subst (Unfit b l.chain.states) (there 0) f)
        go (in_step p m w f) =
            in_step p m (λ q o g. w q o (subst (Unfit b l.chain.states) (sym (there q)) g)) (subst (Unfit b l.chain.states) (there _) f)

-- An outcome is one where what stops and the figure are.
module _ (x : Entry) (l : Lent) (edges : List ℕ) (there : Entails (faults x l) (faults x (lent_repaid edges l)))
    (back : Entails (faults x (lent_repaid edges l)) (faults x l))
  where
    outcome_same : {A : Type 0} {refusal : ℕ → ℕ → A} {Stop Stop' : ℕ → ℕ → Type 0} {Figure Figure' : A → Type 0} {a : A} {w : List ℕ}
        → ((number place : ℕ) → Stop number place → Stop' number place) → ((number place : ℕ) → Stop' number place → Stop number place)
        → (Figure a → Figure' a) → Outcome x l refusal Stop Figure a w → Outcome x (lent_repaid edges l) refusal Stop' Figure' a w
    outcome_same f g h (refused number place r e z) = refused number place (same_refused there back r) e z
    outcome_same f g h (stopped number place w t e z) = stopped number place (same_formed there back w) (f number place t) e z
    outcome_same f g h (answered w u k z) = answered (same_formed there back w) (λ number place t. u number place (g number place t)) (h k) z

-- The entries that are lent no rewards: nothing is earned there.
module _ (x : Entry) (l : Lent) (edges : List ℕ) (s : RewardsAlone l.chain.edges edges) (free : x.rewards ≡ false) where
  abbrev l' : Lent
  l' = lent_repaid edges l

  unlent : (edges edges' : List ℕ) (p : ℕ) → lent_fault x.rewards (RewardFault l.chain.states l.rewards edges) p
      → lent_fault x.rewards (RewardFault l.chain.states l.rewards edges') p
  unlent edges edges' p a = rw free (rw free at a)

  there : Entails (faults x l) (faults x l')
  there = faults_same x l edges s (unlent l.chain.edges edges)

  back : Entails (faults x l') (faults x l)
  back = faults_same x l' l.chain.edges (swapped s) (unlent edges l.chain.edges)

  nothing : (i : ℕ) → (Goal l.chain i → ⊥) → earns x l i ≡ earns x l' i
  nothing i n = unpaid x l free i ∙ sym (unpaid x l' free i)

  unpaid_tables : (b : Bool) (k : Sets) → Right l.chain k → (p : ℕ) → table_at (earns x l) b l k p ≡ table_at (earns x l') b l' k p
  unpaid_tables b = tables_same b l edges s _ _ nothing

  chance_says : {a : Answer} {w : List ℕ} → Outcome x l refusal (Stopped (earns x l) exact l) (ChanceFigure l) a w
      → Outcome x l' refusal (Stopped (earns x l') exact l') (ChanceFigure l') a w
  chance_says {a} =
      outcome_same x l edges there back (λ number place. stopped_same exact l edges s _ _ nothing)
      (λ number place. stopped_same exact l' l.chain.edges (swapped s) _ _ (λ i n. sym (nothing i n))) figure
    where
      figure : ChanceFigure l a → ChanceFigure l' a
      figure (chance p q h e) = chance p q (same_chance s h) e

module _ (l : Lent) (edges : List ℕ) (s : RewardsAlone l.chain.edges edges) where
  abbrev other : Lent
  other = lent_repaid edges l

  -- One chance, with its refusals and its work table.
  pub one_chance : {a : Answer} {w : List ℕ} → ChanceOutcome l a w → ChanceOutcome other a w
  one_chance = chance_says plain l edges s refl

  -- One pair of bounds.
  bounds_figure : {a : Bounds} → BoundsFigure false l a → BoundsFigure false other a
  bounds_figure (BoundsFigure.won g e) = BoundsFigure.won g e
  bounds_figure (BoundsFigure.lost h e) = BoundsFigure.lost (λ g. h (same_path (swapped s) g)) e
  bounds_figure (BoundsFigure.live k right v p q t u f e) =
      let n = l.chain.states in
      let same : last_row false l k ≡ last_row false other k = ap (λ t. row t l.chain.start) (unpaid_tables plain l edges s refl rounding k right n) in
      BoundsFigure.live k (same_right s right) (same_live s v) p q t u
      (subst (λ z.
      Reduced (cell z (goal_column n)) (outside n l.chain.start z) p q
      × Reduced (cell z (goal_column n) + cell z (unknown_column n)) (outside n l.chain.start z) t u)
      same f)
      e

  pub one_bounds : {a : Bounds} {w : List ℕ} → BoundsOutcome l a w → BoundsOutcome other a w
  one_bounds = outcome_same plain l edges (there plain l edges s refl) (back plain l edges s refl) (λ number place t. t) (λ number place t. t) bounds_figure

  -- One step list.
  records_same : (k : Sets) → Right l.chain k → (p : ℕ) → records_to l k p ≡ records_to other k p
  records_same k right p =
      ap (λ t. records_along l.chain.states (goes l.chain.start k.live) (turn l) t p)
      (λ i q. unpaid_tables listing l edges s refl exact k right q i)

  finished_same : {a : Answer} {p : ℕ} → FinishedTo l a p → FinishedTo other a p
  finished_same (FinishedTo.through e) = FinishedTo.through e
  finished_same (FinishedTo.before_steps e h) = FinishedTo.before_steps e h
  finished_same (FinishedTo.in_step e h) = FinishedTo.in_step e h

  pub one_list : {before after : List StepRecord} {a : Answer} {count : ℕ} {w : List ℕ} → StepsOutcome l before a count w after
      → StepsOutcome other before a count w after
  one_list {before} {after} {a} {count} o =
      record { outcome = chance_says listing l edges s refl o.outcome; list = at o.list }
    where
      at : Listed l a before count after → Listed other a before count after
      at (untouched number place r c e) =
          untouched number place (same_refused (there listing l edges s refl) (back listing l edges s refl) r) c e
      at (listed w k right p f c e) =
          let same = records_same k right p in
          listed (same_formed (there listing l edges s refl) (back listing l edges s refl) w) k (same_right s right) p (finished_same f)
          (c ∙ ap length same) (e ∙ ap (λ r. filled r before) same)

-- The expected reward, where the edges that do not leave a goal keep their rewards; a goal's edge with a reward above 65,535 is still 11.
module _ (l : Lent) (edges : List ℕ) (s : RewardsAlone l.chain.edges edges)
    (keeps : (e : ℕ) → e < edge_count l.chain.edges → (Goal l.chain (from l.chain.edges e) → ⊥) → edge_reward l.chain.edges e ≡ edge_reward edges e)
  where
    pays : (i : ℕ) → (Goal l.chain i → ⊥) → earns paid l i ≡ earns paid (lent_repaid edges l) i
    pays i n = ap (λ z. reward_of l i * denominator l.chain i + z) (same_pay s i (λ e h q. keeps e h (λ g. n (subst (Goal l.chain) q g))))

    reward_figure : {a : Answer} → RewardFigure l a → RewardFigure (lent_repaid edges l) a
    reward_figure (RewardFigure.missed m e) = RewardFigure.missed (same_missed s m) e
    reward_figure (RewardFigure.expected u p q h e) =
        RewardFigure.expected (λ m. u (same_missed {c = repaid edges l.chain} {edges = l.chain.edges} (swapped s) m)) p q (same_expected s pays h) e

    pub goal_edges_free : WellFormed paid l → WellFormed paid (lent_repaid edges l) → {a : Answer} {w : List ℕ} → RewardOutcome l a w
        → RewardOutcome (lent_repaid edges l) a w
    goal_edges_free formed formed' =
        outcome_same paid l edges (faults_same paid l edges s (λ p a. absurd (formed.none 11 p a)))
        (faults_same paid (lent_repaid edges l) l.chain.edges (swapped s) (λ p a. absurd (formed'.none 11 p a)))
        (λ number place t. (
          λ m. t.0 (same_missed {c = repaid edges l.chain} {edges = l.chain.edges} (swapped s) m),
          stopped_same exact l edges s _ _ pays t.1,
        ))
        (λ number place t. (
          λ m. t.0 (same_missed s m),
          stopped_same exact (lent_repaid edges l) l.chain.edges (swapped s) _ _ (λ i n. sym (pays i n)) t.1,
        ))
        reward_figure
