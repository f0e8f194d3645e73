-- The chain of a sensible plan is well formed, for every number of copies and all weights in range.
use Rattle.std.specs.Prelude.{ℕ, zero, suc, ◌+◌, ◌*◌, ◌-◌, ◌^◌, ◌≤◌, ◌<◌, ◌≡◌, refl, ◌⊎◌, Bool, true, false, List, length, get_or, eqb, ltb, leb}
use Rattle.std.proofs.Common.{sym, ap₂, ◌∙◌, inl, inr, ⊎_elim, arith, mul-le-mul}
use Rattle.std.proofs.Math.Nat.{pow-le-pow_right}
use borrow.Author.Tests.{ne_eqb, lt-ltb, le-ltb, le-leb, lt-leb}
use Rattle.meaning.specs.Number.{only, choose, tab_from}
use Rattle.meaning.specs.Chain.{M, from, to, weight, edge_reward, edge_count, row_sum}
use Rattle.meaning.specs.Refusal.{Lent, Entry, plain, Misshaped, WrongSum, Same, Earlier, OutOfRange, RewardFault, of_state, of_edge, lent_fault, Applies, WellFormed}
use Rattle.meaning.specs.Copies.{most_copies, most_weight, Plan, Sensible, finished, copies_states, copies_edges, copies_chain, copies_order, copies_lent}
use Rattle.theory.specs.Numbers.Sum.{below, same}
use Rattle.theory.specs.Outcomes.Formed.{room_enough}
use Rattle.theory.specs.Outcomes.OwnWork.{own_room}
use Rattle.theory.specs.Numbers.Tab.{tab_at, tab_length}
use Rattle.theory.specs.Plans.Kinds.{before_finishes, before_loops, Kind, loses, rebuilt, ends, empty, done, kind, copies_whole, copies_count_lem}
use Rattle.theory.specs.Plans.Sums.{row_between, row_full, row_empty, row_done}

between : (limit x : ℕ) → ((x ≡ 0) ⊎ (limit < x) → ⊥) → (0 < x) × (x ≤ limit)
between limit x f = (low x (λ e. f (inl e)), high limit x (λ h. f (inr h)))
  where
    low : (x : ℕ) → (x ≡ 0 → ⊥) → 0 < x
    low x f = omega arith

    high : (limit x : ℕ) → (limit < x → ⊥) → x ≤ limit
    high limit x f = omega arith

-- What a sensible plan has, said positively.
pub record InRange (j : Plan) : Type 0 where
  pub some : 0 < j.copies
  pub few : j.copies ≤ most_copies
  pub loss_some : 0 < j.loss
  pub loss_small : j.loss ≤ most_weight
  pub rebuild_some : 0 < j.rebuild
  pub rebuild_small : j.rebuild ≤ most_weight
  pub finish_some : 0 < j.finish
  pub finish_small : j.finish ≤ most_weight

pub in_range_lem : {j : Plan} → Sensible j → InRange j
in_range_lem {j} s =
    let c = between most_copies j.copies s.copies in
    let l = between most_weight j.loss (λ f. s.weights 0 (omega arith, f)) in
    let r = between most_weight j.rebuild (λ f. s.weights 1 (omega arith, f)) in
    let f = between most_weight j.finish (λ f. s.weights 2 (omega arith, f)) in
    record {
      some = c.0;
      few = c.1;
      loss_some = l.0;
      loss_small = l.1;
      rebuild_some = r.0;
      rebuild_small = r.1;
      finish_some = f.0;
      finish_small = f.1;
    }

module _ (j : Plan) (r : InRange j) where
  -- k losses weigh something, and not too much.
  lost : (k : ℕ) → 0 < k → k ≤ most_copies → (0 < k * j.loss) × (k * j.loss ≤ most_copies * most_weight)
  lost k s h = (mul-le-mul s r.loss_some, mul-le-mul h r.loss_small)

  -- 6 and 7.
  target_in : {e : ℕ} → Kind j e → (from (copies_edges j) e < copies_states j) × (to (copies_edges j) e < copies_states j)
  target_in (loses k h q x) = (omega (arith, x.source_is), omega (arith, x.target_is))
  target_in (rebuilt k h q x) = (omega (arith, x.source_is), omega (arith, x.target_is))
  target_in (ends k h q x) = (omega (arith, x.source_is), omega (arith, x.target_is))
  target_in (empty q x) = (omega (arith, x.source_is), omega (arith, x.target_is))
  target_in (done q x) = (omega (arith, x.source_is), omega (arith, x.target_is))

  weight_in_lem : {e : ℕ} → Kind j e → (0 < weight (copies_edges j) e) × (weight (copies_edges j) e ≤ M)
  weight_in_lem (loses k h q x) =
      let l = lost (suc k) (omega arith) (omega (arith, r.few)) in
      (omega (arith, x.amount_is, l.0), omega (arith, x.amount_is, l.1))
  weight_in_lem (rebuilt k h q x) = (omega (arith, x.amount_is, r.rebuild_some), omega (arith, x.amount_is, r.rebuild_small))
  weight_in_lem (ends k h q x) = (omega (arith, x.amount_is, r.finish_some), omega (arith, x.amount_is, r.finish_small))
  weight_in_lem (empty q x) = (omega (arith, x.amount_is), omega (arith, x.amount_is))
  weight_in_lem (done q x) = (omega (arith, x.amount_is), omega (arith, x.amount_is))

  -- No edge has a reward.
  reward_none : {e : ℕ} → Kind j e → edge_reward (copies_edges j) e ≡ 0
  reward_none (loses k h q x) = x.reward_none
  reward_none (rebuilt k h q x) = x.reward_none
  reward_none (ends k h q x) = x.reward_none
  reward_none (empty q x) = x.reward_none
  reward_none (done q x) = x.reward_none

  -- The denominators are in range.
  row_in : (i : ℕ) → i < copies_states j → (0 < row_sum (copies_edges j) i) × (row_sum (copies_edges j) i ≤ M)
  row_in i h =
      ⊎_elim
      (λ (e : i ≡ 0). rw e (omega (arith, row_empty j), omega (arith, row_empty j)))
      (λ (n : i ≡ 0 → ⊥).
      ⊎_elim
      (λ (b : i < j.copies).
      let l = lost i (omega arith) (omega (arith, r.few)) in
      let w = row_between j i (omega arith) b in
      (omega (arith, l.0), omega (arith, l.1, r.rebuild_small, r.finish_small)))
      (λ (b : j.copies ≤ i).
      ⊎_elim
      (λ (e : i ≡ j.copies).
      let l = lost j.copies r.some r.few in
      let w = row_full j r.some in
      rw e (omega (arith, l.0), omega (arith, l.1, r.finish_small)))
      (λ (d : i ≡ j.copies → ⊥).
      let e : i ≡ finished j = omega arith in
      rw e (omega (arith, row_done j), omega (arith, row_done j)))
      (same i j.copies))
      (below i j.copies))
      (same i 0)

  -- Where the edge from s to t stands.
  place : ℕ → ℕ → ℕ
  place s t =
      choose (ltb t s) t
      (choose (ltb s t) (choose (leb t j.copies) (j.copies + (t - 2)) (before_finishes j + (s - 1)))
      (choose (eqb t 0) (before_loops j) (before_loops j + 1)))

  stands : {e : ℕ} → Kind j e → e ≡ place (from (copies_edges j) e) (to (copies_edges j) e)
  unfolding place
  stands (loses k h q x) = rw (x.source_is, x.target_is, lt-ltb (suc k - 1) (suc k) (omega arith)) (omega arith)
  stands (rebuilt k h q x) =
      rw (
        x.source_is,
        x.target_is,
        le-ltb (suc k + 1) (suc k) (omega arith),
        lt-ltb (suc k) (suc k + 1) (omega arith),
        le-leb (suc k + 1) j.copies (omega arith),
      )
      (omega arith)
  stands (ends k h q x) =
      rw (
        x.source_is,
        x.target_is,
        le-ltb (finished j) (suc k) (omega arith),
        lt-ltb (suc k) (finished j) (omega arith),
        lt-leb (finished j) j.copies (omega arith),
      )
      (omega arith)
  stands (empty q x) = rw (x.source_is, x.target_is) q
  stands (done q x) =
      rw (x.source_is, x.target_is, le-ltb (finished j) (finished j) (omega arith), ne_eqb (finished j) 0 (omega arith)) q

  -- 8.
  once : {d e : ℕ} → Kind j d → Kind j e → Same (copies_edges j) d e → d ≡ e
  once x y s = stands x ∙ ap₂ place s.0 s.1 ∙ sym (stands y)

-- What is lent of a plan's chain to an entry: all that the entry asks for, with no rewards above 0.
pub record LentPlan (j : Plan) (x : Entry) (l : Lent) : Type 0 where
  pub chain_is : l.chain ≡ copies_chain j
  pub order_is : l.order ≡ copies_order j
  pub asks_order : x.order ≡ true
  pub rewards_length : length l.rewards ≡ only x.rewards (copies_states j)
  pub rewards_none : (i : ℕ) → get_or l.rewards i 0 ≡ 0
  pub whole : x.short ≡ false
  pub few : x.fewest ≤ 1
  pub room : x.room (copies_states j) (edge_count (copies_edges j)) ≤ length l.work
  pub list_room : x.records (copies_states j) ≤ l.list

lent_fault_lem : (b : Bool) (F : ℕ → Type 0) (p : ℕ) → lent_fault b F p → F p
lent_fault_lem true F p f = f
lent_fault_lem false F p f = absurd f

wrong_sum : (short : Bool) → short ≡ false → (sum denominator : ℕ) → WrongSum short sum denominator → sum ≡ denominator → ⊥
wrong_sum short whole sum denominator w = rw whole at w

module _ {j : Plan} (sensible : Sensible j) {x : Entry} {l : Lent} (h : LentPlan j x l) where
  abbrev r : InRange j
  r = in_range_lem sensible

  abbrev rows : List ℕ
  rows = tab_from 0 (copies_states j) (row_sum (copies_edges j))

  abbrev rising : List ℕ
  rising = copies_order j

  -- 1.
  shapely : Misshaped x (copies_states j) (length rows) (length (copies_edges j)) (length rising) (length l.rewards) → ⊥
  shapely (Misshaped.no_states e) = omega arith
  shapely (Misshaped.many_states e) = omega (arith, r.few)
  shapely (Misshaped.denominators_length e) = e (tab_length 0 (copies_states j) (row_sum (copies_edges j)))
  shapely (Misshaped.edges_ragged e) = e (omega (arith, copies_whole j))
  shapely (Misshaped.many_edges e) = omega (arith, copies_count_lem j, r.few)
  shapely (Misshaped.few_edges e) = omega (arith, copies_count_lem j, h.few)
  shapely (Misshaped.order_length e) = e (tab_length 0 (copies_states j) (λ i. i) ∙ rw h.asks_order)
  shapely (Misshaped.rewards_length e) = e h.rewards_length

  -- 4: bit 0 alone, and there are states enough.
  goals_in_lem : 2 ^ copies_states j ≤ 1 → ⊥
  goals_in_lem e = omega (arith, pow-le-pow_right {n = 2} (omega arith) {i = 1} {j = copies_states j} (omega arith))

  -- 5.
  denominator_in_lem : (p : ℕ) → p < copies_states j → OutOfRange (get_or rows p 0) → ⊥
  denominator_in_lem p k (inl e) = omega (arith, (row_in j r p k).0, tab_at (copies_states j) (row_sum (copies_edges j)) 0 p k)
  denominator_in_lem p k (inr e) = omega (arith, (row_in j r p k).1, tab_at (copies_states j) (row_sum (copies_edges j)) 0 p k)

  -- 6.
  ends_in : (p : ℕ) → p < edge_count (copies_edges j) → (copies_states j ≤ from (copies_edges j) p) ⊎ (copies_states j ≤ to (copies_edges j) p) → ⊥
  ends_in p k (inl e) = omega (arith, (target_in j r (kind j p k)).0)
  ends_in p k (inr e) = omega (arith, (target_in j r (kind j p k)).1)

  -- 7.
  weights_in : (p : ℕ) → p < edge_count (copies_edges j) → OutOfRange (weight (copies_edges j) p) → ⊥
  weights_in p k (inl e) = omega (arith, (weight_in_lem j r (kind j p k)).0)
  weights_in p k (inr e) = omega (arith, (weight_in_lem j r (kind j p k)).1)

  -- 10.
  order_in_lem : (p : ℕ) → p < copies_states j → (copies_states j ≤ get_or rising p 0) ⊎ Earlier rising p → ⊥
  order_in_lem p k (inl e) = omega (arith, tab_at (copies_states j) (λ i. i) 0 p k)
  order_in_lem p k (inr (o, (b, e))) =
      omega (arith, tab_at (copies_states j) (λ i. i) 0 p k, tab_at (copies_states j) (λ i. i) 0 o (omega arith))

  -- 11.
  rewards_in_lem : {p : ℕ} → RewardFault (copies_states j) l.rewards (copies_edges j) p → ⊥
  rewards_in_lem (of_state i f) = omega (arith, f.1, h.rewards_none i)
  rewards_in_lem (of_edge i f) = omega (arith, f.1, reward_none j r (kind j i f.0))

  none_applies : (k p : ℕ) → Applies x l k p → ⊥
  none_applies zero p a = a
  none_applies (suc zero) p a = shapely (rw (h.chain_is, h.order_is) at a.1)
  none_applies (suc (suc zero)) p a = room_enough h.room h.list_room (rw h.chain_is at a.1)
  none_applies (suc (suc (suc zero))) p a = omega (arith, rw h.chain_is at a.1)
  none_applies (suc (suc (suc (suc zero)))) p a = goals (rw h.chain_is at a.1)
    where
      goals : (◌≡◌ {A = ℕ} 1 0) ⊎ (2 ^ copies_states j ≤ 1) → ⊥
      goals (inl e) = omega arith
      goals (inr e) = goals_in_lem e
  none_applies (suc (suc (suc (suc (suc zero))))) p a =
      let b = rw h.chain_is at a in denominator_in_lem p b.0 b.1
  none_applies (suc (suc (suc (suc (suc (suc zero)))))) p a = let b = rw h.chain_is at a in ends_in p b.0 b.1
  none_applies (suc (suc (suc (suc (suc (suc (suc zero))))))) p a = let b = rw h.chain_is at a in weights_in p b.0 b.1
  none_applies (suc (suc (suc (suc (suc (suc (suc (suc zero)))))))) p a =
      let (b, (d, (less, s))) = rw h.chain_is at a in
      let e : d ≡ p = once j r (kind j d (omega arith)) (kind j p b) s in
      omega arith
  none_applies (suc (suc (suc (suc (suc (suc (suc (suc (suc zero))))))))) p a =
      let b = rw h.chain_is at a in
      wrong_sum x.short h.whole _ _ b.1 (sym (tab_at (copies_states j) (row_sum (copies_edges j)) 0 p b.0))
  none_applies (suc (suc (suc (suc (suc (suc (suc (suc (suc (suc zero)))))))))) p a =
      let b = rw (h.chain_is, h.order_is) at (lent_fault_lem x.order _ p a) in order_in_lem p b.0 b.1
  none_applies (suc (suc (suc (suc (suc (suc (suc (suc (suc (suc (suc zero))))))))))) p a =
      rewards_in_lem (rw h.chain_is at (lent_fault_lem x.rewards _ p a))
  none_applies (suc (suc (suc (suc (suc (suc (suc (suc (suc (suc (suc (suc k)))))))))))) p a = a

  pub copies_formed : WellFormed x l
  copies_formed = record { none = none_applies }

-- The chance of the plan can be asked for.
pub copies_plain : {j : Plan} → Sensible j → WellFormed plain (copies_lent j)
copies_plain {j} s =
    copies_formed s
    (record {
      chain_is = refl;
      order_is = refl;
      asks_order = refl;
      whole = refl;
      rewards_length = refl;
      rewards_none = λ i. refl;
      few = omega arith;
      room = own_room (copies_states j) (omega (arith, (in_range_lem s).few));
      list_room = omega arith;
    })
