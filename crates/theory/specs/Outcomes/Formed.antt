-- What a well-formed input has, said positively.
use Rattle.std.specs.Prelude.{ℕ, ◌+◌, ◌%◌, ◌^◌, ◌≤◌, ◌<◌, ◌≡◌, refl, ◌⊎◌, Bool, true, false, length, get_or}
use Rattle.std.proofs.Common.{inl, inr, arith}
use Rattle.meaning.specs.Chain.{most_states, most_edges, M, most_reward, Chain, denominator, edge_size, edge_count, from, to, weight, edge_reward, row_sum}
use Rattle.meaning.specs.Refusal.{Lent, Entry, Misshaped, SumFault, OrderFault, RewardFault, of_state, of_edge, lent_fault, WellFormed}
use Rattle.meaning.specs.Step.{unknown}
use Rattle.meaning.specs.Stop.{earns}
use Rattle.theory.specs.Numbers.Every.{apart_once, holds_every}
use Rattle.theory.specs.Chains.Fine.{Fine, FineTo}

-- Facts whose contrary cannot be.
pub equal : (x y : ℕ) → ((x ≡ y → ⊥) → ⊥) → x ≡ y
equal x y f = meet (λ h. f (λ e. omega arith)) (λ h. f (λ e. omega arith))
  where
    meet : (x < y → ⊥) → (y < x → ⊥) → x ≡ y
    meet f g = omega arith

pub inside : (x y : ℕ) → (y ≤ x → ⊥) → x < y
inside x y f = omega arith

pub at_most : (x y : ℕ) → (y < x → ⊥) → x ≤ y
at_most x y f = omega arith

pub positive : (x : ℕ) → (x ≡ 0 → ⊥) → 0 < x
positive x f = omega arith

-- Room that is asked for and is there.
pub room_enough : {asked work records list : ℕ} → asked ≤ work → records ≤ list → (work < asked) ⊎ (list < records) → ⊥
room_enough h k (inl a) = omega (arith, h, a)
room_enough h k (inr a) = omega (arith, k, a)

-- An order with no fault names every state.
pub order_whole : (n : ℕ) (o : ℕ → ℕ) → ((p : ℕ) → p < n → o p < n) → ((p : ℕ) → p < n → (q : ℕ) → q < p → o q ≡ o p → ⊥)
    → (i : ℕ) → i < n → (p : ℕ) × (p < n) × (o p ≡ i)
order_whole n o states new = holds_every n o states (apart_once n o new)

-- Where 9 does not apply, what is missing makes the row whole, and none is missing but where rows may fall short.
sum_whole : (short : Bool) (c : Chain) (i : ℕ) → i < c.states → (SumFault short c.states c.denominators c.edges i → ⊥)
    → row_sum c.edges i + unknown short c i ≡ denominator c i
sum_whole false c i h none = omega (arith, equal (row_sum c.edges i) (denominator c i) (λ f. none (h, f)))
sum_whole true c i h none = omega (arith, at_most (row_sum c.edges i) (denominator c i) (λ k. none (h, k)))

-- A table that is lent has its faults.
lends : (b : Bool) (F : ℕ → Type 0) (p : ℕ) → b ≡ true → F p → lent_fault b F p
lends b F p e f = rw e f

module _ (x : Entry) (l : Lent) (formed : WellFormed x l) where
  abbrev c : Chain
  c = l.chain

  shape : Misshaped x c.states (length c.denominators) (length c.edges) (length l.order) (length l.rewards) → ⊥
  shape f = formed.none 1 0 (refl, f)

  pub some_states : 0 < c.states
  some_states = positive _ (λ e. shape (Misshaped.no_states e))

  pub few_states : c.states ≤ most_states
  few_states = at_most _ _ (λ h. shape (Misshaped.many_states h))

  pub denominators_length : length c.denominators ≡ c.states
  denominators_length = equal _ _ (λ f. shape (Misshaped.denominators_length f))

  pub edges_whole : length c.edges % edge_size ≡ 0
  edges_whole = equal _ _ (λ f. shape (Misshaped.edges_ragged f))

  pub few_edges : edge_count c.edges ≤ most_edges
  few_edges = at_most _ _ (λ h. shape (Misshaped.many_edges h))

  pub start_in : c.start < c.states
  start_in = inside _ _ (λ h. formed.none 3 0 (refl, h))

  pub some_goal : 0 < c.goals
  some_goal = positive _ (λ e. formed.none 4 0 (refl, inl e))

  pub goals_in_lem : c.goals < 2 ^ c.states
  goals_in_lem = inside _ _ (λ h. formed.none 4 0 (refl, inr h))

  module _ (i : ℕ) (h : i < c.states) where
    pub denominator_small : denominator c i ≤ M
    denominator_small = at_most _ _ (λ k. formed.none 5 i (h, inr k))

  module _ (e : ℕ) (h : e < edge_count c.edges) where
    pub from_in_lem : from c.edges e < c.states
    from_in_lem = inside _ _ (λ k. formed.none 6 e (h, inl k))

    pub to_in_lem : to c.edges e < c.states
    to_in_lem = inside _ _ (λ k. formed.none 6 e (h, inr k))

    pub weight_positive : 0 < weight c.edges e
    weight_positive = positive _ (λ z. formed.none 7 e (h, inl z))

    pub weight_small : weight c.edges e ≤ M
    weight_small = at_most _ _ (λ k. formed.none 7 e (h, inr k))

  pub formed_fine_to : FineTo c (unknown x.short c)
  formed_fine_to =
      record { targets = to_in_lem; weights = weight_positive; sums = λ i h. sum_whole x.short c i h (formed.none 9 i) }

  -- No row falls short in an entry that does not allow it.
  module _ (whole : x.short ≡ false) where
    pub row_sum_lem : (i : ℕ) → i < c.states → row_sum c.edges i ≡ denominator c i
    row_sum_lem i h = let s : unknown x.short c i ≡ 0 = rw whole in omega (arith, formed_fine_to.sums i h)

    pub formed_fine : Fine c
    formed_fine = record { targets = to_in_lem; weights = weight_positive; sums = row_sum_lem }

  pub some_edges : x.fewest ≤ edge_count c.edges
  some_edges = at_most _ _ (λ h. shape (Misshaped.few_edges h))

  pub room : x.room c.states (edge_count c.edges) ≤ length l.work
  room = at_most _ _ (λ h. formed.none 2 0 (refl, inl h))

  pub list_room : x.records c.states ≤ l.list
  list_room = at_most _ _ (λ h. formed.none 2 0 (refl, inr h))

  -- The order is each state once.
  module _ (lent : x.order ≡ true) where
    order_fault : (p : ℕ) → OrderFault c.states l.order p → ⊥
    order_fault p f = formed.none 10 p (lends x.order (OrderFault c.states l.order) p lent f)

    pub order_length : length l.order ≡ c.states
    order_length = equal _ _ (λ f. shape (Misshaped.order_length (λ e. f (rw lent at e))))

    pub order_in_lem : (p : ℕ) → p < c.states → get_or l.order p 0 < c.states
    order_in_lem p h = inside _ _ (λ k. order_fault p (h, inl k))

    pub order_new : (p : ℕ) → p < c.states → (o : ℕ) → o < p → get_or l.order o 0 ≡ get_or l.order p 0 → ⊥
    order_new p h o k e = order_fault p (h, inr (o, (k, e)))

    pub order_every : (i : ℕ) → i < c.states → (p : ℕ) × (p < c.states) × (get_or l.order p 0 ≡ i)
    order_every = order_whole c.states (λ p. get_or l.order p 0) order_in_lem order_new

  module _ (lent : x.rewards ≡ true) where
    pub rewards_length : length l.rewards ≡ c.states
    rewards_length = equal _ _ (λ f. shape (Misshaped.rewards_length (λ e. f (rw lent at e))))

    reward_fault : (p : ℕ) → RewardFault c.states l.rewards c.edges p → ⊥
    reward_fault p f = formed.none 11 p (lends x.rewards (RewardFault c.states l.rewards c.edges) p lent f)

    pub reward_small : (i : ℕ) → i < c.states → get_or l.rewards i 0 ≤ most_reward
    reward_small i h = at_most _ _ (λ k. reward_fault i (of_state i (h, k)))

    pub edge_reward_small : (e : ℕ) → e < edge_count c.edges → edge_reward c.edges e ≤ most_reward
    edge_reward_small e h = at_most _ _ (λ k. reward_fault (most_states + e) (of_edge e (h, k)))

-- Nothing is earned in an entry that is lent no rewards.
pub unpaid : (x : Entry) (l : Lent) → x.rewards ≡ false → (i : ℕ) → earns x l i ≡ 0
unpaid x l lent i = rw lent
