-- Every number of refusal 1 to 11 is decided: an input is refused by one of them, or is well formed.
use Rattle.std.specs.Prelude.{ℕ, zero, suc, ◌+◌, ◌-◌, ◌/◌, ◌%◌, ◌^◌, ◌≤◌, ◌<◌, ◌≡◌, refl, ◌⊎◌, Bool, true, false, List, [], ◌∷◌, length, get_or}
use Rattle.std.proofs.Common.{subst, inl, inr, arith}
use Rattle.std.proofs.Math.Logic.Dec
use Rattle.std.proofs.Math.Decide.{ℕ_discrete, dec_le, dec_lt}
use Rattle.meaning.specs.Number.{only}
use Rattle.meaning.specs.Chain.{most_states, most_edges, M, most_reward, edge_size, edge_count, from, to, weight, edge_reward, row_sum}
use Rattle.meaning.specs.Refusal.{
  Lent,
  Entry,
  Misshaped,
  no_states,
  many_states,
  denominators_length,
  edges_ragged,
  many_edges,
  few_edges,
  order_length,
  rewards_length,
  GoalFault,
  OutOfRange,
  Same,
  StateRewardFault,
  EdgeRewardFault,
  RewardFault,
  of_state,
  of_edge,
  SumFault,
  whole,
  never,
  lent_fault,
  faults,
  Refused,
  WellFormed,
}
use Rattle.theory.specs.Numbers.Search.{turned, either, NoneBefore, LeastPlace, at, nowhere, clear_none, search_least, ranged, anywhere}

module _ (x : Entry) (states denominators edges order rewards : ℕ) where
  abbrev pub Shapes : Type 0
  Shapes =
      (states ≡ 0)
      ⊎ (most_states < states)
      ⊎ (denominators ≡ states → ⊥)
      ⊎ (edges % edge_size ≡ 0 → ⊥)
      ⊎ (most_edges < edges / edge_size)
      ⊎ (edges / edge_size < x.fewest)
      ⊎ (order ≡ only x.order states → ⊥)
      ⊎ (rewards ≡ only x.rewards states → ⊥)

  pub shapes_in : Shapes → Misshaped x states denominators edges order rewards
  shapes_in (inl h) = no_states h
  shapes_in (inr (inl h)) = many_states h
  shapes_in (inr (inr (inl h))) = denominators_length h
  shapes_in (inr (inr (inr (inl h)))) = edges_ragged h
  shapes_in (inr (inr (inr (inr (inl h))))) = many_edges h
  shapes_in (inr (inr (inr (inr (inr (inl h)))))) = few_edges h
  shapes_in (inr (inr (inr (inr (inr (inr (inl h))))))) = order_length h
  shapes_in (inr (inr (inr (inr (inr (inr (inr h))))))) = rewards_length h

  pub shapes_out : Misshaped x states denominators edges order rewards → Shapes
  shapes_out (no_states h) = inl h
  shapes_out (many_states h) = inr (inl h)
  shapes_out (denominators_length h) = inr (inr (inl h))
  shapes_out (edges_ragged h) = inr (inr (inr (inl h)))
  shapes_out (many_edges h) = inr (inr (inr (inr (inl h))))
  shapes_out (few_edges h) = inr (inr (inr (inr (inr (inl h)))))
  shapes_out (order_length h) = inr (inr (inr (inr (inr (inr (inl h))))))
  shapes_out (rewards_length h) = inr (inr (inr (inr (inr (inr (inr h))))))

  unfoldable pub misshaped : Dec (Misshaped x states denominators edges order rewards)
  unfolding turned either ℕ_discrete dec_lt Dec.not
  misshaped =
      turned shapes_in shapes_out
      (either (ℕ_discrete states 0)
      (either (dec_lt most_states states)
      (either (Dec.not (ℕ_discrete denominators states))
      (either (Dec.not (ℕ_discrete (edges % edge_size) 0))
      (either (dec_lt most_edges (edges / edge_size))
      (either (dec_lt (edges / edge_size) x.fewest)
      (either (Dec.not (ℕ_discrete order (only x.order states)))
      (Dec.not (ℕ_discrete rewards (only x.rewards states))))))))))

unfoldable pub out_of_range : (w : ℕ) → Dec (OutOfRange w)
unfolding either ℕ_discrete dec_lt
out_of_range w = either (ℕ_discrete w 0) (dec_lt M w)

unfoldable pub sames : (edges : List ℕ) (d e : ℕ) → Dec (Same edges d e)
unfolding Dec.and ℕ_discrete
sames edges d e = Dec.and (ℕ_discrete (from edges d) (from edges e)) (ℕ_discrete (to edges d) (to edges e))

-- The places of 11: those of the states, and those of the edges from 64 on.
module _ (n : ℕ) (rewards edges : List ℕ) where
  abbrev pub Overpaid : ℕ → Type 0
  Overpaid p = StateRewardFault n rewards p ⊎ ((most_states ≤ p) × EdgeRewardFault edges (p - most_states))

  pub overpaid_in : (p : ℕ) → Overpaid p → RewardFault n rewards edges p
  overpaid_in p (inl h) = of_state p h
  overpaid_in p (inr h) =
      let e : most_states + (p - most_states) ≡ p = omega (arith, h.0) in
      subst (RewardFault n rewards edges) e (of_edge (p - most_states) h.1)

  pub overpaid_out : (p : ℕ) → RewardFault n rewards edges p → Overpaid p
  overpaid_out _ (of_state i h) = inl h
  overpaid_out _ (of_edge e h) =
      let z : most_states + e - most_states ≡ e = omega arith in
      inr (omega arith, rw z h)

  pub overpaid_inside : (p : ℕ) → RewardFault n rewards edges p → p < n + most_states + edge_count edges
  overpaid_inside _ (of_state i h) = omega (arith, h.0)
  overpaid_inside _ (of_edge e h) = omega (arith, h.0)

  unfoldable pub overpaid : LeastPlace (RewardFault n rewards edges)
  unfolding search_least turned either Dec.and dec_lt dec_le
  overpaid =
      search_least (RewardFault n rewards edges) (n + most_states + edge_count edges)
      (λ p.
      turned (overpaid_in p) (overpaid_out p)
      (either (Dec.and (dec_lt p n) (dec_lt most_reward (get_or rewards p 0)))
      (Dec.and (dec_le most_states p)
      (Dec.and (dec_lt (p - most_states) (edge_count edges)) (dec_lt most_reward (edge_reward edges (p - most_states)))))))
      overpaid_inside

-- A fault of the whole, and one of a table that the entry may not be lent.
unfoldable pub wholly : (F : Type 0) → Dec F → LeastPlace (whole F)
wholly F (yes f) = at 0 (refl, f) (clear_none (whole F))
wholly F (no h) = nowhere (λ q z. h z.1)

unfoldable pub lently : (b : Bool) (F : ℕ → Type 0) → LeastPlace F → LeastPlace (lent_fault b F)
lently true F s = s
lently false F s = nowhere (λ q z. z)

-- What was found of each fault of a list.
pub data Each : List (ℕ → Type 0) → Type 1 where
  none : Each []
  more : {F : ℕ → Type 0} {fs : List (ℕ → Type 0)} → LeastPlace F → Each fs → Each (F ∷ fs)

-- 9, where rows may fall short or not.
unfoldable pub unequal : (short : Bool) (n : ℕ) (denominators edges : List ℕ) → LeastPlace (SumFault short n denominators edges)
unfolding ranged Dec.not ℕ_discrete dec_lt
unequal false n denominators edges = ranged _ n (λ i. Dec.not (ℕ_discrete (row_sum edges i) (get_or denominators i 0)))
unequal true n denominators edges = ranged _ n (λ i. dec_lt (get_or denominators i 0) (row_sum edges i))

unfoldable pub sought : (x : Entry) (l : Lent) → Each (faults x l)
unfolding wholly lently misshaped out_of_range sames overpaid unequal ranged anywhere either dec_lt dec_le ℕ_discrete
sought x l =
    let c = l.chain in
    more (nowhere (λ q z. z))
    (more (wholly _ (misshaped x c.states (length c.denominators) (length c.edges) (length l.order) (length l.rewards)))
    (more (wholly _ (either (dec_lt (length l.work) (x.room c.states (edge_count c.edges))) (dec_lt l.list (x.records c.states))))
    (more (wholly _ (dec_le c.states c.start))
    (more (wholly (GoalFault c.states c.goals) (either (ℕ_discrete c.goals 0) (dec_le (2 ^ c.states) c.goals)))
    (more (ranged _ c.states (λ i. out_of_range (get_or c.denominators i 0)))
    (more (ranged _ (edge_count c.edges) (λ e. either (dec_le c.states (from c.edges e)) (dec_le c.states (to c.edges e))))
    (more (ranged _ (edge_count c.edges) (λ e. out_of_range (weight c.edges e)))
    (more (ranged _ (edge_count c.edges) (λ e. anywhere _ e (λ d. sames c.edges d e)))
    (more (unequal x.short c.states c.denominators c.edges)
    (more
    (lently x.order _
    (ranged _ c.states (λ p.
    either (dec_le c.states (get_or l.order p 0))
    (anywhere _ p (λ o. ℕ_discrete (get_or l.order o 0) (get_or l.order p 0))))))
    (more (lently x.rewards _ (overpaid c.states l.rewards c.edges))
    none)))))))))))

-- The least number of a list of faults that applies, with its least place; or that none does.
pub data First (fs : List (ℕ → Type 0)) : Type 1 where
  first : (number place : ℕ) → get_or fs number never place → ((k p : ℕ) → k < number → get_or fs k never p → ⊥)
      → NoneBefore (get_or fs number never) place → First fs
  clean : ((k p : ℕ) → get_or fs k never p → ⊥) → First fs

module _ (F : ℕ → Type 0) (fs : List (ℕ → Type 0)) (h : (p : ℕ) → F p → ⊥) where
  pub clean_more : ((k p : ℕ) → get_or fs k never p → ⊥) → (k p : ℕ) → get_or (F ∷ fs) k never p → ⊥
  clean_more c zero p z = h p z
  clean_more c (suc k) p z = c k p z

  pub first_more : (n : ℕ) → ((k p : ℕ) → k < n → get_or fs k never p → ⊥) → (k p : ℕ) → k < suc n → get_or (F ∷ fs) k never p → ⊥
  first_more n c zero p l z = h p z
  first_more n c (suc k) p l z = c k p (omega arith) z

  unfoldable pub further : First fs → First (F ∷ fs)
  further (first number place a b c) = first (suc number) place a (first_more number b) c
  further (clean c) = clean (clean_more c)

unfoldable pub earliest : {fs : List (ℕ → Type 0)} → Each fs → First fs
unfolding further
earliest none = clean (λ k p z. z)
earliest (more (at p f c) r) = first 0 p f (λ k q l z. absurd (omega arith)) c
earliest (more {F} {fs} (nowhere h) r) = further F fs h (earliest r)

-- What an entry's looking comes to.
pub data LookResult (x : Entry) (l : Lent) : Type 0 where
  refused : (number place : ℕ) → Refused x l number place → LookResult x l
  formed : WellFormed x l → LookResult x l

unfoldable pub look : (x : Entry) (l : Lent) → LookResult x l
unfolding sought earliest
look x l =
    elim (earliest (sought x l)) [
      | first number place a b c ↦ refused number place (record { applies = a; number_least = b; place_least = c })
      | clean c ↦ formed (record { none = c })
    ]
