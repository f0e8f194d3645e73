-- The chosen order is one, it is each state once, and its products sum to what an exact run's step list shows.
use Prim.Native.Nat.{ℕ, zero, suc, ◌+◌, ◌*◌, ◌-◌, ◌≤◌, ◌<◌}
use Rattle.std.specs.Prelude.{◌≡◌, refl, Bool, true, false, List, length, get_or, take}
use Rattle.std.proofs.Common.{sym, ap₂, subst, ◌∙◌, inl, inr, ⊎_elim, arith, length-drop, ext_get_or, get_or-drop}
use Rattle.std.proofs.Math.Path.{ap}
use Rattle.meaning.specs.Number.{sum_to, only}
use Rattle.meaning.specs.Chain.{Chain}
use Rattle.meaning.specs.Row.{exact}
use Rattle.meaning.specs.Step.{Sets, Right, goes}
use Rattle.meaning.specs.Refusal.{Lent, listing, OrderFault}
use Rattle.meaning.specs.Stop.{earns, turn, table_at}
use Rattle.meaning.specs.Outcome.{Answer}
use Rattle.meaning.specs.Steps.{StepRecord, record_of, StepsOutcome}
use Rattle.meaning.specs.Choice.{product_at, passed_over, Chosen, products_to, Choice, no_choice, choice, ChoiceOutcome, list_wrong, refused, chosen}
use Rattle.theory.specs.Numbers.Sum.{below, last_or_below, sum_ext, sum_zero, sum_join}
use Rattle.theory.specs.Chains.Fine.{Fine}
use Rattle.theory.specs.Chains.Sets.{right_one}
use Rattle.theory.specs.Outcomes.Formed.{formed_fine, start_in}
use Rattle.theory.specs.Outcomes.Determined.{refused_one, refused_unformed}
use Rattle.theory.specs.Outcomes.StepsStates.{steps_through, steps_sum}
use Rattle.theory.specs.Outcomes.Turns.{Alike, alike_back, Turns, left_alike, next_alike, next_one, products_alike, going_state}
use Rattle.theory.specs.Outcomes.TurnsCounted.{passed_below, passed_stays, passed_rises, turns_few}

module _ (c : Chain) (k : Sets) where
  abbrev go : ℕ → Bool
  go = goes c.start k.live

  module _ {o : List ℕ} {m : ℕ} (x : Chosen c k o m) where
    pub chosen_turns : Turns c k o m
    chosen_turns = record { turn = x.turns }

    -- The entries after the turns are those of the states passed over.
    rest_entry : (p : ℕ) → m ≤ p → get_or o p 0 ≡ get_or (passed_over go c.states) (p - m) 0
    rest_entry p h =
        let e : m + (p - m) ≡ p = omega arith in
        ap (λ p. get_or o p 0) (sym e) ∙ sym (get_or-drop m o (p - m) 0) ∙ ap (λ s. get_or s (p - m) 0) x.rest

    rest_length : length (passed_over go c.states) ≡ c.states - m
    rest_length = ap length (sym x.rest) ∙ length-drop m o ∙ ap (λ n. n - m) x.size

    rest_stays : (p : ℕ) → m ≤ p → p < c.states → go (get_or o p 0) ≡ false
    rest_stays p h l = ap go (rest_entry p h) ∙ passed_stays go c.states (p - m) (omega (arith, rest_length))

    -- It is each state once: 10 does not apply.
    module _ (fine : Fine c) (right : Right c k) (start : c.start < c.states) where
      entry_below : (p : ℕ) → p < c.states → get_or o p 0 < c.states
      entry_below p l =
          ⊎_elim
          (λ (h : p < m). going_state c k fine right start (x.turns p h).left.going)
          (λ (h : m ≤ p). omega (arith, rest_entry p h, passed_below go c.states (p - m) (omega (arith, rest_length))))
          (below p m)

      entry_new : (p q : ℕ) → q < p → p < c.states → get_or o q 0 ≡ get_or o p 0 → ⊥
      entry_new p q h l e =
          ⊎_elim
          (λ (a : p < m). (x.turns p a).left.unseen q h e)
          (λ (a : m ≤ p).
          ⊎_elim
          (λ (b : q < m).
          let f : go (get_or o q 0) ≡ true = (x.turns q b).left.going in
          let g : go (get_or o q 0) ≡ false = ap go e ∙ rest_stays p a l in
          let z : ◌≡◌ {A = ℕ} 0 1 = cc in omega arith)
          (λ (b : m ≤ q).
          omega (arith, e, rest_entry p a, rest_entry q b, passed_rises go c.states (q - m) (p - m) (omega arith) (omega (arith, rest_length))))
          (below q m))
          (below p m)

      pub choice_order : (p : ℕ) → OrderFault c.states o p → ⊥
      choice_order p (h, inl a) = omega (arith, a, entry_below p h)
      choice_order p (h, inr (q, (a, e))) = entry_new p q a h e

  -- Two chosen orders have the same turns, as many of them, and the same rest.
  module _ {o o' : List ℕ} {m m' : ℕ} (x : Chosen c k o m) (x' : Chosen c k o' m') where
    same_turns : (p : ℕ) → p ≤ m → p ≤ m' → Alike o o' p
    same_turns zero h h' = record { entry = λ q l. absurd (omega arith) }
    same_turns (suc p) h h' =
        let ih = same_turns p (omega arith) (omega arith) in
        let e = next_one c k (next_alike c k ih (x.turns p (omega arith))) (x'.turns p (omega arith)) in
        record { entry = λ q l. last_or_below l (λ (a : q ≡ p). ap (λ q. get_or o q 0) a ∙ e ∙ ap (λ q. get_or o' q 0) (sym a)) (λ (a : q < p). ih.entry q a) }

    no_longer : m < m' → ⊥
    no_longer h =
        let a = same_turns m (omega arith) (omega arith) in
        x.done (get_or o' m 0) (left_alike c k (alike_back a) (x'.turns m h).left)

  chosen_count : {o o' : List ℕ} {m m' : ℕ} → Chosen c k o m → Chosen c k o' m' → m ≡ m'
  chosen_count {m = m} {m'} x x' = let a = no_longer x x' in let b = no_longer x' x in omega (arith, a, b)

  pub chosen_one : {o o' : List ℕ} {m m' : ℕ} → Chosen c k o m → Chosen c k o' m' → (o ≡ o') × (products_to c k o m ≡ products_to c k o' m')
  chosen_one {o} {o'} {m} {m'} x x' = (
    ext_get_or 0 o o' (x.size ∙ sym x'.size)
        (λ p l.
        ⊎_elim
        (λ (h : p < m). a.entry p h)
        (λ (h : m ≤ p).
        rest_entry x p h ∙ ap (λ m. get_or (passed_over go c.states) (p - m) 0) e ∙ sym (rest_entry x' p (omega (arith, e, h))))
        (below p m)),
    products_alike c k a ∙ ap (products_to c k o') e,
  )
    where
      e : m ≡ m'
      e = chosen_count x x'

      a : Alike o o' m
      a = same_turns x x' m (omega arith) (omega (arith, e))

-- The part has one outcome: its answer, and the list.
pub choice_one : {l : Lent} {before after after' : List ℕ} {a a' : Choice} → ChoiceOutcome l before a after → ChoiceOutcome l before a' after'
    → (a ≡ a') × (after ≡ after')
choice_one (list_wrong d e s) (list_wrong d' e' s') = (e ∙ sym e', s ∙ sym s')
choice_one (list_wrong d e s) (refused h' n' p' r' e' s') = absurd (d h')
choice_one (list_wrong d e s) (chosen h' f' k' t' m' x' e') = absurd (d h')
choice_one (refused h n p r e s) (list_wrong d' e' s') = absurd (d' h)
choice_one (refused h n p r e s) (refused h' n' p' r' e' s') =
    let o = refused_one r r' in (e ∙ ap₂ no_choice o.0 o.1 ∙ sym e', s ∙ sym s')
choice_one (refused h n p r e s) (chosen h' f' k' t' m' x' e') = absurd (refused_unformed r f')
choice_one (chosen h f k t m x e) (list_wrong d' e' s') = absurd (d' h)
choice_one (chosen h f k t m x e) (refused h' n' p' r' e' s') = absurd (refused_unformed r' f)
choice_one {l} {after' = after'} (chosen h f k t m x e) (chosen h' f' k' t' m' x' e') =
    let s = right_one t t' in
    let o = chosen_one l.chain k x (subst (λ k. Chosen l.chain k after' m') (sym s) x') in
    (e ∙ ap choice (o.1 ∙ ap (λ k. products_to l.chain k after' m') s) ∙ sym e', o.0)

-- The sum of the products is what the records of an exact run with the chosen order sum to, where nothing is refused.
module _ (l : Lent) {k : Sets} {m : ℕ} (right : Right l.chain k) (x : Chosen l.chain k l.order m) where
  pub choice_sum : {before after : List StepRecord} {a : Answer} {count : ℕ} {w : List ℕ} (d : StepRecord) → a.number ≡ 0
      → StepsOutcome l before a count w after
      → sum_to (λ i. let r = get_or (take count after) i d in r.rows * r.columns) count ≡ products_to l.chain k l.order m
  unfolding record_of
  choice_sum d z s =
      let c = l.chain in
      let f : StepRecord → ℕ = λ r. r.rows * r.columns in
      let g : ℕ → ℕ =
      λ p. only (goes c.start k.live (turn l p)) (f (record_of c.states (turn l p) (table_at (earns listing l) exact l k p))) in
      let formed = (steps_through l z s).formed in
      let few = turns_few c k (formed_fine listing l formed refl) right (start_in listing l formed) (chosen_turns c k x) in
      let e : m + (c.states - m) ≡ c.states = omega (arith, few) in
      steps_sum l z s f d k right
      ∙ ap (sum_to g) (sym e)
      ∙ sum_join g m (c.states - m)
      ∙ omega (arith, sum_ext g (λ p. product_at c k l.order p (turn l p)) m (λ p h. rw (x.turns p h).left.going), sum_zero (λ j. g (m + j)) (c.states - m) (λ j h. rw (rest_stays c k x (m + j) (omega arith) (omega arith))))
