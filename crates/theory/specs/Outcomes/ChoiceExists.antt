-- Every well-formed chain has a chosen order, and the part an outcome for every input and every list.
use Rattle.std.specs.Prelude.{ℕ, zero, suc, ◌+◌, ◌≤◌, ◌<◌, ◌≡◌, refl, ◌⊎◌, Bool, true, false, List, ◌++◌, length, get_or, set, take, replicate}
use Rattle.std.proofs.Common.{sym, ◌∙◌, inl, inr, ⊎_elim, arith, length-set, length-append, get_or-set_same, get_or-set_other, get_or-take, length-take-le, drop_at}
use Rattle.std.proofs.lemmas.List.{length-replicate}
use Rattle.std.proofs.Math.ListN.{get_or-append}
use Rattle.meaning.specs.Chain.{Chain}
use Rattle.meaning.specs.Step.{Sets, Right, goes}
use Rattle.meaning.specs.Refusal.{Lent, bare}
use Rattle.meaning.specs.Choice.{product_at, Left, Next, passed_over, Chosen, products_to, Choice, no_choice, choice, ChoiceOutcome, list_wrong, refused, chosen}
use Rattle.theory.specs.Numbers.Sum.{same}
use Rattle.theory.specs.Numbers.Least.{FirstLeast, least_found}
use Rattle.theory.specs.Chains.Fine.{Fine}
use Rattle.theory.specs.Chains.Sets.{right_exists}
use Rattle.theory.specs.Outcomes.Formed.{formed_fine, start_in, goals_in_lem, from_in_lem}
use Rattle.theory.specs.Outcomes.Look.{LookResult, look}
use Rattle.theory.specs.Outcomes.Turns.{Alike, alike_back, Turns, left_alike, turns_alike, turns_more, products_alike, going_state}
use Rattle.theory.specs.Outcomes.TurnsCounted.{seen, turns_few, turns_room, turns_all}

module _ (c : Chain) (k : Sets) (fine : Fine c) (right : Right c k) (start : c.start < c.states) where
  abbrev n : ℕ
  n = c.states

  abbrev go : ℕ → Bool
  go = goes c.start k.live

  module _ (o : List ℕ) (p : ℕ) (t : Turns c k o p) where
    whether_left : (i : ℕ) → Left c k o p i ⊎ (Left c k o p i → ⊥)
    whether_left i = at (go i) refl
      where
        at : (b : Bool) → go i ≡ b → Left c k o p i ⊎ (Left c k o p i → ⊥)
        at true g =
            ⊎_elim
            (λ (w : (q : ℕ) × (q < p) × (get_or o q 0 ≡ i)). inr (λ l. l.unseen w.0 w.1 w.2))
            (λ (f : (q : ℕ) → q < p → get_or o q 0 ≡ i → ⊥). inl (record { going = g; unseen = f }))
            (seen c k fine right start t i p)
        at false g = inr (λ l. let h = l.going in absurd (let z : ◌≡◌ {A = ℕ} 0 1 = cc in omega arith))

    -- The first of the least of the states that are left, or that none is.
    found : ((s : ℕ) × Next c k o p s) ⊎ ((i : ℕ) → Left c k o p i → ⊥)
    found =
        ⊎_elim
        (λ (w : (s : ℕ) × FirstLeast (Left c k o p) (product_at c k o p) n s).
        inl (
          w.0,
          record {
            left = w.1.here;
            least = λ i l. w.1.least i (inside l) l;
            lowest = λ i l. w.1.lowest i (inside l) l;
          },
        ))
        (λ (f : (i : ℕ) → i < n → Left c k o p i → ⊥). inr (λ i l. f i (inside l) l))
        (least_found (Left c k o p) (product_at c k o p) whether_left n)
      where
        inside : {i : ℕ} → Left c k o p i → i < n
        inside l = going_state c k fine right start l.going

  -- Turns until none is left.
  record Ended : Type 0 where
    order : List ℕ
    count : ℕ
    size : length order ≡ n
    turns : Turns c k order count
    done : (i : ℕ) → Left c k order count i → ⊥

  ends : (steps : ℕ) (o : List ℕ) (p : ℕ) → length o ≡ n → Turns c k o p → n ≤ p + steps → Ended
  ends zero o p e t h = absurd (omega (arith, h, turns_room c k fine right start t))
  ends (suc steps) o p e t h =
      ⊎_elim
      (λ (w : (s : ℕ) × Next c k o p s).
      let s = w.0 in
      let a : Alike o (set o p s) p = record { entry = λ q l. sym (get_or-set_other o p q s 0 (λ z. omega arith)) } in
      ends steps (set o p s) (suc p) (length-set o p s ∙ e)
      (turns_more c k a t w.1 (get_or-set_same o p s 0 (omega (arith, e, turns_room c k fine right start t))))
      (omega arith))
      (λ (f : (i : ℕ) → Left c k o p i → ⊥). record { order = o; count = p; size = e; turns = t; done = f })
      (found o p t)

  -- The turns until none is left, and then the states passed over.
  module _ {o : List ℕ} {m : ℕ} (size : length o ≡ n) (turns : Turns c k o m) (done : (i : ℕ) → Left c k o m i → ⊥) where
    abbrev pub whole : List ℕ
    whole = take m o ++ passed_over go n

    front_length : length (take m o) ≡ m
    front_length = length-take-le m o (omega (arith, size, turns_few c k fine right start turns))

    whole_front : Alike o whole m
    whole_front =
        record { entry = λ q h. sym (get_or-append (take m o) (passed_over go n) 0 q (omega (arith, front_length, h)) ∙ get_or-take m o q 0 h) }

    pub chosen_whole : Chosen c k whole m
    chosen_whole =
        record {
          size = length-append (take m o) (passed_over go n) ∙ omega (arith, front_length, turns_all c k fine right start turns done);
          turns = (turns_alike c k whole_front turns).turn;
          done = λ i y. done i (left_alike c k (alike_back whole_front) y);
          rest = drop_at (take m o) (passed_over go n) m front_length;
        }

    pub whole_products : products_to c k o m ≡ products_to c k whole m
    whole_products = products_alike c k whole_front

  pub chosen_exists : (o : List ℕ) × (m : ℕ) × Chosen c k o m
  chosen_exists =
      let x = ends n (replicate n 0) 0 (length-replicate n 0) (record { turn = λ q l. absurd (omega arith) }) (omega arith) in
      (whole x.size x.turns x.done, x.count, chosen_whole x.size x.turns x.done)

-- The part has an outcome for every input and every list.
pub choice_exists : (l : Lent) (before : List ℕ) → (a : Choice) × (after : List ℕ) × ChoiceOutcome l before a after
choice_exists l before = at (same (length before) l.chain.states) (look bare l)
  where
    at : (length before ≡ l.chain.states) ⊎ (length before ≡ l.chain.states → ⊥) → LookResult bare l
        → (a : Choice) × (after : List ℕ) × ChoiceOutcome l before a after
    at (inr d) x = (no_choice 1 0, before, list_wrong d refl refl)
    at (inl e) (LookResult.refused number place r) = (no_choice number place, before, refused e number place r refl refl)
    at (inl e) (LookResult.formed f) =
        let s = right_exists l.chain (goals_in_lem bare l f) (from_in_lem bare l f) in
        let x = chosen_exists l.chain s.0 (formed_fine bare l f refl) s.1 (start_in bare l f) in
        (choice (products_to l.chain s.0 x.0 x.1), x.0, chosen e f s.0 s.1 x.1 x.2 refl)
