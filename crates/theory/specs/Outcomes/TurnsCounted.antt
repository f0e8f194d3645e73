-- How many turns a chosen order has: with the states that are passed over they are all.
use Prim.Native.Nat.{ℕ, zero, suc, ◌+◌, ◌≤◌, ◌<◌}
use Rattle.std.specs.Prelude.{◌≡◌, ◌⊎◌, Bool, eqb}
use Rattle.std.proofs.Math.Path.{refl, ap}
use Rattle.std.proofs.Common.{sym, subst, ◌∙◌, inl, inr, eq-eqb, ne_eqb}
use Rattle.std.proofs.Math.Logic.{⊎_elim}
use Rattle.std.proofs.Math.Bool.{true, false}
use mathlib.Core.List.{List, [], ◌∷◌, ◌++◌}
use native.Mathlib.Omega.{arith}
use Rattle.std.proofs.Math.ListN.{length, get_or, length-append, get_or-append}
use Rattle.std.proofs.Math.Seq.{get_or-append_seam}
use Rattle.meaning.specs.Number.{sum_to, only, choose}
use Rattle.meaning.specs.Chain.{Chain}
use Rattle.meaning.specs.Step.{Sets, Right, goes}
use Rattle.meaning.specs.Choice.{Left, passed_over}
use Rattle.theory.specs.Numbers.Sum.{same, below, last_or_below, sum_ext, sum_le, sum_zero, sum_swap, sum_one, sum_alone, sum_next}
use Rattle.theory.specs.Chains.Fine.{Fine}
use Rattle.theory.specs.Outcomes.Turns.{Turns, going_state}

-- The states that are passed over.
module _ (go : ℕ → Bool) where
  -- The list with one state more.
  passed_next : (P : List ℕ → Type 0) (n : ℕ) → (go n ≡ true → P (passed_over go n)) → (go n ≡ false → P (passed_over go n ++ (n ∷ [])))
      → P (passed_over go (suc n))
  unfolding passed_over
  passed_next P n f g = at (go n) refl
    where
      at : (b : Bool) → go n ≡ b → P (choose b (passed_over go n) (passed_over go n ++ (n ∷ [])))
      at true e = f e
      at false e = g e

  -- What holds of each of them, and of the next one.
  one_longer : (P : ℕ → Type 0) (s : List ℕ) (x : ℕ) → ((j : ℕ) → j < length s → P (get_or s j 0)) → P x
      → (j : ℕ) → j < length (s ++ (x ∷ [])) → P (get_or (s ++ (x ∷ [])) j 0)
  one_longer P s x f p j h =
      last_or_below {j = j} {n = length s} (omega (arith, h, length-append s (x ∷ [])))
      (λ (e : j ≡ length s). subst P (sym (ap (λ j. get_or (s ++ (x ∷ [])) j 0) e ∙ get_or-append_seam s x [] 0)) p)
      (λ (l : j < length s). subst P (sym (get_or-append s (x ∷ []) 0 j l)) (f j l))

  pub passed_below : (n j : ℕ) → j < length (passed_over go n) → get_or (passed_over go n) j 0 < n
  unfolding passed_over
  passed_below zero = λ j h. absurd (omega arith)
  passed_below (suc n) =
      passed_next (λ s. (j : ℕ) → j < length s → get_or s j 0 < suc n) n
      (λ _ j h. omega (arith, passed_below n j h))
      (λ _. one_longer (λ x. x < suc n) (passed_over go n) n (λ j h. omega (arith, passed_below n j h)) (omega arith))

  pub passed_stays : (n j : ℕ) → j < length (passed_over go n) → go (get_or (passed_over go n) j 0) ≡ false
  unfolding passed_over
  passed_stays zero = λ j h. absurd (omega arith)
  passed_stays (suc n) =
      passed_next (λ s. (j : ℕ) → j < length s → go (get_or s j 0) ≡ false) n
      (λ _. passed_stays n)
      (λ e. one_longer (λ x. go x ≡ false) (passed_over go n) n (passed_stays n) e)

  pub passed_rises : (n i j : ℕ) → i < j → j < length (passed_over go n) → get_or (passed_over go n) i 0 < get_or (passed_over go n) j 0
  unfolding passed_over
  passed_rises zero i j h = λ l. absurd (omega arith)
  passed_rises (suc n) i j h =
      passed_next (λ s. j < length s → get_or s i 0 < get_or s j 0) n
      (λ _. passed_rises n i j h)
      (λ _ l. at (passed_over go n) (passed_below n) (passed_rises n) l)
    where
      at : (s : List ℕ) → ((j : ℕ) → j < length s → get_or s j 0 < n) → ((i j : ℕ) → i < j → j < length s → get_or s i 0 < get_or s j 0)
          → j < length (s ++ (n ∷ [])) → get_or (s ++ (n ∷ [])) i 0 < get_or (s ++ (n ∷ [])) j 0
      at s f g l =
          last_or_below {j = j} {n = length s} (omega (arith, l, length-append s (n ∷ [])))
          (λ (e : j ≡ length s).
          let b : i < length s = omega arith in
          omega (arith, get_or-append s (n ∷ []) 0 i b, f i b, ap (λ j. get_or (s ++ (n ∷ [])) j 0) e, get_or-append_seam s n [] 0))
          (λ (b : j < length s).
          omega (arith, get_or-append s (n ∷ []) 0 i (omega arith), get_or-append s (n ∷ []) 0 j b, g i j h b))

  -- They and those that have a turn are all.
  abbrev goers : ℕ → ℕ
  goers n = sum_to (λ i. only (go i) 1) n

  pub passed_count : (n : ℕ) → goers n + length (passed_over go n) ≡ n
  unfolding passed_over sum_to
  passed_count zero = refl
  passed_count (suc n) = at (go n) (passed_count n)
    where
      at : (b : Bool) → goers n + length (passed_over go n) ≡ n
          → goers n + only b 1 + length (choose b (passed_over go n) (passed_over go n ++ (n ∷ []))) ≡ suc n
      at true e = omega (arith, e)
      at false e = omega (arith, e, length-append (passed_over go n) (n ∷ []))

  pub passed_grows : (m n : ℕ) → m ≤ n → length (passed_over go m) ≤ length (passed_over go n)
  unfolding passed_over
  passed_grows m zero h = let e : m ≡ 0 = omega arith in rw e (omega arith)
  passed_grows m (suc n) h =
      ⊎_elim
      (λ (l : m < suc n).
      let ih = passed_grows m n (omega arith) in
      passed_next (λ s. length (passed_over go m) ≤ length s) n (λ _. ih) (λ _. omega (arith, ih, length-append (passed_over go n) (n ∷ []))))
      (λ (l : suc n ≤ m). let e : m ≡ suc n = omega arith in rw e (omega arith))
      (below m (suc n))

-- How many turns there are.
module _ (c : Chain) (k : Sets) (fine : Fine c) (right : Right c k) (start : c.start < c.states) {o : List ℕ} {p : ℕ} (t : Turns c k o p) where
  abbrev n : ℕ
  n = c.states

  abbrev go : ℕ → Bool
  go = goes c.start k.live

  -- How often state i has had its turn.
  abbrev times : ℕ → ℕ
  times i = sum_to (λ q. only (eqb (get_or o q 0) i) 1) p

  once : (q r : ℕ) → q < p → r < p → get_or o q 0 ≡ get_or o r 0 → q ≡ r
  once q r h l e =
      ⊎_elim
      (λ (a : q < r). absurd ((t.turn r l).left.unseen q a e))
      (λ (a : r ≤ q).
      ⊎_elim
      (λ (b : r < q). absurd ((t.turn q h).left.unseen r b (sym e)))
      (λ (b : q ≤ r). omega arith)
      (below r q))
      (below q r)

  -- Once where it stands among the turns, and never where it does not.
  times_seen : (i q : ℕ) → q < p → get_or o q 0 ≡ i → times i ≡ 1
  times_seen i q h e =
      sum_alone (λ q. only (eqb (get_or o q 0) i) 1) p q h
      (λ r l d. rw (ne_eqb (get_or o r 0) i (λ f. d (once r q l h (f ∙ sym e)))))
      ∙ rw (eq-eqb (get_or o q 0) i e)

  times_unseen : (i : ℕ) → ((q : ℕ) → q < p → get_or o q 0 ≡ i → ⊥) → times i ≡ 0
  times_unseen i f = sum_zero _ p (λ q l. rw (ne_eqb (get_or o q 0) i (f q l)))

  pub seen : (i m : ℕ) → ((q : ℕ) × (q < m) × (get_or o q 0 ≡ i)) ⊎ ((q : ℕ) → q < m → get_or o q 0 ≡ i → ⊥)
  seen i zero = inr (λ q l. absurd (omega arith))
  seen i (suc m) =
      ⊎_elim
      (λ (e : get_or o m 0 ≡ i). inl (m, omega arith, e))
      (λ (d : get_or o m 0 ≡ i → ⊥).
      ⊎_elim
      (λ (w : (q : ℕ) × (q < m) × (get_or o q 0 ≡ i)). inl (w.0, omega (arith, w.1), w.2))
      (λ (f : (q : ℕ) → q < m → get_or o q 0 ≡ i → ⊥).
      inr (λ q l. last_or_below l (λ (a : q ≡ m). λ e. d (sym (ap (λ q. get_or o q 0) a) ∙ e)) (λ (a : q < m). f q a)))
      (seen i m))
      (same (get_or o m 0) i)

  each : (m : ℕ) → sum_to (λ _. 1) m ≡ m
  unfolding sum_to
  each zero = refl
  each (suc m) = omega (arith, each m)

  all_times : sum_to times n ≡ p
  all_times =
      sum_swap (λ i q. only (eqb (get_or o q 0) i) 1) n p
      ∙ sum_ext _ (λ _. 1) p (λ q l. sum_one (λ _. 1) n (get_or o q 0) (going_state c k fine right start (t.turn q l).left.going))
      ∙ each p

  times_most : (i : ℕ) → times i ≤ only (go i) 1
  times_most i =
      ⊎_elim
      (λ (w : (q : ℕ) × (q < p) × (get_or o q 0 ≡ i)).
      let g : go i ≡ true = subst (λ i. go i ≡ true) w.2 (t.turn w.0 w.1).left.going in
      rw g (omega (arith, times_seen i w.0 w.1 w.2)))
      (λ (f : (q : ℕ) → q < p → get_or o q 0 ≡ i → ⊥). omega (arith, times_unseen i f))
      (seen i p)

  -- With the states passed over they are at most n, so that there is room for them; and once none is left they are all.
  pub turns_few : p + length (passed_over go n) ≤ n
  turns_few = omega (arith, all_times, sum_le times (λ i. only (go i) 1) n (λ i _. times_most i), passed_count go n)

  pub turns_all : ((i : ℕ) → Left c k o p i → ⊥) → p + length (passed_over go n) ≡ n
  turns_all done = omega (arith, all_times, sum_ext times (λ i. only (go i) 1) n (λ i _. just i (go i) refl), passed_count go n)
    where
      just : (i : ℕ) (b : Bool) → go i ≡ b → times i ≡ only b 1
      just i true g =
          ⊎_elim
          (λ (w : (q : ℕ) × (q < p) × (get_or o q 0 ≡ i)). times_seen i w.0 w.1 w.2)
          (λ (f : (q : ℕ) → q < p → get_or o q 0 ≡ i → ⊥). absurd (done i (record { going = g; unseen = f })))
          (seen i p)
      just i false g = let h : times i ≤ only (go i) 1 = times_most i in omega (arith, rw g at h)

  -- The start is passed over, so that there is a place for one more turn.
  pub turns_room : p < n
  turns_room =
      let s = c.start in
      let z : go s ≡ false = rw (eq-eqb s s refl) in
      omega (arith, turns_few, passed_grows go (suc s) n (omega arith), passed_count go (suc s), passed_count go s, sum_next (λ i. only (go i) 1) s (suc s) refl, only_none z)
    where
      only_none : {b : Bool} → b ≡ false → only b 1 ≡ 0
      only_none e = rw e
