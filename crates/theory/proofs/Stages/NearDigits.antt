-- In a near chance a weight has no digits but its highest 31 at any stage, and neither a weight nor D has more than 2,079 digits in all.
use Prim.Native.Nat.{ℕ, zero, suc, ◌+◌, ◌^◌, ◌≤◌, ◌<◌}
use Rattle.std.specs.Prelude.{◌≡◌, ◌⊎◌, Bool, List, eqb}
use Rattle.std.proofs.Math.Path.{refl}
use Rattle.std.proofs.Common.{inl, inr, lt_of_le_of_lt, pow_pos, eq-eqb, ne_eqb}
use Rattle.std.proofs.Math.Logic.{⊎_elim}
use Rattle.std.proofs.Math.Bool.{true, false}
use native.Mathlib.Omega.{arith}
use Rattle.std.proofs.Math.ListN.{get_or}
use Rattle.meaning.specs.Number.{sum_to, only, choose, bit}
use Rattle.meaning.specs.Chain.{M, Chain, denominator}
use Rattle.meaning.specs.Row.{cell}
use Rattle.meaning.specs.Step.{Table, row, Sets, given, no_row, outside}
use Rattle.meaning.specs.Near.{digits, top, near_outside, near_first, near_removed, near_stage, rows_made}
use Rattle.theory.specs.Numbers.Sum.{same, below, sum_next, sum_term, sum_find, sum_zero}
use Rattle.theory.specs.Numbers.Binary.{digits_most}
use Rattle.theory.specs.Numbers.Tops.{top_none, top_small}
use Rattle.theory.specs.Numbers.Cuts.{each_below}
use Rattle.theory.specs.Numbers.Sure.{row_loss}
use Rattle.theory.specs.Figures.Spread.{Spread, Stays, Hands, spread_on, spread_next}
use Rattle.theory.specs.Stages.Given.{LiveRow, given_total, given_reward}
use Rattle.theory.specs.Stages.Spreads.{cells, cells_first, cells_hand, cells_below}
use Rattle.theory.specs.Stages.Blended.{divisor, Low, outside_trimmed, lowered_trimmed, lowered_low, lowered_top}
use Rattle.theory.specs.Stages.Stage.{leaving, StageKept, kept_turn}
use Rattle.theory.specs.Stages.Last.{Prepared}
use Rattle.theory.specs.Stages.NearStep.{no_cell, goes_live, only_few, first_by, first_is, removes, new_is, old_is, anew_some, anew_none}
use Rattle.theory.proofs.Stages.Nearly.{Nearly, nearly_stage}

-- The spread of the kept rows is bounded, where at most p states were removed; one weight of each row is small; and each has its first 31
-- digits alone.
record Fitting (c : Chain) (k : Sets) (Q : ℕ → Type 0) (t : Table) (p : ℕ) : Type 0 where
  spread : Spread (2 ^ 48) row_loss M c.states (c.states + 2) (cells (near_first c k)) Q (cells t) p
  low : (i : ℕ) → i < c.states → Low (c.states + 4) (row t i)
  tops : (i j : ℕ) → i < c.states → j < c.states + 4 → top (cell (row t i) j) ≡ cell (row t i) j

no_low : (n : ℕ) → Low (n + 4) (no_row n)
no_low n = inl (no_cell n)

module _ (c : Chain) (k : Sets) (o : List ℕ) (ready : Prepared c k o) (few : c.states ≤ 64) (small : (i : ℕ) → i < c.states → denominator c i ≤ M) where
  abbrev n : ℕ
  n = c.states

  given_small : (i : ℕ) → LiveRow c k i → sum_to (cell (given c k (λ _. 0) 0 i)) (n + 4) ≤ M
  given_small i q =
      omega (
        arith,
        sum_next (cell (given c k (λ _. 0) 0 i)) (n + 3) (n + 4) (omega arith),
        given_reward c k (λ _. 0) 0 i,
        given_total c k (λ _. 0) ready.fine ready.right i q,
        small i q.0,
      )

  given_low : (i : ℕ) → LiveRow c k i → Low (n + 4) (given c k (λ _. 0) 0 i)
  given_low i q =
      let r = given c k (λ _. 0) 0 i in
      let a = given_small i q in
      ⊎_elim
      (λ (l : 0 < sum_to (cell r) (n + 4)).
      let (j, h, w) = sum_find (cell r) (n + 4) l in
      inr (j, h, w, omega (arith, sum_term (cell r) (n + 4) j h)))
      (λ (l : sum_to (cell r) (n + 4) ≤ 0). inl (λ j h. omega (arith, sum_term (cell r) (n + 4) j h)))
      (below 0 (sum_to (cell r) (n + 4)))

  fitting_first : Fitting c k (LiveRow c k) (near_first c k) 0
  fitting_first =
      record {
        spread =
            cells_first c k ready.fine ready.right small (2 ^ 48) row_loss 1 (near_first c k) (λ i q j h.
            rw (first_is c k i q.0, eq-eqb (bit k.live i) 1 q.1) (omega arith));
        low = λ i h. first_by c k (Low (n + 4)) i h (λ q. given_low i (h, q)) (no_low n);
        tops = λ i j h l.
            first_by c k (λ r. top (cell r j) ≡ cell r j) i h
            (λ q. top_small _ (omega (arith, given_small i (h, q), sum_term (cell (given c k (λ _. 0) 0 i)) (n + 4) j l)))
            (rw (no_cell n j l) top_none);
      }

  module _ (s : ℕ) (t : Table) (Q Q' : ℕ → Type 0) (m p : ℕ) (N : Nearly c k Q t m) (F : Fitting c k Q t p) (inside : s < n)
      (here : Q s) (was : (i : ℕ) → Q' i → Q i) (off : (i : ℕ) → Q' i → i ≡ s → ⊥)
    where
      abbrev t' : Table
      t' = near_removed n s t

      step_rows : (i : ℕ) → Q' i → Stays (cells t) (cells t') (n + 2) s i ⊎ Hands (2 ^ 48) row_loss (cells t) (cells t') (n + 2) s i
      step_rows i q =
          let h : i < n = N.inside i (was i q) in
          ⊎_elim
          (λ (e : cell (row t i) s ≡ 0).
          inl (record { none = e; old = λ j l. rw (old_is n s t i h (off i q) (anew_none n s t i (off i q) e)) }))
          (λ (e : cell (row t i) s ≡ 0 → ⊥).
          inr (cells_hand n s t inside (N.unknown_none s inside) i (N.wide i h) (2 ^ 48) row_loss (divisor n s (row t s) (row t i)) (pow_pos _) t' (λ j l.
          rw (new_is n s t i h (anew_some n s t i (off i q) (omega arith)))
          (lowered_trimmed n s (row t s) (row t i) few inside (N.reward_none s inside) j (omega (arith, N.wide i h))))))
          (same (cell (row t i) s) 0)

      fitting_next : Fitting c k Q' t' (suc p)
      fitting_next =
          record {
            spread =
                spread_next (2 ^ 48) row_loss M n (n + 2) (omega arith) (omega arith) (omega arith) (cells (near_first c k)) Q Q' (cells t) (cells t') p s
                (record { inside = inside; here = here; kept = was; other = off; rows = step_rows })
                F.spread;
            low = λ i h.
                removes n s t (Low (n + 4)) i h (no_low n) (λ _ _. F.low i h)
                (λ _ _. rw (N.wide i h) at (lowered_low n s (row t s) (row t i)));
            tops = λ i j h l.
                removes n s t (λ r. top (cell r j) ≡ cell r j) i h (rw (no_cell n j l) top_none) (λ _ _. F.tops i j h l)
                (λ _ _. lowered_top n s (row t s) (row t i) j (omega (arith, N.wide i h)));
          }

  -- How many states were removed in the first p positions.
  abbrev gone : ℕ → ℕ
  gone p = sum_to (λ q. only (leaving c k o q) 1) p

  next : (p : ℕ) → p < n → Nearly c k (StageKept c k o p) (near_stage c k o p) (rows_made c k o p)
      → Fitting c k (StageKept c k o p) (near_stage c k o p) (gone p)
      → Fitting c k (StageKept c k o (suc p)) (near_stage c k o (suc p)) (gone (suc p))
  unfolding near_stage StageKept sum_to
  next p h N F = go (leaving c k o p) refl
    where
      go : (g : Bool) → leaving c k o p ≡ g → Fitting c k (λ i. StageKept c k o p i × (leaving c k o p ≡ true → i ≡ get_or o p 0 → ⊥))
          (choose g (near_removed n (get_or o p 0) (near_stage c k o p)) (near_stage c k o p))
          (gone p + only g 1)
      go true e =
          let z : gone p + 1 ≡ suc (gone p) = omega arith in
          rw z
          (fitting_next (get_or o p 0) (near_stage c k o p) (StageKept c k o p) _ (rows_made c k o p) (gone p) N F (ready.orders p h)
          (kept_turn c k o p (ready.orders p h) (ready.once p h) (goes_live c.start k.live (get_or o p 0) e))
          (λ i q. q.0)
          (λ i q. q.1 e))
      go false e =
          record {
            spread =
                spread_on (2 ^ 48) row_loss M n (n + 2) (cells (near_first c k)) (StageKept c k o p) _ (cells (near_stage c k o p)) (gone p) (gone p + 0)
                (λ i q. q.0) (omega arith) F.spread;
            low = F.low;
            tops = F.tops;
          }

  fitting_stage : (p : ℕ) → p ≤ n → Fitting c k (StageKept c k o p) (near_stage c k o p) (gone p)
  unfolding near_stage StageKept sum_to
  fitting_stage zero h = fitting_first
  fitting_stage (suc p) h = next p h (nearly_stage c k o ready few p (omega arith)) (fitting_stage p (omega arith))

  -- The start is not removed.
  gone_most : (p : ℕ) → gone p ≤ p
  unfolding sum_to
  gone_most zero = omega arith
  gone_most (suc p) = omega (arith, gone_most p, only_few (leaving c k o p) 1)

  gone_less : (p q : ℕ) → q < p → leaving c k o q ≡ false → gone p < p
  unfolding sum_to
  gone_less zero q h e = absurd (omega arith)
  gone_less (suc p) q h e =
      ⊎_elim
      (λ (l : q < p). omega (arith, gone_less p q l e, only_few (leaving c k o p) 1))
      (λ (l : p ≤ q).
      let z : q ≡ p = omega arith in
      let y : leaving c k o p ≡ false = rw z at e in
      rw y (omega (arith, gone_most p)))
      (below q p)

  few_gone : (p : ℕ) → p ≤ n → gone p < n
  few_gone p h =
      ⊎_elim
      (λ (l : p < n). omega (arith, gone_most p))
      (λ (l : n ≤ p).
      let z : p ≡ n = omega arith in
      let (q, b, e) = ready.every c.start ready.start in
      rw z (gone_less n q b (rw (eq-eqb (get_or o q 0) c.start e))))
      (below p n)

  module _ (p : ℕ) (part : p ≤ n) where
    abbrev at : Table
    at = near_stage c k o p

    N : Nearly c k (StageKept c k o p) at (rows_made c k o p)
    N = nearly_stage c k o ready few p part

    module _ (i : ℕ) (h : i < n) where
      pub near_total : sum_to (cell (row at i)) (n + 2) < 2 ^ 2079
      near_total =
          ⊎_elim
          (λ z. rw (sum_zero (cell (row at i)) (n + 2) (λ j l. z j (omega arith))) (pow_pos 2079))
          (λ w.
          let (j, l, some, least) = w in
          let m : j < n + 2 =
          ⊎_elim
          (λ (e : j ≡ n + 2). absurd (omega (arith, rw e at some, N.unknown_none i h)))
          (λ (e : j ≡ n + 2 → ⊥).
          ⊎_elim
          (λ (d : j ≡ n + 3). absurd (omega (arith, rw d at some, N.reward_none i h)))
          (λ (d : j ≡ n + 3 → ⊥). omega arith)
          (same j (n + 3)))
          (same j (n + 2)) in
          cells_below (2 ^ 48) row_loss n (omega arith) few (cells (near_first c k)) (StageKept c k o p) at (gone p) (fitting_stage p part).spread
          (omega (arith, few_gone p part)) (few_gone p part) i j (N.owned i j h l some) m some least)
          ((fitting_stage p part).low i h)

      -- The digits of each weight, and of D.
      pub near_digits : (j : ℕ) → j < n + 4 → digits (cell (row at i) j) ≤ 2079
      near_digits j l =
          ⊎_elim
          (λ (m : j < n + 2).
          digits_most (cell (row at i) j) 2079 (lt_of_le_of_lt (sum_term (cell (row at i)) (n + 2) j m) near_total))
          (λ (m : n + 2 ≤ j).
          let z : cell (row at i) j ≡ 0 =
          ⊎_elim
          (λ (e : j ≡ n + 2). rw e (N.unknown_none i h))
          (λ (e : j ≡ n + 2 → ⊥). let d : j ≡ n + 3 = omega arith in rw d (N.reward_none i h))
          (same j (n + 2)) in
          rw z (digits_most 0 2079 (pow_pos 2079)))
          (below j (n + 2))

      pub near_outside_digits : digits (near_outside n i (row at i)) ≤ 2079
      near_outside_digits =
          let f = cell (row at i) in
          let a : near_outside n i (row at i) ≤ outside n i (row at i) = (outside_trimmed n i (row at i) few h (N.reward_none i h)).under in
          let b : near_outside n i (row at i) ≤ sum_to f (n + 2) = omega (arith, a, sum_next f (n + 2) (n + 3) (omega arith), N.unknown_none i h) in
          digits_most (near_outside n i (row at i)) 2079 (lt_of_le_of_lt b near_total)

      -- Each weight has its first 31 digits alone, and is at most D, the state's own aside.
      pub near_tops : (j : ℕ) → j < n + 4 → top (cell (row at i) j) ≡ cell (row at i) j
      near_tops j l = (fitting_stage p part).tops i j h l

      pub near_each : (j : ℕ) → j < n + 4 → (j ≡ i → ⊥) → cell (row at i) j ≤ near_outside n i (row at i)
      unfolding near_outside
      near_each j l d =
          let f : ℕ → ℕ = λ j. choose (eqb j i) 0 (cell (row at i) j) in
          let e : f j ≡ cell (row at i) j = rw (ne_eqb j i d) in
          rw e at
          (each_below f (n + 4) (λ j l.
          ⊎_elim
          (λ (q : j ≡ i). rw (eq-eqb j i q) top_none)
          (λ (q : j ≡ i → ⊥). rw (ne_eqb j i q) (near_tops j l))
          (same j i))
          j l)
