-- The table of a near chance after each position of the order: what every stage keeps true.
use Prim.Native.Nat.{ℕ, zero, suc, ◌+◌, ◌*◌, ◌^◌, ◌≤◌, ◌<◌}
use Rattle.std.proofs.Math.Path.{◌≡◌, refl}
use Rattle.std.proofs.Common.{◌∙◌, ⊎_elim, eq-eqb, ne_eqb}
use Rattle.std.specs.Prelude.{Bool, List, length}
use Rattle.std.proofs.Math.Bool.{true, false}
use native.Mathlib.Omega.{arith}
use Rattle.std.proofs.Math.ListN.{get_or}
use Rattle.meaning.specs.Number.{sum_to, only, choose, bit}
use Rattle.meaning.specs.Chain.{Chain}
use Rattle.meaning.specs.Row.{Row, cell}
use Rattle.meaning.specs.Step.{Table, row, Sets, given, combined}
use Rattle.meaning.specs.Near.{made_anew, near_outside, near_first, near_removed, near_stage, rows_made}
use Rattle.theory.specs.Numbers.Sum.{same}
use Rattle.theory.specs.Numbers.Sure.{row_loss}
use Rattle.theory.specs.Figures.Moved.{times}
use Rattle.theory.specs.Figures.Followed.{Follows, Passes, follows_on, follows_counted}
use Rattle.theory.specs.Rows.Relation.{combined_cell, combined_own}
use Rattle.theory.specs.Stages.Given.{LiveRow, given_state, given_unknown, given_reward, given_length}
use Rattle.theory.specs.Stages.Seen.{seen, seen_row}
use Rattle.theory.specs.Stages.Blended.{divisor, lowered_length, lowered_none, lowered_trimmed}
use Rattle.theory.specs.Stages.Outset.{outset, outset_follows}
use Rattle.theory.specs.Stages.Stage.{leaving, StageKept, kept_turn}
use Rattle.theory.specs.Stages.Last.{Prepared}
use Rattle.theory.specs.Stages.NearStep.{no_cell, no_length, first_is, first_by, new, changed, new_is, old_is, removes, anew, anew_parts, goes_live}

-- What holds of a table, where Q holds the states that are kept: a row has n + 4 columns, nothing is Unknown or Reward, and weights are of kept
-- states, and to kept states; and the kept rows follow the elimination, where m rows were made anew.
pub record Nearly (c : Chain) (k : Sets) (Q : ℕ → Type 0) (t : Table) (m : ℕ) : Type 0 where
  pub inside : (i : ℕ) → Q i → i < c.states
  pub wide : (i : ℕ) → i < c.states → length (row t i) ≡ c.states + 4
  pub owned : (i j : ℕ) → i < c.states → j < c.states + 4 → 0 < cell (row t i) j → Q i
  pub joins : (i j : ℕ) → i < c.states → j < c.states → 0 < cell (row t i) j → Q i × Q j
  pub unknown_none : (i : ℕ) → i < c.states → cell (row t i) (c.states + 2) ≡ 0
  pub reward_none : (i : ℕ) → i < c.states → cell (row t i) (c.states + 3) ≡ 0
  pub follows : Follows (2 ^ 48) c.states (times 1 (outset c k)) Q (seen c.states t) (m * row_loss)

-- The first table.
module _ (c : Chain) (k : Sets) where
  pub nearly_first : Nearly c k (LiveRow c k) (near_first c k) 0
  nearly_first =
      let n = c.states in
      record {
        inside = λ i q. q.0;
        wide = λ i h. first_by c k (λ r. length r ≡ n + 4) i h (λ _. given_length c k (λ _. 0) 0 i) (no_length n);
        owned = λ i j h l.
            first_by c k (λ r. 0 < cell r j → LiveRow c k i) i h (λ q o. (h, q)) (λ o. absurd (omega (arith, o, no_cell n j l)));
        joins = λ i j h l.
            first_by c k (λ r. 0 < cell r j → LiveRow c k i × LiveRow c k j) i h
            (λ q o.
            ⊎_elim
            (λ (a : bit k.live j ≡ 1). ((h, q), (l, a)))
            (λ (a : bit k.live j ≡ 1 → ⊥).
            let z : cell (given c k (λ _. 0) 0 i) j ≡ 0 = given_state c k (λ _. 0) 0 i j l ∙ rw (ne_eqb (bit k.live j) 1 a) in
            absurd (omega arith))
            (same (bit k.live j) 1))
            (λ o. absurd (omega (arith, o, no_cell n j (omega arith))));
        unknown_none = λ i h. first_by c k (λ r. cell r (n + 2) ≡ 0) i h (λ _. given_unknown c k (λ _. 0) 0 i) (no_cell n (n + 2) (omega arith));
        reward_none = λ i h. first_by c k (λ r. cell r (n + 3) ≡ 0) i h (λ _. given_reward c k (λ _. 0) 0 i) (no_cell n (n + 3) (omega arith));
        follows =
            outset_follows c k (2 ^ 48) 1 (near_first c k) (λ i q j h.
            rw (first_is c k i q.0, eq-eqb (bit k.live i) 1 q.1) (omega arith));
      }

module _ (c : Chain) (k : Sets) (few : c.states ≤ 64) (s : ℕ) (t : Table) (Q Q' : ℕ → Type 0) (m : ℕ) (N : Nearly c k Q t m) (inside : s < c.states)
    (here : Q s) (left : (i : ℕ) → Q i → (i ≡ s → ⊥) → Q' i) (was : (i : ℕ) → Q' i → Q i) (off : (i : ℕ) → Q' i → i ≡ s → ⊥)
  where
    abbrev n : ℕ
    n = c.states

    abbrev t' : Table
    t' = near_removed n s t

    abbrev mixed : ℕ → Row
    mixed i = combined s (near_outside n s (row t s)) (row t s) (row t i)

    mixed_zero : (i j : ℕ) → i < n → j < n + 4 → (j ≡ s → ⊥) → cell (row t i) j ≡ 0 → cell (row t s) j ≡ 0 → cell (mixed i) j ≡ 0
    mixed_zero i j h l d a b =
        combined_cell s _ (row t s) (row t i) j (omega (arith, N.wide i h)) d ∙ rw (a, b) (omega arith)

    new_zero : (i j : ℕ) → i < n → j < n + 4 → (j ≡ s → ⊥) → cell (row t i) j ≡ 0 → cell (row t s) j ≡ 0 → cell (new n s t i) j ≡ 0
    new_zero i j h l d a b =
        lowered_none n s (row t s) (row t i) j (omega (arith, N.wide i h)) (mixed_zero i j h l d a b)

    -- A new weight goes from a kept state to another.
    new_joins : (i j : ℕ) → i < n → j < n → (i ≡ s → ⊥) → 0 < cell (row t i) s → 0 < cell (new n s t i) j → Q' i × Q' j
    new_joins i j h l d o w =
        let q = (N.joins i s h inside o).0 in
        ⊎_elim
        (λ (e : j ≡ s).
        absurd
        (omega (
          arith,
          rw e at w,
          lowered_none n s (row t s) (row t i) s (omega (arith, N.wide i h))
              (combined_own s _ (row t s) (row t i) (omega (arith, N.wide i h))),
        )))
        (λ (e : j ≡ s → ⊥).
        ⊎_elim
        (λ (a : cell (row t i) j ≡ 0).
        ⊎_elim
        (λ (b : cell (row t s) j ≡ 0). absurd (omega (arith, w, new_zero i j h (omega arith) e a b)))
        (λ (b : cell (row t s) j ≡ 0 → ⊥). (left i q d, left j (N.joins s j inside l (omega arith)).1 e))
        (same (cell (row t s) j) 0))
        (λ (a : cell (row t i) j ≡ 0 → ⊥). (left i q d, left j (N.joins i j h l (omega arith)).1 e))
        (same (cell (row t i) j) 0))
        (same j s)

    pub passes : Passes (2 ^ 48) n row_loss s (λ i. made_anew s i (row t i)) (λ i. divisor n s (row t s) (row t i)) Q Q' (seen n t) (seen n t')
    passes =
        record {
          inside = inside;
          here = here;
          kept = λ i h. was i;
          changed = λ i h e. (N.joins i s h inside (changed n s t i e).1).0;
          other = λ i h e. (changed n s t i e).0;
          new = λ i h e.
              seen_row n s t inside (N.unknown_none s inside) i (N.wide i h) (2 ^ 48) row_loss (divisor n s (row t s) (row t i)) t' (λ j l.
              rw (new_is n s t i h e)
              (lowered_trimmed n s (row t s) (row t i) few inside (N.reward_none s inside) j (omega (arith, N.wide i h))));
          old = λ i h e q.
              let r = old_is n s t i h (off i q) e in
              record { a = λ j l. rw r; out = rw r; g = rw r };
        }

    pub nearly_next : Nearly c k Q' t' (m + anew n s t)
    nearly_next =
        record {
          inside = λ i q. N.inside i (was i q);
          wide = λ i h.
              removes n s t (λ r. length r ≡ n + 4) i h (no_length n) (λ _ _. N.wide i h)
              (λ _ _. lowered_length n s (row t s) (row t i) ∙ N.wide i h);
          owned = λ i j h l.
              removes n s t (λ r. 0 < cell r j → Q' i) i h
              (λ o. absurd (omega (arith, o, no_cell n j l)))
              (λ d z o. left i (N.owned i j h l o) d)
              (λ d o w. left i (N.joins i s h inside o).0 d);
          joins = λ i j h l.
              removes n s t (λ r. 0 < cell r j → Q' i × Q' j) i h
              (λ o. absurd (omega (arith, o, no_cell n j (omega arith))))
              (λ d z o.
              let q = N.joins i j h l o in
              (left i q.0 d, left j q.1 (λ e. omega (arith, z, rw e at o))))
              (λ d o. new_joins i j h l d o);
          unknown_none = λ i h.
              removes n s t (λ r. cell r (n + 2) ≡ 0) i h (no_cell n (n + 2) (omega arith)) (λ _ _. N.unknown_none i h)
              (λ _ _. new_zero i (n + 2) h (omega arith) (omega arith) (N.unknown_none i h) (N.unknown_none s inside));
          reward_none = λ i h.
              removes n s t (λ r. cell r (n + 3) ≡ 0) i h (no_cell n (n + 3) (omega arith)) (λ _ _. N.reward_none i h)
              (λ _ _. new_zero i (n + 3) h (omega arith) (omega arith) (N.reward_none i h) (N.reward_none s inside));
          follows =
              let e : m * row_loss + sum_to (λ i. only (made_anew s i (row t i)) row_loss) n ≡ (m + anew n s t) * row_loss =
              omega (arith, anew_parts n s t row_loss) in
              rw e at
              (follows_counted (2 ^ 48) n row_loss s (λ i. made_anew s i (row t i)) (λ i. divisor n s (row t s) (row t i)) Q Q' (seen n t) (seen n t') (omega arith)
              passes (times 1 (outset c k)) (m * row_loss) N.follows);
        }

-- A map between the kept states.
nearly_map : (c : Chain) (k : Sets) (Q Q' : ℕ → Type 0) (t : Table) (m : ℕ) → ((i : ℕ) → Q i → Q' i) → ((i : ℕ) → Q' i → Q i)
    → Nearly c k Q t m → Nearly c k Q' t m
nearly_map c k Q Q' t m f g N =
    record {
      inside = λ i q. N.inside i (g i q);
      wide = N.wide;
      owned = λ i j h l o. f i (N.owned i j h l o);
      joins = λ i j h l o. let q = N.joins i j h l o in (f i q.0, f j q.1);
      unknown_none = N.unknown_none;
      reward_none = N.reward_none;
      follows = follows_on (2 ^ 48) c.states (times 1 (outset c k)) Q Q' (seen c.states t) (m * row_loss) g N.follows;
    }

module _ (c : Chain) (k : Sets) (o : List ℕ) (ready : Prepared c k o) (few : c.states ≤ 64) where
  abbrev size : ℕ
  size = c.states

  next : (p : ℕ) → p < size → Nearly c k (StageKept c k o p) (near_stage c k o p) (rows_made c k o p)
      → Nearly c k (StageKept c k o (suc p)) (near_stage c k o (suc p)) (rows_made c k o (suc p))
  unfolding near_stage rows_made StageKept
  next p h N = go (leaving c k o p) refl
    where
      go : (g : Bool) → leaving c k o p ≡ g → Nearly c k (λ i. StageKept c k o p i × (leaving c k o p ≡ true → i ≡ get_or o p 0 → ⊥))
          (choose g (near_removed size (get_or o p 0) (near_stage c k o p)) (near_stage c k o p))
          (rows_made c k o p + only g (anew size (get_or o p 0) (near_stage c k o p)))
      go true e =
          nearly_next c k few (get_or o p 0) (near_stage c k o p) (StageKept c k o p) _ (rows_made c k o p) N (ready.orders p h)
          (kept_turn c k o p (ready.orders p h) (ready.once p h) (goes_live c.start k.live (get_or o p 0) e))
          (λ i q d. (q, λ _. d))
          (λ i q. q.0)
          (λ i q. q.1 e)
      go false e =
          let z : rows_made c k o p + 0 ≡ rows_made c k o p = omega arith in
          rw z
          (nearly_map c k (StageKept c k o p) _ (near_stage c k o p) (rows_made c k o p)
          (λ i q. (q, λ f. absurd (let z : ◌≡◌ {A = ℕ} 0 1 = cc in omega arith)))
          (λ i q. q.0)
          N)

  pub nearly_stage : (p : ℕ) → p ≤ size → Nearly c k (StageKept c k o p) (near_stage c k o p) (rows_made c k o p)
  unfolding near_stage rows_made StageKept
  nearly_stage zero h = nearly_first c k
  nearly_stage (suc p) h = next p h (nearly_stage p (omega arith))
