-- The start's last row of a near chance gives the chance of missing too, up to what the rows made anew lost.
use Prim.Native.Nat.{ℕ, zero, suc, ◌+◌, ◌-◌, ◌*◌, ◌^◌, ◌≤◌, ◌<◌}
use Rattle.std.specs.Prelude.{◌≡◌, Bool, List, eqb}
use Rattle.std.proofs.Math.Path.{refl}
use Rattle.std.proofs.Common.{ap, ⊎_elim, eq-eqb, ne_eqb}
use Rattle.std.proofs.Math.Bool.{true, false}
use native.Mathlib.Omega.{arith}
use Rattle.std.proofs.Math.ListN.{get_or}
use Rattle.meaning.specs.Number.{sum_to, only, choose, bit}
use Rattle.meaning.specs.Chain.{Chain, Live}
use Rattle.meaning.specs.Figure.{Shares, Chance}
use Rattle.meaning.specs.Row.{Row, cell}
use Rattle.meaning.specs.Step.{Table, row, Sets, given}
use Rattle.meaning.specs.Near.{made_anew, near_first, near_removed, near_stage, rows_made}
use Rattle.theory.specs.Numbers.Sum.{same}
use Rattle.theory.specs.Numbers.Trimmed.{Close, close_from}
use Rattle.theory.specs.Numbers.Sure.{row_loss}
use Rattle.theory.specs.Figures.System.{System, Solves, LeadsOut}
use Rattle.theory.specs.Figures.Moved.{times}
use Rattle.theory.specs.Figures.Drift.{times_leads, times_solves}
use Rattle.theory.specs.Figures.Followed.{Follows, Passes, follows_first, follows_on, follows_counted, follows_last}
use Rattle.theory.specs.Figures.Against.{against, against_leads, against_solves}
use Rattle.theory.specs.Figures.Shares.{shares_exist}
use Rattle.theory.specs.Figures.Below.{share_below}
use Rattle.theory.specs.Stages.Given.{LiveRow}
use Rattle.theory.specs.Stages.Seen.{seen, step_cell}
use Rattle.theory.specs.Stages.Blended.{divisor, lowered_trimmed}
use Rattle.theory.specs.Stages.Outset.{outset, counted, outset_solves, outset_leads}
use Rattle.theory.specs.Stages.Stage.{leaving, StageKept, kept_turn}
use Rattle.theory.specs.Stages.Last.{Prepared}
use Rattle.theory.specs.Stages.NearStep.{first_is, new_is, old_is, anew, anew_parts, goes_live}
use Rattle.theory.proofs.Stages.Nearly.{Nearly, passes, nearly_stage}
use Rattle.theory.proofs.Stages.NearLast.{start_kept, last_alone}

-- A table seen as a system in which Trap is what is reached.
abbrev pub facing : ℕ → Table → System
facing n t = against (seen n t) (λ i. cell (row t i) (n + 1))

-- The chain's own rows as such a system.
abbrev trapping : Chain → Sets → ℕ → ℕ
trapping c k i = choose (eqb (bit k.live i) 1) (cell (given c k (λ _. 0) 0 i) (c.states + 1)) 1

abbrev pub setback : Chain → Sets → System
setback c k = against (outset c k) (trapping c k)

module _ (c : Chain) (k : Sets) where
  missed_first : Follows (2 ^ 48) c.states (times 1 (setback c k)) (LiveRow c k) (facing c.states (near_first c k)) 0
  missed_first =
      follows_first (2 ^ 48) c.states (times 1 (setback c k)) (LiveRow c k) (facing c.states (near_first c k)) (λ i h q.
      let l = eq-eqb (bit k.live i) 1 q.1 in
      record {
        a = λ j b. rw (first_is c k i h, l) (omega arith);
        out = rw (first_is c k i h, l) (omega arith);
        g = rw (first_is c k i h, l) (omega arith);
      })

-- The removal of s.
module _ (c : Chain) (k : Sets) (few : c.states ≤ 64) (s : ℕ) (t : Table) (Q Q' : ℕ → Type 0) (m : ℕ) (N : Nearly c k Q t m) (inside : s < c.states)
    (here : Q s) (left : (i : ℕ) → Q i → (i ≡ s → ⊥) → Q' i) (was : (i : ℕ) → Q' i → Q i) (off : (i : ℕ) → Q' i → i ≡ s → ⊥)
  where
    abbrev n : ℕ
    n = c.states

    abbrev t' : Table
    t' = near_removed n s t

    missed_passes : Passes (2 ^ 48) n row_loss s (λ i. made_anew s i (row t i)) (λ i. divisor n s (row t s) (row t i)) Q Q' (facing n t) (facing n t')
    missed_passes =
        let P = passes c k few s t Q Q' m N inside here left was off in
        record {
          inside = inside;
          here = here;
          kept = P.kept;
          changed = P.changed;
          other = P.other;
          new = λ i h e.
              let T = P.new i h e in
              record {
                a = T.a;
                out = T.out;
                g =
                    rw (← step_cell n s t inside (N.unknown_none s inside) i (N.wide i h) (n + 1) (omega arith) (omega arith), new_is n s t i h e)
                    (lowered_trimmed n s (row t s) (row t i) few inside (N.reward_none s inside) (n + 1) (omega (arith, N.wide i h)));
              };
          old = λ i h e q.
              let r = old_is n s t i h (off i q) e in
              record { a = λ j l. rw r; out = rw r; g = rw r };
        }

    missed_next : Follows (2 ^ 48) n (times 1 (setback c k)) Q (facing n t) (m * row_loss)
        → Follows (2 ^ 48) n (times 1 (setback c k)) Q' (facing n t') ((m + anew n s t) * row_loss)
    missed_next F =
        let e : m * row_loss + sum_to (λ i. only (made_anew s i (row t i)) row_loss) n ≡ (m + anew n s t) * row_loss =
        omega (arith, anew_parts n s t row_loss) in
        rw e at
        (follows_counted (2 ^ 48) n row_loss s (λ i. made_anew s i (row t i)) (λ i. divisor n s (row t s) (row t i)) Q Q' (facing n t) (facing n t') (omega arith)
        missed_passes (times 1 (setback c k)) (m * row_loss) F)

module _ (c : Chain) (k : Sets) (o : List ℕ) (ready : Prepared c k o) (few : c.states ≤ 64) where
  abbrev size : ℕ
  size = c.states

  abbrev Faced : ℕ → Type 0
  Faced p = Follows (2 ^ 48) size (times 1 (setback c k)) (StageKept c k o p) (facing size (near_stage c k o p)) (rows_made c k o p * row_loss)

  next : (p : ℕ) → p < size → Nearly c k (StageKept c k o p) (near_stage c k o p) (rows_made c k o p) → Faced p → Faced (suc p)
  unfolding near_stage rows_made StageKept
  next p h N F = go (leaving c k o p) refl
    where
      go : (g : Bool) → leaving c k o p ≡ g
          → Follows (2 ^ 48) size (times 1 (setback c k)) (λ i. StageKept c k o p i × (leaving c k o p ≡ true → i ≡ get_or o p 0 → ⊥))
          (facing size (choose g (near_removed size (get_or o p 0) (near_stage c k o p)) (near_stage c k o p)))
          ((rows_made c k o p + only g (anew size (get_or o p 0) (near_stage c k o p))) * row_loss)
      go true e =
          missed_next c k few (get_or o p 0) (near_stage c k o p) (StageKept c k o p) _ (rows_made c k o p) N (ready.orders p h)
          (kept_turn c k o p (ready.orders p h) (ready.once p h) (goes_live c.start k.live (get_or o p 0) e))
          (λ i q d. (q, λ _. d))
          (λ i q. q.0)
          (λ i q. q.1 e)
          F
      go false e =
          let z : rows_made c k o p + 0 ≡ rows_made c k o p = omega arith in
          rw z
          (follows_on (2 ^ 48) size (times 1 (setback c k)) (StageKept c k o p) _ (facing size (near_stage c k o p)) (rows_made c k o p * row_loss)
          (λ i q. q.0)
          F)

  missed_stage : (p : ℕ) → p ≤ size → Faced p
  unfolding near_stage rows_made StageKept
  missed_stage zero h = missed_first c k
  missed_stage (suc p) h = next p h (nearly_stage c k o ready few p (omega arith)) (missed_stage p (omega arith))

  setback_leads : (i : ℕ) → i < size → LeadsOut (times 1 (setback c k)) size i
  setback_leads i h =
      times_leads 1 (omega arith) (setback c k) size h
      (against_leads (outset c k) size (trapping c k) h (outset_leads c k ready.fine ready.right i h))

  -- The chances of missing solve it.
  module _ (d : ℕ) (x : ℕ → ℕ) (share : Shares c d x) where
    counted_most : (i : ℕ) → i < size → counted c k x i ≤ d
    counted_most i h =
        ⊎_elim
        (λ (l : bit k.live i ≡ 1). rw (eq-eqb (bit k.live i) 1 l) (share_below c ready.fine d x share i h))
        (λ (l : bit k.live i ≡ 1 → ⊥). rw (ne_eqb (bit k.live i) 1 l) (omega arith))
        (same (bit k.live i) 1)

    leaving_parts : (i : ℕ) → i < size → (outset c k).g i + trapping c k i ≡ (outset c k).out i
    leaving_parts i h =
        ⊎_elim
        (λ (l : bit k.live i ≡ 1). rw (eq-eqb (bit k.live i) 1 l))
        (λ (l : bit k.live i ≡ 1 → ⊥). rw (ne_eqb (bit k.live i) 1 l))
        (same (bit k.live i) 1)

    setback_solves : Solves (times 1 (setback c k)) size d (λ i. d - counted c k x i)
    setback_solves =
        times_solves 1 (omega arith) (setback c k) size d (λ i. d - counted c k x i)
        (against_solves (outset c k) size (trapping c k) d (counted c k x) leaving_parts counted_most
        (outset_solves c k ready.fine ready.right d x share))

  module _ (alive : Live c c.start) where
    abbrev last : Row
    last = row (near_stage c k o size) c.start

    missed_share : (d : ℕ) (x : ℕ → ℕ) → Shares c d x
        → Close (2 ^ 48) (rows_made c k o size * row_loss) (d - x c.start) d (cell last (size + 1)) (cell last size + cell last (size + 1))
    missed_share d x share =
        rw (eq-eqb (bit k.live c.start) 1 ((ready.right.live c.start).1 alive)) at
        (follows_last (2 ^ 48) size (times 1 (setback c k)) setback_leads d (λ i. d - counted c k x i) (setback_solves d x share)
        (StageKept c k o size) (facing size (near_stage c k o size)) (rows_made c k o size * row_loss) (missed_stage size (omega arith))
        c.start ready.start (start_kept c k o ready few alive) (last_alone c k o ready few alive))

    -- The last row says the chance of missing, within the parts of 2 ^ 48 that the rows lost.
    pub missed_chance : (p q : ℕ) → p ≤ q → Chance c p q
        → Close (2 ^ 48) (rows_made c k o size * row_loss) (q - p) q (cell last (size + 1)) (cell last size + cell last (size + 1))
    missed_chance p q one C =
        let (d, x, share) = shares_exist ready.fine in
        close_from (2 ^ 48) (rows_made c k o size * row_loss) (q - p) q (d - x c.start) d (cell last (size + 1)) (cell last size + cell last (size + 1))
        share.whole
        (wanting p q d (x c.start) one (share_below c ready.fine d x share c.start ready.start) (C.share d x share))
        (missed_share d x share)
      where
        wanting : (p q d x : ℕ) → p ≤ q → x ≤ d → p * d ≡ x * q → (q - p) * d ≡ (d - x) * q
        wanting p q d x h l e =
            let y = q - p in
            let z = d - x in
            let a : y + p ≡ q = omega arith in
            let b : z + x ≡ d = omega arith in
            omega (arith, ap (λ w. w * d) a, ap (λ w. w * q) b)
