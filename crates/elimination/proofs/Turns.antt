-- The turns in their order, and what stops them.
use mathlib.Core.Path.{◌≡◌, refl}
use mathlib.Core.Logic.{⊎_elim, dite}
use mathlib.Core.Bool.{Bool, true, false}
use mathlib.Core.List.{List}
use Prim.Native.Nat.{ℕ, suc, ◌+◌, ◌≤◌, ◌<◌, zero-le}
use native.Mathlib.Decide.{dec_lt}
use native.Mathlib.Numerals.{add-one}
use native.Mathlib.Omega.{arith}
use lib.ListN.{length, get_or}
use Rattle.meaning.specs.Chain.{most_states}
use Rattle.meaning.specs.Number.{choose}
use Rattle.meaning.specs.Refusal.{work_size}
use Rattle.meaning.specs.Step.{Table, row, removed, after}
use Rattle.meaning.specs.Steps.{record_of, records_along}
use Rattle.meaning.specs.Stop.{Unfit}
use Rattle.theory.specs.Stages.Records.{records_few}
use Rattle.elimination.specs.Row.{Fit}
use Rattle.elimination.specs.Table.{table_of, Spare, Fitting}
use Rattle.elimination.specs.Turn.{Reached, Made}
use Rattle.elimination.specs.Log.{Logged, Roomy, LoggedMore}
use Rattle.elimination.specs.Order.{UnstoppedWalk, Finished, Overflown, records_walked}
use Rattle.std.specs.Prelude.{Option, Some, None, ⊤, ok_or, Err}
use Rattle.chain.specs.declared.refusal.Refusal.{Refusal}
use Rattle.elimination.proofs.Tables.{kept_same, kept_more}
use Rattle.elimination.proofs.Removal.{row_is}
use Rattle.elimination.proofs.Spare.{after_spare}
use Rattle.elimination.proofs.Noting.{logged_roomy}

-- The turn of a state that goes, and of one that is passed over.
pub made_goes : {A : Type 0} {b : Bool} {n : ℕ} {t : Table} {w v : List ℕ} {r : Option A} (u : Table) (g : Bool) → g ≡ true
    → Made b n t w v r → Made b n (choose g t u) w v r
made_goes u g e z = rw e z

reached_same : (b : Bool) (n : ℕ) (w : List ℕ) → Fitting b n w → Reached b n (table_of n w) w w
reached_same b n w h = record { kept = kept_same n w; same = refl; packed = h.packed; fit = λ i l. rw (row_is n w i l) (h.fit i l) }

pub made_stays : {b : Bool} {n : ℕ} {w : List ℕ} (t : Table) (g : Bool) → g ≡ false → Fitting b n w
    → {A : Type 0} {x : A} → Made b n (choose g t (table_of n w)) w w (Some x)
made_stays {b} {n} {w} t g e h = record { kept = kept_same n w; is = rw e (reached_same b n w h) }

fit_unfit : (b : Bool) (n : ℕ) (t : Table) → ((i : ℕ) → i < n → Fit b n (row t i)) → Unfit b n t → ⊥
fit_unfit b n t f u =
    let h = f u.1.0 u.1.1.0 in
    ⊎_elim (λ l. omega (arith, h.weights)) (λ l. omega (arith, h.earned)) u.1.1.1

-- The error is the one that was made.
pub made_so : (o : Option ⊤) (r q : Refusal) → ok_or o r ≡ Err q → q ≡ r
made_so (Some x) r q e = cc
made_so None r q e = cc

-- A table that is reached is ready for the walk.
pub reached_fitting : {b : Bool} {n : ℕ} {t : Table} {w v : List ℕ} → n ≤ most_states → work_size n ≤ length w → Spare n t → Reached b n t w v → Fitting b n v
reached_fitting {n = n} {v = v} few room spare z =
    record {
      few = few;
      room = omega (arith, z.kept.len);
      packed = z.packed;
      fit = λ i h. rw (← z.same, row_is n v i h) at (z.fit i h);
      spare = rw z.same spare;
    }

-- The tables of the walk that begins with the table in w.
abbrev tables : Bool → ℕ → (ℕ → Bool) → List ℕ → List ℕ → ℕ → Table
tables b n go o w = after b n go o (table_of n w)

-- After p positions.
pub record Eliminating (b : Bool) (n : ℕ) (go : ℕ → Bool) (o w : List ℕ) (p : ℕ) (v : List ℕ) : Type 0 where
  pub so_far : p ≤ n
  pub clear : UnstoppedWalk b n (tables b n go o w) p
  pub reached : Reached b n (tables b n go o w p) w v

module _ {b : Bool} {n : ℕ} {go : ℕ → Bool} {o : List ℕ} {w : List ℕ} where
  pub eliminating_none : Fitting b n w → Eliminating b n go o w 0 w
  unfolding after
  eliminating_none h =
      let z = reached_same b n w h in
      record {
        so_far = zero-le;
        clear = λ q l. let e : q ≡ 0 = omega arith in rw e (fit_unfit b n (table_of n w) z.fit);
        reached = z;
      }

  module _ {p : ℕ} {v : List ℕ} (z : Eliminating b n go o w p v) where
    pub eliminating_fitting : Fitting b n w → Fitting b n v
    eliminating_fitting h = reached_fitting h.few h.room (after_spare b n go o (table_of n w) h.spare p) z.reached

    -- The turn at position p, which speaks of the table in v.
    module _ (l : p < n) {u : List ℕ} where
      turn_at : {r : Option ⊤} → Made b n (choose (go (get_or o p 0)) (removed b n (get_or o p 0) (table_of n v)) (table_of n v)) v u r
          → Made b n (tables b n go o w (suc p)) v u r
      unfolding after
      turn_at h = rw z.reached.same at h

      pub eliminating_more : Made {A = ⊤} b n (choose (go (get_or o p 0)) (removed b n (get_or o p 0) (table_of n v)) (table_of n v)) v u (Some (tt {0}))
          → Eliminating b n go o w (p + 1) u
      eliminating_more h =
          let m = (turn_at h).is in
          rw add-one
          (record {
            so_far = omega arith;
            clear = λ q c.
                dite (dec_lt q (suc p)) (λ k. z.clear q (omega arith))
                (λ k. let a : q ≡ suc p = omega arith in rw a (fit_unfit b n (tables b n go o w (suc p)) m.fit));
            reached = record { kept = kept_more z.reached.kept m.kept; same = m.same; packed = m.packed; fit = m.fit };
          })

      pub eliminating_overflown : Made {A = ⊤} b n (choose (go (get_or o p 0)) (removed b n (get_or o p 0) (table_of n v)) (table_of n v)) v u None
          → Overflown b n (tables b n go o w) w u p
      eliminating_overflown h =
          record {
            inside = l;
            kept = kept_more z.reached.kept (turn_at h).kept;
            clear = z.clear;
            unfit = (turn_at h).is;
          }

    -- What is logged before the turn at position p, and after it.
    module _ {log after : List ℕ} where
      pub logged_on : LoggedMore (go (get_or o p 0)) (record_of n (get_or o p 0) (table_of n v)) log after true → Logged log (records_walked b n go o w p)
          → Logged after (records_walked b n go o w (p + 1))
      unfolding records_along
      logged_on h logged = rw (add-one, ← z.reached.same) (h _ logged)

      pub logged_stop : LoggedMore (go (get_or o p 0)) (record_of n (get_or o p 0) (table_of n v)) log after false → Logged log (records_walked b n go o w p)
          → Logged after (records_walked b n go o w p)
      logged_stop h logged = h _ logged

    pub logged_room : {log : List ℕ} → p < n → n ≤ most_states → Logged log (records_walked b n go o w p) → Roomy log
    logged_room h few = logged_roomy (omega (arith, records_few n go (λ q. get_or o q 0) (tables b n go o w) p))

    pub eliminating_all : n ≤ p → Finished b n (tables b n go o w) w v
    eliminating_all h =
        let e : p ≡ n = omega (arith, z.so_far) in
        record { clear = rw e at z.clear; reached = rw e at z.reached }
