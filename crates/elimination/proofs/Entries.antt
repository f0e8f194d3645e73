-- From a looking that has cleared the input to what an engine comes to.
use Prim.Native.Nat.{ℕ, ◌≤◌}
use mathlib.Core.Path.{◌≡◌, refl, ◌∙◌}
use mathlib.Core.Bool.{Bool, true, false}
use mathlib.Core.List.{List, []}
use mathlib.Core.Logic.{inl}
use native.Mathlib.Omega.{arith}
use lib.ListN.{length}
use Rattle.meaning.specs.Chain.{End}
use Rattle.meaning.specs.Step.{Sets, RightTo}
use Rattle.meaning.specs.Row.{rounding}
use Rattle.meaning.specs.Refusal.{work_size, Lent, Entry, WellFormed}
use Rattle.meaning.specs.Stop.{Stops, before_steps, in_step}
use Rattle.theory.specs.Outcomes.Formed.{start_in, order_length, order_in_lem}
use Rattle.elimination.specs.Engine.{rounds, is_paid, is_short}
use Rattle.elimination.specs.Entered.{pay_of, Comes, missed, ran}
use Rattle.elimination.specs.Run.{Begun, won, lost, live, runs}
use Rattle.elimination.specs.declared.engine.Engine.{Engine}
use Rattle.std.specs.Prelude.{Result, Ok, Err}
use Rattle.chain.specs.declared.refusal.Refusal.{Refusal}
use Rattle.elimination.specs.declared.course.Ends.{Ends}
use Rattle.elimination.proofs.FirstRows.{first_given}
use Rattle.elimination.proofs.Engines.{short_rounds, rounds_unpaid}

-- What an elimination asks for.
pub begun : (x : Entry) (g : Engine) (l : Lent) → WellFormed x l → (k : Sets) → x.order ≡ true → x.rewards ≡ is_paid g → x.short ≡ is_short g
    → RightTo l.chain (End (is_short g) l.chain) k → work_size l.chain.states ≤ length l.work → Begun (rounds g) (is_paid g) (is_short g) l k
begun x g l formed k ordered paid short right space =
    let free : rounds g ≡ rounding → x.rewards ≡ false = λ e. paid ∙ rounds_unpaid g e in
    let own : RightTo l.chain (End x.short l.chain) k = rw short right in
    let made = first_given (rounds g) x l k formed space free own in
    record {
      asked = rw (paid, short) at made;
      rounds = short_rounds g;
      orders = order_length x l formed ordered;
      inside = order_in_lem x l formed ordered;
      start = start_in x l formed;
    }

-- Of what is lent only the chain, the order and the rewards count for an elimination, and that the work table is long enough.
abbrev pub beside : List ℕ → ℕ → Lent → Lent
beside work list l = record { chain = l.chain; order = l.order; rewards = l.rewards; work = work; list = list }

pub begun_beside : {b p short : Bool} {l : Lent} {k : Sets} {w : List ℕ} {list : ℕ} → length w ≡ length l.work → Begun b p short l k
    → Begun b p short (beside w list l) k
begun_beside e h =
    let m = h.asked in
    record {
      asked =
          record {
            few = m.few;
            room = omega (arith, m.room);
            fine = m.fine;
            sources = m.sources;
            small = m.small;
            start = m.start;
            right = m.right;
            goal = m.goal;
            paid = m.paid;
            unpaid = m.unpaid;
          };
      rounds = h.rounds;
      orders = h.orders;
      inside = h.inside;
      start = h.start;
    }

module _ (w : List ℕ) (list : ℕ) (pay : ℕ → ℕ) (b : Bool) (l : Lent) where
  stops_beside : {k : Sets} {number place : ℕ} → Stops pay b l k number place → Stops pay b (beside w list l) k number place
  stops_beside (before_steps u) = before_steps u
  stops_beside (in_step p h c u) = in_step p h c u

  runs_beside : (short : Bool) (r : Result Ends Refusal) → runs pay short b l r → runs pay short b (beside w list l) r
  runs_beside short (Ok e) (won h q) = won h q
  runs_beside short (Ok e) (lost h q) = lost h q
  runs_beside short (Ok e) (live k right alive z) = live k right alive (record { passed = z.passed; read = z.read })
  runs_beside short (Err r) z = record { sets = z.sets; right = z.right; alive = z.alive; stops = stops_beside z.stops }

pub comes_beside : {g : Engine} {l : Lent} {k : Sets} {log : List ℕ} (w : List ℕ) (list : ℕ) (r : Result Ends Refusal) → Comes g l k log r → Comes g (beside w list l) k log r
comes_beside w list _ (missed e m) = missed e m
comes_beside {g} {l} w list r (ran sure z h) = ran sure (runs_beside w list (pay_of g l) (rounds g) l (is_short g) r z) h

-- Where no log is asked for nothing is told of it.
pub comes_unlogged : {g : Engine} {l : Lent} {k : Sets} {log : List ℕ} {r : Result Ends Refusal} → Comes g l k log r → Comes g l k [] r
comes_unlogged (missed e m) = missed e m
comes_unlogged (ran sure z h) = ran sure z (inl refl)
