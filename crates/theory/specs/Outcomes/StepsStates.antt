-- Whose records the companion writes: where it answers, those of the live states but the start, each once, in the order's order; none where
-- the start is not live.
use Rattle.std.specs.Prelude.{ℕ, ◌<◌, ◌≡◌, refl, ◌↔◌, Bool, true, false, length, get_or, take, drop, eqb}
use Rattle.std.proofs.Common.{ap, ap₂, ◌∙◌, arith, take_all, ne_eqb, eqb-true}
use Rattle.std.proofs.Math.Logic.Dec
use mathlib.Core.List.{List, map, filter}
use Rattle.std.proofs.Math.Decide.{ℕ_discrete}
use Rattle.std.proofs.Math.Seq.{take-append_seam}
use Rattle.std.proofs.lemmas.Bool.{eqb-false}
use Rattle.meaning.specs.Number.{sum_to, only, choose, bit, filled}
use Rattle.meaning.specs.Chain.{Chain, Goal, PathTo, FromStart, begin, step, LiveTo, Live}
use Rattle.meaning.specs.Row.{exact}
use Rattle.meaning.specs.Step.{Sets, RightTo, Right, goes}
use Rattle.meaning.specs.Refusal.{Lent, Entry, listing, Refused, WellFormed}
use Rattle.meaning.specs.Stop.{earns, turn, table_at}
use Rattle.meaning.specs.Outcome.{Outcome, refused, stopped, answered, Answer, refusal}
use Rattle.meaning.specs.Steps.{StepRecord, record_of, records_to, FinishedTo, through, before_steps, in_step, Listed, untouched, listed, StepsOutcome}
use Rattle.theory.specs.Numbers.Filter.{Holds, Once, filter_from, filter_every, filter_once}
use Rattle.theory.specs.Chains.Path.{dec_live}
use Rattle.theory.specs.Chains.Sets.{right_one, goal_state}
use Rattle.theory.specs.Outcomes.Formed.{goals_in_lem, from_in_lem, order_length, order_new, order_every}
use Rattle.theory.specs.Outcomes.Places.{refused_places}
use Rattle.theory.specs.Outcomes.Determined.{refused_unformed}
use Rattle.theory.specs.Stages.Records.{records_none, records_sum, records_states}

-- A state that is removed at its turn: it is live, and not the start.
abbrev RemovableTo : Chain → (ℕ → Type 0) → ℕ → Type 0
RemovableTo c End s = LiveTo c End s × (s ≡ c.start → ⊥)

-- The ends are the goals.
abbrev pub Removable : Chain → ℕ → Type 0
Removable c s = RemovableTo c (Goal c) s

pub removable : (c : Chain) (s : ℕ) → Dec (Removable c s)
removable c s = Dec.and (dec_live c s) (Dec.not (ℕ_discrete s c.start))

module _ (c : Chain) {End : ℕ → Type 0} (k : Sets) (right : RightTo c End k) where
  pub goes_law : (s : ℕ) → (goes c.start k.live s ≡ true) ↔ RemovableTo c End s
  goes_law s = (there (eqb s c.start) refl (eqb (bit k.live s) 1) refl, λ h. rw (ne_eqb s c.start h.1, (right.live s).1 h.0))
    where
      there : (b : Bool) → eqb s c.start ≡ b → (g : Bool) → eqb (bit k.live s) 1 ≡ g → choose b false g ≡ true → RemovableTo c End s
      there true e g f h = absurd (let z : ◌≡◌ {A = ℕ} 0 1 = cc in omega arith)
      there false e true f h = ((right.live s).0 (eqb-true (bit k.live s) 1 f), eqb-false s c.start e)
      there false e false f h = absurd (let z : ◌≡◌ {A = ℕ} 0 1 = cc in omega arith)

  -- Where a state is live the start is.
  live_start : {i : ℕ} → FromStart c i → (Goal c i → ⊥) → PathTo c.edges End i → LiveTo c End c.start
  live_start begin u g = record { unwon = u; reached = begin; leads = g }
  live_start (step e l f v) u g = live_start f v (PathTo.step e l g)

  pub none_goes : (LiveTo c End c.start → ⊥) → (s : ℕ) → goes c.start k.live s ≡ false
  none_goes dead s = at (goes c.start k.live s) refl
    where
      at : (b : Bool) → goes c.start k.live s ≡ b → b ≡ false
      at true e = let a = ((goes_law s).0 e).0 in absurd (dead (live_start a.reached a.unwon a.leads))
      at false e = refl

module _ (l : Lent) where
  -- A start that is not live writes nothing.
  pub steps_none : {before after : List StepRecord} {a : Answer} {count : ℕ} {w : List ℕ} → (Live l.chain l.chain.start → ⊥)
      → StepsOutcome l before a count w after → (count ≡ 0) × (after ≡ before)
  steps_none {before} {after} {a} {count} dead s = at s.list
    where
      at : Listed l a before count after → (count ≡ 0) × (after ≡ before)
      at (untouched number place r c e) = (c, e)
      at (listed f k right p t c e) =
          let z = records_none l.chain.states _ (turn l) (table_at (earns listing l) exact l k) (λ q. none_goes l.chain k right dead (turn l q)) p in
          (c ∙ ap length z, e ∙ ap (λ r. filled r before) z)

-- These states are those that are removed, each once, in the order's order.
pub record RemovedOnce (c : Chain) (order states : List ℕ) : Type 0 where
  pub in_order : states ≡ filter (removable c) order
  pub only : (i : ℕ) → i < length states → Removable c (get_or states i 0)
  pub every : (s : ℕ) → Removable c s → Holds states s
  pub once : Once states

abbrev pub states_of : List StepRecord → List ℕ
states_of records = map (λ r. r.state) records

module _ (x : Entry) (l : Lent) (formed : WellFormed x l) (lent : x.order ≡ true) where
  abbrev c : Chain
  c = l.chain

  filter_removed : RemovedOnce c l.order (filter (removable c) l.order)
  filter_removed =
      record {
        in_order = refl;
        only = λ i h. (filter_from (removable c) l.order i h).1;
        every = λ s h.
            let w = order_every x l formed lent s (goal_state c (goals_in_lem x l formed) (from_in_lem x l formed) s h.0.leads) in
            filter_every (removable c) l.order s h
            (record { position = w.0; inside = omega (arith, w.1, order_length x l formed lent); here = w.2 });
        once = filter_once (removable c) l.order
            (λ i j a b e. order_new x l formed lent j (omega (arith, b, order_length x l formed lent)) i a e);
      }

  -- The records of a whole run.
  pub records_removed : (k : Sets) → Right c k → RemovedOnce c l.order (states_of (records_to l k c.states))
  records_removed k right =
      let e : states_of (records_to l k c.states) ≡ filter (removable c) l.order =
      records_states c.states _ l.order (table_at (earns listing l) exact l k) (removable c) (goes_law c k right) c.states
      (omega (arith, order_length x l formed lent))
      ∙ ap (filter (removable c)) (take_all c.states l.order (omega (arith, order_length x l formed lent))) in
      rw e filter_removed

-- An answer is no refusal by 1 to 10, and every step is finished.
unrefused : {x : Entry} {l : Lent} {a : Answer} {w : List ℕ} {Stop : ℕ → ℕ → Type 0} {Figure : Answer → Type 0} {number place : ℕ}
    → a.number ≡ 0 → Outcome x l refusal Stop Figure a w → Refused x l number place → ⊥
unrefused z (refused number place r e s) q =
    omega (arith, z, ap (λ a. a.number) e, (refused_places number place r).0)
unrefused z (stopped number place f t e s) q = refused_unformed q f
unrefused z (answered f u g s) q = refused_unformed q f

finished_through : {l : Lent} {a : Answer} {p : ℕ} → a.number ≡ 0 → FinishedTo l a p → p ≡ l.chain.states
finished_through z (through e) = refl
finished_through z (before_steps e h) = absurd (omega (arith, z, e))
finished_through z (in_step e h) = absurd (omega (arith, z, e))

-- The sum of what f says of the record of each state that is removed, along the order.
abbrev pub sum_along : Lent → Sets → (StepRecord → ℕ) → ℕ
sum_along l k f =
    let n = l.chain.states in
    sum_to (λ p. only (goes l.chain.start k.live (turn l p)) (f (record_of n (turn l p) (table_at (earns listing l) exact l k p)))) n

-- Where the companion answers, the records of the whole run stand at the front of the list.
pub record WholeRun (l : Lent) (count : ℕ) (after : List StepRecord) : Type 0 where
  pub formed : WellFormed listing l
  pub sets : Sets
  pub right : Right l.chain sets
  pub front : take count after ≡ records_to l sets l.chain.states
  pub counted : count ≡ length (records_to l sets l.chain.states)

module _ (l : Lent) {before after : List StepRecord} {a : Answer} {count : ℕ} {w : List ℕ} (answers : a.number ≡ 0)
    (s : StepsOutcome l before a count w after) where
  pub steps_through : WholeRun l count after
  steps_through = at s.list
    where
      at : Listed l a before count after → WholeRun l count after
      at (untouched number place r c e) = absurd (unrefused answers s.outcome r)
      at (listed f k right p t c e) =
          let r = records_to l k l.chain.states in
          record {
            formed = f;
            sets = k;
            right = right;
            front = rw (c, e, finished_through answers t) (take-append_seam r (drop (length r) before));
            counted = rw (finished_through answers t) at c;
          }

  -- They are those of the states that are removed, each once, in the order's order.
  pub steps_states : RemovedOnce l.chain l.order (states_of (take count after))
  steps_states = let r = steps_through in rw r.front (records_removed listing l r.formed refl r.sets r.right)

  -- What they sum to, of any number that a record has, is the sum along the order of the states that are removed.
  pub steps_sum : (f : StepRecord → ℕ) (d : StepRecord) (k : Sets) → Right l.chain k
      → sum_to (λ i. f (get_or (take count after) i d)) count ≡ sum_along l k f
  steps_sum f d k right =
      let r = steps_through in
      ap₂ (λ records m. sum_to (λ i. f (get_or records i d)) m) r.front r.counted
      ∙ records_sum l.chain.states (goes l.chain.start r.sets.live) (turn l) (table_at (earns listing l) exact l r.sets) f d l.chain.states
      ∙ ap (λ k. sum_along l k f) (right_one r.right right)
