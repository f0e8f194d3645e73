-- A chain that is nearly a line: the sum of the products along its order has a limit.
use Rattle.std.specs.Prelude.{ℕ, ◌+◌, ◌*◌, ◌-◌, ◌≤◌, ◌<◌, ◌≡◌, refl, true, false, List, get_or}
use Rattle.std.proofs.Common.{ap, inl, inr, ⊎_elim, arith}
use Rattle.meaning.specs.Number.{sum_to, only}
use Rattle.meaning.specs.Chain.{Chain}
use Rattle.meaning.specs.Step.{Sets, Right}
use Rattle.meaning.specs.Refusal.{Lent, Entry, bare, WellFormed}
use Rattle.meaning.specs.Survey.{Count}
use Rattle.meaning.specs.Choice.{product_at, Chosen, products_to, Choice, ChoiceOutcome, list_wrong, refused, chosen}
use Rattle.meaning.specs.Line.{counts, ShortEdges, products_along}
use Rattle.theory.specs.Numbers.Sum.{below, sum_ext, sum_join}
use Rattle.theory.specs.Numbers.Every.{apart_once, holds_every}
use Rattle.theory.specs.Chains.Fine.{Fine}
use Rattle.theory.specs.Chains.Sets.{right_one}
use Rattle.theory.specs.Stages.Last.{Prepared}
use Rattle.theory.specs.Outcomes.Formed.{formed_fine, start_in}
use Rattle.theory.specs.Outcomes.Places.{refused_places}
use Rattle.theory.specs.Outcomes.Whole.{formed_prepared}
use Rattle.theory.specs.Outcomes.StepsStates.{Removable}
use Rattle.theory.specs.Outcomes.Band.{products_few, places_all}
use Rattle.theory.specs.Outcomes.TurnsCounted.{turns_few}
use Rattle.theory.specs.Outcomes.Choice.{chosen_turns, choice_order}

-- The limit of an exact run, for m live states other than the start, once its order is known to be one.
prepared_limit : (c : Chain) (k : Sets) (o : List ℕ) → Prepared c k o → (m b : ℕ) → Count (Removable c) c.states m → ShortEdges c k o b
    → products_along c k o ≤ m * (b + 1) * (b + 3)
prepared_limit c k o ready m b number short =
    omega (arith, products_few c k o ready b short, ap (λ z. (b + 1) * (b + 3) * z) (places_all c k o ready number))

pub line_limit : (x : Entry) (l : Lent) → WellFormed x l → x.order ≡ true → x.short ≡ false → (k : Sets) → Right l.chain k → (m b : ℕ)
    → Count (Removable l.chain) l.chain.states m → ShortEdges l.chain k l.order b
    → products_along l.chain k l.order ≤ m * (b + 1) * (b + 3)
line_limit x l formed lent whole k right m b number short =
    omega (arith, prepared_limit l.chain k l.order (formed_prepared x l formed lent whole k right) m b number short)

-- And of a chosen order, where that is such an order: the sum that is answered with it.
module _ (c : Chain) (k : Sets) (o : List ℕ) {turns : ℕ} (x : Chosen c k o turns) where
  module _ (fine : Fine c) (right : Right c k) (start : c.start < c.states) where
    chosen_prepared : Prepared c k o
    chosen_prepared =
        record {
          fine = fine;
          right = right;
          orders = orders;
          once = once;
          every = holds_every c.states (λ p. get_or o p 0) orders (apart_once c.states (λ p. get_or o p 0) once);
          start = start;
        }
      where
        orders : (p : ℕ) → p < c.states → get_or o p 0 < c.states
        orders p h = ⊎_elim (λ a. a) (λ a. absurd (choice_order c k x fine right start p (h, inl a))) (below (get_or o p 0) c.states)

        once : (p : ℕ) → p < c.states → (q : ℕ) → q < p → get_or o q 0 ≡ get_or o p 0 → ⊥
        once p h q a e = choice_order c k x fine right start p (h, inr (q, (a, e)))

    chosen_limit : (m b : ℕ) → Count (Removable c) c.states m → ShortEdges c k o b → products_to c k o turns ≤ m * (b + 1) * (b + 3)
    chosen_limit m b number short =
        let f : ℕ → ℕ = λ p. only (counts c k o p) (product_at c k o p (get_or o p 0)) in
        let few = turns_few c k fine right start (chosen_turns c k x) in
        let e : turns + (c.states - turns) ≡ c.states = omega (arith, few) in
        omega (
          arith,
          prepared_limit c k o chosen_prepared m b number short,
          ap (sum_to f) e,
          sum_join f turns (c.states - turns),
          sum_ext f (λ p. product_at c k o p (get_or o p 0)) turns (λ p h. rw (x.turns p h).left.going),
        )

pub choice_limit : (l : Lent) {before after : List ℕ} {a : Choice} → a.number ≡ 0 → ChoiceOutcome l before a after → (k : Sets) → Right l.chain k
    → (m b : ℕ) → Count (Removable l.chain) l.chain.states m → ShortEdges l.chain k after b → a.sum ≤ m * (b + 1) * (b + 3)
choice_limit l z (list_wrong d e s) k right m b number short = absurd (omega (arith, z, ap (λ a. a.number) e))
choice_limit l z (refused h n p r e s) k right m b number short = absurd (omega (arith, z, ap (λ a. a.number) e, (refused_places n p r).0))
choice_limit l {after = after} z (chosen h f k' right' turns x e) k right m b number short =
    let s = right_one right right' in
    let limit = chosen_limit l.chain k' after x (formed_fine bare l f refl) right' (start_in bare l f) m b number (rw s at short) in
    omega (arith, limit, ap (λ a. a.sum) e)
