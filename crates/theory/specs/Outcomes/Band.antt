-- A chain that is nearly a line: at each turn few rows lead to the state, and it leads to few columns.
use Prim.Native.Nat.{ℕ, zero, suc, ◌+◌, ◌*◌, ◌≤◌, ◌<◌}
use Rattle.std.specs.Prelude.{◌≡◌, Bool, List, eqb, get_or}
use Rattle.std.proofs.Math.Path.{refl}
use Rattle.std.proofs.Common.{sym, ap, ◌∙◌, ⊎_elim, mul-le-mul, eq-eqb, ne_eqb}
use Rattle.std.proofs.Math.Bool.{true, false}
use native.Mathlib.Omega.{arith}
use Rattle.meaning.specs.Number.{sum_to, only, choose, present, bit}
use Rattle.meaning.specs.Chain.{Chain, Goal}
use Rattle.meaning.specs.Row.{cell, exact}
use Rattle.meaning.specs.Step.{Table, row, Sets, removed, after}
use Rattle.meaning.specs.Refusal.{plain}
use Rattle.meaning.specs.Stop.{earns}
use Rattle.meaning.specs.Steps.{rows_to, columns_of}
use Rattle.meaning.specs.Survey.{Count}
use Rattle.meaning.specs.Choice.{ordered, exact_at}
use Rattle.meaning.specs.Line.{counts, places_before, Apart, ShortEdges, products_along}
use Rattle.theory.specs.Numbers.Sum.{same, sum_le, sum_scale, sum_hole, sum_next, sum_up}
use Rattle.theory.specs.Numbers.Every.{apart_once, sum_every}
use Rattle.theory.specs.Numbers.Window.{window}
use Rattle.theory.specs.Chains.Counted.{count_sum}
use Rattle.theory.specs.Rows.Settle.{one_engine}
use Rattle.theory.specs.Stages.Fits.{stage_fits}
use Rattle.theory.specs.Stages.Last.{Prepared, prepared_whole, turn_loose}
use Rattle.theory.specs.Stages.Weighs.{Wide, Into, state, goal, trap, first_weighs, removed_weighs}
use Rattle.theory.specs.Outcomes.StepsStates.{Removable, goes_law}

-- What is counted of a row or a column: at most once, not for the state itself, and only a weight above 0.
elsewhere : ℕ → ℕ → ℕ → ℕ
elsewhere s i x = choose (eqb i s) 0 (present x)

elsewhere_small : (s i x : ℕ) → elsewhere s i x ≤ 1
unfolding elsewhere
elsewhere_small s i x = at (eqb i s) (eqb x 0)
  where
    at : (b d : Bool) → choose b 0 (choose d 0 1) ≤ 1
    at true d = omega arith
    at false true = omega arith
    at false false = omega arith

elsewhere_some : (s i x : ℕ) → 0 < elsewhere s i x → (i ≡ s → ⊥) × (0 < x)
unfolding elsewhere
elsewhere_some s i x h =
    let d : i ≡ s → ⊥ = λ e. omega (arith, rw (eq-eqb i s e) at h) in (
      d,
      ⊎_elim
          (λ (e : x ≡ 0). absurd (omega (arith, rw (ne_eqb i s d, eq-eqb x 0 e) at h)))
          (λ (e : x ≡ 0 → ⊥). omega arith)
          (same x 0),
    )

module _ (c : Chain) (k : Sets) (o : List ℕ) (ready : Prepared c k o) where
  abbrev n : ℕ
  n = c.states

  -- The state at a position, its place, and the table before its turn.
  abbrev turn : ℕ → ℕ
  turn p = get_or o p 0

  abbrev place : ℕ → ℕ
  place p = places_before c k o p

  abbrev at : ℕ → Table
  at p = exact_at c k o p

  -- What a turn earns: nothing.
  abbrev pay : ℕ → ℕ
  pay = earns plain (ordered c o)

  inside : (p : ℕ) → p < n → turn p < n
  inside = ready.orders

  order_sum : (f : ℕ → ℕ) → sum_to f n ≡ sum_to (λ p. f (turn p)) n
  order_sum = sum_every n (λ p. get_or o p 0) inside (apart_once n (λ p. get_or o p 0) ready.once)

  rises : (p q : ℕ) → p < q → counts c k o p ≡ true → place p < place q
  rises p q h e = omega (arith, rw e at (sum_up (λ r. only (counts c k o r) 1) p q h))

  live_counts : (q : ℕ) → bit k.live (turn q) ≡ 1 → (turn q ≡ c.start → ⊥) → counts c k o q ≡ true
  live_counts q e d = rw (ne_eqb (turn q) c.start d, e)

  -- One position: its state is removed, or nothing changes.
  moves : (P : Table → Type 0) (p : ℕ) → (counts c k o p ≡ true → P (removed exact n (turn p) (at p))) → (counts c k o p ≡ false → P (at p))
      → P (at (suc p))
  unfolding after
  moves P p f g = by (counts c k o p) refl
    where
      by : (b : Bool) → counts c k o p ≡ b → P (choose b (removed exact n (turn p) (at p)) (at p))
      by true e = f e
      by false e = g e

  -- The state at position q is kept after p positions: it is live, and has not had its turn.
  record Stays (p q : ℕ) : Type 0 where
    live : bit k.live (turn q) ≡ 1
    later : counts c k o q ≡ true → p ≤ q

  stays_more : (p q : ℕ) → (q ≡ p → counts c k o q ≡ true → ⊥) → Stays p q → Stays (suc p) q
  stays_more p q d s =
      record {
        live = s.live;
        later = λ e.
            ⊎_elim (λ (f : q ≡ p). absurd (d f e)) (λ (f : q ≡ p → ⊥). omega (arith, s.later e)) (same q p);
      }

  -- Behind a first weight between states stands an edge to a live state.
  enters : {t j : ℕ} → j < n → Into n c.goals k t j → (t ≡ j) × (bit k.live j ≡ 1)
  enters h (state e l) = (sym e, ap (bit k.live) e ∙ l)
  enters h (goal e g) = absurd (omega (arith, e, h))
  enters h (trap e g) = absurd (omega (arith, e, h))

  module _ (b : ℕ) (short : ShortEdges c k o b) where
    -- Weights stand between states that are kept, and span at most b places where neither is the start.
    record Spans (p q r : ℕ) : Type 0 where
      source : Stays p q
      target : Stays p r
      close : counts c k o q ≡ true → counts c k o r ≡ true → Apart c k o b q r

    abbrev Band : ℕ → Table → Type 0
    Band p t = (q r : ℕ) → q < n → r < n → 0 < cell (row t (turn q)) (turn r) → Spans p q r

    band_first : Band 0 (at 0)
    unfolding after
    band_first q r h g w =
        let e = (first_weighs c k pay ready.fine (turn q) (inside q h) (turn r) (omega (arith, inside r g))).0 w in
        let brings = e.1.1 in
        let end = enters (inside r g) brings.into in
        record {
          source = record { live = brings.live; later = λ _. omega arith };
          target = record { live = end.1; later = λ _. omega arith };
          close = short.spans e.0 q r e.1.0 h g brings.source end.0;
        }

    -- What s brings together comes after it, and within b places of it.
    band_removed : (p : ℕ) → p < n → counts c k o p ≡ true → Band p (at p) → Band (suc p) (removed exact n (turn p) (at p))
    band_removed p m t band q r h g w =
        let live = ((goes_law c k ready.right (turn p)).0 t).0 in
        let loose = turn_loose c k o (λ _. 0) (Goal c) (prepared_whole ready) exact pay (one_engine exact refl) p m live in
        let wide : Wide n (at p) = λ i h. (stage_fits c k pay (λ _. 0) o exact p i h).wide in
        let e = (removed_weighs n (turn p) (at p) wide (inside p m) loose (turn q) (inside q h) (turn r) (omega (arith, inside r g))).0 w in
        let more : (q : ℕ) → (turn q ≡ turn p → ⊥) → Stays p q → Stays (suc p) q =
        λ q d. stays_more p q (λ f _. d (ap turn f)) in
        ⊎_elim
        (λ y.
        let s = band q r h g y in
        record { source = more q e.other_row s.source; target = more r e.other_column s.target; close = s.close })
        (λ y.
        let s = band q p h m y.0 in
        let u = band p r m g y.1 in
        let source = more q e.other_row s.source in
        let target = more r e.other_column u.target in
        record {
          source = source;
          target = target;
          close = λ a z. (
            omega (arith, (s.close a t).0, rises p r (target.later z) t),
            omega (arith, (u.close t z).1, rises p q (source.later a) t),
          );
        })
        e.weighs

    band : (p : ℕ) → p ≤ n → Band p (at p)
    band zero h = band_first
    band (suc p) h =
        moves (Band (suc p)) p
        (λ t. band_removed p h t (band p (omega arith)))
        (λ f q r a g w.
        let s = band p (omega arith) q r a g w in
        let more : (q : ℕ) → Stays p q → Stays (suc p) q =
        λ q. stays_more p q (λ e y. absurd (let z : ◌≡◌ {A = ℕ} 0 1 = cc in omega arith)) in
        record { source = more q s.source; target = more r s.target; close = s.close })

    -- States that are counted at most once, and are the start or come after p within b places, are at most b + 1.
    few : (p : ℕ) (f : ℕ → ℕ) → ((i : ℕ) → f i ≤ 1)
        → ((q : ℕ) → q < n → 0 < f (turn q) → (turn q ≡ c.start → ⊥) → (counts c k o q ≡ true) × (place p < place q) × (place q ≤ place p + b))
        → sum_to f n ≤ b + 1
    few p f small after-p =
        let others : ℕ → ℕ = λ i. choose (eqb i c.start) 0 (f i) in
        let most =
        window (counts c k o) (place p) b (λ q. others (turn q)) n
        (λ q h. at_most (eqb (turn q) c.start) (small (turn q)))
        (λ q h w.
        let d : turn q ≡ c.start → ⊥ = λ e. omega (arith, rw (eq-eqb (turn q) c.start e) at w) in
        after-p q h (rw (ne_eqb (turn q) c.start d) at w) d) in
        omega (
          arith,
          most.0,
          order_sum others,
          sum_hole f n c.start ready.start,
          small c.start,
        )
      where
        at_most : (t : Bool) {y : ℕ} → y ≤ 1 → choose t 0 y ≤ 1
        at_most true h = omega arith
        at_most false h = h

    module _ (p : ℕ) (m : p < n) (t : counts c k o p ≡ true) where
      abbrev s : ℕ
      s = turn p

      after_turn : (q : ℕ) → Stays p q → (turn q ≡ s → ⊥) → (turn q ≡ c.start → ⊥) → (counts c k o q ≡ true → place q ≤ place p + b)
          → (counts c k o q ≡ true) × (place p < place q) × (place q ≤ place p + b)
      after_turn q y d e close =
          let g = live_counts q y.live e in
          let other : q ≡ p → ⊥ = λ f. d (ap turn f) in
          (g, rises p q (omega (arith, y.later g)) t, close g)

      rows_few : rows_to n s (at p) ≤ b + 1
      unfolding elsewhere
      rows_few =
          few p (λ i. elsewhere s i (cell (row (at p) i) s)) (λ i. elsewhere_small s i (cell (row (at p) i) s))
          (λ q h w e.
          let y = elsewhere_some s (turn q) (cell (row (at p) (turn q)) s) w in
          let z = band p (omega arith) q p h m y.1 in
          after_turn q z.source y.0 e (λ g. (z.close g t).0))

      columns_few : columns_of n s (row (at p) s) ≤ b + 3
      unfolding elsewhere
      columns_few =
          let f : ℕ → ℕ = λ j. elsewhere s j (cell (row (at p) s) j) in
          let states =
          few p f (λ j. elsewhere_small s j (cell (row (at p) s) j))
          (λ q h w e.
          let y = elsewhere_some s (turn q) (cell (row (at p) s) (turn q)) w in
          let z = band p (omega arith) p q m h y.1 in
          after_turn q z.target y.0 e (λ g. (z.close t g).1)) in
          omega (
            arith,
            states,
            sum_next f n (n + 1) (omega arith),
            sum_next f (n + 1) (n + 2) (omega arith),
            elsewhere_small s n (cell (row (at p) s) n),
            elsewhere_small s (n + 1) (cell (row (at p) s) (n + 1)),
          )

    -- A turn adds at most (b + 1) × (b + 3).
    turn_few : (p : ℕ) → p < n → (t : Bool) → counts c k o p ≡ t
        → only t (rows_to n (turn p) (at p) * columns_of n (turn p) (row (at p) (turn p))) ≤ (b + 1) * (b + 3) * only t 1
    turn_few p m true e = omega (arith, mul-le-mul (rows_few p m e) (columns_few p m e))
    turn_few p m false e = omega arith

    pub products_few : products_along c k o ≤ (b + 1) * (b + 3) * place n
    products_few =
        let each = (b + 1) * (b + 3) in
        let turns : products_along c k o ≤ sum_to (λ p. each * only (counts c k o p) 1) n = sum_le _ _ n (λ p h. turn_few p h (counts c k o p) refl) in
        omega (arith, turns, sum_scale each (λ p. only (counts c k o p) 1) n)

  -- There are as many places as live states other than the start.
  pub places_all : {m : ℕ} → Count (Removable c) n m → m ≡ place n
  places_all count = count_sum (Removable c) _ (goes_law c k ready.right) count ∙ order_sum _
