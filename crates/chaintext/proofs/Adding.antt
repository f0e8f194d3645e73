-- What the lines of the states, of the order and of the edges add.
use Prim.Native.Nat.{ℕ, suc, ◌+◌, ◌*◌, ◌^◌, ◌≤◌, ◌<◌}
use native.Mathlib.Omega.{arith}
use native.Mathlib.Nat.{pow-succ'}
use native.Mathlib.Numerals.{add-one}
use mathlib.Core.Path.{◌≡◌, refl, sym, ap, ◌∙◌}
use mathlib.Core.Bool.{Bool, true, false}
use mathlib.Core.Logic.{⊎_elim}
use mathlib.Core.List.{List, [], ◌∷◌, ◌++◌}
use lib.ListN.{length, get_or, take, set, length-set, get_or-eq_default}
use lib.Dec.{eqb}
use lib.Seq.{get_or-take}
use borrow.Author.Tests.{eq-eqb, ne_eqb}
use Rattle.meaning.specs.Number.{choose, bit}
use Rattle.meaning.specs.Report.{named_text}
use Rattle.meaning.specs.Chain.{most_edges, most_reward, denominator, edge_size, edge_count, edge, from, to, weight, edge_reward}
use Rattle.meaning.specs.Text.{bytes_of}
use Rattle.meaning.specs.ChainText.{state_line, edge_line, goal_at, state_line_of, edge_line_of}
use Rattle.theory.specs.Numbers.Sum.{below, same}
use Rattle.theory.specs.Texts.ChainOne.{order_length}
use Rattle.theory.specs.Texts.Turns.{to_state, to_edge, same_states, next_state, next_order, next_edge, next_none, more_states, more_order, more_edges}
use Rattle.chain.specs.Edge.{placed}
use Rattle.chaintext.specs.Lines.{IsState, StateRead, OrderFilled, OrderRead, EdgeFits, IsEdge, EdgeRead}
use Rattle.chaintext.specs.Turns.{tables, held_lent, Cells, Ready, Stepped, TakenAs}
use Rattle.std.proofs.Common.{Some, None}
use Rattle.chaintext.specs.declared.lines.StateLine.{StateLine}
use Rattle.chaintext.specs.declared.lines.EdgeLine.{EdgeLine}
use Rattle.chaintext.specs.declared.turns.Turn.TheVariants.{State, Edge}
use Rattle.chaintext.specs.declared.turns.Held.{Held}
use Rattle.chaintext.proofs.Goals.{unset, set_other, set_same, placed_length, placed_cell}
use Rattle.chaintext.proofs.Turning.{held, count_is}
use Rattle.chaintext.proofs.Cells.{set_cell, front_same, front_other, rest_cell}

-- The line of a state.
module _ {line : List ℕ} {h : Held} {d es o rs : List ℕ} {i : ℕ} (r : Ready (State i) h (tables d es o rs)) (inside : i < h.states) where
  added : {x y : ℕ} {goal : Bool} (goals : ℕ) → IsState line i x y goal → goals < 2 ^ suc i
      → ((j : ℕ) → j < i → bit goals j ≡ bit h.goals j) → eqb (bit goals i) 1 ≡ goal
      → Stepped (State i) h (tables d es o rs) line (State (i + 1)) (held h.states h.edges h.start goals) (tables (set d i x) es o (set rs i y))
  added {x} {y} {goal} goals s small old new =
      let c = r.cells in
      let n = h.states in
      let d-in : i < length d = omega (arith, c.denominators_long, r.few_states) in
      let r-in : i < length rs = omega (arith, c.rewards_long, r.few_states) in
      let after = tables (set d i x) es o (set rs i y) in
      let l = held_lent h (tables d es o rs) in
      let m = held_lent (held h.states h.edges h.start goals) after in
      let here : state_line_of m i ≡ line =
      (λ k. state_line i (front_same d n i x inside d-in k) (front_same rs n i y inside r-in k) (new k)) ∙ sym s.line_is in
      record {
        ready = record {
          cells = record {
            denominators_long = length-set d i x ∙ c.denominators_long;
            edges_long = c.edges_long;
            order_long = c.order_long;
            rewards_long = length-set rs i y ∙ c.rewards_long;
            denominators_fit = set_cell (λ z. z < 2 ^ 32) d i x d-in s.denominator_fits c.denominators_fit;
            order_fits = c.order_fits;
            rewards_fit = set_cell (λ z. z ≤ most_reward) rs i y r-in s.reward_fits c.rewards_fit;
            edges_fit = c.edges_fit;
          };
          some_states = r.some_states;
          few_states = r.few_states;
          some_edges = r.some_edges;
          few_edges = r.few_edges;
          start_fits = r.start_fits;
          turn_fits_lem = (omega arith, rw add-one small);
        };
        lines = more_states l m i refl refl refl
            (λ j b k.
            let b' : j < n = omega arith in
            state_line j (front_other d n i j x b' (λ e. omega arith) k) (front_other rs n i j y b' (λ e. omega arith) k) (eqb (old j b k) 1))
            ∙ ap (λ (z : List ℕ). to_state l i ++ (z ∷ [])) here;
      }

  pub state_wrong : StateRead line i None → TakenAs (State i) h (tables d es o rs) line (tables d es o rs) None
  state_wrong told =
      record {
        told = λ b.
            let m = b.0 in
            told.told (denominator m.chain i) (get_or m.rewards i 0) (goal_at m i)
            (record {
              denominator_fits = b.2.denominators i;
              reward_fits = b.2.rewards i;
              line_is = next_state (held_lent h (tables d es o rs)) m line b.1 i b.3 inside;
            });
      }

  module _ {s : StateLine} (told : StateRead line i (Some s)) where
    pub state_plain : s.goal ≡ false
        → TakenAs (State i) h (tables d es o rs) line (tables (set d i s.denominator) es o (set rs i s.reward)) (Some (State (i + 1), h))
    state_plain e =
        let g : h.goals < 2 ^ i = r.turn_fits_lem.1 in
        record {
          told = added h.goals told.told (omega (arith, pow-succ' 2 i)) (λ j b. refl)
              (ne_eqb (bit h.goals i) 1 (λ q. omega (arith, unset h.goals i g)) ∙ sym e);
        }

    pub state_goal : s.goal ≡ true
        → TakenAs (State i) h (tables d es o rs) line (tables (set d i s.denominator) es o (set rs i s.reward)) (Some (State (i + 1), held h.states h.edges h.start (h.goals + 2 ^ i)))
    state_goal e =
        let g : h.goals < 2 ^ i = r.turn_fits_lem.1 in
        record {
          told = added (h.goals + 2 ^ i) told.told (omega (arith, pow-succ' 2 i)) (set_other h.goals i g)
              (eq-eqb (bit (h.goals + 2 ^ i) i) 1 (set_same h.goals i g) ∙ sym e);
        }

-- The line of the order.
module _ {line : List ℕ} {h : Held} {d es o rs : List ℕ} (r : Ready (State h.states) h (tables d es o rs)) where
  pub order_wrong : {o' : List ℕ} → OrderRead line h.states o o' None → TakenAs (State h.states) h (tables d es o rs) line (tables d es o' rs) None
  order_wrong {o'} told =
      record {
        told = λ b.
            let m = b.0 in
            let n = same_states (held_lent h (tables d es o rs)) m line b.1 h.states b.3 in
            told.told m.order
            (record {
              long = order_length b.2 ∙ n;
              fits = b.2.order;
              line_is = next_order (held_lent h (tables d es o rs)) m line b.1 h.states b.3 refl;
            });
      }

  pub order_taken : {o' : List ℕ} → OrderRead line h.states o o' (Some tt) → TakenAs (State h.states) h (tables d es o rs) line (tables d es o' rs) (Some (Edge 0, h))
  order_taken {o'} told =
      let f : OrderFilled line h.states o o' = told.told in
      let c = r.cells in
      let l = held_lent h (tables d es o rs) in
      let m = held_lent h (tables d es o' rs) in
      record {
        told = record {
          ready = record {
            cells = record {
              denominators_long = c.denominators_long;
              edges_long = c.edges_long;
              order_long = f.same ∙ c.order_long;
              rewards_long = c.rewards_long;
              denominators_fit = c.denominators_fit;
              order_fits = λ p. rest_cell (λ z. z < 256) h.states o o' f.past f.order.fits c.order_fits p;
              rewards_fit = c.rewards_fit;
              edges_fit = c.edges_fit;
            };
            some_states = r.some_states;
            few_states = r.few_states;
            some_edges = r.some_edges;
            few_edges = r.few_edges;
            start_fits = r.start_fits;
            turn_fits_lem = (omega arith, r.turn_fits_lem.1);
          };
          lines = more_order l m h.states refl refl refl refl (λ j b. refl) ∙ ap (λ (z : List ℕ). to_state l h.states ++ (z ∷ [])) (sym f.order.line_is);
        };
      }

fits_as : {a b c d a' b' c' d' : ℕ} → a ≡ a' → b ≡ b' → c ≡ c' → d ≡ d' → EdgeFits a' b' c' d' → EdgeFits a b c d
fits_as e₁ e₂ e₃ e₄ f =
    record {
      source_fits = omega (arith, f.source_fits);
      target_fits = omega (arith, f.target_fits);
      weight_fits = omega (arith, f.weight_fits);
      reward_fits = omega (arith, f.reward_fits);
    }

-- The line of an edge.
module _ {line : List ℕ} {h : Held} {d es o rs : List ℕ} {k : ℕ} (r : Ready (Edge k) h (tables d es o rs)) where
  pub edge_none : h.edges ≤ k → TakenAs (Edge k) h (tables d es o rs) line (tables d es o rs) None
  edge_none b =
      record {
        told = λ w. next_none (held_lent h (tables d es o rs)) w.0 line w.1 k w.3 (omega (arith, r.turn_fits_lem.0, count_is r));
      }

  module _ (inside : k < h.edges) where
    pub edge_wrong : EdgeRead line None → TakenAs (Edge k) h (tables d es o rs) line (tables d es o rs) None
    edge_wrong told =
        record {
          told = λ w.
              let p = w.2 in
              told.told _ _ _ _
              (record {
                fits = record { source_fits = p.sources k; target_fits = p.targets k; weight_fits = p.weights k; reward_fits = p.edge_rewards k };
                line_is = next_edge (held_lent h (tables d es o rs)) w.0 line w.1 k w.3 (omega (arith, count_is r));
              });
        }

    module _ {q : EdgeLine} (told : EdgeRead line (Some q)) where
      abbrev x : ℕ
      x = q.from

      abbrev y : ℕ
      y = q.to

      abbrev z : ℕ
      z = q.weight

      abbrev w : ℕ
      w = q.reward

      is : IsEdge line x y z w
      is = told.told

      abbrev c : Cells (tables d es o rs)
      c = r.cells

      abbrev after : List ℕ
      after = placed es k (edge x y z w)

      has : k < edge_count es
      has = omega (arith, c.edges_long, r.few_edges)

      long : length after ≡ length es
      long = placed_length es k (edge x y z w) has

      -- Each number of edge j: that of the line, or what it was.
      cell : (j a b : ℕ) → a < 4 → b ≡ edge_size * j + a → j < most_edges
          → get_or after b 0 ≡ choose (eqb j k) (get_or (edge x y z w) a 0) (get_or es b 0)
      cell j a b s u v = placed_cell es k (edge x y z w) has j a b s u (omega (arith, c.edges_long))

      same_cell : (a b : ℕ) → a < 4 → b ≡ edge_size * k + a → get_or after b 0 ≡ get_or (edge x y z w) a 0
      same_cell a b s u = cell k a b s u (omega (arith, r.few_edges)) ∙ rw (eq-eqb k k refl)

      other_cell : (j a b : ℕ) → a < 4 → b ≡ edge_size * j + a → j < most_edges → (j ≡ k → ⊥) → get_or after b 0 ≡ get_or es b 0
      other_cell j a b s u v n = cell j a b s u v ∙ rw (ne_eqb j k n)

      fits : (j : ℕ) → EdgeFits (from after j) (to after j) (weight after j) (edge_reward after j)
      fits j =
          let j₀ : edge_size * j ≡ edge_size * j + 0 = omega arith in
          ⊎_elim
          (λ (u : j ≡ k).
          let f = is.fits in
          fits_as (same_cell 0 _ (omega arith) (omega arith)) (same_cell 1 _ (omega arith) (omega arith)) (same_cell 2 _ (omega arith) (omega arith)) (same_cell 3 _ (omega arith) (omega arith)) f)
          (λ (n : j ≡ k → ⊥).
          ⊎_elim
          (λ (b : j < most_edges).
          fits_as (other_cell j 0 _ (omega arith) j₀ b n) (other_cell j 1 _ (omega arith) refl b n) (other_cell j 2 _ (omega arith) refl b n) (other_cell j 3 _ (omega arith) refl b n) (c.edges_fit j))
          (λ (b : most_edges ≤ j).
          let past : (a : ℕ) → edge_size * j ≤ a → get_or after a 0 ≡ 0 = λ a s. get_or-eq_default after 0 {n = a} (omega (arith, long, c.edges_long)) in
          fits_as (past _ (omega arith)) (past _ (omega arith)) (past _ (omega arith)) (past _ (omega arith)) (record { source_fits = omega arith; target_fits = omega arith; weight_fits = omega arith; reward_fits = omega arith }))
          (below j most_edges))
          (same j k)

      front : (b : ℕ) → b < edge_size * h.edges → get_or (take (edge_size * h.edges) after) b 0 ≡ get_or after b 0
      front b s = get_or-take (edge_size * h.edges) after b 0 s

      ready : Ready (Edge (k + 1)) h (tables d after o rs)
      ready =
          record {
            cells = record {
              denominators_long = c.denominators_long;
              edges_long = long ∙ c.edges_long;
              order_long = c.order_long;
              rewards_long = c.rewards_long;
              denominators_fit = c.denominators_fit;
              order_fits = c.order_fits;
              rewards_fit = c.rewards_fit;
              edges_fit = fits;
            };
            some_states = r.some_states;
            few_states = r.few_states;
            some_edges = r.some_edges;
            few_edges = r.few_edges;
            start_fits = r.start_fits;
            turn_fits_lem = (omega arith, r.turn_fits_lem.1);
          }

      number_same : (a b : ℕ) → a < 4 → b ≡ edge_size * k + a → get_or (take (edge_size * h.edges) after) b 0 ≡ get_or (edge x y z w) a 0
      number_same a b s u = front b (omega arith) ∙ same_cell a b s u

      number_other : (j a b : ℕ) → j < k → a < 4 → b ≡ edge_size * j + a
          → get_or (take (edge_size * h.edges) after) b 0 ≡ get_or (take (edge_size * h.edges) es) b 0
      number_other j a b l s u =
          front b (omega arith)
          ∙ other_cell j a b s u (omega (arith, r.few_edges)) (λ e. omega arith)
          ∙ sym (get_or-take (edge_size * h.edges) es b 0 (omega arith))

      pub edge_taken : TakenAs (Edge k) h (tables d es o rs) line (tables d after o rs) (Some (Edge (k + 1), h))
      edge_taken =
          let l = held_lent h (tables d es o rs) in
          let m = held_lent h (tables d after o rs) in
          let k₀ : edge_size * k ≡ edge_size * k + 0 = omega arith in
          let here : edge_line_of m k ≡ line =
          (λ i. edge_line (number_same 0 (edge_size * k) (omega arith) k₀ i) (number_same 1 _ (omega arith) refl i) (number_same 2 _ (omega arith) refl i) (number_same 3 _ (omega arith) refl i))
          ∙ sym is.line_is in
          record {
            told = record {
              ready = ready;
              lines = more_edges l m k refl (ap (named_text (bytes_of "edges ")) (count_is ready ∙ sym (count_is r))) refl (λ j b. refl) refl
                  (λ j b i.
                  let j₀ : edge_size * j ≡ edge_size * j + 0 = omega arith in
                  edge_line (number_other j 0 (edge_size * j) b (omega arith) j₀ i) (number_other j 1 _ b (omega arith) refl i) (number_other j 2 _ b (omega arith) refl i) (number_other j 3 _ b (omega arith) refl i))
                  ∙ ap (λ (s : List ℕ). to_edge l k ++ (s ∷ [])) here;
            };
          }
