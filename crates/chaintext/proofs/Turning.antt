-- What is held is a chain's at any time; and what each line adds to it.
use Prim.Native.Nat.{ℕ, ◌+◌, ◌*◌, ◌^◌, ◌≤◌, ◌<◌}
use native.Mathlib.Omega.{arith}
use mathlib.Core.Path.{◌≡◌, sym, ap, subst, ◌∙◌}
use mathlib.Core.Logic.{⊎_elim}
use mathlib.Core.List.{List, [], ◌∷◌}
use lib.ListN.{length, get_or, take, length-take, get_or-eq_default}
use lib.Pow.{pow_pos, pow_mono}
use lib.Seq.{get_or-take, length-take-le}
use Rattle.meaning.specs.Number.{tab_from}
use Rattle.meaning.specs.Report.{named_text}
use Rattle.meaning.specs.Chain.{most_states, most_edges, most_reward, edge_size, edge_count}
use Rattle.meaning.specs.Refusal.{Lent, Misshaped}
use Rattle.meaning.specs.File.{Tables}
use Rattle.meaning.specs.Text.{bytes_of}
use Rattle.meaning.specs.Write.{filing}
use Rattle.meaning.specs.ChainText.{Storable}
use Rattle.theory.specs.Numbers.Sum.{below}
use Rattle.theory.specs.Outcomes.Formed.{at_most, positive}
use Rattle.theory.specs.Texts.Turns.{states_line, edges_line, next_states, next_edges, next_start}
use Rattle.chaintext.specs.Lines.{IsCount, CountRead}
use Rattle.chaintext.specs.Turns.{held_lent, Cells, turn_fits, Ready, TakenAs}
use Rattle.chaintext.specs.declared.turns.Turn.{Turn}
use Rattle.chaintext.specs.declared.turns.Turn.TheVariants.{States, Edges, Start, State, Edge}
use Rattle.chaintext.specs.declared.turns.Held.{Held}
use Rattle.std.proofs.Common.{Option, Some, None}

-- A cell of the front of a table is a cell of the table, or 0.
cut_cell : (P : ℕ → Type 0) (n : ℕ) (l : List ℕ) (j : ℕ) → P (get_or l j 0) → P 0 → P (get_or (take n l) j 0)
cut_cell P n l j h z =
    ⊎_elim
    (λ (b : j < n). subst P (sym (get_or-take n l j 0 b)) h)
    (λ (b : n ≤ j). subst P (sym (get_or-eq_default (take n l) 0 {n = j} (omega (arith, length-take n l)))) z)
    (below j n)

-- What is held is a chain's.
goals_small : (turn : Turn) (h : Held) → turn_fits turn h → h.goals < 2 ^ h.states
goals_small States h f = omega (arith, pow_pos h.states)
goals_small Edges h f = omega (arith, pow_pos h.states)
goals_small Start h f = omega (arith, pow_pos h.states)
goals_small (State i) h f = omega (arith, f.1, pow_mono f.0)
goals_small (Edge e) h f = f.1

module _ {turn : Turn} {h : Held} {t : Tables} (r : Ready turn h t) where
  abbrev c : Cells t
  c = r.cells

  edges_are : length (take (edge_size * h.edges) t.edges) ≡ edge_size * h.edges
  edges_are = length-take-le _ t.edges (omega (arith, c.edges_long, r.few_edges))

  pub count_is : edge_count (held_lent h t).chain.edges ≡ h.edges
  count_is = omega (arith, edges_are)

  shaped : Misshaped filing h.states (length (take h.states t.denominators)) (length (take (edge_size * h.edges) t.edges)) (length (take h.states t.order)) (length (take h.states t.rewards))
      → ⊥
  shaped (Misshaped.no_states e) = omega (arith, r.some_states)
  shaped (Misshaped.many_states e) = omega (arith, r.few_states)
  shaped (Misshaped.denominators_length f) = f (length-take-le _ t.denominators (omega (arith, c.denominators_long, r.few_states)))
  shaped (Misshaped.edges_ragged f) = f (omega (arith, edges_are))
  shaped (Misshaped.many_edges e) = omega (arith, edges_are, r.few_edges)
  shaped (Misshaped.few_edges e) = omega (arith, edges_are, r.some_edges)
  shaped (Misshaped.order_length f) = f (length-take-le _ t.order (omega (arith, c.order_long, r.few_states)))
  shaped (Misshaped.rewards_length f) = f (length-take-le _ t.rewards (omega (arith, c.rewards_long, r.few_states)))

  pub storable : Storable (held_lent h t)
  storable =
      record {
        shape = shaped;
        start = r.start_fits;
        goals = goals_small turn h r.turn_fits_lem;
        denominators = λ i. cut_cell (λ z. z < 2 ^ 32) h.states t.denominators i (c.denominators_fit i) (omega arith);
        order = λ p. cut_cell (λ z. z < 256) h.states t.order p (c.order_fits p) (omega arith);
        rewards = λ i. cut_cell (λ z. z ≤ most_reward) h.states t.rewards i (c.rewards_fit i) (omega arith);
        sources = λ e. cut_cell (λ z. z < 256) (edge_size * h.edges) t.edges (edge_size * e) (c.edges_fit e).source_fits (omega arith);
        targets = λ e. cut_cell (λ z. z < 256) (edge_size * h.edges) t.edges (edge_size * e + 1) (c.edges_fit e).target_fits (omega arith);
        weights = λ e. cut_cell (λ z. z < 2 ^ 32) (edge_size * h.edges) t.edges (edge_size * e + 2) (c.edges_fit e).weight_fits (omega arith);
        edge_rewards = λ e. cut_cell (λ z. z ≤ most_reward) (edge_size * h.edges) t.edges (edge_size * e + 3) (c.edges_fit e).reward_fits (omega arith);
      }

-- How many states and edges a storable chain has.
module _ {m : Lent} (p : Storable m) where
  states_some : 1 ≤ m.chain.states
  states_some = positive _ (λ e. p.shape (Misshaped.no_states e))

  states_few : m.chain.states ≤ most_states
  states_few = at_most _ _ (λ h. p.shape (Misshaped.many_states h))

  edges_some : 1 ≤ edge_count m.chain.edges
  edges_some = positive _ (λ e. p.shape (Misshaped.few_edges (omega arith)))

  edges_few : edge_count m.chain.edges ≤ most_edges
  edges_few = at_most _ _ (λ h. p.shape (Misshaped.many_edges h))

abbrev pub held : ℕ → ℕ → ℕ → ℕ → Held
held states edges start goals = record { states = states; edges = edges; start = start; goals = goals }

-- The first three lines.
module _ {line : List ℕ} {h : Held} {t : Tables} where
  pub states_taken : {x : ℕ} → CountRead line (bytes_of "states ") 1 64 (Some x) → Ready States h t
      → TakenAs States h t line t (Some (Edges, held x h.edges h.start h.goals))
  states_taken {x} c r =
      let i : IsCount line (bytes_of "states ") 1 64 x = c.told in
      record {
        told = record {
          ready = record {
            cells = r.cells;
            some_states = i.low;
            few_states = i.high;
            some_edges = r.some_edges;
            few_edges = r.few_edges;
            start_fits = r.start_fits;
            turn_fits_lem = r.turn_fits_lem;
          };
          lines = ap (λ (z : List ℕ). z ∷ []) (sym i.line_is);
        };
      }

  pub states_wrong : CountRead line (bytes_of "states ") 1 64 None → TakenAs States h t line t None
  states_wrong c =
      record {
        told = λ b.
            c.told b.0.chain.states
            (record { low = states_some b.2; high = states_few b.2; line_is = next_states (held_lent h t) b.0 line b.1 b.3 });
      }

  pub edges_taken : {x : ℕ} → CountRead line (bytes_of "edges ") 1 4096 (Some x) → Ready Edges h t
      → TakenAs Edges h t line t (Some (Start, held h.states x h.start h.goals))
  edges_taken {x} c r =
      let i : IsCount line (bytes_of "edges ") 1 4096 x = c.told in
      let ready : Ready Start (held h.states x h.start h.goals) t =
      record {
        cells = r.cells;
        some_states = r.some_states;
        few_states = r.few_states;
        some_edges = i.low;
        few_edges = i.high;
        start_fits = r.start_fits;
        turn_fits_lem = r.turn_fits_lem;
      } in
      record {
        told = record {
          ready = ready;
          lines = ap (λ (z : List ℕ). states_line (held_lent h t) ∷ z ∷ []) (ap (named_text (bytes_of "edges ")) (count_is ready) ∙ sym i.line_is);
        };
      }

  pub edges_wrong : CountRead line (bytes_of "edges ") 1 4096 None → TakenAs Edges h t line t None
  edges_wrong c =
      record {
        told = λ b.
            c.told (edge_count b.0.chain.edges)
            (record { low = edges_some b.2; high = edges_few b.2; line_is = next_edges (held_lent h t) b.0 line b.1 b.3 });
      }

  pub start_taken : {x : ℕ} → CountRead line (bytes_of "start ") 0 255 (Some x) → Ready Start h t
      → TakenAs Start h t line t (Some ((State 0), held h.states h.edges x h.goals))
  unfolding tab_from
  start_taken {x} c r =
      let i : IsCount line (bytes_of "start ") 0 255 x = c.told in
      record {
        told = record {
          ready = record {
            cells = r.cells;
            some_states = r.some_states;
            few_states = r.few_states;
            some_edges = r.some_edges;
            few_edges = r.few_edges;
            start_fits = omega (arith, i.high);
            turn_fits_lem = (omega arith, omega (arith, r.turn_fits_lem));
          };
          lines = ap (λ (z : List ℕ). states_line (held_lent h t) ∷ edges_line (held_lent h t) ∷ z ∷ []) (sym i.line_is);
        };
      }

  pub start_wrong : CountRead line (bytes_of "start ") 0 255 None → TakenAs Start h t line t None
  start_wrong c =
      record {
        told = λ b.
            c.told b.0.chain.start
            (record { low = omega arith; high = omega (arith, b.2.start); line_is = next_start (held_lent h t) b.0 line b.1 b.3 });
      }

-- The turn is known by another name.
pub as_turn : {turn turn' : Turn} {h : Held} {t t' : Tables} {line : List ℕ} {a : Option (Turn × Held)} → turn ≡ turn' → Ready turn h t
    → (Ready turn' h t → TakenAs turn' h t line t' a) → TakenAs turn h t line t' a
as_turn {h = h} {t = t} {t' = t'} {line = line} {a = a} e r f =
    subst (λ (z : Turn). TakenAs z h t line t' a) (sym e) (f (subst (λ (z : Turn). Ready z h t) e r))
