-- A chain that the lost records complete: its chance lies between the bounds of what is left of the file.
use Rattle.std.specs.Prelude.{ℕ, ◌+◌, ◌<◌, ◌≡◌, refl, ◌⊎◌, Bool, true, false, List, get_or}
use Rattle.std.proofs.Common.{sym, ap, subst, inl, inr, arith}
use Rattle.meaning.specs.Chain.{Chain, denominator, edge_count, from, to, flow, missing}
use Rattle.meaning.specs.Refusal.{chain_alone, bare, WellFormed}
use Rattle.meaning.specs.Outcome.{Bounds, BoundsFigure}
use Rattle.meaning.specs.Demand.{ChanceBetween}
use Rattle.meaning.specs.Left.{short_rows}
use Rattle.meaning.specs.Block.{Input, head_states, head_edges, from_in, to_in, weight_in, edge_reward_in}
use Rattle.meaning.specs.Salvage.{edge_kept, left_chain, left_in, Completes}
use Rattle.theory.specs.Chains.Fine.{Fine}
use Rattle.theory.specs.Chains.Parted.{Joins, rest_of, Agrees, splits, rest_inside, picked_joins, rest_weighs}
use Rattle.theory.specs.Stages.Left.{with_edges, Rejoined}
use Rattle.theory.specs.Outcomes.Formed.{formed_fine, from_in_lem, to_in_lem, weight_positive, row_sum_lem}
use Rattle.theory.specs.Outcomes.LeftHolds.{left_holds}

module _ (f : Input) (v : ℕ → ℕ) (c : Chain) (completes : Completes f v c) (formed : WellFormed bare (chain_alone c)) where
  abbrev left : Chain
  left = left_chain f v

  abbrev lost_edges : List ℕ
  lost_edges = rest_of c.edges (head_edges f) (edge_kept f v)

  agrees : Agrees c.edges (head_edges f) (edge_kept f v) (from_in f) (to_in f) (weight_in f)
  agrees = record { counted = completes.edges; agree = completes.kept }

  pub same_chain : c ≡ with_edges left c.edges
  same_chain i =
      record {
        states = completes.states i;
        start = completes.start i;
        goals = completes.goals i;
        denominators = completes.denominators i;
        edges = c.edges;
      }

  -- What flows along the completed chain flows along the kept edges and the lost ones.
  pub parted : (i : ℕ) (g : ℕ → ℕ) → flow c.edges i g ≡ flow left.edges i g + flow lost_edges i g
  parted = splits (edge_reward_in f) agrees

  -- A lost edge makes its row fall short.
  falls_short : (e : ℕ) → e < head_edges f → edge_kept f v e ≡ false → 0 < missing left (from c.edges e)
  falls_short e h q =
      let i = from c.edges e in
      let l : e < edge_count c.edges = omega (arith, completes.edges) in
      let d : denominator c i ≡ denominator left i = ap (λ z. get_or z i 0) completes.denominators in
      omega (
        arith,
        rest_weighs (edge_reward_in f) agrees e h q,
        weight_positive bare (chain_alone c) formed e l,
        parted i (λ _. 1),
        row_sum_lem bare (chain_alone c) formed refl i (from_in_lem bare (chain_alone c) formed e l),
        d,
      )

  rejoined : Rejoined left (missing left) c.edges lost_edges
  rejoined =
      record {
        splits = parted;
        inside =
            rest_inside (edge_reward_in f) agrees
            (head_states f)
            (λ e h. omega (arith, to_in_lem bare (chain_alone c) formed e (omega (arith, completes.edges)), completes.states));
        parts = λ e h. part e (omega (arith, h, completes.edges)) (edge_kept f v e) refl;
      }
    where
      part : (e : ℕ) → e < head_edges f → (b : Bool) → edge_kept f v e ≡ b
          → Joins left.edges (from c.edges e) (to c.edges e) ⊎ (0 < missing left (from c.edges e))
      part e h true q =
          inl (picked_joins (edge_reward_in f) agrees e h q)
      part e h false q = inr (falls_short e h q)

  -- Request 10's theorem: the exact chance of a well-formed chain that the lost records complete lies between the two fractions, which are in
  -- lowest terms.
  pub salvage_holds : WellFormed short_rows (left_in f v) → (a : Bounds) → BoundsFigure true (left_in f v) a → ChanceBetween c a
  salvage_holds kept a figure =
      let fine : Fine (with_edges left c.edges) = subst Fine same_chain (formed_fine bare (chain_alone c) formed refl) in
      subst (λ z. ChanceBetween z a) (sym same_chain) (left_holds (left_in f v) kept c.edges lost_edges rejoined fine a figure)
