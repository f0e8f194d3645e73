-- What is left of a chain, and a chain that completes it: its chance lies between what the last row of what is left says.
use Rattle.std.specs.Prelude.{ℕ, ◌+◌, ◌*◌, ◌≤◌, ◌<◌, ◌≡◌, ◌⊎◌, List}
use Rattle.std.proofs.Common.{sym, ap, subst, ◌∙◌, ⊎_elim, arith, mul-zero}
use Rattle.meaning.specs.Number.{bit}
use Rattle.meaning.specs.Chain.{Chain, denominator, edge_count, from, to, along, flow, Goal, PathTo, ToGoal, LiveTo}
use Rattle.meaning.specs.Figure.{Shares}
use Rattle.meaning.specs.Row.{Row, cell, total, rounding}
use Rattle.meaning.specs.Step.{row, Sets, outside, given, stage_from}
use Rattle.theory.specs.Chains.Flow.{flow_ext, flow_scale, flow_le}
use Rattle.theory.specs.Chains.Fine.{Fine}
use Rattle.theory.specs.Chains.Parted.{Joins}
use Rattle.theory.specs.Chains.Path.{dec_to_goal}
use Rattle.theory.specs.Rows.Relation.{worth}
use Rattle.theory.specs.Figures.Below.{share_below}
use Rattle.theory.specs.Stages.Given.{LiveRow, Fate, live, won, lost, fare, given_worth, given_whole, goes_on}
use Rattle.theory.specs.Rows.Columns.{Columns, columns_are}
use Rattle.theory.specs.Stages.Last.{PreparedTo, value_least, value_most}

-- The same chain with other edges.
abbrev pub with_edges : Chain → List ℕ → Chain
with_edges c edges =
    record { states = c.states; start = c.start; goals = c.goals; denominators = c.denominators; edges = edges }

-- The edges are those of c, which is left, and the rest, which are lost; u i is what is missing from the row of i.
pub record Rejoined (c : Chain) (u : ℕ → ℕ) (edges rest : List ℕ) : Type 0 where
  pub splits : (i : ℕ) (f : ℕ → ℕ) → flow edges i f ≡ flow c.edges i f + flow rest i f
  pub inside : (e : ℕ) → e < edge_count rest → to rest e < c.states
  pub parts : (e : ℕ) → e < edge_count edges → Joins c.edges (from edges e) (to edges e) ⊎ (0 < u (from edges e))

-- A path of the completed chain to a goal is one of what is left to an end.
module _ (c : Chain) (u : ℕ → ℕ) (End : ℕ → Type 0) (ends : (i : ℕ) → Goal c i → End i) (short : (i : ℕ) → 0 < u i → End i) (edges rest : List ℕ)
    (joined : Rejoined c u edges rest)
  where
    pub to_end : (i : ℕ) → ToGoal (with_edges c edges) i → PathTo c.edges End i
    to_end i (PathTo.here j g) = PathTo.here j (ends j g)
    to_end i (PathTo.step e h p) =
        ⊎_elim
        (λ w.
        subst (PathTo c.edges End) w.2
        (PathTo.step w.0 w.1 (subst (PathTo c.edges End) (sym w.3) (to_end (to edges e) p))))
        (λ w. PathTo.here (from edges e) (short (from edges e) w))
        (joined.parts e h)

module _
    (c : Chain)
    (k : Sets)
    (o : List ℕ)
    (u : ℕ → ℕ)
    (End : ℕ → Type 0)
    (ready : PreparedTo c k o u End)
    (short : (i : ℕ) → 0 < u i → End i)
    (edges rest : List ℕ)
    (joined : Rejoined c u edges rest)
    (fine : Fine (with_edges c edges))
    (d : ℕ)
    (x : ℕ → ℕ)
    (share : Shares (with_edges c edges) d x)
  where
    abbrev n : ℕ
    n = c.states

    abbrev completed : Chain
    completed = with_edges c edges

    -- What leads to no end is worth nothing in the completed chain.
    trapped : (t : ℕ) → t < n → bit k.good t ≡ 0 → x t ≡ 0
    trapped t h z = share.lost t h (λ p. omega (arith, z, (ready.right.good t).1 (to_end c u End ready.ends short edges rest joined t p)))

    small : (i : ℕ) → i < n → x i ≤ d
    small = share_below completed fine d x share

    -- The equation holds at every state that is no goal.
    equation : (i : ℕ) → i < n → (Goal c i → ⊥) → denominator c i * x i ≡ flow edges i x
    equation i h g =
        elim (dec_to_goal completed i) [
          | yes p ↦ share.flows i h g p
          | no f ↦ let z : flow edges i x ≡ flow edges i (λ _. 0 * 1) =
              flow_ext edges i x (λ _. 0 * 1)
              (λ e l q.
              share.lost (to edges e) (fine.targets e l) (λ p. f (subst (ToGoal completed) q (PathTo.step e l p)))) in
              rw (share.lost i h f) (omega (arith, z, flow_scale edges i 0 (λ _. 1)))
        ]

    missing_is : (i : ℕ) → i < n → flow rest i (λ _. 1) ≡ u i
    missing_is i h = omega (arith, joined.splits i (λ _. 1), fine.sums i h, ready.fine.sums i h)

    rest_small : (i : ℕ) → i < n → flow rest i x ≤ d * u i
    rest_small i h =
        omega (
          arith,
          flow_le rest i x (λ _. d * 1) (λ e l q. omega (arith, small (to rest e) (joined.inside e l))),
          flow_scale rest i d (λ _. 1),
          ap (λ z. d * z) (missing_is i h),
        )

    module _ (pay : ℕ → ℕ) (y : ℕ) (v : ℕ → ℕ) (are : Columns n x d 0 y 0 v) where
      fare_is : (t : ℕ) → t < n → Fate c k t → fare c k v t ≡ x t
      fare_is t h (live a b e) = rw (a, b, e) (omega (arith, are.state t h, mul-zero (v n), mul-zero (v (n + 1))))
      fare_is t h (won a b e) = rw (a, b, e) (omega (arith, are.goal, share.won t h b))
      fare_is t h (lost a b e) = rw (a, b, e) (omega (arith, are.trap, trapped t h e))

      kept_is : (i : ℕ) → LiveRow c k i → along c i (fare c k v) ≡ along c i x
      kept_is i q =
          flow_ext c.edges i (fare c k v) x
          (λ e h p.
          fare_is (to c.edges e) (ready.fine.targets e h)
          (goes_on c k pay u ready.fine End ready.ends ready.right i e q h p))

      worth_is : (i : ℕ) → LiveRow c k i → worth n (given c k pay (u i) i) v ≡ along c i x + u i * y
      worth_is i q = given_worth c k pay u ready.fine i v ∙ rw (kept_is i q, are.unknown, are.paid) (omega arith)

      total_is : (i : ℕ) → LiveRow c k i → total n (given c k pay (u i) i) * v i ≡ flow edges i x
      total_is i q =
          rw (given_whole c k pay u ready.fine End ready.ends ready.right i q, are.state i q.0)
          (equation i q.0 ((ready.right.live i).0 q.1).unwon)

    module _ (pay : ℕ → ℕ) (unpaid : (i : ℕ) → pay i ≡ 0) (alive : LiveTo c End c.start) where
      abbrev last : Row
      last = row (stage_from rounding c k pay u o n) c.start

      abbrev D : ℕ
      D = outside n c.start last

      -- The chance of the completed chain is at least what leads to Goal, and at most what leads to Goal or is Unknown.
      pub left_least : cell last n * d ≤ x c.start * D
      left_least =
          value_least c k o u End ready rounding pay (λ _. unpaid) alive d x
          (λ i q.
          let are = columns_are n x d 0 0 0 in
          omega (arith, worth_is pay 0 _ are i q, total_is pay 0 _ are i q, joined.splits i x))

      pub left_most : x c.start * D ≤ (cell last n + cell last (n + 2)) * d
      left_most =
          value_most c k o u End ready rounding pay (λ _. unpaid) alive d x small
          (λ i q.
          let are = columns_are n x d 0 d 0 in
          omega (arith, worth_is pay d _ are i q, total_is pay d _ are i q, joined.splits i x, rest_small i q.0))
