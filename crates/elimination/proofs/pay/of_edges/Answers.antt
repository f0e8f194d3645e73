use Prim.Native.Nat.{ℕ, ◌*◌, ◌≤◌, ◌<◌}
use mathlib.Core.Path.{◌≡◌, ap₂}
use mathlib.Core.List.{List}
use native.Mathlib.Nat.{mul-le-mul}
use native.Mathlib.Omega.{arith}
use borrow.Author.Rules.{rules}
use Rattle.meaning.specs.Chain.{most_states, edge_count, edge_rewards}
use Rattle.look.proofs.Gather.{none, more, all}
use Rattle.elimination.specs.Pay.{PayingEdges}
use Rattle.elimination.proofs.pay.of_edges.Goals as goal
use Rattle.elimination.proofs.pay.of_edges.Invariants.{worth, each}
use Rattle.elimination.proofs.pay.of_edges.Goals.{After-reward}

small : {edges : List ℕ} → PayingEdges edges → (e : ℕ) → e < edge_count edges → worth edges e ≤ each
small p e h = mul-le-mul (p.weights e h) (p.rewards e h)

pub loop-e-init : goal.loop-e-init
loop-e-init c = none _ _ _

-- What the edge brings, and where: a state of the table.
module _ (c : After-reward) where
  inside : c.loop-e.e < edge_count c.args.edges.now
  inside = omega (arith, c.count-e-end.ensures, c.loop-e-test.true)

  here : c.from-i.result < most_states
  here = omega (arith, c.from-i.ensures, c.requires.sources c.loop-e.e inside)

  brings : c.weight.result * c.reward.result ≡ worth c.args.edges.now c.loop-e.e
  brings = ap₂ (λ x y. x * y) c.weight.ensures c.reward.ensures

  low : worth c.args.edges.now c.loop-e.e ≤ each
  low = small c.requires c.loop-e.e inside

pub overflow_mul-sums : goal.overflow_mul-sums
overflow_mul-sums c = omega (arith, brings c, low c)

pub offset_bounds-sums-i : goal.offset_bounds-sums-i
offset_bounds-sums-i c = omega (arith, here c)

pub bounds-sums-i : goal.bounds-sums-i
bounds-sums-i c = here c

pub overflow_add-sums : goal.overflow_add-sums
overflow_add-sums c =
    omega (arith, brings c, low c, c.loop-e.invariant.most _ (here c), c.loop-e.invariant.past, c.requires.few)

pub bounds-sums-i-in-loop-e : goal.bounds-sums-i-in-loop-e
bounds-sums-i-in-loop-e c = here c

pub loop-e-preserved : goal.loop-e-preserved
loop-e-preserved c =
    let edges = c.args.edges.now in
    more edges (worth edges) each c.loop-e.e (inside c) (low c) _ c.loop-e.invariant _ _ c.from-i.ensures (brings c)

pub returns : goal.returns
unfolding edge_rewards
returns c =
    let z = c.loop-e.invariant in
    record {
      size = z.size;
      is = all _ _ _ z (search rules);
      most = λ i h. omega (arith, z.most i h, z.past, c.requires.few);
    }
