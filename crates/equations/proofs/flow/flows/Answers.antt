use Prim.Native.Nat.{ℕ, ◌+◌, ◌*◌, ◌^◌, ◌<◌}
use mathlib.Core.Path.{◌≡◌, refl, ap, ap₂, ◌∙◌}
use mathlib.Core.List.{List}
use native.Mathlib.Omega.{arith}
use lib.ListN.{get_or}
use borrow.Author.Tests.{eq-eqb}
use borrow.Author.Rules.{rules}
use Rattle.meaning.specs.Number.{sum_to}
use Rattle.meaning.specs.Chain.{most_states, edge_count, from, carried, flow}
use Rattle.theory.specs.Numbers.Sum.{sum_up}
use Rattle.look.proofs.Ends.{from_below}
use Rattle.look.proofs.Gather.{brought, none, more, all}
use Rattle.equations.specs.Carry.{value_in, Carries}
use Rattle.equations.proofs.flow.flows.Goals as goal
use Rattle.equations.proofs.flow.flows.Invariants.{worth}
use Rattle.equations.proofs.flow.flows.Goals.{After-at}

-- No sum on the way outgrows the whole one.
sum_fits : (edges values : List ℕ) → Carries edges values → (e : ℕ) → e < edge_count edges
    → sum_to (brought edges (worth edges values) (from edges e)) e + worth edges values e < 2 ^ 64
unfolding flow carried
sum_fits edges values k e h =
    omega (
      arith,
      rw (eq-eqb (from edges e) (from edges e) refl) at (sum_up (brought edges (worth edges values) (from edges e)) e (edge_count edges) h),
      k.fits e h,
    )

pub loop-e-init : goal.loop-e-init
loop-e-init c = none _ _ _

-- What the edge brings, and where: a state of the table.
module _ (c : After-at) where
  abbrev edges : List ℕ
  edges = c.args.edges.now

  abbrev values : List ℕ
  values = c.args.values.now

  abbrev e : ℕ
  e = c.loop-e.e

  inside : e < edge_count edges
  inside = omega (arith, c.count-e-end.ensures, c.loop-e-test.true)

  source : c.from-i.result < most_states
  source = omega (arith, c.from-i.ensures, from_below edges c.requires.ends e inside)

  brings : c.weight.result * c.at.result ≡ worth edges values e
  brings = ap₂ (λ x y. x * y) c.weight.ensures (c.at.ensures ∙ ap (value_in values) c.to-j.ensures)

  fits : sum_to (brought edges (worth edges values) (from edges e)) e + worth edges values e < 2 ^ 64
  fits = sum_fits edges values c.requires e inside

  held : get_or c.loop-e.sums c.from-i.result 0 ≡ sum_to (brought edges (worth edges values) (from edges e)) e
  held = c.loop-e.invariant.is _ source ∙ ap (λ i. sum_to (brought edges (worth edges values) i) e) c.from-i.ensures

pub overflow_mul-sums : goal.overflow_mul-sums
overflow_mul-sums c = omega (arith, brings c, fits c)

pub offset_bounds-sums-i : goal.offset_bounds-sums-i
offset_bounds-sums-i c = omega (arith, source c)

pub bounds-sums-i : goal.bounds-sums-i
bounds-sums-i c = source c

pub overflow_add-sums : goal.overflow_add-sums
overflow_add-sums c = omega (arith, brings c, fits c, held c)

pub bounds-sums-i-in-loop-e : goal.bounds-sums-i-in-loop-e
bounds-sums-i-in-loop-e c = source c

pub loop-e-preserved : goal.loop-e-preserved
loop-e-preserved c =
    more (edges c) (worth (edges c) (values c)) (2 ^ 64) (e c) (inside c) (omega (arith, fits c)) _ c.loop-e.invariant _ _ c.from-i.ensures (brings c)

pub returns : goal.returns
unfolding flow carried
returns c = record { is = all _ _ _ c.loop-e.invariant (search rules) }
