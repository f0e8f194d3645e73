use borrow.Author.Rules.{rules}
use Prim.Native.Nat.{ℕ, ◌^◌, ◌<◌, ◌≤◌}
use mathlib.Core.Path.{◌≡◌}
use mathlib.Core.Logic.{inl, inr}
use mathlib.Core.List.{List}
use native.Mathlib.Omega.{arith}
use lib.ListN.{length}
use Rattle.meaning.specs.Chain.{most_states, edge_count, from, to}
use Rattle.meaning.specs.Refusal.{EndFault}
use Rattle.survey.specs.Sets.{sets_of, Exactly}
use Rattle.choice.specs.Columns.{column_count, Among}
use Rattle.theory.specs.Numbers.Bits.{one_set}
use Rattle.choice.proofs.Members.{carried}
use Rattle.choice.proofs.columns.carry.Goals as goal

-- The ends of the edge are states.
ends : (n e : ℕ) (edges columns : List ℕ) → (length columns ≡ column_count) × (n ≤ most_states) × (e < edge_count edges) → ((e : ℕ) → EndFault n edges e → ⊥)
    → (from edges e < most_states) × (to edges e < n)
ends n e edges columns pre right =
    let a : n ≤ from edges e → ⊥ = λ l. right e (pre.2, inl l) in
    let b : n ≤ to edges e → ⊥ = λ l. right e (pre.2, inr l) in
    (omega (arith, a, pre), omega (arith, b))

pub overflow_shl-i : goal.overflow_shl-i
overflow_shl-i c =
    let inside = ends _ _ _ _ c.requires.columns_len c.requires.ends_right in
    omega (arith, inside.0, c.from-i.ensures)

pub join-requires : goal.join-requires
join-requires c =
    let inside = ends _ _ _ _ c.requires.columns_len c.requires.ends_right in
    omega (arith, inside.1, c.to-t.ensures, c.requires)

pub returns : goal.returns
returns c =
    let a = c.args in
    let inside = ends _ _ _ _ c.requires.columns_len c.requires.ends_right in
    let i = from a.edges.now a.e in
    let t = c.to-t.ensures in
    let one : Exactly (Among a.sets.live i (2 ^ i)) c.among-from.result =
    rw (one_set i inside.0) at (rw c.from-i.ensures at c.among-from.ensures) in
    carried a.c.states a.c.goals a.edges.now (sets_of a.sets) a.e inside.1 _ _ _ _ one
    (rw t at c.among-good.ensures)
    (rw t at c.among.ensures)
    (rw t at c.among-2.ensures)
    (search rules) (search rules)
    _ _ _ _ (rw t at c.join.ensures) c.join-2.ensures c.join-3.ensures
