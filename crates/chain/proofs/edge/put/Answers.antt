use Prim.Native.Nat.{ℕ, ◌+◌, ◌-◌, ◌*◌, ◌/◌, ◌%◌, ◌≤◌, ◌<◌}
use mathlib.Core.Path.{◌≡◌, refl}
use mathlib.Core.Logic.{⊎_elim}
use mathlib.Core.List.{List}
use native.Mathlib.Omega.{arith}
use lib.Dec.{eqb}
use lib.ListN.{length, get_or}
use borrow.Author.Tests.{eq-eqb, ne_eqb, lt-ltb, le-ltb}
use borrow.Author.Rules.{rules}
use borrow.Rule.Slice.PartMut.{put_mid}
use Rattle.std.proofs.lemmas.List.{places}
use Rattle.meaning.specs.Number.{choose}
use Rattle.meaning.specs.Chain.{edge_size, edge, edge_count}
use Rattle.theory.specs.Numbers.Sum.{below}
use Rattle.theory.specs.Numbers.Tab.{tab_of}
use Rattle.chain.specs.Edge.{placed}
use Rattle.chain.proofs.edge.put.Goals as goal

past : (l : List ℕ) (e : ℕ) (numbers : List ℕ) → edge_count l ≤ e → l ≡ placed l e numbers
unfolding placed
past l e numbers h = rw (le-ltb e (edge_count l) h)

-- A list in which n numbers are put from p on, where edge e begins.
module _ (l numbers : List ℕ) (e p n : ℕ) (begins : p ≡ edge_size * e) (four : n ≡ edge_size) (all : length numbers ≡ n) (h : e < edge_count l) where
  abbrev row : List ℕ
  row = put_mid p n l numbers

  number : (j : ℕ) → get_or row j 0 ≡ choose (eqb (j / edge_size) e) (get_or numbers (j % edge_size) 0) (get_or l j 0)
  number j =
      ⊎_elim
      (λ (q : j < p). rw (ne_eqb (j / edge_size) e (omega arith)) (search (rules, places)))
      (λ (q : p ≤ j).
      ⊎_elim
      (λ (w : j < p + n). let m : j % edge_size ≡ j - p = omega arith in rw (eq-eqb (j / edge_size) e (omega arith), m) (search (rules, places)))
      (λ (w : p + n ≤ j). rw (ne_eqb (j / edge_size) e (omega arith)) (search (rules, places)))
      (below j (p + n)))
      (below j p)

  set-placed : row ≡ placed l e numbers
  unfolding placed
  set-placed = rw (lt-ltb e (edge_count l) h) (tab_of 0 (length l) _ row (search (rules, places)) (λ j _. number j))

pub returns-then-count-e : goal.returns-then-count-e
returns-then-count-e c = past _ _ _ (search rules)

pub returns : goal.returns
returns c =
    let a = c.args in
    rw c.copy_from_slice.ensures.after (set-placed a.edges.now (edge a.from a.to a.weight a.reward) a.e _ _ refl (omega arith) (omega arith) (search rules))
