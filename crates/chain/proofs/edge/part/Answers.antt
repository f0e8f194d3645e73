use Prim.Native.Nat.{ℕ, ◌-◌, ◌*◌}
use mathlib.Core.Path.{sym, ap, ◌∙◌}
use mathlib.Core.List.{List}
use native.Mathlib.Omega.{arith}
use lib.ListN.{length, get_or, drop, length-drop, get_or-eq_default}
use lib.Seq.{get_or-drop}
use Rattle.std.proofs.lemmas.List.{take_all}
use Rattle.meaning.specs.Chain.{edge_size}
use Rattle.chain.proofs.edge.part.Goals as goal

pub returns-then-count-e : goal.returns-then-count-e
returns-then-count-e c = let a = c.args in sym (get_or-eq_default a.edges.now 0 (omega arith))

pub returns : goal.returns
returns c =
    let a = c.args in
    let b = edge_size * a.e in
    let l = a.edges.now in
    c.at.ensures
    ∙ ap (λ (z : List ℕ). get_or z a.k 0) (take_all (length l - b) (drop b l) (simp length-drop (omega arith)))
    ∙ get_or-drop b l a.k 0
