use mathlib.Core.Path.{◌≡◌, sym, ap, ◌∙◌}
use mathlib.Core.List.{List, ◌++◌}
use native.Mathlib.Omega.{arith}
use Prim.Native.Nat.{ℕ}
use lib.ListN.{length, take, length-replicate, length-append, length-drop}
use lib.Seq.{length-take-le, take-append_seam}
use Rattle.meaning.specs.Chain.{most_states}
use Rattle.theory.specs.Numbers.Tab.{tab_of}
use Rattle.theory.specs.Numbers.Walk.{walk_none}
use Rattle.figures.proofs.shares.numerators.Goals as goal
use Rattle.figures.proofs.shares.numerators.Invariants.{number}

-- The front of a table that was filled is what it was filled with.
front : (part rest : List ℕ) {n : ℕ} → length part ≡ n → take n (part ++ rest) ≡ part
front part rest e = ap (λ k. take k (part ++ rest)) (sym e) ∙ take-append_seam part rest

pub loop-i-init : goal.loop-i-init
loop-i-init c = walk_none

pub returns : goal.returns
returns c =
    let a = c.args in
    let z = c.loop-i.invariant in
    let size : length c.loop-i.part ≡ a.n = z.len ∙ length-take-le a.n _ (omega (arith, length-replicate {A = ℕ} most_states 0, c.requires)) in (
      simp (length-append, length-drop, length-replicate) (omega (arith, size, c.requires)),
      front _ _ size ∙ tab_of 0 a.n (number a.shares.now) c.loop-i.part size (λ j h. z.new j (omega arith)),
    )
