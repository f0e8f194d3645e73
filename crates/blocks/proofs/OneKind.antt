-- The byte of a block's kind names it: no two kinds have the same.
use Prim.Native.Nat.{ℕ}
use mathlib.Core.Path.{◌≡◌, refl, sym, ap, ◌∙◌}
use lib.Dec.{eqb}
use Rattle.meaning.specs.Number.{choose}
use Rattle.blocks.specs.Kinds.{byte_of}
use Rattle.blocks.specs.declared.Kind.{Kind}
use Rattle.blocks.specs.declared.Kind.TheVariants as kind

-- The kind of a byte, and any other where there is none.
abbrev kind_of : ℕ → Kind
kind_of n = choose (eqb n 1) kind.Head (choose (eqb n 2) kind.State kind.Edge)

back : (k : Kind) → kind_of (byte_of k) ≡ k
back kind.Head = refl
back kind.State = refl
back kind.Edge = refl

pub one_kind : (k l : Kind) → byte_of k ≡ byte_of l → k ≡ l
one_kind k l e = sym (back k) ∙ ap kind_of e ∙ back l
