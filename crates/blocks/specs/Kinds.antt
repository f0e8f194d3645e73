-- The byte that says a block's kind.
use Rattle.std.specs.Prelude.{ℕ}
use Rattle.blocks.specs.declared.Kind.{Kind}
use Rattle.blocks.specs.declared.Kind.TheVariants.{Head, State, Edge}

abbrev pub byte_of : Kind → ℕ
byte_of Head = 1
byte_of State = 2
byte_of Edge = 3
