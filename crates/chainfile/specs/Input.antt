-- An input from what is kept of it, passed on for the promises, and where the longest file ends.
use Rattle.std.specs.Prelude.{ℕ}
use Rattle.meaning.specs.Block.{block_at}
use Rattle.meaning.specs.File.{most_blocks}
pub use Rattle.octets.specs.Input.{input}

-- Where the most blocks of a file end.
abbrev pub end : ℕ
end = block_at most_blocks
