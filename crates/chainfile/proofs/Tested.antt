-- What a front that is right tells of the file.
use Prim.Native.Nat.{ℕ, ◌≤◌}
use native.Mathlib.Omega.{arith}
use mathlib.Core.List.{List}
use Rattle.meaning.specs.Block.{Input, state_blocks}
use Rattle.meaning.specs.File.{BlockRight}
use Rattle.meaning.specs.Salvage.{Opened, verdict}
use Rattle.chainfile.specs.Input.{input}
use Rattle.chainfile.specs.Tells.{Verdicts, Within}
use Rattle.judge.specs.Tells.{Front}
use Rattle.theory.specs.Files.Right.{bounded, flag_front}

pub within : (f : Input) → ((b : ℕ) → b ≤ state_blocks f → BlockRight f b) → Within (input f.kept 0)
within f front =
    let n = bounded f (front 0 (omega arith)) in
    record { few_states = n.few_states; few_edges = n.few_edges; flags = flag_front f front }

-- The verdicts on the edge blocks of a file whose front is right.
pub opened : (f : Input) (lost : List ℕ) → Front f → Verdicts f lost → Opened f (verdict lost)
opened f lost front v =
    record {
      whole = front.whole;
      total = front.total;
      front = front.blocks;
      kept = λ b l h. (v.edges b l h).kept;
      lost = λ b l h. (v.edges b l h).lost;
      none = v.others;
    }
