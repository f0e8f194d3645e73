-- What is said of a table for the chain and tables of an accepted file.
use Rattle.std.specs.Prelude.{ℕ, List, Result}
use Rattle.meaning.specs.Block.{Input}
use Rattle.meaning.specs.Judge.{FileJudged}
use Rattle.chain.specs.declared.refusal.Refusal.{Refusal}
use Rattle.equations.specs.Judge.{told}
use Rattle.equations.specs.declared.verdict.Verdict.{Verdict}
use Rattle.opening.specs.Asked.{Shown}
use Rattle.opening.specs.declared.book.Opened.{Opened}

pub record Judges (p : Opened) (shares : List ℕ) (r : Result Verdict Refusal) : Type 0 where
  pub told : (f : Input) → Shown f p → FileJudged f shares (told r)
