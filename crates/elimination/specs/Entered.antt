-- What an engine's looking and elimination come to.
use Rattle.std.specs.Prelude.{◌≡◌, true, List, [], ℕ, Result, Ok, Err}
use Rattle.meaning.specs.Chain.{End}
use Rattle.meaning.specs.Figure.{Missed}
use Rattle.meaning.specs.Step.{Sets, RightTo}
use Rattle.meaning.specs.Refusal.{Lent, Entry, Refused, WellFormed}
use Rattle.meaning.specs.Outcome.{cleared}
use Rattle.elimination.specs.Engine.{rounds, is_paid, is_short}
use Rattle.elimination.specs.Pay.{pays}
use Rattle.elimination.specs.Log.{Logged}
use Rattle.elimination.specs.Run.{ends, runs, finished_in, records_run}
use Rattle.elimination.specs.declared.engine.Engine.{Engine}
use Rattle.chain.specs.Refusal.{number_of}
use Rattle.chain.specs.declared.refusal.Refusal.{Refusal}
use Rattle.elimination.specs.declared.course.Ends.{Ends}

-- What a turn earns in it.
abbrev pub pay_of : Engine → Lent → ℕ → ℕ
pay_of g l = pays (is_paid g) l.chain l.rewards

-- An expected reward is infinite where the goals may be missed, and then no row is made; else the elimination is run, and logged.
pub data Comes (g : Engine) (l : Lent) (k : Sets) (log : List ℕ) : Result Ends Refusal → Type 0 where
  missed : is_paid g ≡ true → Missed l.chain → Comes g l k log (Ok (ends 0 0 1 0))
  ran : {r : Result Ends Refusal} → (is_paid g ≡ true → Missed l.chain → ⊥) → runs (pay_of g l) (is_short g) (rounds g) l r
      → Logged log (records_run (pay_of g l) (is_short g) (rounds g) l k (finished_in l.chain.states r)) → Comes g l k log r

-- w is the work table afterwards and log the log: a refusal by the numbers 1 to 11 leaves them. The sets are the chain's own.
pub data Entered (x : Entry) (g : Engine) (l : Lent) (w log : List ℕ) : Result Ends Refusal → Type 0 where
  refused : (r : Refusal) → Refused x l (number_of r.fault) r.place → w ≡ l.work → Logged log [] → Entered x g l w log (Err r)
  came : {r : Result Ends Refusal} → WellFormed x l → w ≡ cleared l → (k : Sets) → RightTo l.chain (End (is_short g) l.chain) k → Comes g l k log r
      → Entered x g l w log r
