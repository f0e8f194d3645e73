-- Document 01's number of each fault.
use Rattle.std.specs.Prelude.{ℕ}
use Rattle.chain.specs.declared.refusal.Fault.{Fault}
use Rattle.chain.specs.declared.refusal.Fault.TheVariants as fault

abbrev pub number_of : Fault → ℕ
number_of fault.Length = 1
number_of fault.Room = 2
number_of fault.Start = 3
number_of fault.Goals = 4
number_of fault.Denominator = 5
number_of fault.EdgeState = 6
number_of fault.Weight = 7
number_of fault.EdgeGivenBefore = 8
number_of fault.RowSum = 9
number_of fault.Order = 10
number_of fault.Reward = 11
number_of fault.NoFit = 12
number_of fault.FileLength = 20
number_of fault.BlockCheck = 21
number_of fault.BlockNumber = 22
number_of fault.BlockKind = 23
number_of fault.BlockContent = 24
number_of fault.Copies = 30
number_of fault.PlanWeight = 31
number_of fault.Steps = 32
number_of fault.TableDenominator = 33
number_of fault.TableNumerator = 34
number_of fault.Limit = 35
number_of fault.Line = 40
number_of fault.TextLength = 41
