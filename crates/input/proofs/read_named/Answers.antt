use Rattle.input.proofs.Taking.{missing, unopened}
use Rattle.input.proofs.read_named.Goals as goal

pub returns-in-Err : goal.returns-in-Err
returns-in-Err g c = missing

pub returns-in-Err-2 : goal.returns-in-Err-2
returns-in-Err-2 g c = unopened _
