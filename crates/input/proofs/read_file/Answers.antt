use Rattle.input.proofs.Taking.{unopened}
use Rattle.input.proofs.read_file.Goals as goal

pub returns-in-Err : goal.returns-in-Err
returns-in-Err g c = unopened _
