use Rattle.elimination.proofs.Noting.{logged_zeros}
use Rattle.elimination.proofs.entry.with_steps.Goals as goal

pub noted-course-requires : goal.noted-course-requires
noted-course-requires c = logged_zeros
