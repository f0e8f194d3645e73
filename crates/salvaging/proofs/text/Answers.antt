use Rattle.theory.specs.Numbers.Decide.{fails}
use Rattle.salvaging.proofs.Read.{whole_accepted, whole_lent}
use Rattle.salvaging.proofs.text.Goals as goal

pub returns-else-damaged : goal.returns-else-damaged
returns-else-damaged c = λ more h.
    let none = fails _ c.damaged.ensures c.if-damaged.false in
    c.whole.ensures _ (whole_accepted h none) (whole_lent h none)
