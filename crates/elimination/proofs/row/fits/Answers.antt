use native.Mathlib.Omega.{arith}
use borrow.Author.Tests.{lt-leb}
use Rattle.meaning.specs.Chain.{M}
use Rattle.elimination.specs.Packed.{states_of}
use Rattle.elimination.proofs.Unpacked.{reward_stands}
use Rattle.elimination.proofs.Rows.{both_small}
use Rattle.elimination.proofs.row.fits.Goals as goal

pub returns-then-total-le-LIMIT : goal.returns-then-total-le-LIMIT
returns-then-total-le-LIMIT c =
    let p = c.args.part.now in
    both_small _ _ _ (omega arith) ((reward_stands (states_of p)).here p)

pub returns-else-total-le-LIMIT : goal.returns-else-total-le-LIMIT
returns-else-total-le-LIMIT c = rw (lt-leb c.total.result M c.if-total-le-LIMIT.false) (λ h. omega (arith, h.0))
