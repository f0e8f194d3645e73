use mathlib.Core.Path.{refl, subst}
use native.Mathlib.Omega.{arith}
use borrow.Author.Rules.{rules}
use Rattle.egorstream.specs.Near.{Small}
use Rattle.egorstream.proofs.Nearing.{replied_found, replied_refused}
use Rattle.egorstream.proofs.nearly.reply.Goals as goal

pub shown-requires : goal.shown-requires
shown-requires c = (subst Small c.in-Ok.is c.requires).0

pub shown-requires-in-Ok : goal.shown-requires-in-Ok
shown-requires-in-Ok c = (subst Small c.in-Ok.is c.requires).1

pub overflow_cast-result : goal.overflow_cast-result
overflow_cast-result c = let p = subst Small c.in-Err.is c.requires in omega (arith, p)

pub returns-in-Ok : goal.returns-in-Ok
returns-in-Ok c = replied_found c.args.n _ c.in-Ok.is refl refl c.shown.ensures c.shown-in-Ok.ensures

pub returns-in-Err : goal.returns-in-Err
returns-in-Err c = replied_refused c.args.n _ c.in-Err.is c.number.ensures.0 refl c.shown-in-Err.ensures c.shown-in-Err-2.ensures
