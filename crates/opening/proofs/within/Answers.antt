use Rattle.std.proofs.Common.{refl}
use Rattle.std.proofs.lemmas.Result.{err_from_is_err_and}
use Rattle.opening.specs.Asked.{Asked, Shown}
use Rattle.chainfile.specs.Input.{input}
use Rattle.opening.specs.declared.book.Opened.{Opened}
use Rattle.opening.proofs.Held.{opened, shown}
use Rattle.opening.proofs.within.Given.{Over}
use Rattle.opening.proofs.within.Goals as goal
use Rattle.opening.proofs.within.Goals.{After-rewards}

pub returns-in_err-book : goal.returns-in_err-book
returns-in_err-book g c =
    let p = err_from_is_err_and c.from_residual.result c.from_residual.ensures.1 in
    rw (p.1, p.2) (Asked.refused _ ((opened c.requires.room c.in_err-book.ensures).refused refl) refl refl)

-- The parts, as they are handed on.
abbrev parts : (g : Over) → After-rewards g → Opened
parts g c =
    record {
      given = record { chain = c.in_ok-book.book.chain; denominators = c.denominators.result; edges = c.edges.result };
      order = c.order.result;
      rewards = c.rewards.result;
    }

are_shown : (g : Over) (c : After-rewards g) → Shown (input c.args.kept.now c.args.more) (parts g c)
are_shown g c =
    shown (parts g c) ((opened c.requires.room c.in_ok-book.ensures).held refl) refl c.denominators.ensures c.edges.ensures c.order.ensures c.rewards.ensures

pub ask-requires : goal.ask-requires
ask-requires g c = c.requires.callable (parts g (goal.at.ask-requires g c).After-rewards) (are_shown g (goal.at.ask-requires g c).After-rewards) _ refl

pub returns : goal.returns
returns g c =
    let here = (goal.at.returns g c).After-rewards in
    Asked.asked (parts g here) (are_shown g here) (record { shown = _; shows = refl; called = c.ask.ensures })
