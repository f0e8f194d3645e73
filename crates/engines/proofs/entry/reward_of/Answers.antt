use mathlib.Core.Path.{refl, sym, ap, ◌∙◌}
use borrow.Author.Tests.{eq-eqb, ne_eqb}
use Rattle.std.specs.Prelude.{Ok}
use Rattle.std.proofs.lemmas.Result.{err_from_is_err_and}
use Rattle.chain.specs.declared.fraction.Fraction.{Fraction}
use Rattle.engines.specs.declared.answer.Reward.TheVariants.{Is}
use Rattle.engines.specs.ReadOff.{reward_of}
use Rattle.engines.proofs.Outcomes.{reduced_of}
use Rattle.engines.proofs.entry.reward_of.Goals as goal

pub returns-in_err-ends : goal.returns-in_err-ends
returns-in_err-ends c =
    let p = err_from_is_err_and c.from_residual.result c.from_residual.ensures.1 in
    rw (p.1, p.2) (sym (ap reward_of c.in_err-ends.was))

pub returns-then-ends-eq0 : goal.returns-then-ends-eq0
returns-then-ends-eq0 c = rw (c.in_ok-ends.was, eq-eqb _ 0 c.if-ends-eq0.true) refl

pub returns : goal.returns
returns c =
    ap (λ (f : Fraction). Ok (Is f)) (reduced_of c.new.ensures c.reduce.ensures)
    ∙ sym (ap reward_of c.in_ok-ends.was ∙ rw (ne_eqb c.in_ok-ends.ends.outside 0 c.if-ends-eq0.false))
