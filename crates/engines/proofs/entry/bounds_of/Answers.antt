use mathlib.Core.Path.{sym, ap, ap₂, ◌∙◌}
use Rattle.std.specs.Prelude.{Ok}
use Rattle.std.proofs.lemmas.Result.{err_from_is_err_and}
use Rattle.chain.specs.declared.fraction.Fraction.{Fraction}
use Rattle.engines.specs.ReadOff.{bounds_of}
use Rattle.engines.proofs.Outcomes.{reduced_of}
use Rattle.engines.proofs.entry.bounds_of.Goals as goal

pub returns-in_err-ends : goal.returns-in_err-ends
returns-in_err-ends c =
    let p = err_from_is_err_and c.from_residual.result c.from_residual.ensures.1 in
    rw (p.1, p.2) (sym (ap bounds_of c.in_err-ends.was))

pub returns : goal.returns
returns c =
    ap₂ (λ (f g : Fraction). Ok (record { lower = f; upper = g })) (reduced_of c.new.ensures c.reduce.ensures) (reduced_of c.new-2.ensures c.reduce-2.ensures)
    ∙ sym (ap bounds_of c.in_ok-ends.was)
