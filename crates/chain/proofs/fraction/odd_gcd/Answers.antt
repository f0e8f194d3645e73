use mathlib.Core.Path.{◌≡◌, sym, ap, ◌∙◌}
use mathlib.Core.Logic.{⊎_elim}
use native.Mathlib.Omega.{arith}
use Rattle.meaning.specs.Number.{gcd}
use Rattle.theory.specs.Numbers.Sum.{below}
use Rattle.theory.specs.Numbers.Twos.{gcd_self}
use Rattle.chain.proofs.fraction.odd_gcd.Goals as goal

pub loop-x-preserved : goal.loop-x-preserved
loop-x-preserved c =
    let p = c.odd_apart-z.ensures in
    (⊎_elim (λ w. omega arith) (λ w. omega arith) (below c.loop-x.x c.loop-x.y), p.0, rw c.min-x.ensures (p.2 ∙ c.loop-x.invariant.2))

pub returns : goal.returns
returns c =
    let k = c.loop-x in
    let e : k.x ≡ k.y = omega arith in
    sym (gcd_self k.x) ∙ ap (gcd k.x) e ∙ k.invariant.2
