use Rattle.std.proofs.Common.{◌≡◌, refl, ap, ◌∙◌, arith, rules, ne_eqb}
use Rattle.near.specs.Word.{value}
use Rattle.near.proofs.Words.{value_none}
use Rattle.near.proofs.answer.missing.Goals as goal

pub returns-then-t-eq0 : goal.returns-then-t-eq0
returns-then-t-eq0 c =
    let e : value c.args.t ≡ 0 = ap value (search rules) ∙ value_none in
    rw (e, c.exactly.ensures) (record { lower = refl; upper = refl; twos = refl })

pub bounds-requires : goal.bounds-requires
bounds-requires c =
    (c.requires.0 (search rules), c.requires.1, c.requires.2)

pub returns-else-t-eq0 : goal.returns-else-t-eq0
returns-else-t-eq0 c =
    let h = c.requires.0 (search rules) in
    rw (ne_eqb (value c.args.t) 0 (omega (arith, h))) c.bounds.ensures
