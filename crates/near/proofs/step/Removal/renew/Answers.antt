use Rattle.std.proofs.Common.{length, sym, ap, ◌∙◌, arith, rules}
use Rattle.near.specs.Row.{joined}
use Rattle.near.proofs.Steps.{renewed_none, renewed_some}
use Rattle.near.proofs.Rows.{replaced_length}
use Rattle.near.proofs.step.Removal.renew.Goals as goal

pub returns-then-part-self-eq0 : goal.returns-then-part-self-eq0
returns-then-part-self-eq0 c =
    let a = c.args in
    let z = renewed_none a.self.now.s a.self.now.d (joined a.self.now.pivot.now) a.part.now (search rules) in
    (sym z.0, sym z.1, omega arith)

pub shape_of-part : goal.shape_of-part
shape_of-part c = ap length c.replace.ensures ∙ (let a = c.args in replaced_length a.self.now.s a.self.now.d (joined a.self.now.pivot.now) a.part.now)

pub returns : goal.returns
returns c =
    let a = c.args in
    let z = renewed_some a.self.now.s a.self.now.d (joined a.self.now.pivot.now) a.part.now (search rules) in
    (c.replace.ensures ∙ sym z.0, sym z.1, omega arith)
