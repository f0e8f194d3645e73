use Prim.Native.Nat.{◌+◌, ◌≤◌}
use native.Mathlib.Omega.{arith}
use lib.ListN.{length}
use borrow.Author.Rules.{rules}
use Rattle.theory.specs.Numbers.Decimal.{digits}
use Rattle.meaning.specs.Text.{most_digits}
use Rattle.octets.proofs.Steps.{kept}
use Rattle.text.specs.Pieces.{written}
use Rattle.text.proofs.Naming.{named_room}
use Rattle.text.proofs.Paging.{one, and}
use Rattle.text.proofs.page.Page.named.Goals as goal

pub decimal-requires : goal.decimal-requires
decimal-requires c =
    let a = c.args in
    let page = a.self.now in
    let room : page.at + (length a.name.now + most_digits) ≤ length page.buffer.now = omega (arith, c.if-not-lacks.ensures) in
    let w = (one c.copy.ensures).written (omega (arith, room)) in
    omega (arith, w.past, kept w, room, digits 19 a.x (search rules))

pub returns-then-not-lacks : goal.returns-then-not-lacks
returns-then-not-lacks c =
    let a = c.args in
    let page = a.self.now in
    let name = a.name.now in
    let both = and (one c.copy.ensures) c.decimal.ensures in
    let room : page.at + (length name + most_digits) ≤ length page.buffer.now = omega (arith, c.if-not-lacks.ensures) in
    record { same = both.same; named = written room (both.written (named_room page.buffer.now page.at name a.x (search rules) room)) }
