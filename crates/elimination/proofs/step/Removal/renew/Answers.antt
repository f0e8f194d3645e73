use mathlib.Core.Path.{◌≡◌, sym, ap, ◌∙◌}
use native.Mathlib.Omega.{arith}
use lib.ListN.{replicate}
use Rattle.meaning.specs.Row.{cell, width}
use Rattle.elimination.specs.Packed.{unpacked}
use Rattle.elimination.proofs.Laws.{packed_bit, packed_none, unpacked_none}
use Rattle.elimination.proofs.Rows.{renewed_own, renewed_some, taken_own, taken_some, tested_fit, became, no_row_fit}
use Rattle.elimination.proofs.step.Removal.renew.Goals as goal
use Rattle.elimination.proofs.step.Removal.renew.Goals.{Else-own}

pub returns-then-own : goal.returns-then-own
returns-then-own c =
    let a = c.args in
    let s = a.self.now in
    let p = unpacked s.n s.pivot.now in
    let r = unpacked s.n a.part.now in
    let e : c.clear.new.part ≡ replicate (width s.n) 0 = c.clear.ensures ∙ ap (λ m. replicate m 0) c.requires.0.size in
    rw e
    (became
    (unpacked_none s.n ∙ sym (renewed_own s.rounding s.n s.s s.d p r a.own c.if-own.true))
    (packed_none s.n)
    (rw (unpacked_none s.n) (tested_fit (no_row_fit s.rounding s.n) (sym (taken_own s.s s.d p r a.own c.if-own.true)))))

-- The row has a weight to s: its targets say so.
some_there : (c : Else-own) → let s = c.args.self.now in cell (unpacked s.n c.args.part.now) s.s ≡ 0 → ⊥
some_there c e =
    let s = c.args.self.now in
    let h = c.requires in
    omega (arith, (packed_bit h.0 s.s s.removable.state).0 (h.3 c.if-own.false))

pub change-requires : goal.change-requires
change-requires c =
    let h = c.requires in
    (h.0, h.1, h.2, h.3 c.if-own.false)

pub returns : goal.returns
returns c =
    let a = c.args in
    let s = a.self.now in
    let p = unpacked s.n s.pivot.now in
    let r = unpacked s.n a.part.now in
    let some = some_there (goal.at.returns c).Else-own in
    rw (renewed_some s.rounding s.n s.s s.d p r a.own c.if-own.false some, taken_some s.s s.d p r a.own c.if-own.false some) c.change.ensures
