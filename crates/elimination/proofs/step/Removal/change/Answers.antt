use mathlib.Core.Path.{◌≡◌}
use native.Mathlib.Omega.{arith}
use Rattle.elimination.specs.Packed.{states_of, Packed}
use Rattle.elimination.proofs.Laws.{packed_held, fit_modest}
use Rattle.elimination.proofs.Rows.{combined_summable, combined_unpaid}
use Rattle.elimination.proofs.step.Removal.change.Goals as goal
use Rattle.elimination.proofs.step.Removal.change.Goals.{After-replace}

pub replace-requires : goal.replace-requires
replace-requires c =
    let e = c.args.self.now in
    let r = e.removable in
    let h = c.requires in (
      record {
        state = omega (arith, e.few, r.state);
        target = h.3;
        divisor = r.divisor;
        held = packed_held (omega (arith, r.state)) h.0;
        small = omega (arith, h.0.size, e.few);
        weights = h.0.some;
        rest = h.0.rest;
        room = h.2;
        own = fit_modest h.0 h.1;
        other = r.modest;
      },
      r.spread,
    )

-- The new row is packed, in as many numbers.
states_new : (c : After-replace) → states_of c.replace.new.part ≡ c.args.self.now.n
states_new c = omega (arith, c.replace.auto.part, c.requires.0.size)

packed_new : (c : After-replace) → Packed c.args.self.now.n c.replace.new.part
packed_new c =
    let h = c.requires in
    c.replace.ensures.packed _ h.0.size h.0.inside c.args.self.now.removable.inside

pub settle-requires : goal.settle-requires
settle-requires c =
    let a = c.args in
    let r = a.self.now.removable in
    let h = c.requires in
    let at = (goal.at.settle-requires c).After-replace in
    let e = c.replace.ensures.row _ a.self.now.few r.state in
    rw (states_new at)
    (a.self.now.few, packed_new at, combined_summable r a.part.now h.1 (packed_new at) e, combined_unpaid r a.part.now h.1 (packed_new at) e)

pub returns : goal.returns
returns c =
    let e = c.args.self.now in
    rw (states_new (goal.at.returns c).After-replace, c.replace.ensures.row _ e.few e.removable.state) at c.settle.ensures
