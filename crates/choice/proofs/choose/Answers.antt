use mathlib.Core.Path.{refl, ap}
use mathlib.Core.Bool.{false}
use mathlib.Core.List.{[]}
use Rattle.meaning.specs.Choice.{choice, list_wrong, refused, chosen}
use Rattle.chain.specs.Given.{with}
use Rattle.look.proofs.Refuse.{handed}
use Rattle.survey.proofs.Surveyed.{refusing, found}
use Rattle.choice.specs.Told.{Chooses}
use Rattle.choice.proofs.choose.Goals as goal

pub returns-then-order-g : goal.returns-then-order-g
returns-then-order-g c = rw (c.from.ensures.0, c.from.ensures.1) (list_wrong c.if-order-g.true refl refl)

pub returns-in_err-found : goal.returns-in_err-found
returns-in_err-found c =
    let l = with c.args.g.now [] [] [] in
    let o = c.args.order.now in
    handed (λ r. Chooses l o r o) _ _ c.from_residual.ensures.1
    (refused c.if-order-g.false _ _ (refusing false l c.of.ensures c.in_err-found.was) refl refl)

pub order_all-requires : goal.order_all-requires
order_all-requires c =
    let f = found false (with c.args.g.now [] [] []) c.of.ensures c.in_ok-found.was in
    (_, record { formed = f.0; right = f.1.right; size = c.if-order-g.false })

pub returns : goal.returns
returns c =
    let size = c.if-order-g.false in
    let f = found false (with c.args.g.now [] [] []) c.of.ensures c.in_ok-found.was in
    let o = c.order_all.ensures _ (record { formed = f.0; right = f.1.right; size = size }) in
    chosen size f.0 _ f.1.right o.count o.chosen (ap choice o.sums)
