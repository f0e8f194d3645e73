use Rattle.choice.proofs.Ordering.{surveyed_few, surveyed_start, surveyed_ends, ready, rest_fits, ordered}
use Rattle.choice.proofs.order_all.Goals as goal

pub first-columns-requires : goal.first-columns-requires
first-columns-requires c = let s = c.requires.1 in record { few_states = surveyed_few _ _ _ _ _ s; ends_right = surveyed_ends _ _ _ _ _ s }

pub without-going-requires : goal.without-going-requires
without-going-requires c = surveyed_start _ _ _ _ _ c.requires.1

pub take-taken-requires : goal.take-taken-requires
take-taken-requires c =
    let s = c.requires.1 in (_, _, ready _ _ _ _ _ s _ c.without-going.ensures _ c.first-columns.ensures)

pub put_rest-requires : goal.put_rest-requires
put_rest-requires c =
    let s = c.requires.1 in
    let w = c.without-going.ensures in
    (rest_fits _ _ _ _ _ s _ w _ _ (c.take-taken.ensures _ _ (ready _ _ _ _ _ s _ w _ c.first-columns.ensures)), surveyed_few _ _ _ _ _ s)

pub returns : goal.returns
returns c =
    let w = c.without-going.ensures in
    λ d s.
    ordered _ _ _ _ _ s _ w _ _ (c.take-taken.ensures _ _ (ready _ _ _ _ _ s _ w _ c.first-columns.ensures)) _ c.put_rest.ensures
