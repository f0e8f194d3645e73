use Rattle.std.proofs.Common.{◌≡◌, length, get_or, sym, ap, ◌∙◌, arith}
use Rattle.near.specs.Row.{lowered_words, least_exponent}
use Rattle.near.proofs.Rows.{exponent_above, lowered_nothing}
use Rattle.near.proofs.Gaps.{spans_lower}
use Rattle.near.proofs.row.settle.Goals as goal

pub returns-then-k-eq0 : goal.returns-then-k-eq0
returns-then-k-eq0 c =
    let l = c.args.row.now in
    let e : 0 ≡ least_exponent (λ j. get_or l j 0) (length l) = sym c.if-k-eq0.true ∙ c.least-k.ensures in
    lowered_nothing l ∙ ap (λ k. lowered_words k l) e

pub lower_on-requires : goal.lower_on-requires
lower_on-requires c =
    let l = c.args.row.now in
    let g = c.requires.0 in
    (omega arith, omega (arith, g), λ j a b. omega (arith, g, c.least-k.ensures, exponent_above (λ i. get_or l i 0) (length l) j (omega (arith, g))))

pub lower_on-requires-2 : goal.lower_on-requires-2
lower_on-requires-2 c =
    let l = c.args.row.now in
    let g = c.requires.0 in
    let z = c.lower_on.ensures in (
      g.1,
      omega (arith, z.len),
      λ j a b. rw (z.after j (omega (arith, g))) (omega (arith, c.least-k.ensures, exponent_above (λ i. get_or l i 0) (length l) j (omega arith))),
    )

pub returns : goal.returns
returns c =
    spans_lower c.args.row.now _ _ c.args.gap c.requires.0 c.requires.1 _ c.lower_on.ensures c.lower_on-2.ensures
    ∙ ap (λ k. lowered_words k c.args.row.now) c.least-k.ensures
