use Rattle.std.proofs.Common.{rules, tests, ◌≡◌, get_or}
use Rattle.std.proofs.lemmas.Iterator.{first_from_Range}
use Rattle.meaning.specs.ChainText.{newline}
use Rattle.chaintext.proofs.Splitting.{line_end}
use Rattle.chaintext.proofs.split.end.Goals as goal

pub returns : goal.returns
returns c =
    let a = c.args in
    let first = first_from_Range _ _ _ c.find.result (λ i. get_or a.text.now i 0 ≡ newline) (λ i. get_or a.text.now i 0 ≡ newline → ⊥) c.find.ensures.ran (λ x q k. search (rules, tests)) (λ x q k. search (rules, tests)) in
    rw c.unwrap_or.ensures (line_end a.text.now a.at c.requires c.find.result first)
