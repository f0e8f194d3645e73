use Rattle.std.proofs.Common.{rules}
use Rattle.std.proofs.lemmas.Iterator.{first_from_Range}
use Rattle.meaning.specs.Chain.{weight}
use Rattle.meaning.specs.Refusal.{OutOfRange}
use Rattle.look.proofs.Found.{ranged}
use Rattle.look.proofs.scan.weights.Goals as goal

pub returns : goal.returns
returns c =
    let edges = c.args.edges.now in
    ranged (λ e. OutOfRange (weight edges e)) c.count.ensures _
    (first_from_Range _ _ _ _ (λ e. OutOfRange (weight edges e)) (λ e. OutOfRange (weight edges e) → ⊥) c.find.ensures.ran (λ x q k. search rules) (λ x q k. search rules))
