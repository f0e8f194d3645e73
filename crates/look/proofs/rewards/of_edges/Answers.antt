use Prim.Native.Nat.{ℕ, ◌<◌}
use Rattle.std.proofs.Common.{rules}
use Rattle.std.proofs.lemmas.Iterator.{first_from_Range}
use Rattle.meaning.specs.Chain.{most_reward, edge_reward}
use Rattle.look.proofs.Found.{ranged}
use Rattle.look.proofs.rewards.of_edges.Goals as goal

pub returns : goal.returns
returns c =
    let P = λ (e : ℕ). most_reward < edge_reward c.args.edges.now e in
    ranged P c.count.ensures _
    (first_from_Range _ _ _ _ P (λ e. P e → ⊥) c.find.ensures.ran (λ x q k. search rules) (λ x q k. search rules))
