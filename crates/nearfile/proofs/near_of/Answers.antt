use Rattle.std.proofs.Common.{◌≡◌, ℕ, Option, None, Some, MatchOption, rules}
use Rattle.nearfile.specs.From.{start_of}
use Rattle.nearfile.proofs.Asked.{asked_near}
use Rattle.nearfile.proofs.near_of.Goals as goal

-- The start, by what is answered of the number that takes its place.
start_is : (from : Option ℕ) (own s : ℕ) (P : ℕ → Type 0) → ((i : ℕ) → P i → s ≡ i) → MatchOption from (s ≡ own) P → s ≡ start_of from own
start_is None own s P f h = h
start_is (Some i) own s P f h = f i h

pub returns : goal.returns
returns c =
    let start = start_is c.args.from c.args.opened.now.given.chain.start c.map_or.result _ (λ i p. search rules) c.map_or.ensures in
    record { told = λ f s. asked_near s.holds c.args.from c.near_unlent.result c.map_or.result start c.near_unlent.ensures }
