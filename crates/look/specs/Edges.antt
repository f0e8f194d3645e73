-- The places of the edges whose reward is too large.
use Rattle.std.specs.Prelude.{ℕ, ◌+◌, ◌≡◌, List}
use Rattle.meaning.specs.Chain.{most_states}
use Rattle.meaning.specs.Refusal.{EdgeRewardFault}

abbrev pub EdgePlace : List ℕ → ℕ → Type 0
EdgePlace edges p = (e : ℕ) × ((p ≡ most_states + e) × EdgeRewardFault edges e)
