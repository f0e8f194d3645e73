-- For every input the program has a text to print.
use Rattle.std.specs.Prelude.{ℕ, zero, suc, ◌+◌, ◌-◌, ◌≤◌, ◌<◌, ◌≡◌, refl, List}
use Rattle.std.proofs.Common.{subst, inl, inr, ⊎_elim, arith}
use Rattle.std.proofs.Math.Logic.Dec
use Rattle.std.proofs.Math.Decide.{ℕ_discrete}
use Rattle.meaning.specs.Chain.{edge_count}
use Rattle.meaning.specs.Refusal.{Lent, Applies, Refused}
use Rattle.meaning.specs.Left.{short_rows}
use Rattle.meaning.specs.Block.{Input, demanded, head_edges}
use Rattle.meaning.specs.File.{plain_in, edge_in}
use Rattle.meaning.specs.Salvage.{Opened, Lost, edge_kept, kept_edges, kept_before, left_in, PlaceIn, Salvaged}
use Rattle.theory.specs.Numbers.Sum.{below}
use Rattle.theory.specs.Numbers.Search.{turned, anywhere}
use Rattle.theory.specs.Chains.Picked.{picked_edges}
use Rattle.theory.specs.Outcomes.Computed.{bounds_outcome}
use Rattle.theory.specs.Outcomes.LeftOne.{left_outcome}
use Rattle.theory.specs.Outcomes.Look.{LookResult, look}
use Rattle.theory.specs.Files.Opened.{opened_accepted, lost_inside, index_exists}
use Rattle.theory.specs.Files.Decided.{front_decided}
use Rattle.theory.specs.Files.SalvageOne.{whole_salvaged}

-- 6, 7 and 8 are at an edge.
edge_inside : (l : Lent) (k place : ℕ) → k < 3 → Applies short_rows l (6 + k) place → place < edge_count l.chain.edges
edge_inside l zero place h a = a.0
edge_inside l (suc zero) place h a = a.0
edge_inside l (suc (suc zero)) place h a = a.0
edge_inside l (suc (suc (suc k))) place h a = absurd (omega arith)

module _ (f : Input) (v : ℕ → ℕ) where
  kept_count : edge_count (kept_edges f v (head_edges f)) ≡ kept_before f v (head_edges f)
  kept_count = omega (arith, picked_edges (edge_kept f v) (edge_in f) (λ _. refl) (head_edges f))

  -- An edge that refuses what is left has an index in the whole file.
  pub place_exists : (number place : ℕ) → Refused short_rows (left_in f v) number place → (at : ℕ) × PlaceIn f v number place at
  place_exists number place r =
      ⊎_elim
      (λ (h : 5 < number).
      ⊎_elim
      (λ (l : number < 9). let w = index_exists {f = f} {v = v} place (inside h l) in (w.0, PlaceIn.edge w.0 h l w.1))
      (λ (l : 9 ≤ number). (place, PlaceIn.other (inr l)))
      (below number 9))
      (λ (h : number ≤ 5). (place, PlaceIn.other (inl h)))
      (below 5 number)
    where
      inside : 5 < number → number < 9 → place < kept_before f v (head_edges f)
      inside h l =
          let e : number ≡ 6 + (number - 6) = omega arith in
          omega (
            arith,
            kept_count,
            edge_inside (left_in f v) (number - 6) place (omega arith) (subst (λ z. Applies short_rows (left_in f v) z place) e r.applies),
          )

  -- Of a file that is opened and has lost a block.
  left_salvaged : Opened f v → Lost v → (t : List ℕ) × Salvaged f t
  left_salvaged opened lost =
      elim (look short_rows (left_in f v)) [
        | LookResult.refused number place r ↦ let w = place_exists number place r in
            (_, Salvaged.left_refused v opened lost number place w.0 r w.1 refl)
        | LookResult.formed formed ↦ let o = left_outcome (left_in f v) in
            (_, Salvaged.left v opened lost formed o.answer o.work o.outcome refl)
      ]

  -- Whether a block is lost.
  lost_decided : Opened f v → Dec (Lost v)
  lost_decided opened =
      turned (λ w. (w.0, w.1.1)) (λ w. (w.0, ((lost_inside opened w.0 w.1).1, w.1)))
      (anywhere (λ b. v b ≡ 0 → ⊥) (demanded f) (λ b. Dec.not (ℕ_discrete (v b) 0)))

  opened_salvaged : Opened f v → (t : List ℕ) × Salvaged f t
  opened_salvaged opened =
      elim (lost_decided opened) [
        | yes lost ↦ left_salvaged opened lost
        | no none ↦ (_, whole_salvaged (opened_accepted opened none) (bounds_outcome (plain_in f)).outcome)
      ]

pub salvage_exists : (f : Input) → (t : List ℕ) × Salvaged f t
salvage_exists f =
    ⊎_elim
    (λ r. (_, Salvaged.file_refused r.0 r.1.0 r.1.1 refl))
    (λ o. opened_salvaged f o.0 o.1)
    (front_decided f)
