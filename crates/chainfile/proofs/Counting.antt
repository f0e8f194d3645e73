-- The index of a kept edge: the edges that are kept, in their order, are a list, and the kept edge j is its entry j.
use Rattle.std.proofs.Common.{ℕ, zero, suc, ◌+◌, ◌≤◌, ◌<◌, ◌≡◌, Bool, true, false, cond, ◌∷◌, Option, None, Some, MatchOption, unwrap_or, refl, sym, subst, ◌∙◌, add-one, arith}
use Rattle.std.specs.List.{filter, range_with_len, slice_get}
use Rattle.std.specs.Option.{option_map}
use Rattle.meaning.specs.Number.{sum_to, only}
use Rattle.meaning.specs.Block.{Input, head_edges}
use Rattle.meaning.specs.Salvage.{edge_kept}
use Rattle.theory.specs.Numbers.Sum.{sum_next}
use Rattle.theory.specs.Chains.Picked.{picked_to, picked_rises}
use Rattle.theory.specs.Files.Opened.{index_one}
use Rattle.chainfile.specs.Index.{Whole}

-- What entry j is of the numbers from a on and before `end` of which the test holds.
abbrev Entry : (ℕ → Bool) → ℕ → ℕ → ℕ → Option ℕ → Type 0
Entry p a j end r =
    MatchOption r (picked_to p end ≤ picked_to p a + j) (λ e. (a ≤ e) × (e < end) × (p e ≡ true) × (picked_to p e ≡ picked_to p a + j))

-- The entry of the numbers after a is one of those from a on.
later : (p : ℕ → Bool) (a j k end : ℕ) (r : Option ℕ) → picked_to p (a + 1) + k ≡ picked_to p a + j → Entry p (a + 1) k end r → Entry p a j end r
later p a j k end None q h = omega arith
later p a j k end (Some e) q h = (omega (arith, h.0), h.1, h.2, omega (arith, h.3))

entry : (p : ℕ → Bool) (n a j end : ℕ) → end ≡ a + n → Entry p a j end (slice_get (filter p (range_with_len a n)) j)
entry p zero a j end e = let z : end ≡ a = omega arith in rw z (omega arith)
entry p (suc n) a j end e = go (p a) refl j (λ k. entry p n (a + 1) k end (omega arith))
  where
    next : picked_to p (a + 1) ≡ picked_to p a + only (p a) 1
    next = sum_next (λ d. only (p d) 1) a (a + 1) (add-one a)

    go : (b : Bool) → p a ≡ b → (k : ℕ) → ((k : ℕ) → Entry p (a + 1) k end (slice_get (filter p (range_with_len (a + 1) n)) k))
        → Entry p a k end (slice_get (cond b (a ∷ filter p (range_with_len (a + 1) n)) (filter p (range_with_len (a + 1) n))) k)
    go true t zero others = (omega arith, omega arith, t, omega arith)
    go true t (suc k) others = let one = rw t at next in later p a (suc k) k end _ (omega arith) (others k)
    go false t k others = let none = rw t at next in later p a k k end _ (omega arith) (others k)

zeros : (p : ℕ → Bool) → picked_to p 0 ≡ 0
unfolding sum_to
zeros p = refl

module _ {f : Input} {v : ℕ → ℕ} {j : ℕ} where
  pub entry_whole : (count : ℕ) (r : Option ℕ) → count ≡ head_edges f → option_map (λ x. x) r ≡ slice_get (filter (edge_kept f v) (range_with_len 0 count)) j
      → Whole f v j (unwrap_or r count)
  entry_whole count r q e = go r (subst (Entry (edge_kept f v) 0 j count) (sym e) (entry (edge_kept f v) count 0 j count (omega arith)))
    where
      go : (r : Option ℕ) → Entry (edge_kept f v) 0 j count (option_map (λ x. x) r) → Whole f v j (unwrap_or r count)
      go None h =
          Whole.nowhere
          (λ d i. omega (arith, picked_rises (edge_kept f v) d count (omega (arith, i.inside)) i.kept, i.before, zeros (edge_kept f v)))
          q
      go (Some d) h =
          Whole.found (record { inside = omega (arith, h.1); kept = h.2; before = omega (arith, h.3, zeros (edge_kept f v)) })

  -- Two answers that are promised of one edge are the same.
  pub whole_unique : {r r' : ℕ} → Whole f v j r → Whole f v j r' → r ≡ r'
  whole_unique (Whole.found i) (Whole.found i') = index_one i i'
  whole_unique (Whole.found i) (Whole.nowhere n' e') = absurd (n' _ i)
  whole_unique (Whole.nowhere n e) (Whole.found i') = absurd (n _ i')
  whole_unique (Whole.nowhere n e) (Whole.nowhere n' e') = e ∙ sym e'
