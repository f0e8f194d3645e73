-- The records along an order: how many they can be, what they sum to, and whose they are.
use Prim.Native.Nat.{ℕ, zero, suc, ◌+◌, ◌≤◌}
use Rattle.std.proofs.Math.Path.{◌≡◌, refl, sym, ap}
use Rattle.std.proofs.Common.{ap₂, ◌∙◌, take-suc}
use Rattle.std.specs.Prelude.{◌↔◌, Bool, get_or, take}
use Rattle.std.proofs.Math.Logic.{ite}
use Rattle.std.proofs.Math.Bool.{true, false}
use mathlib.Core.List.{List, [], ◌∷◌, ◌++◌, map, map-append, append-nil, filter, filter-append}
use native.Mathlib.Omega.{arith}
use Rattle.std.proofs.Math.ListN.{length, length-append, get_or-append}
use Rattle.std.proofs.Math.Seq.{get_or-append_seam}
use Rattle.meaning.specs.Number.{sum_to, only, choose}
use Rattle.meaning.specs.Step.{Table}
use Rattle.meaning.specs.Steps.{StepRecord, record_of, records_along}
use Rattle.theory.specs.Numbers.Sum.{sum_ext, sum_next}

module _ (n : ℕ) (go : ℕ → Bool) (o : ℕ → ℕ) (t : ℕ → Table) where
  abbrev records : ℕ → List StepRecord
  records = records_along n go o t

  -- There is at most one for each position.
  pub records_few : (p : ℕ) → length (records p) ≤ p
  unfolding records_along
  records_few zero = omega arith
  records_few (suc p) = at (go (o p)) (records_few p)
    where
      at : (b : Bool) → length (records p) ≤ p → length (choose b (records p ++ (record_of n (o p) (t p) ∷ [])) (records p)) ≤ suc p
      at true h = omega (arith, h, length-append (records p) (record_of n (o p) (t p) ∷ []))
      at false h = omega (arith, h)

  -- There is none where no state is removed.
  pub records_none : ((q : ℕ) → go (o q) ≡ false) → (p : ℕ) → records p ≡ []
  unfolding records_along
  records_none h zero = refl
  records_none h (suc p) = rw (h p) (records_none h p)

  -- What they sum to is a sum along the order, of any number that a record has; past the last of them a list may have anything.
  module _ (f : StepRecord → ℕ) (d : StepRecord) where
    abbrev summed : List StepRecord → ℕ
    summed r = sum_to (λ i. f (get_or r i d)) (length r)

    summed_more : (r : List StepRecord) (x : StepRecord) → summed (r ++ (x ∷ [])) ≡ summed r + f x
    summed_more r x =
        sum_next (λ i. f (get_or (r ++ (x ∷ [])) i d)) (length r) (length (r ++ (x ∷ []))) (length-append r (x ∷ []) ∙ omega arith)
        ∙ ap₂ ◌+◌
        (sum_ext _ _ (length r) (λ i h. ap f (get_or-append r (x ∷ []) d i h)))
        (ap f (get_or-append_seam r x [] d))

    pub records_sum : (p : ℕ) → summed (records p) ≡ sum_to (λ q. only (go (o q)) (f (record_of n (o q) (t q)))) p
    unfolding records_along sum_to
    records_sum zero = refl
    records_sum (suc p) = at (go (o p)) (record_of n (o p) (t p)) (records_sum p)
      where
        at : (b : Bool) (x : StepRecord) {m : ℕ} → summed (records p) ≡ m
            → summed (choose b (records p ++ (x ∷ [])) (records p)) ≡ m + only b (f x)
        at true x e = summed_more (records p) x ∙ ap (λ m. m + f x) e
        at false x e = e ∙ omega arith

-- Their states are those of the order that are removed, in the order's order.
module _
    (n : ℕ)
    (go : ℕ → Bool)
    (o : List ℕ)
    (t : ℕ → Table)
    {P : ℕ → Type 0}
    (d : (s : ℕ) → Dec (P s))
    (law : (s : ℕ) → (go s ≡ true) ↔ P s)
  where
    abbrev along : ℕ → List StepRecord
    along = records_along n go (λ q. get_or o q 0) t

    -- One position more.
    one_more : (r : List StepRecord) (s : List ℕ) (i : ℕ) (u : Table) → map (λ r. r.state) r ≡ s
        → map (λ r. r.state) (choose (go i) (r ++ (record_of n i u ∷ [])) r) ≡ s ++ filter d (i ∷ [])
    unfolding record_of
    one_more r s i u e = at (go i) refl (d i)
      where
        at : (b : Bool) → go i ≡ b → (x : Dec (P i))
            → map (λ r. r.state) (choose b (r ++ (record_of n i u ∷ [])) r) ≡ s ++ ite {C = List ℕ} x (i ∷ []) []
        at true g (yes h) = map-append (λ r. r.state) r (record_of n i u ∷ []) ∙ ap (λ s. s ++ (i ∷ [])) e
        at true g (no h) = absurd (h ((law i).0 g))
        at false g (yes h) = let t = (law i).1 h in absurd (let z : ◌≡◌ {A = ℕ} 0 1 = cc in omega arith)
        at false g (no h) = e ∙ sym (append-nil s)

    pub records_states : (p : ℕ) → p ≤ length o → map (λ r. r.state) (along p) ≡ filter d (take p o)
    unfolding records_along
    records_states zero h = refl
    records_states (suc p) h =
        one_more (along p) (filter d (take p o)) (get_or o p 0) (t p) (records_states p (omega arith))
        ∙ sym (filter-append d (take p o) (get_or o p 0 ∷ []))
        ∙ ap (filter d) (sym (take-suc o p 0 (omega arith)))
