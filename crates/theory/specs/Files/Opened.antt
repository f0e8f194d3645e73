-- The front of a file and the verdicts on its edge blocks are one; with nothing lost the file is accepted and all edges are kept; each kept edge has
-- one index in the whole file, and the indices rise.
use Prim.Native.Nat.{ℕ, zero, suc, ◌+◌, ◌*◌, ◌/◌, ◌%◌, ◌≤◌, ◌<◌}
use Rattle.std.specs.Prelude.{◌≡◌, ◌⊎◌, true, List, length, get_or}
use Rattle.std.proofs.Math.Path.{refl}
use Rattle.std.proofs.Common.{sym, ap, ◌∙◌, inl, inr, ⊎_elim, arith, ext_get_or, eq-eqb}
use Rattle.meaning.specs.Number.{sum_to}
use Rattle.meaning.specs.Chain.{edge_size, edge_number}
use Rattle.meaning.specs.Block.{Input, head_edges, state_blocks, demanded}
use Rattle.meaning.specs.File.{BlockRefused, FileRefused, Accepted, most_blocks, edge_in, edges_in}
use Rattle.meaning.specs.Salvage.{FrontRefused, Opened, Lost, edge_kept, kept_edges, kept_before, IndexOf, verdict}
use Rattle.theory.specs.Numbers.Sum.{same, below}
use Rattle.theory.specs.Numbers.Tab.{tab_of}
use Rattle.theory.specs.Chains.Picked.{picked_edges, picked_at, picked_rises, picked_from}
use Rattle.theory.specs.Outcomes.Determined.{meet}
use Rattle.theory.specs.Files.FileOne.{block_one, block_numbers, file_one}

-- What refuses the front refuses the file: so it is one number at one place.
pub front_file : {f : Input} {n p : ℕ} → FrontRefused f n p → FileRefused f n p
front_file (FrontRefused.length_wrong w) = FileRefused.length_wrong w
front_file (FrontRefused.head_wrong n l w) = FileRefused.head_wrong n l w
front_file (FrontRefused.total_wrong l h w) = FileRefused.total_wrong l h w
front_file (FrontRefused.states_wrong n b l t z m a w) = FileRefused.block_wrong n b l t z (omega arith) a w

pub front_one : {f : Input} {n p n' p' : ℕ} → FrontRefused f n p → FrontRefused f n' p' → (n ≡ n') × (p ≡ p')
front_one r s = file_one (front_file r) (front_file s)

module _ {f : Input} {v : ℕ → ℕ} (opened : Opened f v) where
  -- No file is both opened and refused.
  pub opened_unrefused : {n p : ℕ} → FrontRefused f n p → ⊥
  opened_unrefused (FrontRefused.length_wrong w) = opened.whole w
  opened_unrefused (FrontRefused.head_wrong n l w) = opened.front 0 (omega arith) n w
  opened_unrefused (FrontRefused.total_wrong l h w) = opened.total w
  opened_unrefused (FrontRefused.states_wrong n b l t z m a w) = opened.front b m n w

  -- With nothing lost it is accepted, and where it is accepted nothing is lost.
  pub opened_accepted : (Lost v → ⊥) → Accepted f
  opened_accepted none =
      record {
        whole = opened.whole;
        total = opened.total;
        blocks = λ b h.
            ⊎_elim
            (λ (l : state_blocks f < b). opened.kept b l h (⊎_elim (λ z. z) (λ d. absurd (none (b, d))) (same (v b) 0)))
            (λ (l : b ≤ state_blocks f). opened.front b l)
            (below (state_blocks f) b);
      }

  -- Only an edge block is lost, by 21 to 24.
  pub lost_inside : (b : ℕ) → (v b ≡ 0 → ⊥) → (state_blocks f < b) × (b < demanded f)
  lost_inside b d = (
    ⊎_elim (λ (l : state_blocks f < b). l) (λ (l : b ≤ state_blocks f). absurd (d (opened.none b (inl l)))) (below (state_blocks f) b),
    ⊎_elim (λ (h : b < demanded f). h) (λ (h : demanded f ≤ b). absurd (d (opened.none b (inr h)))) (below b (demanded f)),
  )

  pub lost_refused : (b : ℕ) → (v b ≡ 0 → ⊥) → BlockRefused f b (v b)
  lost_refused b d = let w = lost_inside b d in opened.lost b w.0 w.1 d

  pub accepted_unlost : Accepted f → Lost v → ⊥
  accepted_unlost accepted (b, d) = accepted.blocks b (lost_inside b d).1 (v b) (lost_refused b d)

  pub lost_numbers : (b : ℕ) → v b ≤ 24
  lost_numbers b = ⊎_elim (λ (z : v b ≡ 0). omega arith) (λ d. (block_numbers (lost_refused b d)).1) (same (v b) 0)

-- The verdict on each block is one.
pub verdicts_one : {f : Input} {v v' : ℕ → ℕ} → Opened f v → Opened f v' → (b : ℕ) → v b ≡ v' b
verdicts_one {f} {v} {v'} o o' b = go (same (v b) 0) (same (v' b) 0)
  where
    kept : {v v' : ℕ → ℕ} → Opened f v → Opened f v' → v b ≡ 0 → (v' b ≡ 0 → ⊥) → ⊥
    kept {v} {v'} o o' z d = let w = lost_inside o' b d in o.kept b w.0 w.1 z (v' b) (lost_refused o' b d)

    go : (v b ≡ 0) ⊎ (v b ≡ 0 → ⊥) → (v' b ≡ 0) ⊎ (v' b ≡ 0 → ⊥) → v b ≡ v' b
    go (inl z) (inl z') = z ∙ sym z'
    go (inl z) (inr d') = absurd (kept o o' z d')
    go (inr d) (inl z') = absurd (kept o' o z' d)
    go (inr d) (inr d') = block_one (lost_refused o b d) (lost_refused o' b d')

-- So is a list of them.
pub verdict_lists_one : {f : Input} {lost lost' : List ℕ} → length lost ≡ most_blocks → length lost' ≡ most_blocks → Opened f (verdict lost)
    → Opened f (verdict lost') → lost ≡ lost'
verdict_lists_one {lost = lost} {lost' = lost'} h h' o o' = ext_get_or 0 lost lost' (h ∙ sym h') (λ b _. verdicts_one o o' b)

module _ {f : Input} {v : ℕ → ℕ} where
  -- The kept edges' indices rise, so that each has one.
  pub index_rises : {j j' e e' : ℕ} → IndexOf f v j e → IndexOf f v j' e' → j < j' → e < e'
  index_rises {j} {j'} {e} {e'} i i' h =
      ⊎_elim
      (λ (l : e < e'). l)
      (λ (l : e' ≤ e).
      ⊎_elim
      (λ (m : e' < e). absurd (omega (arith, picked_rises (edge_kept f v) e' e m i'.kept, i.before, i'.before)))
      (λ (m : e ≤ e').
      let q : e ≡ e' = omega arith in absurd (omega (arith, i.before, i'.before, ap (kept_before f v) q)))
      (below e' e))
      (below e e')

  pub index_one : {j e e' : ℕ} → IndexOf f v j e → IndexOf f v j e' → e ≡ e'
  index_one {j} {e} {e'} i i' =
      meet e e'
      (λ h. omega (arith, picked_rises (edge_kept f v) e e' h i.kept, i.before, i'.before))
      (λ h. omega (arith, picked_rises (edge_kept f v) e' e h i'.kept, i.before, i'.before))

  pub index_exists : (j : ℕ) → j < kept_before f v (head_edges f) → (e : ℕ) × IndexOf f v j e
  index_exists j h =
      let w = picked_from (edge_kept f v) (head_edges f) j h in (w.0, record { inside = w.1; kept = w.2; before = w.3 })

-- Where nothing is lost all edges are kept, and each has its own index.
module _ (f : Input) (v : ℕ → ℕ) (none : (b : ℕ) → v b ≡ 0) where
  all_kept : (e : ℕ) → edge_kept f v e ≡ true
  all_kept e = eq-eqb _ 0 (none _)

  all_before : (e : ℕ) → kept_before f v e ≡ e
  unfolding sum_to
  all_before zero = refl
  all_before (suc e) = rw (all_before e, all_kept e) (omega arith)

  pub kept_all : kept_edges f v (head_edges f) ≡ edges_in f
  kept_all =
      let edges : length (kept_edges f v (head_edges f)) ≡ edge_size * head_edges f =
      picked_edges (edge_kept f v) (edge_in f) (λ _. refl) (head_edges f) ∙ ap (λ z. edge_size * z) (all_before (head_edges f)) in
      tab_of 0 (edge_size * head_edges f) (edge_number (edge_in f)) (kept_edges f v (head_edges f)) edges at
    where
      at : (j : ℕ) → j < edge_size * head_edges f → get_or (kept_edges f v (head_edges f)) j 0 ≡ edge_number (edge_in f) j
      at j h =
          let e = j / edge_size in
          let k = j % edge_size in
          let q : j ≡ edge_size * kept_before f v e + k = omega (arith, all_before e) in
          ap (λ z. get_or (kept_edges f v (head_edges f)) z 0) q
          ∙ picked_at (edge_kept f v) (edge_in f) (λ _. refl) (head_edges f) e (omega arith) (all_kept e) k (omega arith)
