-- A chain file with the chosen order: the writer refuses nothing of it, only 20 to 24 and 3 to 9 come, and there is one outcome.
use Rattle.std.specs.Prelude.{ℕ, zero, suc, ◌+◌, ◌*◌, ◌≤◌, ◌<◌, ◌≡◌, refl, ◌⊎◌, List, length}
use Rattle.std.proofs.Common.{sym, ap, ap₂, subst, ◌∙◌, inl, inr, arith}
use Rattle.meaning.specs.Number.{sum_to, filled}
use Rattle.meaning.specs.Chain.{most_reward, edge_size, edge_number}
use Rattle.meaning.specs.Step.{Sets, Right}
use Rattle.meaning.specs.Refusal.{Lent, bare, RewardFault, of_state, of_edge, Applies, Refused, WellFormed}
use Rattle.meaning.specs.Block.{Input, number_at, head_states, head_edges, state_at, reward_in, edge_at, edge_reward_byte}
use Rattle.meaning.specs.File.{Accepted, chain_in, rewards_in, bare_in, edge_in}
use Rattle.meaning.specs.Buffer.{Writing, no_writing, writing}
use Rattle.meaning.specs.Write.{Bytes, FileOf, filing, WriteOutcome}
use Rattle.meaning.specs.Choice.{Chosen}
use Rattle.meaning.specs.Reorder.{longest_file, reordered, ReorderOutcome, short, file_refused, chain_refused, written}
use Rattle.theory.specs.Numbers.Tab.{tab_at, tab_length}
use Rattle.theory.specs.Chains.Sets.{right_one}
use Rattle.theory.specs.Outcomes.Formed.{room_enough, formed_fine, start_in}
use Rattle.theory.specs.Outcomes.Determined.{refused_one, refused_unformed}
use Rattle.theory.specs.Outcomes.Choice.{chosen_one, choice_order}
use Rattle.theory.specs.Files.Right.{Bounded, bounded}
use Rattle.theory.specs.Files.Alike.{edge_at_lem}
use Rattle.theory.specs.Files.FileOne.{file_numbers, file_one, accepted_unrefused}
use Rattle.theory.specs.Files.Written.{file_of_one, shaped}

-- A number of two bytes is no more than the greatest reward.
two_bytes : (f : Input) → Bytes f.kept → (j : ℕ) → number_at f j 2 ≤ most_reward
unfolding sum_to
two_bytes f bytes j = omega (arith, bytes (j + 0), bytes (j + 1))

-- What the writer is lent: the file's chain and rewards, the chosen order, and a buffer.
abbrev pub rewritten : Input → List ℕ → List ℕ → Lent
rewritten f o buffer = record { chain = chain_in f; order = o; rewards = rewards_in f; work = buffer; list = 0 }

module _ (f : Input) (bytes : Bytes f.kept) (taken : Accepted f) (formed : WellFormed bare (bare_in f)) where
  laid : Bounded f
  laid = bounded f (taken.blocks 0 (omega arith))

  no_reward_fault : (p : ℕ) → RewardFault (head_states f) (rewards_in f) (chain_in f).edges p → ⊥
  no_reward_fault _ (of_state i h) =
      omega (arith, h.1, tab_at (head_states f) (reward_in f) 0 i h.0, two_bytes f bytes (state_at i + 4))
  no_reward_fault _ (of_edge e h) =
      let l : e < head_edges f = omega (arith, h.0, tab_length 0 (edge_size * head_edges f) (edge_number (edge_in f))) in
      omega (
        arith,
        h.1,
        tab_at (edge_size * head_edges f) (edge_number (edge_in f)) 0 (edge_size * e + 3) (omega arith),
        edge_at_lem (edge_in f) e 3 (omega arith),
        two_bytes f bytes (edge_at f e + edge_reward_byte),
      )

  module _ {k : Sets} (right : Right (chain_in f) k) {o : List ℕ} {m : ℕ} (x : Chosen (chain_in f) k o m) (buffer : List ℕ) (room : longest_file ≤ length buffer) where
    -- The writer refuses nothing of it.
    pub rewritten_formed : WellFormed filing (rewritten f o buffer)
    rewritten_formed = record { none = go }
      where
        go : (k p : ℕ) → Applies filing (rewritten f o buffer) k p → ⊥
        go zero p h = h
        go (suc zero) p h =
            shaped laid filing (omega arith) x.size (tab_length 0 (head_states f) (reward_in f)) h.1
        go (suc (suc zero)) p h =
            room_enough (omega (arith, laid.few_blocks, room, tab_length 0 (edge_size * head_edges f) (edge_number (edge_in f)))) (omega arith) h.1
        go (suc (suc (suc zero))) p h = formed.none 3 p h
        go (suc (suc (suc (suc zero)))) p h = formed.none 4 p h
        go (suc (suc (suc (suc (suc zero))))) p h = formed.none 5 p h
        go (suc (suc (suc (suc (suc (suc zero)))))) p h = formed.none 6 p h
        go (suc (suc (suc (suc (suc (suc (suc zero))))))) p h = formed.none 7 p h
        go (suc (suc (suc (suc (suc (suc (suc (suc zero)))))))) p h = formed.none 8 p h
        go (suc (suc (suc (suc (suc (suc (suc (suc (suc zero))))))))) p h = formed.none 9 p h
        go (suc (suc (suc (suc (suc (suc (suc (suc (suc (suc zero)))))))))) p h =
            choice_order (chain_in f) k x (formed_fine bare _ formed refl) right (start_in bare _ formed) p h
        go (suc (suc (suc (suc (suc (suc (suc (suc (suc (suc (suc zero))))))))))) p h = no_reward_fault p h
        go (suc (suc (suc (suc (suc (suc (suc (suc (suc (suc (suc (suc k)))))))))))) p h = h

    -- So it writes the file, and that is what is answered.
    pub rewritten_outcome : {a : Writing} {after : List ℕ} → WriteOutcome (rewritten f o buffer) a after → ReorderOutcome f buffer a after
    rewritten_outcome (WriteOutcome.refused n p r e s) = absurd (refused_unformed r rewritten_formed)
    rewritten_outcome (WriteOutcome.written w file z e s) = written room taken formed k right o m x file (same z) e s
      where
        same : {file : List ℕ} → FileOf (rewritten f o buffer) file → FileOf (reordered f o) file
        same z = record { bytes = z.bytes; version = z.version; accepted = z.accepted; chain = z.chain; order = z.order; rewards = z.rewards }

-- A chain alone of an accepted file is refused by 3 to 9 only.
bare_numbers : {f : Input} {n p : ℕ} → Accepted f → Refused bare (bare_in f) n p → (3 ≤ n) × (n ≤ 9)
bare_numbers {f} {n} {p} taken r = at n p r.applies
  where
    at : (n p : ℕ) → Applies bare (bare_in f) n p → (3 ≤ n) × (n ≤ 9)
    at zero p h = absurd h
    at (suc zero) p h = absurd (shaped (bounded f (taken.blocks 0 (omega arith))) bare (omega arith) refl refl h.1)
    at (suc (suc zero)) p h = absurd (room_enough (omega arith) (omega arith) h.1)
    at (suc (suc (suc zero))) p h = (omega arith, omega arith)
    at (suc (suc (suc (suc zero)))) p h = (omega arith, omega arith)
    at (suc (suc (suc (suc (suc zero))))) p h = (omega arith, omega arith)
    at (suc (suc (suc (suc (suc (suc zero)))))) p h = (omega arith, omega arith)
    at (suc (suc (suc (suc (suc (suc (suc zero))))))) p h = (omega arith, omega arith)
    at (suc (suc (suc (suc (suc (suc (suc (suc zero)))))))) p h = (omega arith, omega arith)
    at (suc (suc (suc (suc (suc (suc (suc (suc (suc zero))))))))) p h = (omega arith, omega arith)
    at (suc (suc (suc (suc (suc (suc (suc (suc (suc (suc zero)))))))))) p h = absurd h
    at (suc (suc (suc (suc (suc (suc (suc (suc (suc (suc (suc zero))))))))))) p h = absurd h
    at (suc (suc (suc (suc (suc (suc (suc (suc (suc (suc (suc (suc n)))))))))))) p h = absurd h

-- With room for any file, 0 or a number of 3 to 9 or 20 to 24 is answered, and no other.
pub reorder_numbers : {f : Input} {before after : List ℕ} {a : Writing} → ReorderOutcome f before a after → longest_file ≤ length before
    → (a.number ≡ 0) ⊎ (((3 ≤ a.number) × (a.number ≤ 9)) ⊎ ((20 ≤ a.number) × (a.number ≤ 24)))
reorder_numbers (short h e s) room = absurd (omega (arith, h, room))
reorder_numbers (file_refused h n p r e s) room =
    let z = ap (λ (a : Writing). a.number) e in let b = file_numbers r in inr (inr (omega (arith, z, b), omega (arith, z, b)))
reorder_numbers (chain_refused h t n p r e s) room =
    let z = ap (λ (a : Writing). a.number) e in let b = bare_numbers t r in inr (inl (omega (arith, z, b), omega (arith, z, b)))
reorder_numbers (written h t w k r o m x file z e s) room = inl (ap (λ (a : Writing). a.number) e)

-- One answer, and one buffer.
pub reorder_one : {f : Input} {before after after' : List ℕ} {a a' : Writing} → ReorderOutcome f before a after → ReorderOutcome f before a' after'
    → (a ≡ a') × (after ≡ after')
reorder_one (short h e s) (short h' e' s') = (e ∙ sym e', s ∙ sym s')
reorder_one (short h e s) (file_refused h' n' p' r' e' s') = absurd (omega arith)
reorder_one (short h e s) (chain_refused h' t' n' p' r' e' s') = absurd (omega arith)
reorder_one (short h e s) (written h' t' w' k' r' o' m' x' file' z' e' s') = absurd (omega arith)
reorder_one (file_refused h n p r e s) (short h' e' s') = absurd (omega arith)
reorder_one (file_refused h n p r e s) (file_refused h' n' p' r' e' s') =
    let o = file_one r r' in (e ∙ ap₂ no_writing o.0 o.1 ∙ sym e', s ∙ sym s')
reorder_one (file_refused h n p r e s) (chain_refused h' t' n' p' r' e' s') = absurd (accepted_unrefused t' r)
reorder_one (file_refused h n p r e s) (written h' t' w' k' r' o' m' x' file' z' e' s') = absurd (accepted_unrefused t' r)
reorder_one (chain_refused h t n p r e s) (short h' e' s') = absurd (omega arith)
reorder_one (chain_refused h t n p r e s) (file_refused h' n' p' r' e' s') = absurd (accepted_unrefused t r')
reorder_one (chain_refused h t n p r e s) (chain_refused h' t' n' p' r' e' s') =
    let o = refused_one r r' in (e ∙ ap₂ no_writing o.0 o.1 ∙ sym e', s ∙ sym s')
reorder_one (chain_refused h t n p r e s) (written h' t' w' k' r' o' m' x' file' z' e' s') = absurd (refused_unformed r w')
reorder_one (written h t w k r o m x file z e s) (short h' e' s') = absurd (omega arith)
reorder_one (written h t w k r o m x file z e s) (file_refused h' n' p' r' e' s') = absurd (accepted_unrefused t r')
reorder_one (written h t w k r o m x file z e s) (chain_refused h' t' n' p' r' e' s') = absurd (refused_unformed r' w)
reorder_one {f} {before} (written h t w k r o m x file z e s) (written h' t' w' k' r' o' m' x' file' z' e' s') =
    let q = (chosen_one (chain_in f) k x (subst (λ k. Chosen (chain_in f) k o' m') (sym (right_one r r')) x')).0 in
    let g = file_of_one z (subst (λ o. FileOf (reordered f o) file') (sym q) z') in
    (e ∙ ap (λ g. writing (length g)) g ∙ sym e', s ∙ ap (λ g. filled g before) g ∙ sym s')
