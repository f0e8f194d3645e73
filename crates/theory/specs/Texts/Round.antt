-- A file of version 2 whose chain is well formed, shown and made again, is the same byte for byte; and of a file that is made of a text, the
-- lines that the text says are shown.
use Rattle.std.specs.Prelude.{ℕ, zero, suc, ◌*◌, ◌≤◌, ◌≡◌, refl, List, length, take}
use Rattle.std.proofs.Common.{arith, sym, ap, subst, ◌∙◌, ⊎_elim}
use Rattle.meaning.specs.Number.{filled}
use Rattle.meaning.specs.Chain.{edge_size, edge_number}
use Rattle.meaning.specs.Refusal.{Lent, paid, Applies, WellFormed}
use Rattle.meaning.specs.Block.{Input, whole_file, second_version, version_in, head_states, head_edges, reward_in, order_in}
use Rattle.meaning.specs.File.{Accepted, orders_in, paid_in, edge_in}
use Rattle.meaning.specs.Buffer.{Writing, writing}
use Rattle.meaning.specs.Write.{Bytes, FileOf, filing, WriteOutcome}
use Rattle.meaning.specs.Reorder.{longest_file}
use Rattle.meaning.specs.ChainText.{chain_lines, chain_text, text_of, LinesOf, said, TextSays}
use Rattle.meaning.specs.Translate.{Shown, MakeOutcome}
use Rattle.theory.specs.Numbers.Tab.{tab_length}
use Rattle.theory.specs.Outcomes.Formed.{room_enough}
use Rattle.theory.specs.Files.Right.{bounded}
use Rattle.theory.specs.Files.FileOne.{accepted_unrefused}
use Rattle.theory.specs.Files.Alike.{accepted_length}
use Rattle.theory.specs.Files.Written.{formed_written, shaped, file_of_same, read_back, written_again}
use Rattle.theory.specs.Files.Reorder.{rewritten}
use Rattle.theory.specs.Texts.Split.{lines_one, says_one, says_unrefused}
use Rattle.theory.specs.Texts.ChainOne.{chain_one, orders_one, rewards_one}
use Rattle.theory.specs.Texts.Stored.{accepted_storable, shown_again}
use Rattle.theory.specs.Texts.Short.{text_short}
use Rattle.theory.specs.Texts.Made.{list_write, Stage, staged}

-- The writer refuses nothing of an accepted file that meets none of 3 to 11.
clear_formed : {f : Input} → Accepted f → ((k p : ℕ) → 3 ≤ k → Applies paid (paid_in f) k p → ⊥) → (before : List ℕ) → longest_file ≤ length before
    → WellFormed filing (rewritten f (orders_in f) before)
clear_formed {f} taken clear before enough = record { none = go }
  where
    go : (k p : ℕ) → Applies filing (rewritten f (orders_in f) before) k p → ⊥
    go zero p h = h
    go (suc zero) p h =
        let b = bounded f (taken.blocks 0 (omega arith)) in
        shaped b filing (omega arith) (tab_length 0 (head_states f) (order_in f)) (tab_length 0 (head_states f) (reward_in f)) h.1
    go (suc (suc zero)) p h =
        let b = bounded f (taken.blocks 0 (omega arith)) in
        room_enough (omega (arith, b.few_blocks, tab_length 0 (edge_size * head_edges f) (edge_number (edge_in f)))) (omega arith) h.1
    go (suc (suc (suc k))) p h = clear (suc (suc (suc k))) p (omega arith) h

-- What is shown of an accepted file, of whichever version, is made as the writer writes the file's chain, or refused as it refuses it.
module _ {f : Input} (bytes : Bytes f.kept) (taken : Accepted f) {before after : List ℕ} {a : Writing} (enough : longest_file ≤ length before) where
  made_writes : {t : List ℕ} → t ≡ chain_text (paid_in f) → Stage (whole_file t) before a after → WriteOutcome (rewritten f (orders_in f) before) a after
  made_writes q (Stage.short h e d) = absurd (omega arith)
  made_writes q (Stage.long h x e d) =
      absurd (⊎_elim (λ x. omega (arith, x, ap length q, text_short (accepted_storable bytes taken))) (λ x. omega arith) x)
  made_writes q (Stage.wrong h x p r e d) = absurd (says_unrefused (subst (λ t. TextSays t (paid_in f)) (sym q) (shown_again bytes taken)) r)
  made_writes q (Stage.said h x l s w o) =
      let p = s.storable in
      let z = accepted_storable bytes taken in
      let e = says_one s (subst (λ t. TextSays t (paid_in f)) (sym q) (shown_again bytes taken)) in
      subst (λ (m : Lent). WriteOutcome m a after)
      (λ i. record { chain = chain_one p z e i; order = orders_one p z e i; rewards = rewards_one p z e i; work = w i; list = 0 })
      (list_write 0 o)

  pub shown_writes : {t : List ℕ} → Shown f t → MakeOutcome (whole_file t) before a after → WriteOutcome (rewritten f (orders_in f) before) a after
  shown_writes (Shown.file_refused n p r e) m = absurd (accepted_unrefused taken r)
  shown_writes (Shown.shown _ e) m = made_writes e (staged m)

  -- Of a file that meets none of 3 to 11, of whichever version, nothing is refused: the file that is made is of version 2 and of the same chain and
  -- tables.
  pub shown_kept : ((k p : ℕ) → 3 ≤ k → Applies paid (paid_in f) k p → ⊥) → {t : List ℕ} → Shown f t → MakeOutcome (whole_file t) before a after
      → (a.number ≡ 0) × FileOf (paid_in f) (take a.written after)
  shown_kept clear s m =
      let o = shown_writes s m in
      let z = formed_written o (clear_formed taken clear before enough) in
      (z, file_of_same refl refl refl (read_back o z).0)

-- What is shown of a file of version 2 that meets none of 20 to 24 and 3 to 11 is made into that file, byte for byte, whatever the buffer held.
module _ (file : List ℕ) (bytes : Bytes file) (second : version_in (whole_file file) 0 ≡ second_version) (taken : Accepted (whole_file file))
    (clear : (k p : ℕ) → 3 ≤ k → Applies paid (paid_in (whole_file file)) k p → ⊥)
  where
    pub shown_made : {t before after : List ℕ} {a : Writing} → longest_file ≤ length before → Shown (whole_file file) t → MakeOutcome (whole_file t) before a after
        → (a ≡ writing (length file)) × (after ≡ filled file before)
    shown_made {before = before} enough s m =
        let size = (bounded (whole_file file) (taken.blocks 0 (omega arith))).few_blocks in
        written_again file bytes second taken clear before (omega (arith, accepted_length taken)) (shown_writes bytes taken enough s m)

-- A file's lines are those of what it is a file of.
pub file_lines : {l : Lent} {file : List ℕ} → FileOf l file → chain_lines (paid_in (whole_file file)) ≡ chain_lines l
file_lines {l} x =
    λ i. chain_lines (record { chain = x.chain i; order = x.order i; rewards = x.rewards i; work = l.work; list = l.list })

-- Of a file that is made of a text, what is shown are the lines that the text says, without its comments and empty lines.
module _ {f : Input} {before after t : List ℕ} {a : Writing} {lines : List (List ℕ)} where
  said_shown : Stage f before a after → a.number ≡ 0 → LinesOf f.kept lines → Shown (whole_file (take a.written after)) t
      → t ≡ text_of (said lines)
  said_shown (Stage.short h e d) z r w = absurd (omega (arith, ap (λ (a : Writing). a.number) e))
  said_shown (Stage.long h x e d) z r w = absurd (omega (arith, ap (λ (a : Writing). a.number) e))
  said_shown (Stage.wrong h x p k e d) z r w = absurd (omega (arith, ap (λ (a : Writing). a.number) e))
  said_shown (Stage.said h x l s k o) z r (Shown.file_refused n p w e) = absurd (accepted_unrefused (read_back o z).0.accepted w)
  said_shown (Stage.said h x l s k o) z r (Shown.shown _ e) =
      e ∙ ap text_of (file_lines (read_back o z).0 ∙ s.says ∙ ap said (lines_one s.split r))

  pub made_shown : MakeOutcome f before a after → a.number ≡ 0 → LinesOf f.kept lines → Shown (whole_file (take a.written after)) t
      → t ≡ text_of (said lines)
  made_shown m = said_shown (staged m)
