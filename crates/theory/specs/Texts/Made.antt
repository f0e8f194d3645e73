-- What is made of a text and what is shown of a file: one answer and one buffer, and which numbers come.
use Rattle.std.specs.Prelude.{ℕ, zero, suc, ◌≤◌, ◌<◌, ◌≡◌, refl, ◌⊎◌, List, length}
use Rattle.std.proofs.Common.{arith, sym, ap, ap₂, subst, ◌∙◌, ⊎_elim, inl, inr}
use Rattle.meaning.specs.Number.{filled}
use Rattle.meaning.specs.Refusal.{Lent, with_list, RewardFault, of_state, of_edge, Applies, Refused}
use Rattle.meaning.specs.Block.{Input}
use Rattle.meaning.specs.Buffer.{Writing, no_writing}
use Rattle.meaning.specs.Write.{filing, WriteOutcome, refused, written}
use Rattle.meaning.specs.Reorder.{longest_file}
use Rattle.meaning.specs.ChainText.{Storable, TextRefused, TextSays}
use Rattle.meaning.specs.Translate.{Shown, ShowOutcome, TextedOutcome, TextLong, MakeOutcome}
use Rattle.theory.specs.Outcomes.Formed.{room_enough}
use Rattle.theory.specs.Files.FileOne.{file_one, accepted_unrefused}
use Rattle.theory.specs.Files.ReportOne.{line, text_one}
use Rattle.theory.specs.Files.Written.{file_of_same, write_one}
use Rattle.theory.specs.Texts.ChainOne.{chain_one, orders_one, rewards_one}
use Rattle.theory.specs.Texts.Split.{says_one, says_unrefused, refused_one}
use Rattle.theory.specs.Texts.Short.{few_states, few_edges}

-- The writer asks for no step list, so that one is lent changes nothing.
list_applies : (l : Lent) (list k p : ℕ) → Applies filing l k p → Applies filing (with_list list l) k p
list_applies l list zero p h = h
list_applies l list (suc zero) p h = h
list_applies l list (suc (suc zero)) p h = (h.0, ⊎_elim inl (λ w. absurd (omega arith)) h.1)
list_applies l list (suc (suc (suc k))) p h = h

list_refused : {l : Lent} {number place : ℕ} (list : ℕ) → Refused filing l number place → Refused filing (with_list list l) number place
list_refused {l} {number} {place} list r =
    record {
      applies = list_applies l list number place r.applies;
      number_least = λ k p h a. r.number_least k p h (list_applies (with_list list l) l.list k p a);
      place_least = λ p h a. r.place_least p h (list_applies (with_list list l) l.list number p a);
    }

pub list_write : {l : Lent} {a : Writing} {after : List ℕ} (list : ℕ) → WriteOutcome l a after → WriteOutcome (with_list list l) a after
list_write list (refused n p r e s) = refused n p (list_refused list r) e s
list_write {l} list (written w file x e s) =
    written (record { none = λ k p h. w.none k p (list_applies (with_list list l) l.list k p h) }) file (file_of_same refl refl refl x) e s

-- Two chains that a text says are lent alike.
pub lent_one : {text : List ℕ} {l m : Lent} → TextSays text l → TextSays text m → l.work ≡ m.work → with_list 0 l ≡ with_list 0 m
lent_one s t w =
    let p = s.storable in
    let q = t.storable in
    let e = says_one s t in
    λ i. record { chain = chain_one p q e i; order = orders_one p q e i; rewards = rewards_one p q e i; work = w i; list = 0 }

-- The stages of making, of which the writer is the last.
pub data Stage (f : Input) (before : List ℕ) (a : Writing) (after : List ℕ) : Type 0 where
  short : length before < longest_file → a ≡ no_writing 2 0 → after ≡ before → Stage f before a after
  long : longest_file ≤ length before → TextLong f → a ≡ no_writing 41 0 → after ≡ before → Stage f before a after
  wrong : longest_file ≤ length before → (TextLong f → ⊥) → (place : ℕ) → TextRefused f.kept place → a ≡ no_writing 40 place → after ≡ before
      → Stage f before a after
  said : longest_file ≤ length before → (TextLong f → ⊥) → (l : Lent) → TextSays f.kept l → l.work ≡ before → WriteOutcome l a after
      → Stage f before a after

module _ {f : Input} {before after : List ℕ} {a : Writing} where
  pub staged : MakeOutcome f before a after → Stage f before a after
  staged (MakeOutcome.short h e d) = short h e d
  staged (MakeOutcome.text_long h t e d) = long h t e d
  staged (MakeOutcome.text_refused h t p r e d) = wrong h t p r e d
  staged (MakeOutcome.chain_refused h t l s w k p r e d) = said h t l s w (refused k p r e (d ∙ sym w))
  staged (MakeOutcome.made h t l s w g file x e d) = said h t l s w (written g file x e (d ∙ ap (filled file) (sym w)))

  -- What the writer does of a chain that a text says is what is made of the text.
  pub writes_made : longest_file ≤ length before → (TextLong f → ⊥) → (l : Lent) → TextSays f.kept l → l.work ≡ before → WriteOutcome l a after
      → MakeOutcome f before a after
  writes_made h t l s w (refused k p r e d) = MakeOutcome.chain_refused h t l s w k p r e (d ∙ w)
  writes_made h t l s w (written g file x e d) = MakeOutcome.made h t l s w g file x e (d ∙ ap (filled file) w)

stage_one : {f : Input} {before after after' : List ℕ} {a a' : Writing} → Stage f before a after → Stage f before a' after'
    → (a ≡ a') × (after ≡ after')
stage_one (short h e d) (short h' e' d') = (e ∙ sym e', d ∙ sym d')
stage_one (short h e d) (long h' t' e' d') = absurd (omega arith)
stage_one (short h e d) (wrong h' t' p' r' e' d') = absurd (omega arith)
stage_one (short h e d) (said h' t' l' s' w' o') = absurd (omega arith)
stage_one (long h t e d) (short h' e' d') = absurd (omega arith)
stage_one (long h t e d) (long h' t' e' d') = (e ∙ sym e', d ∙ sym d')
stage_one (long h t e d) (wrong h' t' p' r' e' d') = absurd (t' t)
stage_one (long h t e d) (said h' t' l' s' w' o') = absurd (t' t)
stage_one (wrong h t p r e d) (short h' e' d') = absurd (omega arith)
stage_one (wrong h t p r e d) (long h' t' e' d') = absurd (t t')
stage_one (wrong h t p r e d) (wrong h' t' p' r' e' d') = (e ∙ ap (no_writing 40) (refused_one r r') ∙ sym e', d ∙ sym d')
stage_one (wrong h t p r e d) (said h' t' l' s' w' o') = absurd (says_unrefused s' r)
stage_one (said h t l s w o) (short h' e' d') = absurd (omega arith)
stage_one (said h t l s w o) (long h' t' e' d') = absurd (t t')
stage_one (said h t l s w o) (wrong h' t' p' r' e' d') = absurd (says_unrefused s r')
stage_one {after' = after'} {a' = a'} (said h t l s w o) (said h' t' l' s' w' o') =
    write_one (list_write 0 o)
    (subst (λ (m : Lent). WriteOutcome m a' after') (lent_one s' s (w' ∙ sym w)) (list_write 0 o'))

-- One answer, and one buffer.
pub make_one : {f : Input} {before after after' : List ℕ} {a a' : Writing} → MakeOutcome f before a after → MakeOutcome f before a' after'
    → (a ≡ a') × (after ≡ after')
make_one o o' = stage_one (staged o) (staged o')

-- A chain that a file can hold is refused by 3 to 10 only: its tables fit one another, and its rewards their fields.
no_reward_fault : {l : Lent} → Storable l → (p : ℕ) → RewardFault l.chain.states l.rewards l.chain.edges p → ⊥
no_reward_fault s _ (of_state i h) = omega (arith, h.1, s.rewards i)
no_reward_fault s _ (of_edge e h) = omega (arith, h.1, s.edge_rewards e)

pub said_numbers : {l : Lent} {n p : ℕ} → Storable l → longest_file ≤ length l.work → Refused filing l n p → (3 ≤ n) × (n ≤ 10)
said_numbers {l} {n} {p} s room r = at n p r.applies
  where
    at : (n p : ℕ) → Applies filing l n p → (3 ≤ n) × (n ≤ 10)
    at zero p h = absurd h
    at (suc zero) p h = absurd (s.shape h.1)
    at (suc (suc zero)) p h = absurd (room_enough (omega (arith, room, few_states s, few_edges s)) (omega arith) h.1)
    at (suc (suc (suc zero))) p h = (omega arith, omega arith)
    at (suc (suc (suc (suc zero)))) p h = (omega arith, omega arith)
    at (suc (suc (suc (suc (suc zero))))) p h = (omega arith, omega arith)
    at (suc (suc (suc (suc (suc (suc zero)))))) p h = (omega arith, omega arith)
    at (suc (suc (suc (suc (suc (suc (suc zero))))))) p h = (omega arith, omega arith)
    at (suc (suc (suc (suc (suc (suc (suc (suc zero)))))))) p h = (omega arith, omega arith)
    at (suc (suc (suc (suc (suc (suc (suc (suc (suc zero))))))))) p h = (omega arith, omega arith)
    at (suc (suc (suc (suc (suc (suc (suc (suc (suc (suc zero)))))))))) p h = (omega arith, omega arith)
    at (suc (suc (suc (suc (suc (suc (suc (suc (suc (suc (suc zero))))))))))) p h = absurd (no_reward_fault s p h)
    at (suc (suc (suc (suc (suc (suc (suc (suc (suc (suc (suc (suc n)))))))))))) p h = absurd h

-- With room for any file, 0 or a number of 3 to 10, 40 or 41 is answered, and no other.
pub make_numbers : {f : Input} {before after : List ℕ} {a : Writing} → MakeOutcome f before a after → longest_file ≤ length before
    → (a.number ≡ 0) ⊎ (((3 ≤ a.number) × (a.number ≤ 10)) ⊎ ((40 ≤ a.number) × (a.number ≤ 41)))
make_numbers (MakeOutcome.short h e d) room = absurd (omega (arith, h, room))
make_numbers (MakeOutcome.text_long h t e d) room =
    let z = ap (λ (a : Writing). a.number) e in inr (inr (omega (arith, z), omega (arith, z)))
make_numbers (MakeOutcome.text_refused h t p r e d) room =
    let z = ap (λ (a : Writing). a.number) e in inr (inr (omega (arith, z), omega (arith, z)))
make_numbers (MakeOutcome.chain_refused h t l s w k p r e d) room =
    let z = ap (λ (a : Writing). a.number) e in
    let b = said_numbers s.storable (omega (arith, room, ap length w)) r in
    inr (inl (omega (arith, z, b), omega (arith, z, b)))
make_numbers (MakeOutcome.made h t l s w g file x e d) room = inl (ap (λ (a : Writing). a.number) e)

-- What is shown is one text.
pub shown_one : {f : Input} {t t' : List ℕ} → Shown f t → Shown f t' → t ≡ t'
shown_one (Shown.file_refused n p r e) (Shown.file_refused n' p' r' e') = line (file_one r r') e e'
shown_one (Shown.file_refused n p r e) (Shown.shown a' e') = absurd (accepted_unrefused a' r)
shown_one (Shown.shown a e) (Shown.file_refused n' p' r' e') = absurd (accepted_unrefused a r')
shown_one (Shown.shown a e) (Shown.shown a' e') = e ∙ sym e'

pub show_one : {f : Input} {before after after' : List ℕ} {a a' : Writing} → ShowOutcome f before a after → ShowOutcome f before a' after'
    → (a ≡ a') × (after ≡ after')
show_one = text_one (λ t t'. shown_one)

pub texted_one : {f : Input} {before after after' : List ℕ} {a a' : Writing} → TextedOutcome f before a after → TextedOutcome f before a' after'
    → (a ≡ a') × (after ≡ after')
texted_one (TextedOutcome.short h e d) (TextedOutcome.short h' e' d') = (e ∙ sym e', d ∙ sym d')
texted_one (TextedOutcome.short h e d) (TextedOutcome.file_refused h' n' p' r' e' d') = absurd (omega arith)
texted_one (TextedOutcome.short h e d) (TextedOutcome.texted h' t' e' d') = absurd (omega arith)
texted_one (TextedOutcome.file_refused h n p r e d) (TextedOutcome.short h' e' d') = absurd (omega arith)
texted_one (TextedOutcome.file_refused h n p r e d) (TextedOutcome.file_refused h' n' p' r' e' d') =
    let o = file_one r r' in (e ∙ ap₂ no_writing o.0 o.1 ∙ sym e', d ∙ sym d')
texted_one (TextedOutcome.file_refused h n p r e d) (TextedOutcome.texted h' t' e' d') = absurd (accepted_unrefused t' r)
texted_one (TextedOutcome.texted h t e d) (TextedOutcome.short h' e' d') = absurd (omega arith)
texted_one (TextedOutcome.texted h t e d) (TextedOutcome.file_refused h' n' p' r' e' d') = absurd (accepted_unrefused t r')
texted_one (TextedOutcome.texted h t e d) (TextedOutcome.texted h' t' e' d') = (e ∙ sym e', d ∙ sym d')
