-- What the choice and the writer say of an accepted file's chain is what is answered of the file.
use Rattle.std.proofs.Common.{ℕ, ◌≤◌, ◌≡◌, List, [], length, Ok, Err, refl, ap, subst, ◌∙◌, arith}
use Rattle.meaning.specs.Refusal.{Lent, chain_alone}
use Rattle.meaning.specs.Block.{Input, head_states}
use Rattle.meaning.specs.File.{chain_in, bare_in}
use Rattle.meaning.specs.Buffer.{Writing, no_writing}
use Rattle.meaning.specs.Write.{Bytes, WriteOutcome}
use Rattle.meaning.specs.Choice.{Choice as Numbers, ChoiceOutcome, list_wrong, refused, chosen}
use Rattle.meaning.specs.Reorder.{longest_file, ReorderOutcome, chain_refused}
use Rattle.theory.specs.Outcomes.Places.{refused_places}
use Rattle.theory.specs.Files.Reorder.{rewritten, rewritten_outcome}
use Rattle.chain.specs.Given.{with}
use Rattle.chain.specs.Refusal.{number_of}
use Rattle.chain.specs.declared.refusal.Refusal.{Refusal}
use Rattle.chain.proofs.Faults.{above_0}
use Rattle.choice.specs.Told.{told, Chooses}
use Rattle.chainwriter.specs.Tells.{Writing as Answer, told as told_writing}
use Rattle.opening.specs.Asked.{Shown}
use Rattle.opening.specs.declared.book.Opened.{Opened}
use Rattle.reordering.specs.Rewritten.{Rewritten}

-- What is written of an accepted file.
pub of_parts : {f : Input} (p : Opened) (r : Answer) {before after : List ℕ} → Rewritten p before r after → Bytes f.kept → Shown f p
    → ReorderOutcome f before (told_writing r) after
of_parts {f} p r w bytes s = w.of_file f bytes s

module _ {f : Input} (bytes : Bytes f.kept) {p : Opened} (s : Shown f p) (o : List ℕ) (long : length o ≡ p.given.chain.states)
    (buffer : List ℕ) (room : longest_file ≤ length buffer) where
  chain_is : (with p.given [] [] []).chain ≡ chain_in f
  chain_is = ap (λ (l : Lent). l.chain) s.holds.paid

  -- The choice is made of the file's chain, with a list of its length.
  of_file : {a : Numbers} {o' : List ℕ} → ChoiceOutcome (with p.given [] [] []) o a o' → ChoiceOutcome (bare_in f) o a o'
  of_file {a} {o'} = subst (λ l. ChoiceOutcome l o a o') (λ i. chain_alone (chain_is i))

  list_long : length o ≡ head_states f
  list_long = long ∙ ap (λ (l : Lent). l.chain.states) s.holds.paid

  number : {a b : Numbers} → a ≡ b → a.number ≡ b.number
  number q = ap (λ (a : Numbers). a.number) q

  pub choice_refuses : (x : Refusal) {o' : List ℕ} → Chooses (with p.given [] [] []) o (Err x) o'
      → ReorderOutcome f buffer (no_writing (number_of x.fault) x.place) buffer
  choice_refuses x {o'} y = at (of_file y)
    where
      at : ChoiceOutcome (bare_in f) o (told (Err x)) o' → ReorderOutcome f buffer (no_writing (number_of x.fault) x.place) buffer
      at (list_wrong w g u) = absurd (w list_long)
      at (refused l n q w g u) =
          chain_refused room s.holds.accepted n q w (ap (λ (a : Numbers). no_writing a.number a.place) g) refl
      at (chosen l w k t m y g) = absurd (omega (arith, number g, above_0 x.fault))

  pub choice_written : {o' : List ℕ} (sum : ℕ) → Chooses (with p.given [] [] []) o (Ok sum) o' → {a : Writing} {after : List ℕ}
      → WriteOutcome (with p.given o' p.rewards.now buffer) a after → ReorderOutcome f buffer a after
  choice_written {o'} sum y {a} {after} w = at (of_file y)
    where
      written : WriteOutcome (rewritten f o' buffer) a after
      written =
          subst (λ l. WriteOutcome l a after)
          (λ i. record { chain = chain_is i; order = o'; rewards = ap (λ (l : Lent). l.rewards) s.holds.paid i; work = buffer; list = 0 }) w

      at : ChoiceOutcome (bare_in f) o (told (Ok sum)) o' → ReorderOutcome f buffer a after
      at (list_wrong v g u) = absurd (v list_long)
      at (refused l n q v g u) = absurd (omega (arith, number g, refused_places n q v))
      at (chosen l v k t m y g) = rewritten_outcome f bytes s.holds.accepted v t y buffer room written
