-- A chain file is shown.
use Prim.Native.Nat.{ℕ, ◌≤◌, ◌<◌}
use native.Mathlib.Omega.{arith}
use mathlib.Core.Path.{◌≡◌, refl, ap, ◌∙◌}
use mathlib.Core.List.{List, [], ◌++◌}
use lib.ListN.{length, length-append}
use Rattle.std.proofs.Common.{Result, Ok, Err}
use Rattle.meaning.specs.Number.{filled}
use Rattle.meaning.specs.Refusal.{Lent}
use Rattle.meaning.specs.Chain.{most_states}
use Rattle.meaning.specs.Block.{Input, head_states, order_in}
use Rattle.meaning.specs.File.{paid_in}
use Rattle.meaning.specs.Buffer.{Writing, writing}
use Rattle.meaning.specs.Text.{bytes_of}
use Rattle.meaning.specs.Report.{refused_text, TextOutcome}
use Rattle.meaning.specs.ChainText.{chain_text, text_of}
use Rattle.meaning.specs.Translate.{Shown, shown_room, ShowOutcome, TextedOutcome, short, file_refused, texted}
use Rattle.theory.specs.Numbers.Tab.{tab_length}
use Rattle.theory.specs.Files.FileOne.{file_numbers}
use Rattle.chain.specs.Given.{with}
use Rattle.chain.specs.Refusal.{number_of}
use Rattle.chain.specs.declared.refusal.Refusal.{Refusal}
use Rattle.chain.proofs.Faults.{above_0}
use Rattle.octets.specs.Written.{Written}
use Rattle.opening.specs.Asked.{Shown as Handed}
use Rattle.opening.specs.declared.book.Opened.{Opened}
use Rattle.report.specs.Stands.{Writes, told}
use Rattle.report.proofs.Refusals.{stands}

module _ {f : Input} {p : Opened} (s : Handed f p) where
  pub order_few : length p.order.now ≤ most_states
  order_few =
      let n : length p.order.now ≡ head_states f = ap (λ (l : Lent). length l.order) s.holds.paid ∙ tab_length 0 (head_states f) (order_in f) in
      omega (arith, ap (λ (l : Lent). l.chain.states) s.holds.paid, s.few_states)

  pub show_text : {before after : List ℕ} (r : Result ℕ Refusal) → shown_room ≤ length before
      → (k : ℕ) × (r ≡ Ok k) × Written before 0 (chain_text (with p.given p.order.now p.rewards.now [])) after k → TextedOutcome f before (told r) after
  show_text {before} r room (k, q, w) =
      let e = ap chain_text s.holds.paid in
      let z = stands {Text = λ (t : List ℕ). t ≡ chain_text (paid_in f)} e w in
      texted room s.holds.accepted (ap told q ∙ ap writing (z.whole ∙ ap length z.wanted)) (z.bytes ∙ ap (λ (t : List ℕ). filled t before) z.wanted)

-- A chain's text has bytes.
pub text_some : (l : Lent) → 0 < length (chain_text l)
unfolding text_of
text_some l = simp length-append (omega arith)

-- What is shown of a file is its text, or the line of its refusal.
module _ {f : Input} {before between : List ℕ} (room : shown_room ≤ length before) where
  pub show_written : {n : ℕ} → TextedOutcome f before (writing n) between → ShowOutcome f before (writing n) between
  show_written (short h e d) = absurd (omega arith)
  show_written (file_refused h k p x e d) = absurd (omega (arith, ap (λ (a : Writing). a.number) e, file_numbers x))
  show_written (texted h t e d) = TextOutcome.printed room (chain_text (paid_in f)) (Shown.shown t refl) e d

  pub show_refused : (x : Refusal) → TextedOutcome f before (told (Err x)) between → Writes (Shown f) before (Err x) between
  show_refused x (short h e d) = absurd (omega arith)
  show_refused x (file_refused h n p r e d) =
      let m : number_of x.fault ≡ n = ap (λ (a : Writing). a.number) e in
      let q : x.place ≡ p = ap (λ (a : Writing). a.place) e in
      (Shown.file_refused n p r (λ i. refused_text (m i) (q i) ++ bytes_of "\n"), d)
  show_refused x (texted h t e d) = absurd (omega (arith, ap (λ (a : Writing). a.number) e, above_0 x.fault))
