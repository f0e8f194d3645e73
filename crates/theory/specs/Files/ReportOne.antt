-- A report is one text for one input, and what stands in a lent buffer is then one too.
use Rattle.std.specs.Prelude.{ℕ, ◌≡◌, List, ◌++◌, length}
use Rattle.std.proofs.Common.{sym, ap, ap₂, ◌∙◌, arith}
use Rattle.meaning.specs.Number.{filled}
use Rattle.meaning.specs.Refusal.{Entry, Lent, Refused, WellFormed}
use Rattle.meaning.specs.Block.{Input, head_states, head_edges}
use Rattle.meaning.specs.File.{plain_in, paid_in}
use Rattle.meaning.specs.Text.{bytes_of}
use Rattle.meaning.specs.Buffer.{Writing, writing}
use Rattle.meaning.specs.Report.{refused_text, lines_text, Report, TextOutcome}
use Rattle.theory.specs.Outcomes.Determined.{refused_one}
use Rattle.theory.specs.Chains.Counted.{count_one}
use Rattle.theory.specs.Outcomes.Entries.{chance_determined, reward_determined, bounds_determined}
use Rattle.theory.specs.Files.FileOne.{file_one, accepted_unrefused}

pub line : {n p n' p' : ℕ} {t t' : List ℕ} → (n ≡ n') × (p ≡ p') → t ≡ refused_text n p ++ bytes_of "\n" → t' ≡ refused_text n' p' ++ bytes_of "\n" → t ≡ t'
line o e e' = e ∙ ap₂ (λ n p. refused_text n p ++ bytes_of "\n") o.0 o.1 ∙ sym e'

formed_or : {x : Entry} {l : Lent} {n p : ℕ} → WellFormed x l → Refused x l n p → ⊥
formed_or {n = n} {p} w r = w.none n p r.applies

pub report_one : {f : Input} {t t' : List ℕ} → Report f t → Report f t' → t ≡ t'
report_one (Report.file_refused n p r e) (Report.file_refused n' p' r' e') = line (file_one r r') e e'
report_one (Report.file_refused n p r e) (Report.chain_refused n' p' a' r' e') = absurd (accepted_unrefused a' r)
report_one (Report.file_refused n p r e) (Report.reported a' w' g' v' cg' cv' c' r' b' x' y' z' oc' or' ob' e') = absurd (accepted_unrefused a' r)
report_one (Report.chain_refused n p a r e) (Report.file_refused n' p' r' e') = absurd (accepted_unrefused a r')
report_one (Report.chain_refused n p a r e) (Report.chain_refused n' p' a' r' e') = line (refused_one r r') e e'
report_one (Report.chain_refused n p a r e) (Report.reported a' w' g' v' cg' cv' c' r' b' x' y' z' oc' or' ob' e') = absurd (formed_or w' r)
report_one (Report.reported a w g v cg cv c q b x y z oc or ob e) (Report.file_refused n' p' r' e') = absurd (accepted_unrefused a r')
report_one (Report.reported a w g v cg cv c q b x y z oc or ob e) (Report.chain_refused n' p' a' r' e') = absurd (formed_or w r')
report_one {f} (Report.reported a w g v cg cv c q b x y z oc or ob e) (Report.reported a' w' g' v' cg' cv' c' q' b' x' y' z' oc' or' ob' e') =
    let goals = count_one cg cg' in
    let live = count_one cv cv' in
    let chance = (chance_determined (plain_in f) oc oc').0 in
    let reward = (reward_determined (paid_in f) or or').0 in
    let bounds = (bounds_determined (plain_in f) ob ob').0 in
    let same : lines_text (head_states f) (head_edges f) g v c q b ≡ lines_text (head_states f) (head_edges f) g' v' c' q' b' =
    λ i. lines_text (head_states f) (head_edges f) (goals i) (live i) (chance i) (reward i) (bounds i) in
    e ∙ same ∙ sym e'

-- One answer and one buffer, where the text is one.
pub text_one : {most : ℕ} {Text : List ℕ → Type 0} {before after after' : List ℕ} {a a' : Writing}
    → ((t t' : List ℕ) → Text t → Text t' → t ≡ t') → TextOutcome most Text before a after → TextOutcome most Text before a' after'
    → (a ≡ a') × (after ≡ after')
text_one one (TextOutcome.short h e k) (TextOutcome.short h' e' k') = (e ∙ sym e', k ∙ sym k')
text_one one (TextOutcome.short h e k) (TextOutcome.printed h' t' w' e' k') = absurd (omega arith)
text_one one (TextOutcome.printed h t w e k) (TextOutcome.short h' e' k') = absurd (omega arith)
text_one {before = before} one (TextOutcome.printed h t w e k) (TextOutcome.printed h' t' w' e' k') =
    let q = one t t' w w' in
    (e ∙ ap (λ t. writing (length t)) q ∙ sym e', k ∙ ap (λ t. filled t before) q ∙ sym k')
