-- What is said of a chain file and a table in bytes, and what the program prints of it, is one; a refusal's number is above 0, and places and states are small.
use Rattle.std.specs.Prelude.{ℕ, ◌+◌, ◌≤◌, ◌<◌, ◌≡◌, refl, List}
use Rattle.std.proofs.Common.{sym, ap, ap₂, ◌∙◌, arith}
use Rattle.meaning.specs.Chain.{most_states, most_edges}
use Rattle.meaning.specs.Refusal.{Lent, bare}
use Rattle.meaning.specs.Block.{Input}
use Rattle.meaning.specs.Judge.{Verdict, wrong, refusal, JudgeOutcome, table_length, refused, denominator_wrong, numerator_large, says_yes, says_no, FileJudged, file_refused, shares_size_lem, asked, verdict_line, JudgeReport}
use Rattle.theory.specs.Files.FileOne.{file_one, file_numbers, accepted_unrefused}
use Rattle.theory.specs.Files.StepsOne.{file_place}
use Rattle.theory.specs.Outcomes.Formed.{few_states}
use Rattle.theory.specs.Outcomes.Places.{refused_places}
use Rattle.theory.specs.Judging.Verdicts.{unwrong, unlike, unlike_no, judge_one}

pub file_judged_one : {f : Input} {shares : List ℕ} {a a' : Verdict} → FileJudged f shares a → FileJudged f shares a' → a ≡ a'
file_judged_one (file_refused n p r e) (file_refused n' p' r' e') = let o = file_one r r' in e ∙ ap₂ refusal o.0 o.1 ∙ sym e'
file_judged_one (file_refused n p r e) (shares_size_lem z' s' e') = absurd (accepted_unrefused z' r)
file_judged_one (file_refused n p r e) (asked z' s' o') = absurd (accepted_unrefused z' r)
file_judged_one (shares_size_lem z s e) (file_refused n' p' r' e') = absurd (accepted_unrefused z r')
file_judged_one (shares_size_lem z s e) (shares_size_lem z' s' e') = e ∙ sym e'
file_judged_one (shares_size_lem z s e) (asked z' s' o') = absurd (s s')
file_judged_one (asked z s o) (file_refused n' p' r' e') = absurd (accepted_unrefused z r')
file_judged_one (asked z s o) (shares_size_lem z' s' e') = absurd (s' s)
file_judged_one (asked z s o) (asked z' s' o') = judge_one o o'

-- What the program prints is one text.
pub judged_one : {f : Input} {shares t t' : List ℕ} → JudgeReport f shares t → JudgeReport f shares t' → t ≡ t'
judged_one r r' = r.line ∙ ap verdict_line (file_judged_one r.outcome r'.outcome) ∙ sym r'.line

-- What two equal verdicts have in common.
same_state : {i j : ℕ} → wrong i ≡ wrong j → i ≡ j
same_state e = cc

refused_small : {n p number place : ℕ} → refusal number place ≡ refusal n p → 0 < n → p ≤ most_states + most_edges
    → (0 < number) × (place ≤ most_states + most_edges)
refused_small {n} {p} {number} {place} e h l = let z : number ≡ n = cc in let w : place ≡ p = cc in (omega arith, omega arith)

-- A refusal has a number above 0, and its place has room in the 32 bits of C.
judge_number : {l : Lent} {d : ℕ} {table : List ℕ} {a : Verdict} {number place : ℕ} → JudgeOutcome l d table a → a ≡ refusal number place
    → (0 < number) × (place ≤ most_states + most_edges)
judge_number (table_length n e) q = refused_small (sym q ∙ e) (omega arith) (omega arith)
judge_number {l} (refused s k p r e) q = let z = refused_places k p r in refused_small (sym q ∙ e) z.0 z.2
judge_number (denominator_wrong s o e) q = refused_small (sym q ∙ e) (omega arith) (omega arith)
judge_number {l} (numerator_large s o i f b e) q =
    refused_small (sym q ∙ e) (omega arith) (omega (arith, f.0, few_states bare l s.formed))
judge_number (says_yes s g h e) q = absurd (unlike (sym e ∙ q))
judge_number (says_no s g i f b e) q = absurd (unlike_no (sym e ∙ q))

pub file_judged_number : {f : Input} {shares : List ℕ} {number place : ℕ} → FileJudged f shares (refusal number place)
    → (0 < number) × (place ≤ most_states + most_edges)
file_judged_number o = go o refl
  where
    go : {f : Input} {shares : List ℕ} {a : Verdict} {number place : ℕ} → FileJudged f shares a → a ≡ refusal number place
        → (0 < number) × (place ≤ most_states + most_edges)
    go (file_refused n p r e) q = refused_small (sym q ∙ e) (omega (arith, (file_numbers r).0)) (file_place r)
    go (shares_size_lem z s e) q = refused_small (sym q ∙ e) (omega arith) (omega arith)
    go (asked z s o) q = judge_number o q

-- A state that is named is below 64.
judge_state : {l : Lent} {d : ℕ} {table : List ℕ} {a : Verdict} {i : ℕ} → JudgeOutcome l d table a → a ≡ wrong i → i < most_states
judge_state (table_length n e) q = absurd (unlike_no (sym q ∙ e))
judge_state (refused s k p r e) q = absurd (unlike_no (sym q ∙ e))
judge_state (denominator_wrong s o e) q = absurd (unlike_no (sym q ∙ e))
judge_state (numerator_large s o i f b e) q = absurd (unlike_no (sym q ∙ e))
judge_state (says_yes s g h e) q = absurd (unwrong (sym e ∙ q))
judge_state {l} {i = i} (says_no s g j f b e) q =
    let z : i ≡ j = same_state (sym q ∙ e) in omega (arith, f.0, few_states bare l s.formed)

pub file_judged_state : {f : Input} {shares : List ℕ} {i : ℕ} → FileJudged f shares (wrong i) → i < most_states
file_judged_state (file_refused n p r e) = absurd (unlike_no e)
file_judged_state (shares_size_lem z s e) = absurd (unlike_no e)
file_judged_state (asked z s o) = judge_state o refl
