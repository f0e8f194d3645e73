-- The rows that a chain gives are their own words.
use Rattle.std.proofs.Common.{◌≡◌, ℕ, ◌+◌, ◌*◌, ◌^◌, ◌<◌, ◌≤◌, false, List, [], length, sym, refl, ap, ◌∙◌, subst, ⊎_elim, div-one, arith, Result, Ok, Err}
use Rattle.meaning.specs.Chain.{M, Chain, denominator, Goal}
use Rattle.meaning.specs.Row.{Row, cell}
use Rattle.meaning.specs.Step.{row, Sets, Right, given}
use Rattle.meaning.specs.Near.{near_first, near_stage}
use Rattle.meaning.specs.Refusal.{Lent, plain, Refused, WellFormed}
use Rattle.theory.specs.Numbers.Sum.{below, sum_term}
use Rattle.theory.specs.Numbers.Binary.{digits_most}
use Rattle.theory.specs.Numbers.Tops.{top_small}
use Rattle.theory.specs.Chains.Fine.{Fine, fine_whole}
use Rattle.theory.specs.Stages.Given.{given_reward, given_whole}
use Rattle.theory.specs.Stages.NearStep.{no_cell, first_by}
use Rattle.theory.proofs.Stages.Nearly.{nearly_stage}
use Rattle.theory.specs.Outcomes.Formed.{few_states, denominator_small, order_length, room}
use Rattle.theory.specs.Outcomes.Whole.{formed_prepared}
use Rattle.survey.specs.Sets.{Known, sets_of}
use Rattle.survey.specs.declared.Sets.{Sets as Found}
use Rattle.chain.specs.declared.Chain.{Chain as Frame}
use Rattle.chain.specs.Lent.{lent}
use Rattle.elimination.specs.Laying.{Lies, laid}
use Rattle.chain.specs.Refusal.{number_of}
use Rattle.chain.specs.declared.refusal.Refusal.{Refusal}
use Rattle.near.specs.Word.{word, value}
use Rattle.near.specs.Table.{Stands}
use Rattle.near.specs.Entry.{Begun}
use Rattle.near.proofs.Words.{value_word, word_of}

-- A number of at most 31 digits is its own word.
word_small : (x : ℕ) → x < 2 ^ 31 → word x ≡ x
word_small x h = word_of x 0 (omega (arith, digits_most x 31 h)) (omega arith) ∙ rw (div-one x) (omega arith)

value_small : (x : ℕ) → x < 2 ^ 31 → value x ≡ x
value_small x h = sym (ap value (word_small x h)) ∙ value_word x (omega (arith, digits_most x 31 h)) ∙ top_small x h

-- A row of such numbers stands for itself.
row_stands : (r : Row) (m : ℕ) → length r ≡ m → ((j : ℕ) → j < m → cell r j < 2 ^ 31) → Stands m (cell r) r 31
row_stands r m e h =
    record {
      wide = e;
      down = 0;
      up = 0;
      alike = λ j l. ap (λ z. z * 1) (value_small (cell r j) (h j l));
      proper = λ j l. sym (ap word (value_small (cell r j) (h j l)) ∙ word_small (cell r j) (h j l));
      few = λ j l. rw (value_small (cell r j) (h j l)) (digits_most (cell r j) 31 (h j l));
    }

module _ (c : Chain) (k : Sets) (fine : Fine c) (right : Right c k) (small : (i : ℕ) → i < c.states → denominator c i ≤ M) where
  first_small : (i : ℕ) → i < c.states → (j : ℕ) → j < c.states + 4 → cell (row (near_first c k) i) j < 2 ^ 31
  first_small i h =
      first_by c k (λ r. (j : ℕ) → j < c.states + 4 → cell r j < 2 ^ 31) i h
      (λ l j b.
      ⊎_elim
      (λ (m : j < c.states + 3).
      omega (
        arith,
        small i h,
        sum_term (cell (given c k (λ _. 0) 0 i)) (c.states + 3) j m,
        given_whole c k (λ _. 0) (λ _. 0) (fine_whole fine) (Goal c) (λ _ g. g) right i (h, l),
      ))
      (λ (m : c.states + 3 ≤ j).
      let e : j ≡ c.states + 3 = omega arith in
      rw (e, given_reward c k (λ _. 0) 0 i) (omega arith))
      (below j (c.states + 3)))
      (λ j b. omega (arith, no_cell c.states j b))

-- What the laying says, by its answer.
module _ {l : Lent} {w : List ℕ} {a : Result Found Refusal} (h : laid l w a) where
  pub laid_refused : {r : Refusal} → a ≡ Err r → Refused plain l (number_of r.fault) r.place × (w ≡ l.work)
  laid_refused e = subst (laid l w) e h

  pub laid_rows : {s : Found} → a ≡ Ok s
      → WellFormed plain l × Known false l.chain s × Lies l.chain.states (near_first l.chain (sets_of s)) l.work w
  laid_rows e = subst (laid l w) e h

-- What the elimination is begun with, once the rows of a well-formed input are laid out.
pub begun : (c : Frame) (d e o w : List ℕ) (s : Found) {v : List ℕ} → WellFormed plain (lent c d e o [] w) → Known false (lent c d e o [] w).chain s
    → Lies c.states (near_first (lent c d e o [] w).chain (sets_of s)) w v → Begun c s d e o v
unfolding near_stage
begun c d e o w s {v} formed known lies =
    let l = lent c d e o [] w in
    let ready = formed_prepared plain l formed refl refl (sets_of s) known.right in
    record {
      walks = record { ready = ready; few = few_states plain l formed; small = denominator_small plain l formed };
      length_order = order_length plain l formed refl;
      room = omega (arith, lies.kept.len, room plain l formed);
      worded =
          record {
            rows = λ i h.
                let r = row (near_first l.chain (sets_of s)) i in
                let small = first_small l.chain (sets_of s) ready.fine ready.right (denominator_small plain l formed) i h in
                let wide = (nearly_stage l.chain (sets_of s) o ready (few_states plain l formed) 0 (omega arith)).wide i h in
                rw (lies.rows i h) (row_stands r (c.states + 4) wide small);
          };
    }
