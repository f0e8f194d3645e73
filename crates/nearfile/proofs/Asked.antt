-- What is lent to the entry is the chain of the file, with the start that is asked for.
use Prim.Native.Nat.{ℕ}
use mathlib.Core.Path.{◌≡◌, ap, subst, ◌∙◌}
use mathlib.Core.List.{List, []}
use Rattle.std.proofs.Common.{Option, None, Some, Result}
use Rattle.meaning.specs.Refusal.{Lent, own_work}
use Rattle.meaning.specs.Block.{Input}
use Rattle.meaning.specs.Near.{NearOutcome}
use Rattle.meaning.specs.Miss.{MissOutcome}
use Rattle.meaning.specs.FileNear.{FileNear, lent_from}
use Rattle.meaning.specs.FileNear as asked
use Rattle.theory.proofs.Files.NearFile.{file_near_one}
use Rattle.near.proofs.Unique.{told_one}
use Rattle.chain.specs.declared.Chain.{Chain}
use Rattle.chain.specs.declared.refusal.Refusal.{Refusal}
use Rattle.elimination.specs.Own.{ours, Found}
use Rattle.opening.specs.Book.{Holds}
use Rattle.near.specs.Answer.{told_near, told_miss}
use Rattle.near.specs.declared.answer.Figures.{Figures}
use Rattle.nearfile.specs.From.{from_of, start_of}

abbrev started : Chain → ℕ → Chain
started c s = record { states = c.states; start = s; goals = c.goals }

module _ {f : Input} {c : Chain} {d e o r : List ℕ} (h : Holds f c d e o r) where
  lent_from_lem : (from : Option ℕ) → ours (started c (start_of from c.start)) d e o [] ≡ lent_from f (from_of from)
  lent_from_lem None = ap (λ (l : Lent). own_work l.chain l.order []) h.paid
  lent_from_lem (Some i) =
      ap
      (λ (l : Lent).
      own_work
      (record {
        states = l.chain.states;
        start = i;
        goals = l.chain.goals;
        denominators = l.chain.denominators;
        edges = l.chain.edges;
      })
      l.order
      [])
      h.paid

  pub asked_near : (from : Option ℕ) (a : Result Figures Refusal) (s : ℕ) → s ≡ start_of from c.start
      → Found (NearOutcome (ours (started c s) d e o [])) (told_near a) × Found (MissOutcome (ours (started c s) d e o [])) (told_miss a)
      → FileNear f (from_of from) (told_near a) (told_miss a)
  asked_near from a s q z =
      let all = ap (λ s. ours (started c s) d e o []) q ∙ lent_from_lem from in
      let y = subst (λ (l : Lent). Found (NearOutcome l) (told_near a) × Found (MissOutcome l) (told_miss a)) all z in
      FileNear.asked h.accepted _ _ y.0.outcome y.1.outcome

-- Two answers that are promised of one file and one start are the same.
pub file_near_unique : {f : Input} {from : asked.From} (r r' : Result Figures Refusal) → FileNear f from (told_near r) (told_miss r)
    → FileNear f from (told_near r') (told_miss r') → r ≡ r'
file_near_unique r r' x y = let e = file_near_one x y in told_one r r' e.0 e.1
