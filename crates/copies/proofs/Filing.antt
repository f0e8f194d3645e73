-- From the tables that the code made to the file, and from what is asked of it to the planner's answer.
use Prim.Native.Nat.{ℕ, zero, suc, ◌≤◌, ◌<◌}
use mathlib.Core.Path.{◌≡◌, refl, sym, ap, ap₂, subst, ◌∙◌}
use mathlib.Core.List.{List, ◌∷◌}
use native.Mathlib.Omega.{arith}
use Rattle.std.proofs.Common.{Option, Some, None}
use lib.ListN.{length, take, replicate, length-take, length-replicate}
use Rattle.meaning.specs.Number.{tab_from}
use Rattle.meaning.specs.Chain.{Chain, row_sum}
use Rattle.meaning.specs.Outcome.{Answer, refusal, fraction}
use Rattle.meaning.specs.Buffer.{Writing}
use Rattle.meaning.specs.Write.{FileOf, WriteOutcome}
use Rattle.meaning.specs.Copies.{Plan, Sensible, copies_states, copies_edges, copies_order, copies_lent, copies_for, PlanRefused, PlanFiled, CopiesOutcome, PlaceFault, large, planned}
use Rattle.theory.specs.Files.Written.{file_of_size}
use Rattle.theory.specs.Files.CallFile.{Exactly, answers, refuses}
use Rattle.theory.specs.Plans.Filed.{copies_room, copies_filed, plan_filed}
use Rattle.egorstream.specs.Told.{lent}
use Rattle.copies.specs.Grown.{Grown}
use Rattle.copies.specs.Told.{LeastWrong, least_wrong}

-- The front of a table is as long as it is said to be.
pub front_length : {before new after : List ℕ} {next : ℕ} → Grown before 0 new after next → next ≡ length (take next after)
front_length {after = after} {next} g = simp length-take (omega (arith, g.room, g.same))

take_zeros : (n m : ℕ) → n ≤ m → take n (replicate {A = ℕ} m 0) ≡ replicate n 0
take_zeros zero m h = refl
take_zeros (suc n) zero h = absurd (omega arith)
take_zeros (suc n) (suc m) h = ap (λ s. 0 ∷ s) (take_zeros n m (omega arith))

pub zeros_length : (n m : ℕ) → n ≤ m → n ≡ length (take n (replicate {A = ℕ} m 0))
zeros_length n m h = sym (ap length (take_zeros n m h) ∙ length-replicate n 0)

-- What is written of these tables is written of the plan.
module _ (j : Plan) where
  pub from_tables : {denominators edges order buffer after : List ℕ} {a : Writing} (m : ℕ)
      → denominators ≡ tab_from 0 (copies_states j) (row_sum (copies_edges j)) → edges ≡ copies_edges j → order ≡ copies_order j
      → copies_states j ≤ m
      → WriteOutcome (lent (copies_states j) j.copies 1 denominators edges order (take (copies_states j) (replicate m 0)) buffer) a after
      → WriteOutcome (copies_for j buffer) a after
  from_tables {buffer = buffer} {after} {a} m d e o h w =
      let tables : List ℕ → List ℕ → Chain =
      λ d e. record { states = copies_states j; start = j.copies; goals = 1; denominators = d; edges = e } in
      let c = ap₂ tables d e in
      let r = take_zeros (copies_states j) m h in
      subst (λ l. WriteOutcome l a after) (λ i. record { chain = c i; order = o i; rewards = r i; work = buffer; list = 0 }) w

-- What is known of a plan once its file was asked for, with room enough: it is refused, or its file stands at the front.
pub data Made (j : Plan) (a : Writing) (after : List ℕ) : Type 0 where
  not : PlanRefused j a.number a.place → Made j a after
  made : Sensible j → a.number ≡ 0 → FileOf (copies_filed j) (take a.written after) → a.written ≤ length after → Made j a after

module _ {j : Plan} {before after : List ℕ} {a : Writing} where
  -- A refusal writes no byte, and a file has some.
  writes : Sensible j → copies_room ≤ length before → WriteOutcome (copies_for j before) a after → a.number ≡ 0
  writes s room (WriteOutcome.written w f x e k) = ap (λ (a : Writing). a.number) e
  writes s room (WriteOutcome.refused number place r e k) =
      let none = ap (λ (a : Writing). a.written) e in
      let long = file_of_size (plan_filed s refl refl refl room (WriteOutcome.refused number place r e k)).0 in
      absurd (omega (arith, long, ap (λ n. length (take n after)) none))

  pub filing_made : copies_room ≤ length before → PlanFiled j before a after → Made j a after
  filing_made room (PlanFiled.refused number place r e k) = not (rw e r)
  filing_made room (PlanFiled.filed s w) =
      let x = plan_filed s refl refl refl room w in
      made s (writes s room w) x.0 x.1

-- A number of refusal is above 0.
pub refused_some : {j : Plan} {number place : ℕ} → PlanRefused j number place → 0 < number
refused_some (PlanRefused.copies_wrong f) = omega arith
refused_some (PlanRefused.weight_wrong g p f b) = omega arith

module _ {j : Plan} {a : Writing} {after : List ℕ} where
  pub made_sensible : Made j a after → a.number ≡ 0 → Sensible j
  made_sensible (not r) z = absurd (omega (arith, refused_some r))
  made_sensible (made s e f h) z = s

  pub made_file : Made j a after → a.number ≡ 0 → FileOf (copies_filed j) (take a.written after)
  made_file (not r) z = absurd (omega (arith, refused_some r))
  made_file (made s e f h) z = f

  pub made_inside : Made j a after → a.number ≡ 0 → a.written ≤ length after
  made_inside (not r) z = absurd (omega (arith, refused_some r))
  made_inside (made s e f h) z = h

  pub made_refused : Made j a after → 0 < a.number → PlanRefused j a.number a.place
  made_refused (not r) z = r
  made_refused (made s e f h) z = absurd (omega arith)

-- What is returned and read back is the planner's answer.
module _ {j : Plan} (sensible : Sensible j) where
  pub asked_refused : {returned p q : ℕ} {a : Answer} → Exactly (copies_lent j) returned p q → 0 < returned → a ≡ refusal returned 0 → CopiesOutcome j a
  asked_refused (answers z f h) some e = absurd (omega arith)
  asked_refused (refuses z f) some e = large sensible f (e ∙ ap (λ n. refusal n 0) z)

  pub asked_answered : {returned p q : ℕ} → Exactly (copies_lent j) returned p q → returned ≡ 0 → CopiesOutcome j (fraction p q)
  asked_answered {p = p} {q} (answers z f h) none = planned sensible f p q h refl
  asked_answered (refuses z f) none = absurd (omega arith)

-- What a look for a wrong weight tells.
module _ (j : Plan) {r : Option ℕ} (f : least_wrong j r) where
  pub some : {p : ℕ} → r ≡ Some p → LeastWrong j p
  some e = subst (λ (x : Option ℕ). least_wrong j x) e f

  pub none : r ≡ None → (p : ℕ) → PlaceFault j p → ⊥
  none e = subst (λ (x : Option ℕ). least_wrong j x) e f
