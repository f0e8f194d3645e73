-- Every chain of the list has the figures that the list says: one test, computed over the whole list, and one law.
use Rattle.std.specs.Prelude.{ℕ, ◌≡◌, Bool, true, false}
use Rattle.std.proofs.Math.Path.{refl, sym, ap}
use Rattle.std.proofs.Common.{◌∙◌, ⊎_elim, arith}
use Rattle.std.proofs.Math.Option.{Option, some, none}
use mathlib.Core.List.Memᴰ
use mathlib.Core.List.{List, [], ◌∷◌, Memᴰ}
use Rattle.std.proofs.Math.Decide.{ℕ_discrete}
use Rattle.std.proofs.Math.ListN.{get_or}
use Rattle.meaning.specs.Number.{choose, sum_to, largest, tab_from, gcd_in, gcd}
use Rattle.meaning.specs.Chain.{Chain, carried, flow, edge_rewards}
use Rattle.meaning.specs.Row.{gcd_of, divisor, over, shift_from, shift_of, rounded_by, bounded, settled}
use Rattle.meaning.specs.Step.{Sets, Right, given, no_row, first, combined, renewed, removed, after}
use Rattle.meaning.specs.Outcome.{Answer, ChanceOutcome, RewardOutcome, Bounds, BoundsOutcome}
use Rattle.meaning.specs.Figure.{Chance}
use Rattle.meaning.specs.Refusal.{Lent, plain}
use Rattle.meaning.specs.Block.{Input}
use Rattle.meaning.specs.File.{FileRefused}
use Rattle.meaning.specs.Copies.{each, copies_edges}
use Rattle.meaning.specs.Cases.{Case, chance, reward, bounds, steps, value, file, Claim, cases}
use Rattle.meaning.specs.Steps.{StepRecord, taken_out, record_of, records_along}
use Rattle.theory.specs.Outcomes.StepsComputed.{steps_computed}
use Rattle.theory.specs.Outcomes.Look.{refused, formed, look}
use Rattle.theory.specs.Outcomes.Halt.{alike}
use Rattle.theory.specs.Chains.Marks.{marks, enough, marks_right}
use Rattle.theory.specs.Outcomes.Computed.{chance_is, chance_computed, reward_computed, bounds_computed}
use Rattle.theory.specs.Files.Head.{headed}

-- Two lists, where they are found to be one by a test of their entries; two numbers; and two lists of numbers.
unfoldable paired : {A : Type 0} → ((x y : A) → Option (x ≡ y)) → (s t : List A) → Option (s ≡ t)
paired one [] [] = some refl
paired one [] (y ∷ t) = none
paired one (x ∷ s) [] = none
paired one (x ∷ s) (y ∷ t) =
    elim (one x y) [
      | none ↦ none
      | some p ↦ elim (paired one s t) [
        | none ↦ none
        | some q ↦ some (λ i. p i ∷ q i)
      ]
    ]

unfoldable equal : (x y : ℕ) → Option (x ≡ y)
unfolding ℕ_discrete
equal x y =
    elim (ℕ_discrete x y) [
      | no h ↦ none
      | yes p ↦ some p
    ]

unfoldable matched : (s t : List ℕ) → Option (s ≡ t)
unfolding paired equal
matched = paired equal

-- The chain's sets, where as many rounds as there are states were enough to mark them.
abbrev marked : Chain → Sets
marked c = marks c.states c

unfoldable known : (c : Chain) → Option (Right c (marked c))
unfolding enough alike
known c =
    elim (alike (enough c.states c) true) [
      | no h ↦ none
      | yes e ↦ some (marks_right c.states c e)
    ]

-- What an entry answers as a list of its numbers, and back.
abbrev answer_numbers : Answer → List ℕ
answer_numbers a = a.number ∷ a.place ∷ a.numerator ∷ a.denominator ∷ []

abbrev answer_of : List ℕ → Answer
answer_of s = record { number = get_or s 0 0; place = get_or s 1 0; numerator = get_or s 2 0; denominator = get_or s 3 0 }

abbrev bounds_numbers : Bounds → List ℕ
bounds_numbers a =
    a.number ∷ a.place ∷ a.lower_numerator ∷ a.lower_denominator ∷ a.upper_numerator ∷ a.upper_denominator ∷ []

abbrev bounds_of : List ℕ → Bounds
bounds_of s =
    record {
      number = get_or s 0 0;
      place = get_or s 1 0;
      lower_numerator = get_or s 2 0;
      lower_denominator = get_or s 3 0;
      upper_numerator = get_or s 4 0;
      upper_denominator = get_or s 5 0;
    }

-- Two records, by their numbers.
abbrev record_numbers : StepRecord → List ℕ
record_numbers r = r.state ∷ r.rows ∷ r.columns ∷ r.divisor ∷ []

unfoldable alike_records : (r s : StepRecord) → Option (r ≡ s)
unfolding matched
alike_records r s =
    elim (matched (record_numbers r) (record_numbers s)) [
      | none ↦ none
      | some e ↦ some (ap (λ s. record { state = get_or s 0 0; rows = get_or s 1 0; columns = get_or s 2 0; divisor = get_or s 3 0 }) e)
    ]

-- What holds of an answer and a work table holds of those that a case has, where they are found to be these.
module _ {A : Type 0} (P : A → List ℕ → Type 0) where
  unfoldable agreed : (numbers : A → List ℕ) (back : List ℕ → A) → ((a : A) → back (numbers a) ≡ a)
      → (a : A) (w : List ℕ) → P a w → (a' : A) (w' : List ℕ) → Option (P a' w')
  unfolding matched
  agreed numbers back same a w p a' w' =
      elim (matched (numbers a) (numbers a')) [
        | none ↦ none
        | some e ↦ elim (matched w w') [
          | none ↦ none
          | some f ↦ some
              (let same_answer : a ≡ a' = sym (same a) ∙ ap back e ∙ same a' in
              rw (← same_answer, ← f) p)
        ]
      ]

-- The claim of a case, where its figures are found to be those that it says.
module _ (l : Lent) (right : Right l.chain (marked l.chain)) where
  abbrev k : Sets
  k = marked l.chain

  unfoldable shows_chance : (a : Answer) (w : List ℕ) → Option (ChanceOutcome l a w)
  unfolding agreed chance_computed
  shows_chance a w =
      let t = chance_computed l k plain refl refl (λ _. right) in
      agreed (ChanceOutcome l) answer_numbers answer_of (λ a. refl) t.answer t.work t.outcome a w

  unfoldable shows_reward : (a : Answer) (w : List ℕ) → Option (RewardOutcome l a w)
  unfolding agreed reward_computed
  shows_reward a w =
      let t = reward_computed l k (λ _. right) in
      agreed (RewardOutcome l) answer_numbers answer_of (λ a. refl) t.answer t.work t.outcome a w

  unfoldable shows_bounds : (a : Bounds) (w : List ℕ) → Option (BoundsOutcome l a w)
  unfolding agreed bounds_computed
  shows_bounds a w =
      let t = bounds_computed l k (λ _. right) in
      agreed (BoundsOutcome l) bounds_numbers bounds_of (λ a. refl) t.answer t.work t.outcome a w

  unfoldable shows_steps : (a : Answer) (w : List ℕ) (r : List StepRecord) → Option (Claim (steps l a w r))
  unfolding agreed steps_computed paired alike_records
  shows_steps a w r =
      let t = steps_computed l k (λ _. right) in
      elim (paired alike_records t.list.records r) [
        | none ↦ none
        | some e ↦ agreed (λ a w. Claim (steps l a w r)) answer_numbers answer_of (λ a. refl) t.answer t.work
            (λ before. rw (← e) (t.list.outcome before)) a w
      ]

  unfoldable shows_value : (p q : ℕ) → Option (Chance l.chain p q)
  unfolding look chance_is matched
  shows_value p q =
      elim (look plain l) [
        | refused number place r ↦ none
        | formed f ↦ let v = chance_is l k right plain refl refl f in
            elim (matched (v.0 ∷ v.1.0 ∷ []) (p ∷ q ∷ [])) [
              | none ↦ none
              | some e ↦ some (rw (← ap (λ s. get_or s 0 0) e, ← ap (λ s. get_or s 1 0) e) v.1.1)
            ]
      ]

-- What follows where the sets are known.
unfoldable once_known : (c : Chain) {P : Type 0} → (Right c (marked c) → Option P) → Option P
unfolding known
once_known c f =
    elim (known c) [
      | none ↦ none
      | some right ↦ f right
    ]

unfoldable shows_file : (f : Input) (number place : ℕ) → Option (FileRefused f number place)
unfolding headed matched
shows_file f number place =
    elim (headed f) [
      | none ↦ none
      | some r ↦ elim (matched (r.0 ∷ 0 ∷ []) (number ∷ place ∷ [])) [
        | none ↦ none
        | some e ↦ some (rw (← ap (λ s. get_or s 0 0) e, ← ap (λ s. get_or s 1 0) e) r.1)
      ]
    ]

unfoldable shows : (x : Case) → Option (Claim x)
unfolding once_known shows_chance shows_reward shows_bounds shows_steps shows_value shows_file
shows (chance l a w) = once_known l.chain (λ right. shows_chance l right a w)
shows (reward l a w) = once_known l.chain (λ right. shows_reward l right a w)
shows (bounds l a w) = once_known l.chain (λ right. shows_bounds l right a w)
shows (steps l a w r) = once_known l.chain (λ right. shows_steps l right a w r)
shows (value l p q) = once_known l.chain (λ right. shows_value l right p q)
shows (file f number place) = shows_file f number place

-- The test, and what it says.
unfoldable found_in : {P : Type 0} → Option P → Bool
found_in none = false
found_in (some p) = true

unfoldable pub shown : Case → Bool
unfolding found_in shows
shown x = found_in (shows x)

pub shown_claim : (x : Case) → shown x ≡ true → Claim x
unfolding found_in shown
shown_claim x e = taken (shows x) e
  where
    taken : {P : Type 0} (o : Option P) → found_in o ≡ true → P
    taken none e = absurd (let z : ◌≡◌ {A = ℕ} 0 1 = cc in omega arith)
    taken (some p) e = p

-- Every case of a list passes the test.
unfoldable pub every : List Case → Bool
every [] = true
every (x ∷ s) = let rest = every s in choose (shown x) rest false

pub cases_pass : every cases ≡ true
unfolding every shown sum_to largest tab_from gcd_in gcd carried flow edge_rewards gcd_of divisor over shift_from shift_of rounded_by bounded settled given no_row first combined renewed removed after marks taken_out record_of records_along each copies_edges
cases_pass = refl

both : (a b : Bool) → choose a b false ≡ true → (a ≡ true) × (b ≡ true)
both true b e = (refl, e)
both false b e = absurd (let z : ◌≡◌ {A = ℕ} 0 1 = cc in omega arith)

every_claim : (s : List Case) → every s ≡ true → (x : Case) → Memᴰ x s → Claim x
unfolding every
every_claim [] e x m = absurd (Memᴰ.not-nil m)
every_claim (y ∷ s) e x m =
    let t = both (shown y) (every s) e in
    ⊎_elim
    (λ (h : x ≡ y). rw h (shown_claim y t.0))
    (λ (h : Memᴰ x s). every_claim s t.1 x h)
    (Memᴰ.cases_cons m)

-- Every case of the list holds.
pub cases_hold : (x : Case) → Memᴰ x cases → Claim x
cases_hold = every_claim cases cases_pass
