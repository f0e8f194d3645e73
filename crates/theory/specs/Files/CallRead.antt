-- What the call from C answers, read back as four numbers: the chance twice, or the bounds. Each number is at most M, so 4 bytes hold it.
use Rattle.std.specs.Prelude.{ℕ, ◌+◌, ◌*◌, ◌/◌, ◌%◌, ◌^◌, ◌≤◌, ◌<◌, ◌≡◌, refl, false, List}
use Rattle.std.proofs.Common.{sym, ap, subst, ◌∙◌, arith, div-one}
use Rattle.std.proofs.Math.Nat.{div-div-eq-div-mul}
use Rattle.meaning.specs.Number.{sum_to, tab_from, filled}
use Rattle.meaning.specs.Chain.{M}
use Rattle.meaning.specs.Figure.{Chance}
use Rattle.meaning.specs.Refusal.{Lent, Entry, Applies}
use Rattle.meaning.specs.Outcome.{Outcome, refused, stopped, answered, Answer, Bounds, between, BoundsFigure}
use Rattle.meaning.specs.File.{chain_in, plain_in}
use Rattle.meaning.specs.Block.{whole_file}
use Rattle.meaning.specs.Call.{AsksExact, AsksBounds, answer_bytes, answer_number, answer_read, Said, CallOutcome}
use Rattle.meaning.specs.Demand.{BothChance}
use Rattle.theory.specs.Outcomes.DemandTwo.{stopped_twelve, chance_of_lem}
use Rattle.theory.specs.Files.FileOne.{file_numbers}
use Rattle.theory.specs.Files.CallOne.{modes_apart}
use Rattle.theory.specs.Outcomes.Small.{Small, BothSmall, chance_small, bounds_small}

-- A number up to M is the sum of its four bytes.
digits : (x y z w : ℕ) → x ≤ M → x / 256 ≡ y → y / 256 ≡ z → z / 256 ≡ w
    → x % 256 + y % 256 * 256 + z % 256 * 65536 + w % 256 * 16777216 ≡ x
digits x y z w h e f g = omega arith

four : (x : ℕ) → x ≤ M → sum_to (λ i. x / 256 ^ i % 256 * 256 ^ i) 4 ≡ x
unfolding sum_to
four x h =
    let d = digits x (x / 256) (x / 65536) (x / 16777216) h refl (div-div-eq-div-mul x 256 256) (div-div-eq-div-mul x 65536 256) in
    omega (arith, d, div-one x)

read_back : (p q s t : ℕ) (before : List ℕ) → Small p q → Small s t → answer_read (filled (answer_bytes p q s t) before) ≡ between p q s t
unfolding sum_to tab_from
read_back p q s t before h k =
    λ i. between (four p h.numerator i) (four q h.denominator i) (four s k.numerator i) (four t k.denominator i)

-- An outcome with number 0 is a figure, where no number of a stop is 0.
module _ {A : Type 0} {x : Entry} {l : Lent} {refusal : ℕ → ℕ → A} {Stop : ℕ → ℕ → Type 0} {Figure : A → Type 0} (number : A → ℕ)
    (told : (n p : ℕ) → number (refusal n p) ≡ n) (above : (n p : ℕ) → Stop n p → 0 < n)
  where
    figure : {a : A} {w : List ℕ} → Outcome x l refusal Stop Figure a w → number a ≡ 0 → Figure a
    figure (refused n p r e s) z = absurd (subst (λ k. Applies x l k p) (sym (told n p) ∙ ap number (sym e) ∙ z) r.applies)
    figure (stopped n p f t e s) z = absurd (let o : n ≡ 0 = sym (told n p) ∙ ap number (sym e) ∙ z in omega (arith, above n p t))
    figure (answered f t g s) z = g

between_of : {l : Lent} {a : Bounds} → BoundsFigure false l a → a ≡ between a.lower_numerator a.lower_denominator a.upper_numerator a.upper_denominator
between_of (BoundsFigure.won g e) = rw e refl
between_of (BoundsFigure.lost g e) = rw e refl
between_of (BoundsFigure.live k r v p q s t f e) = rw e refl

-- The numbers that an engine said are read back.
reads : (before : List ℕ) {after bytes : List ℕ} {p q s t : ℕ} → Small p q → Small s t → bytes ≡ answer_bytes p q s t
    → after ≡ filled bytes before → answer_read after ≡ between p q s t
reads before {p = p} {q} {s} {t} h k e w = ap answer_read (w ∙ ap (λ b. filled b before) e) ∙ read_back p q s t before h k

module _ {file before after : List ℕ} {mode : ℕ} where
  -- No number of refusal is 0, so a call that returns 0 answers.
  said : CallOutcome file mode before 0 after → (bytes : List ℕ) × Said (whole_file file) mode 0 bytes × (after ≡ filled bytes before)
  said (CallOutcome.mode_wrong m e k) = absurd (omega arith)
  said (CallOutcome.answer_short m l e k) = absurd (omega arith)
  said (CallOutcome.file_refused m l number place r e k) = absurd (omega (arith, file_numbers r))
  said (CallOutcome.chain_refused m l a number bytes s z e k) = absurd (omega arith)
  said (CallOutcome.answered m l a bytes s e k) = (bytes, s, k)

  -- In mode 1 each of the two fractions is the chance, in lowest terms.
  pub call_chance : AsksExact mode → CallOutcome file mode before 0 after
      → Chance (chain_in (whole_file file)) (answer_number after 0) (answer_number after 1)
      × Chance (chain_in (whole_file file)) (answer_number after 2) (answer_number after 3)
  call_chance m o = go (said o).1 (said o).2
    where
      go : {bytes : List ℕ} → Said (whole_file file) mode 0 bytes → after ≡ filled bytes before → BothChance (chain_in (whole_file file)) (answer_read after)
      go (Said.exactly m a w o e g) k =
          let h = chance_of_lem (figure (λ (a : Answer). a.number) (λ n p. refl) (λ n p s. omega (arith, stopped_twelve s)) o (sym e)) in
          let u = chance_small o in
          subst (BothChance (chain_in (whole_file file))) (sym (reads before u u g k)) (h, h)
      go (Said.bounded m' a w o e g) k = absurd (modes_apart m m')

  -- In modes 0 and 2 they are the bounds.
  pub call_bounds : AsksBounds mode → CallOutcome file mode before 0 after → BoundsFigure false (plain_in (whole_file file)) (answer_read after)
  call_bounds m o = go (said o).1 (said o).2
    where
      go : {bytes : List ℕ} → Said (whole_file file) mode 0 bytes → after ≡ filled bytes before → BoundsFigure false (plain_in (whole_file file)) (answer_read after)
      go (Said.exactly m' a w o e g) k = absurd (modes_apart m' m)
      go (Said.bounded m a w o e g) k =
          let h = figure (λ (a : Bounds). a.number) (λ n p. refl) (λ n p s. absurd s) o (sym e) in
          let (u, v) = bounds_small o in
          subst (BoundsFigure false (plain_in (whole_file file))) (between_of h ∙ sym (reads before u v g k)) h

  -- In each mode the numbers are at most M.
  pub call_small : CallOutcome file mode before 0 after → BothSmall (answer_read after)
  call_small o = go (said o).1 (said o).2
    where
      go : {bytes : List ℕ} → Said (whole_file file) mode 0 bytes → after ≡ filled bytes before → BothSmall (answer_read after)
      go (Said.exactly m a w o e g) k =
          let h = chance_small o in subst BothSmall (sym (reads before h h g k)) (h, h)
      go (Said.bounded m a w o e g) k =
          let (u, v) = bounds_small o in subst BothSmall (sym (reads before u v g k)) (u, v)
