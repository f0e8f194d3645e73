-- Numbers that are put into a table, and what the parts of a flat table then hold.
use Prim.Native.Nat.{ℕ, ◌+◌, ◌*◌, ◌-◌, ◌≤◌, ◌<◌}
use mathlib.Core.Path.{◌≡◌, sym, ap, ◌∙◌}
use mathlib.Core.Logic.{⊎_elim}
use mathlib.Core.List.{List}
use native.Mathlib.Omega.{arith}
use lib.ListN.{length, get_or, take, drop, length-drop, length-append, get_or-append}
use lib.Seq.{ext_get_or, get_or-append-add, get_or-drop, get_or-take, length-take-le}
use Rattle.meaning.specs.Number.{filled}
use Rattle.meaning.specs.Chain.{most_states}
use Rattle.theory.specs.Numbers.Sum.{below}
use Rattle.opening.specs.Sizes.{edges_at}
use Rattle.opening.specs.Split.{Placed, states_part, split, stored}

-- A cell of a part, and how long it is.
part_cell : (from : ℕ) (table : List ℕ) (j : ℕ) → j < most_states → get_or (states_part from table) j 0 ≡ get_or table (from + j) 0
part_cell from table j h = get_or-take most_states (drop from table) j 0 h ∙ get_or-drop from table j 0

pub part_length : (from : ℕ) (table : List ℕ) → from + most_states ≤ length table → length (states_part from table) ≡ most_states
part_length from table h = length-take-le most_states (drop from table) (omega (arith, length-drop from table))

module _ {at : ℕ} {numbers before after : List ℕ} (w : Placed at (length numbers) numbers before after) where
  -- The numbers stand at the front of their part.
  pub part_filled : length numbers ≤ most_states → at + most_states ≤ length before → states_part at after ≡ filled numbers (states_part at before)
  part_filled few room =
      let there = part_length at before room in
      let here = part_length at after (omega (arith, w.size)) in
      let l = length numbers in
      let size : length (filled numbers (states_part at before)) ≡ most_states =
      length-append numbers (drop l (states_part at before)) ∙ rw (length-drop l (states_part at before), there) (omega arith) in
      ext_get_or 0 (states_part at after) (filled numbers (states_part at before)) (here ∙ sym size)
      (λ j b.
      part_cell at after j (omega arith)
      ∙ ⊎_elim
      (λ (q : j < l). w.new j q ∙ sym (get_or-append numbers (drop l (states_part at before)) 0 j q))
      (λ (q : l ≤ j).
      let e : l + (j - l) ≡ j = omega arith in
      w.above (at + j) (omega arith) ∙ sym (part_cell at before j (omega arith))
      ∙ sym
      (ap (λ z. get_or (filled numbers (states_part at before)) z 0) (sym e)
      ∙ get_or-append-add numbers (drop l (states_part at before)) (j - l) 0
      ∙ get_or-drop l (states_part at before) (j - l) 0
      ∙ ap (λ z. get_or (states_part at before) z 0) e))
      (below j l))

  -- Another part is as it was.
  pub part_before : (from : ℕ) → from + most_states ≤ at → at ≤ length before → states_part from after ≡ states_part from before
  part_before from h room =
      let there = part_length from before (omega arith) in
      let here = part_length from after (omega (arith, w.size)) in
      ext_get_or 0 (states_part from after) (states_part from before) (here ∙ sym there)
      (λ j b. part_cell from after j (omega arith) ∙ w.below (from + j) (omega arith) ∙ sym (part_cell from before j (omega arith)))

  pub rest_after : (from : ℕ) → at + length numbers ≤ from → drop from after ≡ drop from before
  rest_after from h =
      ext_get_or 0 (drop from after) (drop from before) (length-drop from after ∙ ap (λ n. n - from) w.size ∙ sym (length-drop from before))
      (λ j b. get_or-drop from after j 0 ∙ w.above (from + j) (omega arith) ∙ sym (get_or-drop from before j 0))

-- The three lists of the states, one after the other.
pub states_stored : {d o r t₀ t₁ t₂ t₃ : List ℕ} → edges_at ≤ length t₀ → length d ≤ most_states → length o ≤ most_states → length r ≤ most_states
    → Placed 0 (length d) d t₀ t₁ → Placed most_states (length o) o t₁ t₂ → Placed (2 * most_states) (length r) r t₂ t₃
    → split t₃ ≡ stored d o r (split t₀)
states_stored {d} {o} {r} {t₀} {t₁} {t₂} {t₃} room fd fo fr a b c =
    let la = a.size in
    let lb = b.size in
    let dd : states_part 0 t₃ ≡ filled d (states_part 0 t₀) =
    part_before c 0 (omega arith) (omega arith) ∙ part_before b 0 (omega arith) (omega arith) ∙ part_filled a fd (omega arith) in
    let ee : drop edges_at t₃ ≡ drop edges_at t₀ =
    rest_after c edges_at (omega arith) ∙ rest_after b edges_at (omega arith) ∙ rest_after a edges_at (omega arith) in
    let oo : states_part most_states t₃ ≡ filled o (states_part most_states t₀) =
    part_before c most_states (omega arith) (omega arith) ∙ part_filled b fo (omega arith)
    ∙ ap (λ t. filled o (take most_states t)) (rest_after a most_states (omega arith)) in
    let rr : states_part (2 * most_states) t₃ ≡ filled r (states_part (2 * most_states) t₀) =
    part_filled c fr (omega arith)
    ∙ ap (λ t. filled r (take most_states t)) (rest_after b (2 * most_states) (omega arith) ∙ rest_after a (2 * most_states) (omega arith)) in
    λ i. record { denominators = dd i; edges = ee i; order = oo i; rewards = rr i }
