-- What is said of a file: the single line of a refusal, the line of the bounds, or what is left and what is lost.
use Prim.Native.Nat.{ℕ, ◌≤◌, ◌<◌}
use mathlib.Core.Path.{◌≡◌, sym, ap, ap₂, subst, ◌∙◌}
use mathlib.Core.Logic.{⊎_elim, inl, inr}
use mathlib.Core.Bool.{Bool}
use mathlib.Core.List.{List, ◌++◌}
use native.Mathlib.Omega.{arith}
use lib.ListN.{length, get_or, get_or-eq_default}
use lib.Dec.{ltb}
use borrow.Author.Tests.{le-ltb}
use Rattle.meaning.specs.Number.{join_to}
use Rattle.meaning.specs.Chain.{most_states, missing}
use Rattle.meaning.specs.Refusal.{Lent, Entry, Refused, WellFormed}
use Rattle.meaning.specs.Outcome.{Outcome, refused, stopped, answered, Bounds, no_bounds, BoundsStop, BoundsFigure}
use Rattle.meaning.specs.Left.{short_rows, LeftOutcome}
use Rattle.meaning.specs.Block.{Input, demanded}
use Rattle.meaning.specs.File.{most_blocks}
use Rattle.meaning.specs.Text.{bytes_of}
use Rattle.meaning.specs.Salvage.{Opened, Lost, left_chain, left_in, IndexOf, PlaceIn, edge, other, pair_text, lost_text, short_text, verdict, Salvaged, short_room}
use Rattle.theory.specs.Numbers.Sum.{below}
use Rattle.theory.specs.Numbers.Join.{join_past}
use Rattle.theory.specs.Outcomes.Small.{left_small}
use Rattle.theory.specs.Outcomes.Formed.{few_states, denominators_length}
use Rattle.theory.specs.Files.Right.{bounded}
use Rattle.theory.specs.Files.Lengths.{bounds_line_lem}
use Rattle.theory.specs.Files.SalvageRoom.{lost_past, lost_room_lem, left_short}
use Rattle.theory.specs.Files.SalvageExists.{place_exists}
use Rattle.chainfile.specs.Input.{input}
use Rattle.chainfile.specs.Index.{Whole}
use Rattle.look.specs.Sums.{Lacks}
use Rattle.look.proofs.Refuse.{refused_some}
use Rattle.salvaging.specs.Lines.{bounds_line, numbers_text, left_text, Fits}
use Rattle.salvaging.specs.Holds.{PlaceTold}

-- What an entry for bounds answers: a refusal of what it is lent, or bounds of what is well formed.
module _ {x : Entry} {short : Bool} {l : Lent} {work : List ℕ} where
  pub bounds_formed : {a : Bounds} → Outcome x l no_bounds BoundsStop (BoundsFigure short l) a work → a.number ≡ 0 → WellFormed x l
  bounds_formed (refused n p r e s) z = absurd (omega (arith, ap (λ (a : Bounds). a.number) e, refused_some r))
  bounds_formed (stopped n p f t e s) z = absurd t
  bounds_formed (answered f t g s) z = f

  pub bounds_refused : {number place : ℕ} → Outcome x l no_bounds BoundsStop (BoundsFigure short l) (no_bounds number place) work
      → Refused x l number place
  bounds_refused {number} {place} (refused n p r e s) =
      subst (λ n. Refused x l n place) (sym (ap (λ (a : Bounds). a.number) e))
      (subst (λ p. Refused x l n p) (sym (ap (λ (a : Bounds). a.place) e)) r)
  bounds_refused (stopped n p f t e s) = absurd t
  bounds_refused (answered f t (BoundsFigure.won g e) s) = absurd (omega (arith, ap (λ (a : Bounds). a.lower_denominator) e))
  bounds_refused (answered f t (BoundsFigure.lost g e) s) = absurd (omega (arith, ap (λ (a : Bounds). a.lower_denominator) e))
  bounds_refused (answered f t (BoundsFigure.live k r v p q s t' b e) z) =
      absurd (omega (arith, ap (λ (a : Bounds). a.lower_denominator) e, b.0.lowest.whole))

-- The place of a refusal of what is left is the one that is told.
pub place_told : {kept : List ℕ} {more number place r : ℕ} {v : ℕ → ℕ} → PlaceTold (input kept 0) v number place r
    → Refused short_rows (left_in (input kept more) v) number place → PlaceIn (input kept more) v number place r
place_told {kept} {more} {number} {place} {r} {v} (PlaceTold.other h e) z = subst (PlaceIn (input kept more) v number place) (sym e) (other h)
place_told {kept} {more} {number} {place} {r} {v} (PlaceTold.edge h l w) z = go w (place_exists (input kept more) v number place z)
  where
    here : {e : ℕ} → IndexOf (input kept more) v place e → IndexOf (input kept 0) v place e
    here i = record { inside = i.inside; kept = i.kept; before = i.before }

    go : Whole (input kept 0) v place r → (at : ℕ) × PlaceIn (input kept more) v number place at → PlaceIn (input kept more) v number place r
    go (Whole.found i) w = edge r h l (record { inside = i.inside; kept = i.kept; before = i.before })
    go (Whole.nowhere none e) (at, edge at' h' l' i) = absurd (none at' (here i))
    go (Whole.nowhere none e) (at, other (inl h')) = absurd (omega arith)
    go (Whole.nowhere none e) (at, other (inr h')) = absurd (omega arith)

-- What is missing from the rows is the list that is made of it.
module _ (l : Lent) (formed : WellFormed short_rows l) {short : List ℕ}
    (lacks : Lacks l.chain.denominators l.chain.edges short) where
  past_states : (j : ℕ) → l.chain.states ≤ j → missing l.chain j ≡ 0
  past_states j h =
      omega (arith, get_or-eq_default l.chain.denominators 0 {n = j} (omega (arith, denominators_length short_rows l formed)))

  lacking : (j : ℕ) → get_or short j 0 ≡ missing l.chain j
  lacking j =
      ⊎_elim
      (λ (k : j < most_states). lacks.is j k)
      (λ (k : most_states ≤ j).
      get_or-eq_default short 0 {n = j} (omega (arith, lacks.size)) ∙ sym (past_states j (omega (arith, few_states short_rows l formed))))
      (below j most_states)

  short_lines : (k : ℕ) → numbers_text (bytes_of "short ") short k ≡ short_text l.chain k
  short_lines k = ap (λ (m : ℕ → ℕ). join_to (λ j. ltb 0 (m j)) (λ j. pair_text (bytes_of "short ") j (m j)) k) (λ i j. lacking j i)

  short_past : (k : ℕ) → l.chain.states ≤ k → short_text l.chain k ≡ short_text l.chain l.chain.states
  short_past k h =
      join_past (λ j. ltb 0 (missing l.chain j)) (λ j. pair_text (bytes_of "short ") j (missing l.chain j)) l.chain.states k h
      (λ j m. le-ltb 0 (missing l.chain j) (omega (arith, past_states j m)))

  pub rows_fit : (k : ℕ) → length (numbers_text (bytes_of "short ") short k) ≤ short_room
  rows_fit k =
      rw (short_lines k)
      (⊎_elim
      (λ (h : k < l.chain.states). left_short l formed k (omega arith))
      (λ (h : l.chain.states ≤ k). rw (short_past k h) (left_short l formed l.chain.states (omega arith)))
      (below k l.chain.states))

  pub rows_said : numbers_text (bytes_of "short ") short (length short) ≡ short_text l.chain l.chain.states
  rows_said = short_lines (length short) ∙ short_past (length short) (omega (arith, lacks.size, few_states short_rows l formed))

-- The text of what is left has room, and is the one that is to be printed.
module _ {f : Input} (lost : List ℕ) {short work : List ℕ} {a : Bounds} (size : length lost ≡ most_blocks) (opened : Opened f (verdict lost))
    (o : LeftOutcome (left_in f (verdict lost)) a work) (sound : a.number ≡ 0)
    (lacks : let c = left_chain f (verdict lost) in Lacks c.denominators c.edges short) where
  formed : WellFormed short_rows (left_in f (verdict lost))
  formed = bounds_formed o sound

  pub left_fits : Fits a lost short
  left_fits =
      record { bounds = bounds_line_lem a (left_small o); blocks = lost_room_lem opened; rows = rows_fit (left_in f (verdict lost)) formed lacks }

  pub left_said : Lost (verdict lost) → Salvaged f (left_text a lost short)
  left_said some =
      let blocks : lost_text (verdict lost) (length lost) ≡ lost_text (verdict lost) (demanded f) =
      lost_past opened (length lost) (omega (arith, size, (bounded f (opened.front 0 (omega arith))).few_blocks)) in
      Salvaged.left (verdict lost) opened some formed a work o
      (ap₂ (λ (b r : List ℕ). bounds_line a ++ b ++ r) blocks (rows_said (left_in f (verdict lost)) formed lacks))
