-- What is missing from the rows, added to their Unknown row by row.
use mathlib.Core.Path.{◌≡◌, refl, ap, ◌∙◌}
use mathlib.Core.Bool.{Bool, true, false}
use mathlib.Core.List.{List}
use Prim.Native.Nat.{ℕ, ◌+◌, ◌≤◌, ◌<◌}
use native.Mathlib.Omega.{arith}
use lib.Dec.{eqb}
use lib.ListN.{length, get_or, set}
use borrow.Author.Tests.{eq-eqb, ne_eqb}
use Rattle.meaning.specs.Number.{only, bit}
use Rattle.meaning.specs.Chain.{most_states, M, Chain}
use Rattle.meaning.specs.Row.{cell, unknown_column}
use Rattle.meaning.specs.Step.{unknown}
use Rattle.meaning.specs.Refusal.{work_size}
use Rattle.theory.specs.Numbers.Sum.{sum_zero, sum_one}
use Rattle.look.specs.Sums.{Lacks}
use Rattle.elimination.specs.Table.{part_at}
use Rattle.elimination.specs.Gather.{lack, Changed, Added, Completable}
use Rattle.elimination.proofs.Cells.{only_none, added_one, added_nothing, Gathering, gathering_all}

module _ (n live i x : ℕ) where
  pub lack_dead : (j : ℕ) → (bit live i ≡ 1 → ⊥) → lack n live i x j ≡ 0
  unfolding lack
  lack_dead j d = rw (ne_eqb (bit live i) 1 d) (only_none (eqb j (unknown_column n)))

  pub lack_here : bit live i ≡ 1 → lack n live i x (unknown_column n) ≡ x
  unfolding lack
  lack_here l = rw (eq-eqb (unknown_column n) (unknown_column n) refl, eq-eqb (bit live i) 1 l)

  pub lack_aside : (j : ℕ) → (j ≡ unknown_column n → ⊥) → lack n live i x j ≡ 0
  unfolding lack
  lack_aside j d = rw (ne_eqb j (unknown_column n) d)

  -- What comes to column j of row r where x is missing from row i.
  abbrev lacking : ℕ → ℕ → ℕ
  lacking r j = only (eqb r i) (lack n live i x j)

  module _ (w : List ℕ) where
    pub completed_none : (bit live i ≡ 1 → ⊥) → Added n lacking w w
    completed_none d = added_nothing n lacking w (λ r j. ap (only (eqb r i)) (lack_dead j d) ∙ only_none (eqb r i))

    pub completed_one : (v : List ℕ) → work_size n ≤ length w → i < n → bit live i ≡ 1
        → Changed n w i (set (part_at n w i) (unknown_column n) (cell (part_at n w i) (unknown_column n) + x)) v → Added n lacking w v
    completed_one v room h l p =
        added_one n lacking w v room i (unknown_column n) x h (omega arith)
        (rw (eq-eqb i i refl) (lack_here l))
        (λ j d. rw (eq-eqb i i refl) (lack_aside j d))
        (λ r j d. rw (ne_eqb r i d))
        p

-- A turn is a row: its own is the only one that brings anything to it.
module _ (n live : ℕ) (u : ℕ → ℕ) where
  abbrev pub completes : ℕ → ℕ → ℕ → ℕ
  completes r j i = only (eqb r i) (lack n live i (u i) j)

  module _ {w v : List ℕ} {i : ℕ} (g : Gathering n completes n w i v) where
    pub completing_small : Completable n u w → i < n → cell (part_at n v i) (unknown_column n) + u i ≤ M
    completing_small a h =
        omega (
          arith,
          g.added.cells i (unknown_column n) h (omega arith),
          sum_zero (completes i (unknown_column n)) i (λ r l. rw (ne_eqb i r (omega arith))),
          a.sums i h,
        )

    pub completing_all : n ≤ i → Added n (λ i j. lack n live i (u i) j) w v
    completing_all h =
        let a = gathering_all g h in
        record {
          kept = a.kept;
          cells = λ r j b d. a.cells r j b d ∙ ap (λ (z : ℕ). cell (part_at n w r) j + z) (sum_one (λ i. lack n live i (u i) j) n r b);
        }

-- Where rows may not fall short nothing is missing.
pub completed_whole : (c : Chain) (live : ℕ) (short : Bool) (w : List ℕ) → short ≡ false
    → Added c.states (λ i j. lack c.states live i (unknown short c i) j) w w
unfolding lack
completed_whole c live short w e =
    added_nothing c.states (λ i j. lack c.states live i (unknown short c i) j) w
    (λ i j. rw (e, only_none (eqb (bit live i) 1)) (only_none (eqb j (unknown_column c.states))))

-- Where they may, what is missing from each row is Unknown.
module _ (c : Chain) (short : Bool) (may : short ≡ true) (few : c.states ≤ most_states) (left : List ℕ)
    (lacks : Lacks c.denominators c.edges left)
  where
    abbrev m : ℕ
    m = c.states

    left_is : (i : ℕ) → i < m → get_or left i 0 ≡ unknown short c i
    left_is i h = rw may (lacks.is i (omega arith))

    pub left_completable : (w : List ℕ) → Completable m (unknown short c) w → Completable m (λ i. get_or left i 0) w
    left_completable w a = record { few = few; room = a.room; sums = λ i h. omega (arith, left_is i h, a.sums i h) }

    pub left_completed : (live : ℕ) (w v : List ℕ) → Added m (λ i j. lack m live i (get_or left i 0) j) w v
        → Added m (λ i j. lack m live i (unknown short c i) j) w v
    left_completed live w v a =
        record {
          kept = a.kept;
          cells = λ i j b h. a.cells i j b h ∙ ap (λ (x : ℕ). cell (part_at m w i) j + lack m live i x j) (left_is i b);
        }
