-- A row that is copied and written anew.
use Prim.Native.Nat.{ℕ, suc, ◌+◌, ◌*◌, ◌^◌, ◌≤◌, ◌<◌}
use mathlib.Core.Path.{◌≡◌, refl, sym, ◌∙◌}
use mathlib.Core.List.{List}
use native.Mathlib.Omega.{arith}
use native.Mathlib.Nat.{zero-div}
use lib.Bits.{or_zero_r}
use lib.Count.{ones}
use lib.Dec.{eqb}
use lib.ListN.{length, get_or, replicate, get_or-eq_default}
use borrow.Author.Tests.{ne_eqb}
use Rattle.meaning.specs.Chain.{most_states}
use Rattle.meaning.specs.Number.{choose, bit}
use Rattle.meaning.specs.Row.{Row, cell, width}
use Rattle.meaning.specs.Step.{combined}
use Rattle.theory.specs.Numbers.Tab.{tab_of, get_d_zeros}
use Rattle.chain.specs.Rising.{place_of}
use Rattle.elimination.specs.Packed.{targets_of, weights_at, weight_of, unpacked, Modest, Spread, Room}
use Rattle.elimination.specs.Filled.{Columns, Merged, Replaced, Squeezable, Squeezed}
use Rattle.elimination.proofs.Places.{place_rises, place_most}
use Rattle.elimination.proofs.Along.{weight_none, weight_small}
use Rattle.elimination.proofs.Unpacked.{unpacked_length, unpacked_weight}

-- The weights of a row by state.
module _ (p x : List ℕ) (e : Spread p x) where
  pub spread_columns : (all : ℕ) → Modest p → ((j : ℕ) → bit all j ≡ 0 → bit (targets_of p) j ≡ 0) → Columns all x
  spread_columns all h out =
      record {
        fits = λ j. rw (e j) (weight_small p j h);
        none = λ j z. e j ∙ weight_none p j (λ b. omega (arith, out j z));
      }

-- The row of a state once s is removed.
pub replaced : {s d w : ℕ} {x p v : List ℕ} → w ≡ weight_of p s → Merged s d w x p v → Replaced s d x p v
replaced {s} {p = p} ew m =
    record {
      packed = m.packed;
      row = λ n few h. m.row n few (ew ∙ sym (unpacked_weight n p s h)) (λ j a b z. omega arith);
    }

-- The row that is put in by squeezing: none.
abbrev nothing : List ℕ
nothing = replicate (width most_states) 0

pub none_modest : Modest nothing
none_modest q h = rw (get_d_zeros (width most_states) q) (omega arith)

pub none_spread : Spread nothing nothing
none_spread j = get_d_zeros (width most_states) j ∙ sym (weight_none nothing j (λ b. omega (arith, rw (zero-div (2 ^ j)) at b)))

pub none_room : (p : List ℕ) → Squeezable p → Room (length p) p nothing
none_room p h =
    record {
      few = rw (or_zero_r (targets_of p)) h.few;
      narrow = rw (or_zero_r (targets_of p)) h.room;
    }

-- Nothing is put in for a state that is none.
combined_none : (s : ℕ) (x r : Row) → length r ≤ s → combined s 1 x r ≡ r
unfolding combined
combined_none s x r h =
    let z : cell r s ≡ 0 = get_or-eq_default r 0 h in
    sym
    (tab_of 0 (length r) (λ j. choose (eqb j s) 0 (cell r j * 1 + cell r s * cell x j)) r refl
    (λ j b. rw (ne_eqb j s (λ e. omega arith), z) (omega arith)))

pub squeezed : {p v : List ℕ} → Merged (width most_states) 1 0 nothing p v → Squeezed p v
squeezed {p} {v} m =
    record {
      packed = λ n l a. m.packed n l a (λ j h. absurd (omega (arith, rw (zero-div (2 ^ j)) at h)));
      row = λ n few.
          let long : length (unpacked n p) ≤ width most_states = omega (arith, unpacked_length n p) in
          m.row n few (sym (get_or-eq_default (unpacked n p) 0 long)) (λ j a b z. omega arith)
          ∙ combined_none (width most_states) (unpacked n nothing) (unpacked n p) long;
    }

-- A part with no weight of 0 stays.
pub unsqueezed : (p : List ℕ) → Squeezable p → ((i : ℕ) → i < ones (targets_of p) → 0 < get_or p (weights_at + i) 0) → Squeezed p p
unsqueezed p h some =
    record {
      packed = λ n l inside.
          record {
            size = l;
            inside = inside;
            some = λ j b.
                some (place_of (targets_of p) j)
                (omega (arith, place_rises (targets_of p) j (suc j) (omega arith) b, place_most (targets_of p) (suc j)));
            rest = h.rest;
          };
      row = λ n few. refl;
    }
