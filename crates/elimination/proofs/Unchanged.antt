-- Rows that are passed over, since the removal of s changes nothing in them.
use mathlib.Core.Path.{◌≡◌, refl, sym}
use mathlib.Core.Logic.{inl, inr}
use mathlib.Core.Bool.{Bool}
use mathlib.Core.List.{List}
use Prim.Native.Nat.{ℕ, ◌<◌}
use native.Mathlib.Omega.{arith}
use lib.Dec.{eqb}
use borrow.Author.Tests.{ne_eqb}
use Rattle.std.specs.Prelude.{Some}
use Rattle.meaning.specs.Row.{Row, cell}
use Rattle.meaning.specs.Step.{renewed}
use Rattle.meaning.specs.Steps.{taken_out}
use Rattle.elimination.specs.Packed.{targets_of, Packed}
use Rattle.elimination.specs.Row.{Fit}
use Rattle.elimination.specs.Table.{part_at, row_at, ChangedBy, Placed}
use Rattle.elimination.proofs.Laws.{packed_bit}
use Rattle.elimination.proofs.Rows.{renewed_none, taken_none, tested_fit}
use Rattle.elimination.proofs.Tables.{kept_same}

-- Such a row is renewed where it stands.
pub placed_stays : {b : Bool} {n s i : ℕ} {w : List ℕ} (d : ℕ) (p : Row) → Packed n (part_at n w i) → Fit b n (row_at n w i) → s < n
    → (ChangedBy s i (targets_of (part_at n w i)) → ⊥)
    → Placed b n w i (renewed b n s d p (eqb i s) (row_at n w i)) (taken_out s d p (eqb i s) (row_at n w i)) w (Some 1)
placed_stays {b} {n} {s} {i} {w} d p packed fit hs stays =
    let r = row_at n w i in
    let g : 0 < cell r s → ⊥ = λ h. stays (inr ((packed_bit packed s hs).1 h)) in
    let z : cell r s ≡ 0 = omega arith in
    let o = ne_eqb i s (λ e. stays (inl e)) in
    let e = renewed_none b n s d p r (eqb i s) o z in
    record {
      put = record { kept = kept_same n w; packed = packed; here = sym e; other = λ j h k. refl };
      tested = tested_fit (rw e fit) (sym (taken_none s d p r (eqb i s) o z));
    }
