-- Bytes cut out of what is kept, and looked at all at once for one that is not 0.
use Prim.Native.Nat.{ℕ, zero, suc, ◌+◌, ◌-◌, ◌≤◌, ◌<◌, min}
use mathlib.Core.Path.{◌≡◌, refl, sym, ap, ◌∙◌}
use mathlib.Core.Bool.{Bool, true, false, not}
use mathlib.Core.Logic.{⊎_elim}
use mathlib.Core.List.{List, [], ◌∷◌}
use native.Mathlib.Omega.{arith}
use lib.Bits.{bit_or, or_add_and, and_le_r, or_comm}
use lib.Dec.{eqb}
use lib.ListN.{length, get_or, take, drop, length-drop, get_or-eq_default}
use lib.Seq.{get_or-take, get_or-drop, length-take-le}
use borrow.Author.Tests.{eq-eqb, ne_eqb}
use Rattle.std.specs.List.{fold}
use Rattle.meaning.specs.File.{NonZero}
use Rattle.meaning.specs.Number.{decides}
use Rattle.theory.specs.Numbers.Sum.{same, below}
use Rattle.octets.specs.Input.{input}

-- The union of all bytes is 0 only where all of them are.
or_nought : (x y : ℕ) → bit_or x y ≡ 0 → x ≡ 0
or_nought x y e = omega (arith, or_add_and x y, and_le_r x y)

some : (l : List ℕ) (a : ℕ) → a ≡ 0 → (fold bit_or a l ≡ 0 → ⊥) → NonZero (input l 0) 0 (length l)
some [] a z d = absurd (d z)
some (x ∷ l) a z d =
    ⊎_elim
    (λ (e : x ≡ 0). let s = some l (bit_or a x) (omega (arith, or_add_and a x)) d in (suc s.0, (omega arith, (omega (arith, s.1.1.0), s.1.1.1))))
    (λ (e : x ≡ 0 → ⊥). (0, (omega arith, (omega arith, e))))
    (same x 0)

start : (l : List ℕ) (a : ℕ) → fold bit_or a l ≡ 0 → a ≡ 0
start [] a e = e
start (x ∷ l) a e = or_nought a x (start l (bit_or a x) e)

none : (l : List ℕ) (a j : ℕ) → fold bit_or a l ≡ 0 → j < length l → get_or l j 0 ≡ 0
none [] a j e h = absurd (omega arith)
none (x ∷ l) a zero e h = or_nought x a (or_comm x a ∙ start l (bit_or a x) e)
none (x ∷ l) a (suc j) e h = none l (bit_or a x) j e (omega arith)

pub looked : (l : List ℕ) {all : ℕ} → all ≡ fold bit_or 0 l → decides (NonZero (input l 0) 0 (length l)) (not (eqb all 0))
looked l {all} e =
    ⊎_elim
    (λ (z : all ≡ 0). rw (eq-eqb all 0 z) (λ s. s.1.1.1 (none l 0 s.0 (sym e ∙ z) (omega (arith, s.1.1.0)))))
    (λ (d : all ≡ 0 → ⊥). rw (ne_eqb all 0 d) (some l 0 refl (λ z. d (e ∙ z))))
    (same all 0)

-- The bytes from `low` on and before e.
abbrev pub cut : ℕ → ℕ → List ℕ → List ℕ
cut low e kept = take (e - low) (drop low kept)

-- The bytes from `low` on and before `high`, of which those are kept that come before e.
module _ (kept : List ℕ) (high : ℕ) {e : ℕ} (ends : e ≡ min high (length kept)) where
  pub past : (j : ℕ) → e ≤ j → j < high → get_or kept j 0 ≡ 0
  past j h l = get_or-eq_default kept 0 (omega arith)

  module _ (low : ℕ) (h : low ≤ e) where
    pub cut_length : length (cut low e kept) ≡ e - low
    cut_length = length-take-le (e - low) (drop low kept) (omega (arith, length-drop low kept))

    pub cut_at_lem : (j : ℕ) → low + j < high → get_or (cut low e kept) j 0 ≡ get_or kept (low + j) 0
    cut_at_lem j l =
        ⊎_elim (λ (b : j < e - low). get_or-take (e - low) (drop low kept) j 0 b ∙ get_or-drop low kept j 0)
        (λ (b : e - low ≤ j). get_or-eq_default (cut low e kept) 0 (omega (arith, cut_length)) ∙ sym (past (low + j) (omega arith) l))
        (below j (e - low))

    pub cut_decides : (r : Bool) → decides (NonZero (input (cut low e kept) 0) 0 (length (cut low e kept))) r → decides (NonZero (input kept 0) low high) r
    cut_decides true s =
        let l : low + s.0 < high = omega (arith, s.1.1.0, cut_length) in
        (low + s.0, (omega arith, (l, λ z. s.1.1.1 (cut_at_lem s.0 l ∙ z))))
    cut_decides false clear = λ s.
        let j = s.0 - low in
        let q : low + j ≡ s.0 = omega (arith, s.1.0) in
        ⊎_elim
        (λ (b : s.0 < e).
        let same : get_or (cut low e kept) j 0 ≡ get_or kept s.0 0 = cut_at_lem j (omega (arith, s.1.1.0)) ∙ ap (λ k. get_or kept k 0) q in
        clear (j, (omega arith, (omega (arith, cut_length, s.1.0), λ z. s.1.1.1 (sym same ∙ z)))))
        (λ (b : e ≤ s.0). s.1.1.1 (past s.0 b s.1.1.0))
        (below s.0 e)

-- So many bytes from `at` on, of which those are cut out that are kept.
pub cut_from : (kept : List ℕ) (at width : ℕ) {low e : ℕ} → low ≡ min at (length kept) → e ≡ min (at + width) (length kept)
    → (j : ℕ) → j < width → get_or (cut low e kept) j 0 ≡ get_or kept (at + j) 0
cut_from kept at width {low} {e} begins ends j l =
    cut_at_lem kept (at + width) ends low (omega arith) j (omega arith)
    ∙ ⊎_elim
    (λ (b : length kept < at). get_or-eq_default kept 0 (omega arith) ∙ sym (get_or-eq_default kept 0 (omega arith)))
    (λ (b : at ≤ length kept). let same : low ≡ at = omega arith in ap (λ z. get_or kept (z + j) 0) same)
    (below (length kept) at)
