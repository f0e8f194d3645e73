-- Parts that are taken one after the other are taken as one part is that has all their bytes: nothing depends on where the input was cut.
use Prim.Native.Nat.{ℕ, ◌+◌, ◌-◌, ◌≤◌, min}
use mathlib.Core.Path.{◌≡◌, refl, sym, ap, ◌∙◌}
use mathlib.Core.List.{List, [], ◌∷◌, ◌++◌, append_assoc}
use native.Mathlib.Omega.{arith, min_cases}
use lib.ListN.{length, drop, length-append}
use lib.Seq.{paste-zero, take-length, take-append-add, take-append-le, take-paste, drop-paste, length-paste, drop-drop}
use Rattle.input.proofs.Taking.{taken_inside}
use Rattle.input.specs.Kept.{SoFar, fitting, pasted, taken, all_taken}

-- The bytes of parts, one after the other.
unfoldable pub joined : List (List ℕ) → List ℕ
joined [] = []
joined (part ∷ parts) = part ++ joined parts

same : {b b' : List ℕ} {k k' m m' : ℕ} → b ≡ b' → k ≡ k' → m ≡ m'
    → ◌≡◌ {A = SoFar} (record { buffer = b; kept = k; more = m }) (record { buffer = b'; kept = k'; more = m' })
same e f g = rw (e, f, g) refl

-- A first part with room, and a second.
both : (d : List ℕ) (at : ℕ) (p q : List ℕ) (n : ℕ) → at + length p ≤ length d
    → pasted (pasted d at p (length p)) (at + length p) q n ≡ pasted d at (p ++ q) (length p + n)
both d at p q n h =
    let front = take-paste d at p (length p) (omega arith) (omega arith) in
    let end : drop (at + length p + n) (pasted d at p (length p)) ≡ drop (at + length p + n) d =
    sym (drop-drop n (at + length p) (pasted d at p (length p))) ∙ ap (drop n) (drop-paste d at p (length p) (omega arith) (omega arith)) ∙ drop-drop n (at + length p) d
    in
    let place : at + length p + n ≡ at + (length p + n) = omega arith in
    rw (front, end, take-length, take-append-add, place) (simp append_assoc)

-- A first part that fills the buffer leaves no room for a second.
first : (d : List ℕ) (at : ℕ) (p q : List ℕ) (r : ℕ) → at ≤ length d → r ≤ length p
    → pasted (pasted d at p r) (at + r) q 0 ≡ pasted d at (p ++ q) r
first d at p q r h l = sym (paste-zero (pasted d at p r) (at + r) q) ∙ rw (take-append-le r p q l) refl

counted : (m x y r n t : ℕ) → r ≡ x → t ≡ x + n → m + (x - r) + (y - n) ≡ m + (x + y - t)
counted m x y r n t a b = omega arith

passed : (m x y r n t : ℕ) → n ≡ 0 → t ≡ r → r ≤ x → m + (x - r) + (y - n) ≡ m + (x + y - t)
passed m x y r n t a b c = omega arith

module _ (d : List ℕ) (at m : ℕ) (p q : List ℕ) (h : at ≤ length d) where
  -- By how many bytes have room of the first, of the second behind it, and of both together.
  two : (r n t : ℕ) → r ≡ fitting d at p → n ≡ min (length q) (length d - (at + r)) → t ≡ min (length p + length q) (length d - at)
      → ◌≡◌ {A = SoFar}
      (record { buffer = pasted (pasted d at p r) (at + r) q n; kept = at + r + n; more = m + (length p - r) + (length q - n) })
      (record { buffer = pasted d at (p ++ q) t; kept = at + t; more = m + (length p + length q - t) })
  two r n t e f g =
      min_cases
      (length p)
      (length d - at)
      _
      (λ l k.
      let a : r ≡ length p = omega arith in
      let b : t ≡ length p + n = omega arith in
      same (rw (b, a) (both d at p q n (omega arith))) (omega arith) (counted m (length p) (length q) r n t a b))
      (λ l k.
      let a : n ≡ 0 = omega arith in
      let b : t ≡ r = omega arith in
      let c : r ≤ length p = omega arith in
      same (rw (a, b) (first d at p q r h c)) (omega (arith, a, b)) (passed m (length p) (length q) r n t a b c))

  pub taken_two : let s : SoFar = record { buffer = d; kept = at; more = m } in taken (taken s p) q ≡ taken s (p ++ q)
  taken_two =
      let r = fitting d at p in
      let n = fitting (pasted d at p r) (at + r) q in
      let t = fitting d at (p ++ q) in
      let long = length-paste d at p r (omega arith) (omega arith) in
      let all = length-append p q in
      two r n t refl (ap (λ z. min (length q) (z - (at + r))) long) (ap (λ z. min z (length d - at)) all)
      ∙ same refl refl (ap (λ z. m + (z - t)) (sym all))

-- Parts are taken as one part with all their bytes.
pub all_joined : (s : SoFar) (parts : List (List ℕ)) → s.kept ≤ length s.buffer → all_taken s parts ≡ taken s (joined parts)
unfolding all_taken joined
all_joined s [] h =
    let z : 0 ≡ fitting s.buffer s.kept [] = omega arith in
    same
    (paste-zero s.buffer s.kept [] ∙ ap (λ r. pasted s.buffer s.kept [] r) z)
    (omega arith)
    (omega arith)
all_joined s (part ∷ parts) h =
    all_joined (taken s part) parts (taken_inside s part h) ∙ taken_two s.buffer s.kept s.more part (joined parts) h
