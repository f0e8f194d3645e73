-- A number is read digit by digit.
use Prim.Native.Nat.{ℕ, suc, ◌+◌, ◌*◌, ◌-◌, ◌/◌, ◌%◌, ◌≤◌, ◌<◌}
use native.Mathlib.Omega.{arith}
use Rattle.std.proofs.Common.{max}
use native.Mathlib.Numerals.{add-one}
use mathlib.Core.Path.{◌≡◌, refl, sym, ap, subst, ◌∙◌}
use mathlib.Core.Logic.{⊎_elim}
use mathlib.Core.List.{List, [], ◌∷◌, ◌++◌, append_assoc, tail-eq_of_cons-eq}
use lib.ListN.{length, get_or, drop, get_or-eq_default}
use lib.Seq.{drop-cons, get_or-drop}
use borrow.Author.Tests.{eq-eqb, ne_eqb}
use Rattle.meaning.specs.Text.{decimal, IsDigit}
use Rattle.theory.specs.Numbers.Sum.{same}
use Rattle.theory.specs.Numbers.Decimal.{decimal_small, decimal_more}
use Rattle.theory.specs.Numbers.Cut.{Ended, scan, scan_digit, scan_decimal, scan_number, scan_rises, decimal_first}
use Rattle.chaintext.specs.Pieces.{numbered, ended}

-- Up to i the digits say x: none yet, or x as it is written.
pub data ReadTo (line : List ℕ) (place limit : ℕ) : ℕ → ℕ → Type 0 where
  begun : ReadTo line place limit place 0
  going : (i x : ℕ) → place < i → i ≤ length line → x ≤ limit → drop place line ≡ decimal x ++ drop i line → ReadTo line place limit i x

-- No number stands there.
abbrev pub Numberless : List ℕ → ℕ → ℕ → Type 0
Numberless line place limit = (x : ℕ) (rest : List ℕ) → x ≤ limit → Ended rest → drop place line ≡ decimal x ++ rest → ⊥

pub drop_ended : (line : List ℕ) (i : ℕ) → (IsDigit (get_or line i 0) → ⊥) → Ended (drop i line)
drop_ended line i h d =
    let z : i + 0 ≡ i = omega arith in h (subst IsDigit (get_or-drop i line 0 0 ∙ ap (λ j. get_or line j 0) z) d)

pub drop_digit : (line : List ℕ) (i : ℕ) → IsDigit (get_or line i 0) → IsDigit (get_or (drop i line) 0 0)
drop_digit line i d = let z : i + 0 ≡ i = omega arith in subst IsDigit (sym (get_or-drop i line 0 0 ∙ ap (λ j. get_or line j 0) z)) d

-- Past the end.
pub end_ended : (line : List ℕ) (i : ℕ) → length line ≤ i → IsDigit (get_or line i 0) → ⊥
end_ended line i h d = let z = get_or-eq_default line 0 h in omega (arith, d.0)

module _ {line : List ℕ} {place limit : ℕ} where
  -- What the digits say is within the limit.
  pub read_small : {i x : ℕ} → ReadTo line place limit i x → x ≤ limit
  read_small begun = omega arith
  read_small (going i x a b s e) = s

  -- The digits end at their place or behind it.
  pub read_from : {i x : ℕ} → ReadTo line place limit i x → place ≤ i
  read_from begun = omega arith
  read_from (going i x a b s e) = omega arith

  -- At the end of the line, or at a place past it.
  pub read_end : {i x : ℕ} → ReadTo line place limit i x → length line ≤ i → i ≡ max (length line) place
  read_end begun h = omega arith
  read_end (going i x a b s e) h = omega arith

  -- The digits end.
  pub read_ends : {i x : ℕ} → ReadTo line place limit i x → (IsDigit (get_or line i 0) → ⊥) → numbered line place [] limit (ended place i x)
  read_ends begun h =
      rw (eq-eqb place place refl)
      (λ x rest s n e. drop_ended line place h (subst (λ (z : List ℕ). IsDigit (get_or z 0 0)) (sym e) (decimal_first x rest).0))
  read_ends (going i x a b s e) h =
      rw (ne_eqb i place (λ q. omega arith))
      (record { stands = record { inside = b; cut = e }; ends = drop_ended line i h; small = s })

  scanned : {i x : ℕ} → ReadTo line place limit i x → scan 0 (drop place line) ≡ scan x (drop i line)
  scanned begun = refl
  scanned (going i x a b s e) = rw e (scan_decimal x (drop i line))

  -- A zero in front of a digit.
  pub read_zero : {i x : ℕ} → ReadTo line place limit i x → IsDigit (get_or line i 0) → x ≡ 0 → place < i → Numberless line place limit
  read_zero begun d z l = absurd (omega arith)
  read_zero (going i x a b t q) d z l = λ y rest s n e.
      let zero_is : drop place line ≡ 48 ∷ drop i line =
      q ∙ ap (λ k. decimal k ++ drop i line) z ∙ ap (λ k. k ++ drop i line) (decimal_small 0 (omega arith)) in
      ⊎_elim
      (λ (w : y ≡ 0).
      let same_rest : 48 ∷ drop i line ≡ 48 ∷ rest =
      sym zero_is ∙ e ∙ ap (λ k. decimal k ++ rest) w ∙ ap (λ k. k ++ rest) (decimal_small 0 (omega arith)) in
      n (subst (λ (k : List ℕ). IsDigit (get_or k 0 0)) (tail-eq_of_cons-eq same_rest) (drop_digit line i d)))
      (λ (w : y ≡ 0 → ⊥).
      let first : 48 ≡ get_or (decimal y ++ rest) 0 0 = ap (λ (k : List ℕ). get_or k 0 0) (sym zero_is ∙ e) in
      omega (arith, (decimal_first y rest).1 (omega arith)))
      (same y 0)

  -- A number past the limit.
  pub read_large : {i x : ℕ} → ReadTo line place limit i x → i < length line → IsDigit (get_or line i 0)
      → limit < x * 10 + (get_or line i 0 - 48) → Numberless line place limit
  read_large {i} {x} r inside digit l y rest s n e =
      let b = get_or line i 0 in
      let more : scan 0 (decimal y ++ rest) ≡ scan (x * 10 + (b - 48)) (drop (suc i) line) =
      ap (scan 0) (sym e) ∙ scanned r ∙ ap (scan x) (drop-cons line i 0 inside) ∙ scan_digit x b (drop (suc i) line) digit in
      let value = ap (λ p. p.0) (sym (scan_number y rest n) ∙ more) in
      omega (arith, value, scan_rises (x * 10 + (b - 48)) (drop (suc i) line))

  -- Another digit.
  pub read_more : {i x : ℕ} → ReadTo line place limit i x → i < length line → IsDigit (get_or line i 0) → (x ≡ 0 → place < i → ⊥)
      → x * 10 + (get_or line i 0 - 48) ≤ limit → ReadTo line place limit (i + 1) (x * 10 + (get_or line i 0 - 48))
  read_more begun inside d f l =
      let b = get_or line place 0 in
      let v = 0 * 10 + (b - 48) in
      going (place + 1) v (omega arith) (omega arith) l
      (rw (decimal_small v (omega (arith, d.1)), add-one)
      (drop-cons line place 0 inside ∙ ap (λ k. k ∷ drop (suc place) line) (omega (arith, d.0))))
  read_more (going i x a c t q) inside d f l =
      let b = get_or line i 0 in
      let v = x * 10 + (b - 48) in
      let some : 0 < x = omega (arith, f' f a) in
      let tens : v / 10 ≡ x = omega (arith, d.1) in
      let ones : 48 + v % 10 ≡ b = omega (arith, d.0, d.1) in
      going (i + 1) v (omega arith) (omega arith) l
      (rw (decimal_more v (omega arith), tens, ones, append_assoc, add-one) (q ∙ ap (λ k. decimal x ++ k) (drop-cons line i 0 inside)))
    where
      f' : {i x : ℕ} → (x ≡ 0 → place < i → ⊥) → place < i → x ≡ 0 → ⊥
      f' f a z = f z a
