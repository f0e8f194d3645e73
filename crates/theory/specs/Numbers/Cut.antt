-- A number at the front of a text: which number it is, and what comes after it.
use Rattle.std.specs.Prelude.{ℕ, zero, suc, ◌+◌, ◌*◌, ◌-◌, ◌/◌, ◌%◌, ◌≤◌, ◌<◌, ◌≡◌, refl, List, [], ◌∷◌, ◌++◌, Bool, true, false, get_or, ltb, leb}
use Rattle.std.proofs.Common.{arith, sym, ap, ◌∙◌, append_assoc, ⊎_elim, lt-ltb, le-ltb, le-leb}
use Rattle.std.proofs.lemmas.Bool.{lt-leb}
use Rattle.meaning.specs.Number.{choose}
use Rattle.meaning.specs.Text.{decimal, IsDigit}
use Rattle.theory.specs.Numbers.Sum.{below}
use Rattle.theory.specs.Numbers.Decimal.{decimal_small, decimal_more}

-- No digit comes first.
abbrev pub Ended : List ℕ → Type 0
Ended s = IsDigit (get_or s 0 0) → ⊥

-- What the digits at the front say after x, and what comes after them.
unfoldable pub scan : ℕ → List ℕ → ℕ × List ℕ
scan x [] = (x, [])
scan x (b ∷ s) = let more = scan (x * 10 + (b - 48)) s in choose (ltb b 48) (x, b ∷ s) (choose (leb b 57) more (x, b ∷ s))

pub scan_digit : (x b : ℕ) (s : List ℕ) → IsDigit b → scan x (b ∷ s) ≡ scan (x * 10 + (b - 48)) s
unfolding scan
scan_digit x b s h = rw (le-ltb b 48 h.0, le-leb b 57 h.1)

pub scan_ended : (x : ℕ) (s : List ℕ) → Ended s → scan x s ≡ (x, s)
unfolding scan
scan_ended x [] h = refl
scan_ended x (b ∷ s) h =
    ⊎_elim
    (λ (l : b < 48). rw (lt-ltb b 48 l))
    (λ (l : 48 ≤ b).
    ⊎_elim (λ (m : 57 < b). rw (le-ltb b 48 l, lt-leb b 57 m)) (λ (m : b ≤ 57). absurd (h (l, m))) (below 57 b))
    (below b 48)

-- The digits of x say x.
pub scan_decimal : (x : ℕ) (s : List ℕ) → scan 0 (decimal x ++ s) ≡ scan x s
scan_decimal x s = go x x (omega arith) s
  where
    small : (x : ℕ) → x < 10 → (s : List ℕ) → scan 0 (decimal x ++ s) ≡ scan x s
    small x h s = rw (decimal_small x h) (scan_digit 0 (48 + x) s (omega arith, omega arith) ∙ ap (λ z. scan z s) (omega arith))

    go : (k x : ℕ) → x ≤ k → (s : List ℕ) → scan 0 (decimal x ++ s) ≡ scan x s
    go zero x l s = small x (omega arith) s
    go (suc k) x l s =
        ⊎_elim
        (λ (h : x < 10). small x h s)
        (λ (h : 10 ≤ x).
        rw (decimal_more x h, append_assoc)
        (go k (x / 10) (omega arith) _
        ∙ scan_digit (x / 10) (48 + x % 10) s (omega arith, omega arith)
        ∙ ap (λ z. scan z s) (omega arith)))
        (below x 10)

-- Where no digit follows, a number is read as itself, and what follows it is found.
pub scan_number : (x : ℕ) (s : List ℕ) → Ended s → scan 0 (decimal x ++ s) ≡ (x, s)
scan_number x s h = scan_decimal x s ∙ scan_ended x s h

-- A text begins with at most one number that no digit follows.
pub decimal_cut : (x y : ℕ) (s t : List ℕ) → Ended s → Ended t → decimal x ++ s ≡ decimal y ++ t → (x ≡ y) × (s ≡ t)
decimal_cut x y s t h k e =
    let same : ◌≡◌ {A = ℕ × List ℕ} (x, s) (y, t) = sym (scan_number x s h) ∙ ap (scan 0) e ∙ scan_number y t k in
    (ap (λ p. p.0) same, ap (λ p. p.1) same)

-- The same after a name.
pub named_cut : (name : List ℕ) (x y : ℕ) (s t : List ℕ) → Ended s → Ended t → name ++ decimal x ++ s ≡ name ++ decimal y ++ t
    → (x ≡ y) × (s ≡ t)
named_cut [] x y s t h k e = decimal_cut x y s t h k e
named_cut (b ∷ name) x y s t h k e = named_cut name x y s t h k (cc)

-- Digits that follow make no number smaller.
pub scan_rises : (x : ℕ) (s : List ℕ) → x ≤ (scan x s).0
unfolding scan
scan_rises x [] = omega arith
scan_rises x (b ∷ s) = go (ltb b 48) (leb b 57) (scan_rises (x * 10 + (b - 48)) s)
  where
    go : (p q : Bool) → x * 10 + (b - 48) ≤ (scan (x * 10 + (b - 48)) s).0
        → x ≤ (choose p (x, b ∷ s) (choose q (scan (x * 10 + (b - 48)) s) (x, b ∷ s))).0
    go true q h = omega arith
    go false true h = omega arith
    go false false h = omega arith

-- A number begins with a digit, and with 0 only where it is 0.
pub decimal_first : (x : ℕ) (s : List ℕ) → IsDigit (get_or (decimal x ++ s) 0 0) × (0 < x → 48 < get_or (decimal x ++ s) 0 0)
decimal_first x s = go x x (omega arith) s
  where
    small : (x : ℕ) → x < 10 → (s : List ℕ) → IsDigit (get_or (decimal x ++ s) 0 0) × (0 < x → 48 < get_or (decimal x ++ s) 0 0)
    small x h s = rw (decimal_small x h) ((omega arith, omega arith), λ p. omega arith)

    go : (k x : ℕ) → x ≤ k → (s : List ℕ) → IsDigit (get_or (decimal x ++ s) 0 0) × (0 < x → 48 < get_or (decimal x ++ s) 0 0)
    go zero x l s = small x (omega arith) s
    go (suc k) x l s =
        ⊎_elim
        (λ (h : x < 10). small x h s)
        (λ (h : 10 ≤ x).
        rw (decimal_more x h, append_assoc)
        (let first = go k (x / 10) (omega arith) _ in (first.0, λ p. first.1 (omega arith))))
        (below x 10)
