-- A word is read digit by digit.
use Prim.Native.Nat.{ℕ, zero, suc, ◌+◌, ◌*◌, ◌-◌, ◌≤◌, ◌<◌}
use mathlib.Core.Path.{◌≡◌, refl, sym, ◌∙◌}
use mathlib.Core.Logic.{⊎_elim}
use mathlib.Core.List.{List}
use native.Mathlib.Omega.{arith}
use native.Mathlib.Nat.{eq-or-lt_of_le, zero-add}
use native.Mathlib.Numerals.{add-one}
use lib.ListN.{length, get_or}
use Rattle.std.specs.Prelude.{Some, None}
use Rattle.meaning.specs.Text.{read_on, value_to, most_digits, past_numbers, Decimal, WordOutcome, number, nothing}
use Rattle.input.specs.Digit.{Digit, stands, none}
use Rattle.meaning.specs.Text.{IsDigit}

-- The first i bytes are digits, and x is what they say, a number of 64 bits.
pub record ReadTo (word : List ℕ) (i x : ℕ) : Type 0 where
  pub inside : i ≤ length word
  pub value : x ≡ value_to word i
  pub digits : (q : ℕ) → q < i → IsDigit (get_or word q 0)
  pub small : x < past_numbers

pub read_none : {word : List ℕ} → ReadTo word 0 0
unfolding read_on
read_none = record { inside = omega arith; value = refl; digits = λ q h. absurd (omega arith); small = omega arith }

value_rises : (word : List ℕ) (i n : ℕ) → i ≤ n → value_to word i ≤ value_to word n
unfolding read_on
value_rises word i zero h = let e : i ≡ 0 = omega arith in rw e (omega arith)
value_rises word i (suc n) h =
    ⊎_elim
    (λ (e : i ≡ suc n). rw e (omega arith))
    (λ (l : i < suc n). omega (arith, value_rises word i n (omega arith)))
    (eq-or-lt_of_le {n = i} {m = suc n} h)

-- A byte that is no digit.
pub no_digit : {b : ℕ} → Digit b None → IsDigit b → ⊥
no_digit (stands h v) d = cc
no_digit (none h v) d = h d

pub digit_is : {b d : ℕ} → Digit b (Some d) → IsDigit b × (d ≡ b - 48)
digit_is (stands h v) = (h, cc)
digit_is (none h v) = absurd cc

pub digit_small : {b d : ℕ} → Digit b (Some d) → d ≤ 9
digit_small g = let h = (digit_is g).0 in let e = (digit_is g).1 in omega (arith, h.1)

module _ {word : List ℕ} {i x : ℕ} (r : ReadTo word i x) (within : i < length word) where
  pub read_stuck : Digit (get_or word i 0) None → Decimal word → ⊥
  read_stuck g z = no_digit g (z.digits i within)

  module _ {d : ℕ} (g : Digit (get_or word i 0) (Some d)) where
    value_next : x * 10 + d ≡ value_to word (i + 1)
    unfolding read_on
    value_next = rw (add-one, zero-add i) (let e = (digit_is g).1 in omega (arith, r.value))

    pub read_more : {next : ℕ} → next ≡ x * 10 + d → next < past_numbers → ReadTo word (i + 1) next
    read_more e h =
        record {
          inside = omega arith;
          value = e ∙ value_next;
          small = h;
          digits = λ q h.
              ⊎_elim (λ (e : q ≡ i). rw e (digit_is g).0) (λ (l : q < i). r.digits q l) (eq-or-lt_of_le {n = q} {m = i} (omega arith));
        }

    -- A number that outgrows 64 bits.
    pub read_large : past_numbers ≤ x * 10 + d → Decimal word → ⊥
    read_large h z = omega (arith, z.fits, value_next, value_rises word (i + 1) (length word) (omega arith))

pub read_all : {word : List ℕ} {i x otherwise : ℕ} → ReadTo word i x → length word ≤ i → 0 < length word → length word ≤ most_digits
    → WordOutcome otherwise word x
read_all {word} {i} {x} r end some few =
    let e : i ≡ length word = omega (arith, r.inside) in
    let v : x ≡ value_to word (length word) = rw e at r.value in
    number
    (record { some = some; few = few; digits = λ q h. r.digits q (omega arith); fits = omega (arith, r.small) })
    v

-- One word is read as one number.
pub word_one : {word : List ℕ} {x y otherwise : ℕ} → WordOutcome otherwise word x → WordOutcome otherwise word y → x ≡ y
word_one (number d e) (number d' e') = e ∙ sym e'
word_one (number d e) (nothing n e') = absurd (n d)
word_one (nothing n e) (number d e') = absurd (n d)
word_one (nothing n e) (nothing n' e') = e ∙ sym e'
