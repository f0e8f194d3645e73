-- Every printed figure but 0 is the word of a limit, and says its own value.
use Prim.Native.Nat.{ℕ, zero, suc, ◌+◌, ◌-◌, ◌*◌, ◌/◌, ◌%◌, ◌^◌, ◌≤◌, ◌<◌}
use Rattle.std.specs.Prelude.{◌≡◌, refl, List, [], ◌∷◌, length, get_or}
use Rattle.std.proofs.Common.{sym, ap₂, ◌∙◌, inl, inr, ⊎_elim, le-ltb}
use Rattle.std.proofs.Math.Path.{ap}
use native.Mathlib.Omega.{arith}
use Rattle.std.proofs.Math.Nat.{pow-le-pow_right}
use Rattle.meaning.specs.Text.{read_on, IsDigit, decimal, decimal_in}
use Rattle.meaning.specs.NearText.{Figure, figure, nought, one, last_digits, figure_text}
use Rattle.meaning.specs.Limit.{limit, most_tens, Spelled, Says}
use Rattle.theory.specs.Numbers.Sum.{below}
use Rattle.theory.specs.Numbers.Decimal.{decimal_small, decimal_more}
use Rattle.theory.specs.Numbers.Printed.{Proper}

-- A digit's byte.
byte_of : (x : ℕ) → x < 10 → IsDigit (48 + x)
byte_of x h = (omega arith, omega arith)

-- The bytes of a figure with six digits, whose tens less five are said by e.
abbrev bytes : ℕ → List ℕ → List ℕ
bytes d e =
    (48 + d / 100000) ∷ 46 ∷ (48 + d / 10000 % 10) ∷ (48 + d / 1000 % 10) ∷ (48 + d / 100 % 10) ∷ (48 + d / 10 % 10) ∷ (48 + d % 10) ∷ 101 ∷ 45 ∷ e

module _ (d : ℕ) (e : List ℕ) (six : d < 1000000) where
  first : (i : ℕ) → 0 ≤ i → i < 1 → IsDigit (get_or (bytes d e) i 0)
  first zero l h = byte_of (d / 100000) (omega arith)
  first (suc i) l h = absurd (omega arith)

  behind : (i : ℕ) → 2 ≤ i → i < 7 → IsDigit (get_or (bytes d e) i 0)
  behind zero l h = absurd (omega arith)
  behind (suc zero) l h = absurd (omega arith)
  behind (suc (suc zero)) l h = byte_of (d / 10000 % 10) (omega arith)
  behind (suc (suc (suc zero))) l h = byte_of (d / 1000 % 10) (omega arith)
  behind (suc (suc (suc (suc zero)))) l h = byte_of (d / 100 % 10) (omega arith)
  behind (suc (suc (suc (suc (suc zero))))) l h = byte_of (d / 10 % 10) (omega arith)
  behind (suc (suc (suc (suc (suc (suc zero)))))) l h = byte_of (d % 10) (omega arith)
  behind (suc (suc (suc (suc (suc (suc (suc i))))))) l h = absurd (omega arith)

  -- The digits before `e` say d.
  value : read_on (bytes d e) 2 (read_on (bytes d e) 0 0 1) 5 ≡ d
  unfolding read_on
  value =
      let next : ℕ → ℕ → ℕ = λ x y. x * 10 + (48 + y - 48) in
      let a : next 0 (d / 100000) ≡ d / 100000 = omega arith in
      let b : next (d / 100000) (d / 10000 % 10) ≡ d / 10000 = omega arith in
      let c : next (d / 10000) (d / 1000 % 10) ≡ d / 1000 = omega arith in
      let f : next (d / 1000) (d / 100 % 10) ≡ d / 100 = omega arith in
      let g : next (d / 100) (d / 10 % 10) ≡ d / 10 = omega arith in
      let h : next (d / 10) (d % 10) ≡ d = omega arith in
      let two = ap (λ x. next x (d / 10000 % 10)) a ∙ b in
      let three = ap (λ x. next x (d / 1000 % 10)) two ∙ c in
      let four = ap (λ x. next x (d / 100 % 10)) three ∙ f in
      let five = ap (λ x. next x (d / 10 % 10)) four ∙ g in
      ap (λ x. next x (d % 10)) five ∙ h

-- What stands after `e-`: one to three digits that say t.
record Tail (t : ℕ) (e : List ℕ) : Type 0 where
  some : 0 < length e
  few : length e ≤ 3
  each : (i : ℕ) → i < length e → IsDigit (get_or e i 0)
  says : (d : ℕ) → read_on (bytes d e) 9 0 (length e) ≡ t

module _ (d t : ℕ) (e : List ℕ) (least : 100000 ≤ d) (six : d < 1000000) (tail : Tail t e) where
  after : (i : ℕ) → 9 ≤ i → i < length (bytes d e) → IsDigit (get_or (bytes d e) i 0)
  after zero l h = absurd (omega arith)
  after (suc zero) l h = absurd (omega arith)
  after (suc (suc zero)) l h = absurd (omega arith)
  after (suc (suc (suc zero))) l h = absurd (omega arith)
  after (suc (suc (suc (suc zero)))) l h = absurd (omega arith)
  after (suc (suc (suc (suc (suc zero))))) l h = absurd (omega arith)
  after (suc (suc (suc (suc (suc (suc zero)))))) l h = absurd (omega arith)
  after (suc (suc (suc (suc (suc (suc (suc zero))))))) l h = absurd (omega arith)
  after (suc (suc (suc (suc (suc (suc (suc (suc zero)))))))) l h = absurd (omega arith)
  after (suc (suc (suc (suc (suc (suc (suc (suc (suc i))))))))) l h = tail.each i (omega arith)

  spelled : Spelled (bytes d e) 1 7
  spelled =
      record {
        short = omega (arith, tail.few);
        whole = record { some = omega arith; inside = omega arith; each = first d e six };
        middle = inr (refl, record { some = omega arith; inside = omega arith; each = behind d e six });
        ending = inr (refl, (refl, (record { some = omega (arith, tail.some); inside = omega arith; each = after }, omega (arith, tail.few))));
      }

  six_says : t ≤ 695 → 0 < t → Says (bytes d e) (limit d (5 + t))
  six_says l h =
      let z : length (bytes d e) - 9 ≡ length e = omega arith in
      record {
        point = 1;
        mark = 7;
        spelled = spelled;
        is = ap₂ limit (sym (value d e six)) (ap (λ x. 5 + x) (sym (rw z (tail.says d))));
        sound = record { some = omega arith; few = omega arith; tens = omega arith; most = (let g : 6 ≤ 5 + t = omega arith in let u : 10 ^ 6 ≤ 10 ^ (5 + t) = pow-le-pow_right {n = 10} (omega arith) g in omega arith) };
      }

-- A number below 1,000 is said by one, two or three digits.
one_digit : (t : ℕ) → t < 10 → Tail t ((48 + t) ∷ [])
unfolding read_on
one_digit t h = record { some = omega arith; few = omega arith; each = each; says = λ d. omega arith }
  where
    each : (i : ℕ) → i < 1 → IsDigit (get_or ((48 + t) ∷ []) i 0)
    each zero l = byte_of t h
    each (suc i) l = absurd (omega arith)

two_digits : (t : ℕ) → t < 100 → Tail t ((48 + t / 10) ∷ (48 + t % 10) ∷ [])
unfolding read_on
two_digits t h = record { some = omega arith; few = omega arith; each = each; says = λ d. omega arith }
  where
    each : (i : ℕ) → i < 2 → IsDigit (get_or ((48 + t / 10) ∷ (48 + t % 10) ∷ []) i 0)
    each zero l = byte_of (t / 10) (omega arith)
    each (suc zero) l = byte_of (t % 10) (omega arith)
    each (suc (suc i)) l = absurd (omega arith)

three_digits : (t : ℕ) → t < 1000 → Tail t ((48 + t / 10 / 10) ∷ (48 + t / 10 % 10) ∷ (48 + t % 10) ∷ [])
unfolding read_on
three_digits t h = record { some = omega arith; few = omega arith; each = each; says = λ d. omega arith }
  where
    each : (i : ℕ) → i < 3 → IsDigit (get_or ((48 + t / 10 / 10) ∷ (48 + t / 10 % 10) ∷ (48 + t % 10) ∷ []) i 0)
    each zero l = byte_of (t / 10 / 10) (omega arith)
    each (suc zero) l = byte_of (t / 10 % 10) (omega arith)
    each (suc (suc zero)) l = byte_of (t % 10) (omega arith)
    each (suc (suc (suc i))) l = absurd (omega arith)

decimal_tail : (t : ℕ) → t < 1000 → Tail t (decimal t)
decimal_tail t h =
    ⊎_elim
    (λ (l : t < 10). rw (decimal_small t l) (one_digit t l))
    (λ (g : 10 ≤ t).
    ⊎_elim
    (λ (l : t < 100). rw (decimal_more t g, decimal_small (t / 10) (omega arith)) (two_digits t l))
    (λ (k : 100 ≤ t).
    rw (decimal_more t g, decimal_more (t / 10) (omega arith), decimal_small (t / 10 / 10) (omega arith)) (three_digits t h))
    (below t 100))
    (below t 10)

-- The text of a figure with six digits.
six_text : (d t : ℕ) → 100000 ≤ d → d < 1000000 → figure_text (figure d t) ≡ bytes d (decimal (t - 5))
unfolding last_digits
six_text d t h l =
    let b : d / 10 / 10 / 10 / 10 ≡ d / 10000 = omega arith in
    let c : d / 10 / 10 / 10 ≡ d / 1000 = omega arith in
    let e : d / 10 / 10 ≡ d / 100 = omega arith in
    rw (le-ltb d 10 (omega arith), decimal_small (d / 100000) (omega arith), b, c, e)

-- 1 is the word of the limit 1.
one_says : Says (figure_text one) (limit 1 0)
unfolding read_on decimal decimal_in
one_says =
    record {
      point = 1;
      mark = 1;
      spelled =
          record {
            short = omega arith;
            whole = record { some = omega arith; inside = omega arith; each = each };
            middle = inl refl;
            ending = inl refl;
          };
      is = refl;
      sound = record { some = omega arith; few = omega arith; tens = omega arith; most = omega arith };
    }
  where
    each : (i : ℕ) → 0 ≤ i → i < 1 → IsDigit (get_or (figure_text one) i 0)
    each zero l h = byte_of 1 (omega arith)
    each (suc i) l h = absurd (omega arith)

-- A figure that is not 0, and has no more tens than a limit, is the word of its own value.
pub figure_says : (f : Figure) → Proper f → (f ≡ nought → ⊥) → f.tens ≤ most_tens → Says (figure_text f) (limit f.digits f.tens)
figure_says f (Proper.none e) n l = absurd (n e)
figure_says f (Proper.all e) n l = rw e one_says
figure_says f (Proper.six h k g u) n l =
    let e : 5 + (f.tens - 5) ≡ f.tens = omega arith in
    let x : Says (bytes f.digits (decimal (f.tens - 5))) (limit f.digits (5 + (f.tens - 5))) =
    six_says f.digits (f.tens - 5) (decimal (f.tens - 5)) h k (decimal_tail (f.tens - 5) (omega arith)) (omega arith) (omega arith) in
    rw (six_text f.digits f.tens h k) (rw e at x)
