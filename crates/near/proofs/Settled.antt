-- A row of words that is settled: what its words stand for, and that one of them leaves out nothing.
use Rattle.std.proofs.Common.{◌≡◌, ℕ, zero, suc, ◌*◌, ◌/◌, ◌^◌, ◌<◌, ◌≤◌, ◌⊎◌, List, length, get_or, sym, refl, ap, ◌∙◌, inl, inr, ⊎_elim, zero-mul, div-le_self, arith}
use native.Mathlib.Nat.{zero-div}
use Rattle.meaning.specs.Near.{digits, spare, top}
use Rattle.theory.specs.Numbers.Sum.{below}
use Rattle.theory.specs.Numbers.Binary.{digits_mono}
use Rattle.theory.specs.Numbers.Tops.{top_none, top_cut, whole_cut, spare_cut}
use Rattle.near.specs.Word.{word, value}
use Rattle.near.specs.Row.{value_at, exponent, least_exponent, less_by, settled_words}
use Rattle.near.proofs.Words.{word_none, value_word, exponent_word, less_word}
use Rattle.near.proofs.Rows.{none_is, some_is, least_most, exponent_above, lowered_at}

-- The least exponent is that of a word, or more than any word has.
least_one : (f : ℕ → ℕ) (n : ℕ) → (least_exponent f n ≡ 2 ^ 33) ⊎ ((j : ℕ) × (j < n) × (0 < f j) × (exponent (f j) ≡ least_exponent f n))
unfolding least_exponent
least_one f zero = inl refl
least_one f (suc n) =
    ⊎_elim
    (λ (l : exponent (f n) < least_exponent f n).
    ⊎_elim
    (λ (o : 0 < f n). inr (n, omega arith, o, omega arith))
    (λ (o : f n ≤ 0). inl (omega (arith, none_is (f n) ℕ (2 ^ 33) (f n / 2 ^ 31) (omega arith), least_most f n)))
    (below 0 (f n)))
    (λ (l : least_exponent f n ≤ exponent (f n)).
    ⊎_elim (λ e. inl (omega (arith, e))) (λ x. inr (x.0, omega (arith, x.1), x.2, omega (arith, x.3))) (least_one f n))
    (below (exponent (f n)) (least_exponent f n))

module _ (u : List ℕ) (m : ℕ) (len : length u ≡ m) (most : ℕ) (small : most ≤ 2 ^ 20) (proper : (j : ℕ) → j < m → get_or u j 0 ≡ word (value_at u j))
    (few : (j : ℕ) → j < m → digits (value_at u j) ≤ most)
  where
    abbrev pub K : ℕ
    K = least_exponent (λ j. get_or u j 0) (length u)

    abbrev q : List ℕ
    q = settled_words u

    module _ (j : ℕ) (h : j < m) where
      abbrev x : ℕ
      x = value_at u j

      fits : spare x < 2 ^ 33
      fits = omega (arith, few j h)

      tops : top x ≡ x
      tops = sym (value_word x fits) ∙ ap value (sym (proper j h))

      above : 0 < x → K ≤ spare x
      above o =
          omega (
            arith,
            exponent_above (λ j. get_or u j 0) (length u) j (omega arith),
            ap exponent (proper j h) ∙ exponent_word x fits ∙ some_is x ℕ (2 ^ 33) (spare x) o,
          )

      cut_none : x ≡ 0 → x / 2 ^ K ≡ 0
      cut_none e = rw e (zero-div (2 ^ K))

      word_cuts : less_by K (word x) ≡ word (x / 2 ^ K)
      word_cuts =
          ⊎_elim (λ (o : 0 < x). less_word x fits K o (above o))
          (λ (o : x ≤ 0).
          let e : x ≡ 0 = omega arith in
          ap (less_by K) (ap word e ∙ word_none) ∙ sym (ap word (cut_none e) ∙ word_none))
          (below 0 x)

      cut_top : top (x / 2 ^ K) ≡ x / 2 ^ K
      cut_top =
          ⊎_elim (λ (o : 0 < x). top_cut x K tops (above o))
          (λ (o : x ≤ 0). rw (cut_none (omega arith)) top_none)
          (below 0 x)

      cut_back : x / 2 ^ K * 2 ^ K ≡ x
      cut_back =
          ⊎_elim (λ (o : 0 < x). whole_cut x K tops (above o))
          (λ (o : x ≤ 0). let e : x ≡ 0 = omega arith in ap (λ z. z * 2 ^ K) (cut_none e) ∙ zero-mul (2 ^ K) ∙ sym e)
          (below 0 x)

      settled_word : get_or q j 0 ≡ word (x / 2 ^ K)
      settled_word = lowered_at K u j (omega arith) ∙ ap (less_by K) (proper j h) ∙ word_cuts

      settled_is : value_at q j ≡ x / 2 ^ K
      settled_is =
          ap value settled_word
          ∙ value_word (x / 2 ^ K) (omega (arith, fits, digits_mono (x / 2 ^ K) x (div-le_self x (2 ^ K))))
          ∙ cut_top

      pub settled_proper : get_or q j 0 ≡ word (value_at q j)
      settled_proper = settled_word ∙ ap word (sym settled_is)

      pub settled_back : value_at q j * 2 ^ K ≡ x
      settled_back = ap (λ z. z * 2 ^ K) settled_is ∙ cut_back

    -- Where a word is above 0, one of the settled words has no more than 31 digits.
    pub settled_short : (j : ℕ) → j < m → 0 < value_at u j → (i : ℕ) × (i < m) × (0 < value_at u i) × (digits (value_at q i) ≤ 31)
    settled_short j h o =
        ⊎_elim
        (λ (e : K ≡ 2 ^ 33). absurd (omega (arith, e, above j h o, fits j h)))
        (λ (z : (i : ℕ) × (i < length u) × (0 < get_or u i 0) × (exponent (get_or u i 0) ≡ K)).
        let i = z.0 in
        let l : i < m = omega (arith, z.1) in
        let some : 0 < value_at u i = ⊎_elim (λ (a : 0 < value_at u i). a)
        (λ (a : value_at u i ≤ 0). let y : value_at u i ≡ 0 = omega arith in absurd (omega (arith, z.2, proper i l ∙ ap word y ∙ word_none)))
        (below 0 (value_at u i)) in
        let e : spare (value_at u i) ≡ K =
        sym (ap exponent (proper i l) ∙ exponent_word (value_at u i) (fits i l) ∙ some_is (value_at u i) ℕ (2 ^ 33) (spare (value_at u i)) some) ∙ z.3 in
        (i, l, some, omega (arith, ap digits (settled_is i l), spare_cut (value_at u i) K (omega (arith, e)), e)))
        (least_one (λ j. get_or u j 0) (length u))
