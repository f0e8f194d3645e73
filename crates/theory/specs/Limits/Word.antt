-- A word says at most one limit.
use Rattle.std.specs.Prelude.{ℕ, ◌+◌, ◌<◌, ◌≡◌, ◌⊎◌, List, length, get_or}
use Rattle.std.proofs.Common.{sym, ap₂, ◌∙◌, inl, inr, ⊎_elim, arith}
use Rattle.meaning.specs.Text.{bytes_of, IsDigit}
use Rattle.meaning.specs.Limit.{Limit, DigitsIn, Stands, Marked, Spelled, spelled_limit, Says, LimitWord, said, nothing}
use Rattle.theory.specs.Outcomes.Determined.{meet}

-- Where it is not the end of the word, an `e` stands at the mark.
pub end_letter : (word : List ℕ) (mark : ℕ) → (length word ≡ mark) ⊎ Marked word mark → mark < length word → get_or word mark 0 ≡ 101
end_letter word mark (inl e) l = omega arith
end_letter word mark (inr h) l = h.0

module _ {word : List ℕ} where
  -- No digit stands where those after the point end,
  pub past_mark : {point mark : ℕ} → Spelled word point mark → mark < length word → IsDigit (get_or word mark 0) → ⊥
  past_mark {point} {mark} s l d = omega (arith, end_letter word mark s.ending l, d.1)

  -- and none where those before it end.
  pub past_point : {point mark : ℕ} → Spelled word point mark → point < length word → IsDigit (get_or word point 0) → ⊥
  past_point {point} {mark} s l d =
      ⊎_elim
      (λ (e : mark ≡ point). past_mark s (omega arith) (rw e d))
      (λ h. let t : get_or word point 0 ≡ 46 = h.0 in omega (arith, d.0))
      s.middle

  no_later : {point mark point' mark' : ℕ} → Spelled word point mark → Spelled word point' mark' → point < point' → ⊥
  no_later {point} s s' l = past_point s (omega (arith, s'.whole.inside)) (s'.whole.each point (omega arith) l)

  mark_later : {point mark mark' : ℕ} → Spelled word point mark → Spelled word point mark' → mark < mark' → ⊥
  mark_later {point} {mark} {mark'} s s' l = ⊎_elim (λ (e : mark' ≡ point). before e s.middle) (λ h. behind h.0 h.1 s.middle) s'.middle
    where
      before : mark' ≡ point → (mark ≡ point) ⊎ (Stands word point (bytes_of ".") × DigitsIn word (point + 1) mark) → ⊥
      before e (inl h) = omega arith
      before e (inr h) = omega (arith, h.1.some)

      behind : Stands word point (bytes_of ".") → DigitsIn word (point + 1) mark'
          → (mark ≡ point) ⊎ (Stands word point (bytes_of ".") × DigitsIn word (point + 1) mark)
          → ⊥
      behind t d (inl e) =
          let dot : get_or word point 0 ≡ 46 = t in
          let letter : get_or word point 0 ≡ 101 = rw (sym e) (end_letter word mark s.ending (omega (arith, d.some, d.inside))) in
          omega arith
      behind t d (inr h) = past_mark s (omega (arith, d.inside)) (d.each mark (omega (arith, h.1.some)) l)

  -- So the two places are one.
  pub spelled_one : {point mark point' mark' : ℕ} → Spelled word point mark → Spelled word point' mark' → (point ≡ point') × (mark ≡ mark')
  spelled_one {point} {mark} {point'} {mark'} s s' =
      let e = meet point point' (no_later s s') (no_later s' s) in
      let t : Spelled word point mark' = rw e s' in
      (e, meet mark mark' (mark_later s t) (mark_later t s))

  pub says_one : {m m' : Limit} → Says word m → Says word m' → m ≡ m'
  says_one s s' =
      let (e, d) = spelled_one s.spelled s'.spelled in
      s.is ∙ ap₂ (spelled_limit word) e d ∙ sym s'.is

  pub limit_word_one : {m m' : Limit} → LimitWord word m → LimitWord word m' → m ≡ m'
  limit_word_one (said s) (said s') = says_one s s'
  limit_word_one (said s) (nothing n' e') = absurd (n' _ s)
  limit_word_one (nothing n e) (said s') = absurd (n _ s')
  limit_word_one (nothing n e) (nothing n' e') = e ∙ sym e'
