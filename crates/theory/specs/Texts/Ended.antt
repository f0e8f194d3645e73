-- Every text has lines, and the lines of a text in two parts.
use Rattle.std.specs.Prelude.{ℕ, suc, ◌+◌, ◌-◌, ◌≤◌, ◌<◌, ◌≡◌, refl, List, [], ◌∷◌, ◌++◌, length, get_or, take, drop}
use Rattle.std.proofs.Common.{arith, add-one, sym, ap, subst, ◌∙◌, ⊎_elim, append_assoc, append-nil, take-append-drop, length-append, drop-cons, drop-drop, take_at}
use Rattle.std.proofs.Math.Seq.{append_snoc}
use Rattle.meaning.specs.ChainText.{text_of, OneLine, newline, LinesOf, none, unended, ended, said, Begins, TextRefused, line_wrong}
use Rattle.theory.specs.Numbers.Sum.{same}
use Rattle.theory.specs.Texts.Split.{empty_line, said_append}
use Rattle.theory.specs.Texts.Shown.{more_line}

-- Every text has lines.
pub lines_of : (s : List ℕ) → (ls : List (List ℕ)) × LinesOf s ls
lines_of [] = ([], none)
lines_of (b ∷ s) =
    ⊎_elim
    (λ (e : b ≡ newline). let r = lines_of s in ([] ∷ r.0, subst (λ (z : ℕ). LinesOf (z ∷ s) ([] ∷ r.0)) (sym e) (ended [] s r.0 empty_line r.1)))
    (λ (n : b ≡ newline → ⊥). grow b n (lines_of s).1)
    (same b newline)
  where
    grow : (b : ℕ) → (b ≡ newline → ⊥) → {s : List ℕ} {ls : List (List ℕ)} → LinesOf s ls → (ls : List (List ℕ)) × LinesOf (b ∷ s) ls
    grow b n none = ((b ∷ []) ∷ [], unended b [] (more_line n empty_line))
    grow b n (unended c line o) = ((b ∷ c ∷ line) ∷ [], unended b (c ∷ line) (more_line n o))
    grow b n (ended line text lines o r) = ((b ∷ line) ∷ lines, ended (b ∷ line) text lines (more_line n o) r)

-- Lines that have come, each with its end.
pub data EachLine : List (List ℕ) → Type 0 where
  each_none : EachLine []
  each_more : {line : List ℕ} {lines : List (List ℕ)} → OneLine line → EachLine lines → EachLine (line ∷ lines)

pub each_last : {line : List ℕ} {lines : List (List ℕ)} → EachLine lines → OneLine line → EachLine (lines ++ (line ∷ []))
each_last each_none o = each_more o each_none
each_last (each_more h r) o = each_more h (each_last r o)

pub lines_join : {ls ms : List (List ℕ)} {s : List ℕ} → EachLine ls → LinesOf s ms → LinesOf (text_of ls ++ s) (ls ++ ms)
unfolding text_of
lines_join each_none r = r
lines_join {ms = ms} {s = s} (each_more {line} {lines} o h) r =
    subst (λ (z : List ℕ). LinesOf z (line ∷ (lines ++ ms))) (sym (append_assoc (line ++ (newline ∷ [])) (text_of lines) s))
    (ended line (text_of lines ++ s) (lines ++ ms) o (lines_join h r))

text_last : (ls : List (List ℕ)) (line : List ℕ) → text_of (ls ++ (line ∷ [])) ≡ text_of ls ++ (line ++ (newline ∷ []))
unfolding text_of
text_last [] line = append-nil (line ++ (newline ∷ []))
text_last (l ∷ ls) line =
    ap (λ z. l ++ (newline ∷ []) ++ z) (text_last ls line) ∙ sym (append_assoc (l ++ (newline ∷ [])) (text_of ls) (line ++ (newline ∷ [])))

-- A line of a text from one place to another.
abbrev pub part : List ℕ → ℕ → ℕ → List ℕ
part text at end = take (end - at) (drop at text)

pub part_rest : (text : List ℕ) (at end : ℕ) → at ≤ end → drop at text ≡ part text at end ++ drop end text
part_rest text at end h =
    let z : at + (end - at) ≡ end = omega arith in
    sym (take-append-drop (end - at) (drop at text)) ∙ ap (λ k. part text at end ++ k) (drop-drop (end - at) at text ∙ ap (λ k. drop k text) z)

module _ (text : List ℕ) (at end : ℕ) (from : at ≤ end) (inside : end < length text) (stops : get_or text end 0 ≡ newline) where
  -- The line has its end.
  pub part_ended : drop at text ≡ part text at end ++ (newline ∷ []) ++ drop (end + 1) text
  part_ended =
      part_rest text at end from
      ∙ ap (λ z. part text at end ++ z) (drop-cons text end 0 inside ∙ ap (λ z. z ∷ drop (suc end) text) stops ∙ ap (λ z. newline ∷ drop z text) (sym (add-one end)))
      ∙ sym (append_snoc (part text at end) newline (drop (end + 1) text))

  pub text_further : (ls : List (List ℕ)) → text ≡ text_of ls ++ drop at text → text ≡ text_of (ls ++ (part text at end ∷ [])) ++ drop (end + 1) text
  text_further ls e =
      e
      ∙ ap (λ z. text_of ls ++ z) part_ended
      ∙ sym (append_assoc (text_of ls) (part text at end ++ (newline ∷ [])) (drop (end + 1) text))
      ∙ ap (λ z. z ++ drop (end + 1) text) (sym (text_last ls (part text at end)))

-- A text whose first lines begin some chain's, and with the next line no chain's.
pub refused_at : {text : List ℕ} (ls ms : List (List ℕ)) (line : List ℕ) → LinesOf text (ls ++ (line ∷ ms)) → Begins (said ls)
    → (Begins (said ls ++ said (line ∷ [])) → ⊥) → TextRefused text (suc (length ls))
refused_at {text} ls ms line r b n =
    let all = ls ++ (line ∷ ms) in
    let front : take (length ls) all ≡ ls = take_at ls (line ∷ ms) (length ls) refl in
    let long : length (ls ++ (line ∷ [])) ≡ suc (length ls) = omega (arith, length-append ls (line ∷ [])) in
    let next : take (suc (length ls)) all ≡ ls ++ (line ∷ []) =
    ap (take (suc (length ls))) (sym (append_snoc ls line ms)) ∙ take_at (ls ++ (line ∷ [])) ms (suc (length ls)) long in
    line_wrong all (length ls) r (omega (arith, length-append ls (line ∷ ms))) (subst (λ (z : List (List ℕ)). Begins (said z)) (sym front) b)
    (λ q. n (subst Begins (ap said next ∙ said_append ls (line ∷ [])) q))
