-- The lines of a text are one list, and what is read from a text is one.
use Rattle.std.specs.Prelude.{ℕ, suc, ◌≤◌, ◌<◌, ◌≡◌, refl, Bool, true, false, length, get_or, take, drop}
use Rattle.std.proofs.Common.{arith, sym, ap, ap₂, subst, ◌∙◌, ⊎_elim, take-append-drop, take-take}
use mathlib.Core.List.{List, [], ◌∷◌, ◌++◌, append_assoc, append-nil, head-eq_of_cons-eq, tail-eq_of_cons-eq}
use Rattle.std.proofs.Math.Seq.{append_snoc, get_or-append_seam}
use Rattle.meaning.specs.Number.{choose}
use Rattle.meaning.specs.Refusal.{Lent}
use Rattle.meaning.specs.ChainText.{
  chain_lines,
  Storable,
  OneLine,
  LinesOf,
  none,
  unended,
  ended,
  passed,
  said,
  Begins,
  TextRefused,
  line_wrong,
  line_missing,
  TextSays,
}
use Rattle.theory.specs.Numbers.Sum.{below}

pub rest_line : {x : ℕ} {a : List ℕ} → OneLine (x ∷ a) → OneLine a
rest_line h = record { unbroken = λ j. h.unbroken (suc j) }

pub empty_line : OneLine []
empty_line = record { unbroken = λ j q. let z : ◌≡◌ {A = ℕ} 0 10 = q in omega arith }

-- Two lines that end at the first newline.
line_cut : (a b s t : List ℕ) → OneLine a → OneLine b → a ++ (10 ∷ s) ≡ b ++ (10 ∷ t) → (a ≡ b) × (s ≡ t)
line_cut [] [] s t h k e = (refl, tail-eq_of_cons-eq e)
line_cut [] (y ∷ b) s t h k e = absurd (k.unbroken 0 (sym (head-eq_of_cons-eq e)))
line_cut (x ∷ a) [] s t h k e = absurd (h.unbroken 0 (head-eq_of_cons-eq e))
line_cut (x ∷ a) (y ∷ b) s t h k e =
    let rest = line_cut a b s t (rest_line h) (rest_line k) (tail-eq_of_cons-eq e) in
    (ap₂ (λ (z : ℕ) (l : List ℕ). z ∷ l) (head-eq_of_cons-eq e) rest.0, rest.1)

-- A line with no end is not one with an end.
unended_not : (line a text : List ℕ) → OneLine line → line ≡ a ++ (10 ∷ []) ++ text → ⊥
unended_not line a text h e =
    h.unbroken (length a) (ap (λ (s : List ℕ). get_or s (length a) 0) (e ∙ append_snoc a 10 text) ∙ get_or-append_seam a 10 text 0)

no_end : (a text : List ℕ) → ◌≡◌ {A = List ℕ} [] (a ++ (10 ∷ []) ++ text) → ⊥
no_end a text e = unended_not [] a text empty_line e

lines_are : {s t : List ℕ} {ls ms : List (List ℕ)} → LinesOf s ls → LinesOf t ms → s ≡ t → ls ≡ ms
lines_are none none e = refl
lines_are none (unended b line h) e = absurd (nil_not e)
  where
    nil_not : {b : ℕ} {line : List ℕ} → ◌≡◌ {A = List ℕ} [] (b ∷ line) → ⊥
    nil_not e = let z : ◌≡◌ {A = ℕ} 0 1 = cc in omega arith
lines_are none (ended line text lines h r) e = absurd (no_end line text e)
lines_are (unended b line h) none e = let z : ◌≡◌ {A = List ℕ} (b ∷ line) [] = e in absurd (let z : ◌≡◌ {A = ℕ} 0 1 = cc in omega arith)
lines_are (unended b line h) (unended b' line' h') e = ap (λ (l : List ℕ). l ∷ []) e
lines_are (unended b line h) (ended line' text' lines' h' r') e = absurd (unended_not (b ∷ line) line' text' h e)
lines_are (ended line text lines h r) none e = absurd (no_end line text (sym e))
lines_are (ended line text lines h r) (unended b' line' h') e = absurd (unended_not (b' ∷ line') line text h' (sym e))
lines_are (ended line text lines h r) (ended line' text' lines' h' r') e =
    let cut = line_cut line line' text text' h h' (sym (append_snoc line 10 text) ∙ e ∙ append_snoc line' 10 text') in
    ap₂ (λ (l : List ℕ) (ls : List (List ℕ)). l ∷ ls) cut.0 (lines_are r r' cut.1)

pub lines_one : {text : List ℕ} {ls ms : List (List ℕ)} → LinesOf text ls → LinesOf text ms → ls ≡ ms
lines_one r q = lines_are r q refl

-- What is said in two parts.
pub said_append : (ls ms : List (List ℕ)) → said (ls ++ ms) ≡ said ls ++ said ms
unfolding said
said_append [] ms = refl
said_append (line ∷ ls) ms = go (passed line) (said_append ls ms)
  where
    go : (b : Bool) → said (ls ++ ms) ≡ said ls ++ said ms
        → choose b (said (ls ++ ms)) (line ∷ said (ls ++ ms)) ≡ choose b (said ls) (line ∷ said ls) ++ said ms
    go true e = e
    go false e = ap (λ (z : List (List ℕ)). line ∷ z) e

begins_less : (ls ms : List (List ℕ)) → Begins (ls ++ ms) → Begins ls
begins_less ls ms b = (b.0, ms ++ b.1, b.2, b.3 ∙ append_assoc ls ms b.1)

begins_take : (ls : List (List ℕ)) (j k : ℕ) → j ≤ k → Begins (said (take k ls)) → Begins (said (take j ls))
begins_take ls j k h b =
    let parts : take k ls ≡ take j ls ++ drop j (take k ls) = sym (take-append-drop j (take k ls)) ∙ ap (λ z. z ++ drop j (take k ls)) (take-take j k ls h) in
    begins_less (said (take j ls)) (said (drop j (take k ls))) (rw (ap said parts ∙ said_append (take j ls) (drop j (take k ls))) at b)

begins_all : (ls : List (List ℕ)) (j : ℕ) → Begins (said ls) → Begins (said (take j ls))
begins_all ls j b =
    let parts : said ls ≡ said (take j ls) ++ said (drop j ls) = ap said (sym (take-append-drop j ls)) ∙ said_append (take j ls) (drop j ls) in
    begins_less (said (take j ls)) (said (drop j ls)) (rw parts at b)

begins_whole : {l : Lent} {ls : List (List ℕ)} → Storable l → chain_lines l ≡ ls → Begins ls
begins_whole {l} {ls} p e = (l, [], p, e ∙ sym (append-nil ls))

module _ {text : List ℕ} where
  -- A text says at most one chain with its tables.
  pub says_one : {l m : Lent} → TextSays text l → TextSays text m → chain_lines l ≡ chain_lines m
  says_one a b = a.says ∙ ap said (lines_one a.split b.split) ∙ sym b.says

  -- A text that says one is not refused.
  pub says_unrefused : {l : Lent} {place : ℕ} → TextSays text l → TextRefused text place → ⊥
  says_unrefused a (line_wrong lines p r h b n) =
      n (begins_all lines (suc p) (begins_whole a.storable (a.says ∙ ap said (lines_one a.split r))))
  says_unrefused {l} a (line_missing lines r b n) = n l a.storable (a.says ∙ ap said (lines_one a.split r))

  -- No chain's lines begin with more lines than up to a wrong one.
  not_later : (ls ms : List (List ℕ)) (p q : ℕ) → LinesOf text ls → LinesOf text ms → (Begins (said (take (suc p) ls)) → ⊥)
      → Begins (said (take q ms)) → q ≤ p
  not_later ls ms p q r s n b =
      ⊎_elim
      (λ (h : p < q). absurd (n (begins_take ls (suc p) q h (subst (λ (z : List (List ℕ)). Begins (said (take q z))) (lines_one s r) b))))
      (λ (h : q ≤ p). h)
      (below p q)

  not_missing : (ls ms : List (List ℕ)) (p : ℕ) → LinesOf text ls → LinesOf text ms → (Begins (said (take (suc p) ls)) → ⊥)
      → Begins (said ms) → ⊥
  not_missing ls ms p r s n b = n (begins_all ls (suc p) (subst (λ (z : List (List ℕ)). Begins (said z)) (lines_one s r) b))

  -- A text is refused at one place.
  pub refused_one : {p q : ℕ} → TextRefused text p → TextRefused text q → p ≡ q
  refused_one (line_wrong ls p r h b n) (line_wrong ls' p' r' h' b' n') =
      omega (arith, not_later ls ls' p p' r r' n b', not_later ls' ls p' p r' r n' b)
  refused_one (line_wrong ls p r h b n) (line_missing ls' r' b' n') = absurd (not_missing ls ls' p r r' n b')
  refused_one (line_missing ls r b n) (line_wrong ls' p' r' h' b' n') = absurd (not_missing ls' ls p' r' r n' b)
  refused_one (line_missing ls r b n) (line_missing ls' r' b' n') = ap (λ (z : List (List ℕ)). suc (length z)) (lines_one r r')
