-- The text of a chain with its tables is read back as the same.
use Rattle.std.specs.Prelude.{ℕ, zero, suc, ◌/◌, ◌≤◌, ◌<◌, ◌≡◌, refl, Bool, true, false, List, [], ◌∷◌, ◌++◌, get_or, eqb}
use Rattle.std.proofs.Common.{arith, sym, ap, subst, ⊎_elim}
use Rattle.std.proofs.lemmas.Bool.{eqb-false}
use Rattle.meaning.specs.Number.{choose, tab_from}
use Rattle.meaning.specs.Text.{decimal, bytes_of}
use Rattle.meaning.specs.Report.{named_text}
use Rattle.meaning.specs.Chain.{edge_count, from, to, weight, edge_reward}
use Rattle.meaning.specs.Refusal.{Lent}
use Rattle.meaning.specs.ChainText.{
  state_line,
  edge_line,
  spaced,
  goal_at,
  state_line_of,
  edge_line_of,
  chain_lines,
  text_of,
  chain_text,
  Storable,
  newline,
  OneLine,
  LinesOf,
  none,
  ended,
  passed,
  said,
  TextSays,
}
use Rattle.theory.specs.Numbers.Sum.{below}
use Rattle.theory.specs.Numbers.Decimal.{decimal_small, decimal_more}
use Rattle.theory.specs.Texts.Split.{rest_line, empty_line, says_one}

-- Texts with no newline.
pub more_line : {x : ℕ} {a : List ℕ} → (x ≡ newline → ⊥) → OneLine a → OneLine (x ∷ a)
more_line {x} {a} h k = record { unbroken = go }
  where
    go : (j : ℕ) → get_or (x ∷ a) j 0 ≡ newline → ⊥
    go zero = h
    go (suc j) = k.unbroken j

append_line : {a b : List ℕ} → OneLine a → OneLine b → OneLine (a ++ b)
append_line {a = []} h k = k
append_line {a = x ∷ a} h k = more_line (h.unbroken 0) (append_line (rest_line h) k)

decimal_line : (x : ℕ) → OneLine (decimal x)
decimal_line x = go x x (omega arith)
  where
    small : (x : ℕ) → x < 10 → OneLine (decimal x)
    small x h = rw (decimal_small x h) (more_line (λ e. omega arith) empty_line)

    go : (k x : ℕ) → x ≤ k → OneLine (decimal x)
    go zero x l = small x (omega arith)
    go (suc k) x l =
        ⊎_elim
        (λ (h : x < 10). small x h)
        (λ (h : 10 ≤ x).
        rw (decimal_more x h) (append_line (go k (x / 10) (omega arith)) (more_line (λ e. omega arith) empty_line)))
        (below x 10)

-- A test of a text that is given.
abbrev free : List ℕ → Bool
free [] = true
free (x ∷ s) = choose (eqb x newline) false (free s)

apart : false ≡ true → ⊥
apart e = let z : ◌≡◌ {A = ℕ} 0 1 = cc in omega arith

free_line : (s : List ℕ) → free s ≡ true → OneLine s
free_line [] e = empty_line
free_line (x ∷ s) e = go (eqb x newline) refl e (free_line s)
  where
    go : (b : Bool) → eqb x newline ≡ b → choose b false (free s) ≡ true → (free s ≡ true → OneLine s) → OneLine (x ∷ s)
    go true q e f = absurd (apart e)
    go false q e f = more_line (eqb-false x newline q) (f e)

named_line : (name : List ℕ) (x : ℕ) → free name ≡ true → OneLine (named_text name x)
named_line name x e = append_line (free_line name e) (decimal_line x)

-- The lines of a chain.
edge_line_lem : (a b w r : ℕ) → OneLine (edge_line a b w r)
edge_line_lem a b w r =
    append_line
    (append_line (append_line (named_line (bytes_of "edge ") a refl) (named_line (bytes_of " ") b refl)) (named_line (bytes_of " weight ") w refl))
    (named_line (bytes_of " reward ") r refl)

goal_line : (g : Bool) → OneLine (choose g (bytes_of " goal") [])
goal_line true = free_line (bytes_of " goal") refl
goal_line false = empty_line

state_line_lem : (i d r : ℕ) (g : Bool) → OneLine (state_line i d r g)
state_line_lem i d r g =
    append_line
    (append_line
    (append_line (named_line (bytes_of "state ") i refl) (named_line (bytes_of " denominator ") d refl))
    (named_line (bytes_of " reward ") r refl))
    (goal_line g)

spaced_line : (xs : List ℕ) → OneLine (spaced xs)
unfolding spaced
spaced_line [] = empty_line
spaced_line (x ∷ xs) = append_line (named_line (bytes_of " ") x refl) (spaced_line xs)

-- Lines that are not passed over.
pub data Fair : List (List ℕ) → Type 0 where
  fair_none : Fair []
  fair_more : {line : List ℕ} {lines : List (List ℕ)} → OneLine line → passed line ≡ false → Fair lines → Fair (line ∷ lines)

fair_append : {ls ms : List (List ℕ)} → Fair ls → Fair ms → Fair (ls ++ ms)
fair_append fair_none k = k
fair_append (fair_more o q h) k = fair_more o q (fair_append h k)

fair_tab : (i n : ℕ) (f : ℕ → List ℕ) → ((i : ℕ) → OneLine (f i)) → ((i : ℕ) → passed (f i) ≡ false) → Fair (tab_from i n f)
unfolding tab_from
fair_tab i zero f h k = fair_none
fair_tab i (suc n) f h k = fair_more (h i) (k i) (fair_tab (suc i) n f h k)

fair_lines : (l : Lent) → Fair (chain_lines l)
fair_lines l =
    let es = l.chain.edges in
    fair_more (named_line (bytes_of "states ") _ refl) refl
    (fair_more (named_line (bytes_of "edges ") _ refl) refl
    (fair_more (named_line (bytes_of "start ") _ refl) refl
    (fair_append
    (fair_tab 0 _ (state_line_of l) (λ i. state_line_lem i _ _ (goal_at l i)) (λ i. refl))
    (fair_more (append_line (free_line (bytes_of "order") refl) (spaced_line l.order)) refl (fair_tab 0 (edge_count es) (edge_line_of l) (λ e. edge_line_lem (from es e) (to es e) (weight es e) (edge_reward es e)) (λ e. refl))))))

fair_said : {ls : List (List ℕ)} → Fair ls → said ls ≡ ls
unfolding said
fair_said fair_none = refl
fair_said (fair_more {line} o q h) = rw q (ap (λ (z : List (List ℕ)). line ∷ z) (fair_said h))

fair_text : {ls : List (List ℕ)} → Fair ls → LinesOf (text_of ls) ls
unfolding text_of
fair_text fair_none = none
fair_text (fair_more o q h) = ended _ _ _ o (fair_text h)

-- The lines of a shown text are the chain's.
pub shown_lines : (l : Lent) → LinesOf (chain_text l) (chain_lines l)
shown_lines l = fair_text (fair_lines l)

-- What is shown is read back.
pub shown_says : {l : Lent} → Storable l → TextSays (chain_text l) l
shown_says {l} p =
    record { lines = chain_lines l; split = shown_lines l; storable = p; says = sym (fair_said (fair_lines l)) }

-- A text is of one list of lines, and so, by `chain-one`, `orders-one` and `rewards-one`, of one chain with its tables.
pub text_one : {l m : Lent} → Storable l → Storable m → chain_text l ≡ chain_text m → chain_lines l ≡ chain_lines m
text_one {l} {m} p q e = says_one (shown_says p) (subst (λ (z : List ℕ). TextSays z m) (sym e) (shown_says q))
