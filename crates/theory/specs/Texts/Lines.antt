-- The lines of a chain text: each is of one row of numbers.
use Rattle.std.specs.Prelude.{ℕ, ◌≡◌, refl, Bool, true, false, List, [], ◌∷◌, ◌++◌, length, get_or}
use Rattle.std.proofs.Common.{arith, sym, ap, ap₂, ◌∙◌, append_assoc, append-nil}
use Rattle.meaning.specs.Number.{choose}
use Rattle.meaning.specs.Text.{bytes_of, IsDigit}
use Rattle.meaning.specs.Report.{named_text}
use Rattle.meaning.specs.ChainText.{state_line, edge_line, spaced, order_line}
use Rattle.theory.specs.Numbers.Cut.{Ended, named_cut}

-- What follows a number begins with a space, or is nothing.
pub space : IsDigit 32 → ⊥
space h = omega (arith, h.0)

pub nothing : IsDigit 0 → ⊥
nothing h = omega (arith, h.0)

-- A text that ends in a number.
pub named_last : (name : List ℕ) (x y : ℕ) → named_text name x ≡ named_text name y → x ≡ y
named_last name x y e =
    (named_cut name x y [] [] nothing nothing (append-nil (named_text name x) ∙ e ∙ sym (append-nil (named_text name y)))).0

pub regroup : (a b c d : List ℕ) → a ++ b ++ c ++ d ≡ a ++ (b ++ (c ++ d))
regroup a b c d = simp append_assoc

-- The line of an edge.
pub edge_one : (a b w r a' b' w' r' : ℕ) → edge_line a b w r ≡ edge_line a' b' w' r' → (a ≡ a') × (b ≡ b') × (w ≡ w') × (r ≡ r')
edge_one a b w r a' b' w' r' e =
    let parts : (a b w r : ℕ) → edge_line a b w r ≡ named_text (bytes_of "edge ") a ++ (named_text (bytes_of " ") b ++ (named_text (bytes_of " weight ") w ++ named_text (bytes_of " reward ") r)) =
    λ a b w r. regroup (named_text (bytes_of "edge ") a) (named_text (bytes_of " ") b) (named_text (bytes_of " weight ") w) (named_text (bytes_of " reward ") r) in
    let first = named_cut (bytes_of "edge ") a a' _ _ space space (sym (parts a b w r) ∙ e ∙ parts a' b' w' r') in
    let second = named_cut (bytes_of " ") b b' _ _ space space first.1 in
    let third = named_cut (bytes_of " weight ") w w' _ _ space space second.1 in
    (first.0, second.0, third.0, named_last (bytes_of " reward ") r r' third.1)

-- The end of a state's line.
pub goal_ended : (goal : Bool) → Ended (choose goal (bytes_of " goal") [])
goal_ended true = space
goal_ended false = nothing

goal_one : (g g' : Bool) → choose g (bytes_of " goal") [] ≡ choose g' (bytes_of " goal") [] → g ≡ g'
goal_one true true e = refl
goal_one true false e = let z : ◌≡◌ {A = ℕ} 0 5 = sym (ap length e) in absurd (omega arith)
goal_one false true e = let z : ◌≡◌ {A = ℕ} 0 5 = ap length e in absurd (omega arith)
goal_one false false e = refl

-- The line of a state.
pub state_one : (i d r i' d' r' : ℕ) (g g' : Bool) → state_line i d r g ≡ state_line i' d' r' g' → (i ≡ i') × (d ≡ d') × (r ≡ r') × (g ≡ g')
state_one i d r i' d' r' g g' e =
    let parts : (i d r : ℕ) (g : Bool) → state_line i d r g ≡ named_text (bytes_of "state ") i ++ (named_text (bytes_of " denominator ") d ++ (named_text (bytes_of " reward ") r ++ choose g (bytes_of " goal") [])) =
    λ i d r g. regroup (named_text (bytes_of "state ") i) (named_text (bytes_of " denominator ") d) (named_text (bytes_of " reward ") r) (choose g (bytes_of " goal") []) in
    let first = named_cut (bytes_of "state ") i i' _ _ space space (sym (parts i d r g) ∙ e ∙ parts i' d' r' g') in
    let second = named_cut (bytes_of " denominator ") d d' _ _ space space first.1 in
    let third = named_cut (bytes_of " reward ") r r' _ _ (goal_ended g) (goal_ended g') second.1 in
    (first.0, second.0, third.0, goal_one g g' third.1)

-- The line of the order.
pub spaced_ended : (xs : List ℕ) → Ended (spaced xs)
unfolding spaced
spaced_ended [] = nothing
spaced_ended (x ∷ xs) = space

spaced_one : (xs ys : List ℕ) → spaced xs ≡ spaced ys → xs ≡ ys
unfolding spaced
spaced_one [] [] e = refl
spaced_one [] (y ∷ ys) e = let z : ◌≡◌ {A = ℕ} 0 32 = ap (λ (s : List ℕ). get_or s 0 0) e in absurd (omega arith)
spaced_one (x ∷ xs) [] e = let z : ◌≡◌ {A = ℕ} 32 0 = ap (λ (s : List ℕ). get_or s 0 0) e in absurd (omega arith)
spaced_one (x ∷ xs) (y ∷ ys) e =
    let first = named_cut (bytes_of " ") x y (spaced xs) (spaced ys) (spaced_ended xs) (spaced_ended ys) e in
    ap₂ (λ (x : ℕ) (xs : List ℕ). x ∷ xs) first.0 (spaced_one xs ys first.1)

pub order_one : (xs ys : List ℕ) → order_line xs ≡ order_line ys → xs ≡ ys
order_one xs ys e = spaced_one xs ys (cc)

-- Numbers with one more.
pub spaced_more : (xs : List ℕ) (x : ℕ) → spaced (xs ++ (x ∷ [])) ≡ spaced xs ++ named_text (bytes_of " ") x
unfolding spaced
spaced_more [] x = append-nil (named_text (bytes_of " ") x)
spaced_more (y ∷ xs) x =
    ap (λ z. named_text (bytes_of " ") y ++ z) (spaced_more xs x) ∙ sym (append_assoc (named_text (bytes_of " ") y) (spaced xs) (named_text (bytes_of " ") x))
