-- Cells of a table once one is set, and of a table whose front is new.
use Prim.Native.Nat.{ℕ, ◌+◌, ◌-◌, ◌≤◌, ◌<◌}
use native.Mathlib.Omega.{arith}
use mathlib.Core.Path.{◌≡◌, sym, ap, subst, ◌∙◌}
use mathlib.Core.Logic.{⊎_elim}
use mathlib.Core.List.{List}
use lib.ListN.{length, get_or, take, drop, set}
use lib.Seq.{get_or-take, get_or-set_same, get_or-set_other, get_or-drop}
use Rattle.theory.specs.Numbers.Sum.{below, same}

-- A cell that is set, in a table and in its front.
pub set_cell : (P : ℕ → Type 0) (l : List ℕ) (i v : ℕ) → i < length l → P v → ((j : ℕ) → P (get_or l j 0)) → (j : ℕ) → P (get_or (set l i v) j 0)
set_cell P l i v h p f j =
    ⊎_elim
    (λ (e : j ≡ i). subst P (sym (ap (λ z. get_or (set l i v) z 0) e ∙ get_or-set_same l i v 0 h)) p)
    (λ (n : j ≡ i → ⊥). subst P (sym (get_or-set_other l i j v 0 n)) (f j))
    (same j i)

pub front_same : (l : List ℕ) (n i v : ℕ) → i < n → i < length l → get_or (take n (set l i v)) i 0 ≡ v
front_same l n i v h b = get_or-take n (set l i v) i 0 h ∙ get_or-set_same l i v 0 b

pub front_other : (l : List ℕ) (n i j v : ℕ) → j < n → (j ≡ i → ⊥) → get_or (take n (set l i v)) j 0 ≡ get_or (take n l) j 0
front_other l n i j v h d = get_or-take n (set l i v) j 0 h ∙ get_or-set_other l i j v 0 d ∙ sym (get_or-take n l j 0 h)

-- A cell of a table whose front is another and whose rest is as it was.
pub rest_cell : (P : ℕ → Type 0) (n : ℕ) (l l' : List ℕ) → drop n l' ≡ drop n l → ((j : ℕ) → P (get_or (take n l') j 0)) → ((j : ℕ) → P (get_or l j 0))
    → (j : ℕ) → P (get_or l' j 0)
rest_cell P n l l' e f g j =
    ⊎_elim
    (λ (b : j < n). subst P (get_or-take n l' j 0 b) (f j))
    (λ (b : n ≤ j).
    let z : n + (j - n) ≡ j = omega arith in
    let here : get_or l' j 0 ≡ get_or l j 0 =
    ap (λ k. get_or l' k 0) (sym z) ∙ sym (get_or-drop n l' (j - n) 0) ∙ ap (λ (s : List ℕ). get_or s (j - n) 0) e ∙ get_or-drop n l (j - n) 0 ∙ ap (λ k. get_or l k 0) z in
    subst P (sym here) (g j))
    (below j n)
