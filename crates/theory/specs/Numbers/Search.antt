-- Decisions that compute, and the least place below a bound at which something holds.
use Rattle.std.specs.Prelude.{ℕ, zero, suc, ◌+◌, ◌≤◌, ◌<◌, ◌≡◌, ◌⊎◌, ◌↔◌}
use Rattle.std.proofs.Common.{subst, inl, inr, ⊎_elim, arith}
use Rattle.std.proofs.Math.Logic.Dec
use Rattle.std.proofs.Math.Decide.{dec_lt}
use Rattle.theory.specs.Numbers.Sum.{below, last_or_below}

unfoldable pub turned : {A B : Type 0} → (A → B) → (B → A) → Dec A → Dec B
turned f g (yes a) = yes (f a)
turned f g (no h) = no (λ b. h (g b))

unfoldable pub either : {A B : Type 0} → Dec A → Dec B → Dec (A ⊎ B)
either (yes a) d = yes (inl a)
either (no h) (yes b) = yes (inr b)
either (no h) (no k) = no (⊎_elim h k)

-- F holds at no place before p.
abbrev pub NoneBefore : (ℕ → Type 0) → ℕ → Type 0
NoneBefore F p = (q : ℕ) → q < p → F q → ⊥

-- The least place at which F holds, or that it holds nowhere.
pub data LeastPlace (F : ℕ → Type 0) : Type 0 where
  at : (p : ℕ) → F p → NoneBefore F p → LeastPlace F
  nowhere : ((q : ℕ) → F q → ⊥) → LeastPlace F

pub clear_none : (F : ℕ → Type 0) → NoneBefore F 0
clear_none F q l f = omega arith

pub clear_more : (F : ℕ → Type 0) (i : ℕ) → NoneBefore F i → (F i → ⊥) → NoneBefore F (suc i)
clear_more F i c h q l f = last_or_below l (λ (e : q ≡ i). h (rw e at f)) (λ (m : q < i). c q m f)

module _ (F : ℕ → Type 0) (n : ℕ) (decide : (i : ℕ) → Dec (F i)) (inside : (i : ℕ) → F i → i < n) where
  unfoldable pub search_from : (k i : ℕ) → n ≤ i + k → NoneBefore F i → LeastPlace F
  search_from zero i l c = nowhere (λ q f. c q (omega (arith, inside q f)) f)
  search_from (suc k) i l c =
      elim (decide i) [
        | yes f ↦ at i f c
        | no h ↦ search_from k (suc i) (omega arith) (clear_more F i c h)
      ]

  unfoldable pub search_least : LeastPlace F
  unfolding search_from
  search_least = search_from n 0 (omega arith) (clear_none F)

-- Something of each place below n.
unfoldable pub ranged : (P : ℕ → Type 0) (n : ℕ) → ((i : ℕ) → Dec (P i)) → LeastPlace (λ i. (i < n) × P i)
unfolding search_least Dec.and dec_lt
ranged P n decide = search_least (λ i. (i < n) × P i) n (λ i. Dec.and (dec_lt i n) (decide i)) (λ i f. f.0)

-- Whether a place was found.
unfoldable pub found : {F : ℕ → Type 0} → LeastPlace F → Dec ((p : ℕ) × F p)
found (at p f c) = yes (p, f)
found (nowhere h) = no (λ w. h w.0 w.1)

unfoldable pub anywhere : (P : ℕ → Type 0) (n : ℕ) → ((i : ℕ) → Dec (P i)) → Dec ((i : ℕ) × ((i < n) × P i))
unfolding ranged found
anywhere P n decide = found (ranged P n decide)

-- P holds at one of the places below e.
abbrev pub Before : (ℕ → Type 0) → ℕ → Type 0
Before P e = (d : ℕ) × ((d < e) × P d)

pub longer : (P : ℕ → Type 0) (e : ℕ) → Before P (e + 1) ↔ (Before P e ⊎ P e)
longer P e = (
  λ w.
      ⊎_elim
      (λ (l : w.0 < e). inl (w.0, (l, w.1.1)))
      (λ (l : e ≤ w.0). let z : w.0 ≡ e = omega (arith, w.1.0) in inr (subst P z w.1.1))
      (below w.0 e),
  λ w.
      ⊎_elim
      (λ (d : Before P e). (d.0, (omega (arith, d.1.0), d.1.1)))
      (λ (h : P e). (e, (omega arith, h)))
      w,
)
