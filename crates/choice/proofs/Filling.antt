-- The states passed over, put one by one behind the turns.
use Prim.Native.Nat.{ℕ, suc, ◌+◌, ◌≤◌, ◌<◌}
use mathlib.Core.Path.{◌≡◌, refl, sym, ap, subst, ◌∙◌}
use mathlib.Core.Bool.{Bool, true, false}
use mathlib.Core.List.{List, [], ◌∷◌, ◌++◌, append-nil, append_assoc}
use native.Mathlib.Omega.{arith}
use lib.ListN.{length, take, length-append}
use lib.Seq.{take_all}
use Rattle.meaning.specs.Number.{choose}
use Rattle.meaning.specs.Choice.{passed_over}
use Rattle.theory.specs.Outcomes.TurnsCounted.{passed_grows}
use Rattle.choice.specs.Rest.{has, Put}

-- The states below i that are passed over stand behind the first m places, up to place p.
pub record Filling (go : ℕ → Bool) (m i : ℕ) (before : List ℕ) (p : ℕ) (o : List ℕ) : Type 0 where
  pub size : length o ≡ length before
  pub place : p ≡ m + length (passed_over go i)
  pub front : take p o ≡ take m before ++ passed_over go i

module _ (s m : ℕ) (before : List ℕ) where
  pub filling_none : Filling (has s) m 0 before m before
  unfolding passed_over
  filling_none = record { size = refl; place = omega arith; front = sym (append-nil (take m before)) }

  module _ {i p : ℕ} {o : List ℕ} (f : Filling (has s) m i before p o) where
    pub filling_more : {r : ℕ} {new : List ℕ} → Put s i p o r new → Filling (has s) m (i + 1) before r new
    unfolding passed_over
    filling_more {r} {new} x = let q : i + 1 ≡ suc i = omega arith in subst (λ i. Filling (has s) m i before r new) (sym q) (at (has s i) refl x.next x.front)
      where
        at : (b : Bool) → has s i ≡ b → r ≡ choose b p (suc p) → take r new ≡ choose b (take p o) (take p o ++ (i ∷ [])) → Filling (has s) m (suc i) before r new
        at true e n t =
            record {
              size = x.size ∙ f.size;
              place = rw e (n ∙ f.place);
              front = rw e (t ∙ f.front);
            }
        at false e n t =
            record {
              size = x.size ∙ f.size;
              place = rw e (omega (arith, n, f.place, length-append (passed_over (has s) i) (i ∷ [])));
              front = rw e (t ∙ ap (λ z. z ++ (i ∷ [])) f.front ∙ append_assoc (take m before) (passed_over (has s) i) (i ∷ []));
            }

    -- There is a place for the next one, and no more than the places are taken.
    pub filling_room : (n : ℕ) → i < n → m + length (passed_over (has s) n) ≡ length before → has s i ≡ false → p < length o
    unfolding passed_over
    filling_room n h e z =
        let l : length (passed_over (has s) (suc i)) ≡ length (passed_over (has s) i) + 1 =
        rw z (length-append (passed_over (has s) i) (i ∷ [])) in
        omega (arith, f.size, f.place, e, l, passed_grows (has s) (suc i) n (omega arith))

    pub filling_most : (n : ℕ) → i < n → m + length (passed_over (has s) n) ≡ length before → p ≤ length o
    filling_most n h e = omega (arith, f.size, f.place, e, passed_grows (has s) i n (omega arith))

  pub filling_all : {n p : ℕ} {o : List ℕ} → Filling (has s) m n before p o → m + length (passed_over (has s) n) ≡ length before
      → o ≡ take m before ++ passed_over (has s) n
  filling_all {n} {p} {o} f e = sym (take_all p o (omega (arith, f.size, f.place, e))) ∙ f.front
