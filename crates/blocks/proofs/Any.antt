-- What is decided where a test is asked of each number below another.
use Rattle.std.proofs.Common.{ℕ, ◌<◌, ◌≡◌, Bool, true, false, List, length, Option, MatchOption, MatchBool, ◌∙◌, sym, subst, arith}
use Rattle.std.specs.List.{HoldsAt, AllWithin, FoldsTo, range_with_len}
use Rattle.std.specs.Fn.{Called}
use Rattle.std.specs.Iterator.{YieldsThen}
use Rattle.std.specs.declared.ops.Range.{Range}
use Rattle.std.proofs.iter.Yields.{nat_range_steps}
use Rattle.std.proofs.lemmas.Iterator.{cases_from_any, YieldsList-from_range}
use Rattle.std.proofs.lemmas.List.FromFn.{length-range_with_len, get_or-range_with_len}
use Rattle.meaning.specs.Number.{decides}
use Rattle.std.proofs.Math.Nat.{zero-add}
use denote.Param.Members.{Mut}

-- The numbers below n stand in their list each at its own place.
decided : (P : ℕ → Type 0) (n : ℕ) (r : Bool)
    → MatchBool r ((k : ℕ) × (k < length (range_with_len 0 n)) × HoldsAt P (range_with_len 0 n) k) (AllWithin (λ k. P k → ⊥) (range_with_len 0 n) 0 (length (range_with_len 0 n)))
    → decides ((k : ℕ) × ((k < n) × P k)) r
decided P n true h =
    let l : h.0 < n = omega (arith, h.1, length-range_with_len 0 n) in
    (h.0, (l, subst P (get_or-range_with_len 0 n h.0 0 l ∙ zero-add h.0) (h.2 0)))
decided P n false h = λ w.
    h w.0 0 (omega arith) (omega (arith, w.1.0, length-range_with_len 0 n)) (subst P (sym (get_or-range_with_len 0 n w.0 0 w.1.0 ∙ zero-add w.0)) w.1.1)

module _ {F : Type 0} {g : Mut F (ℕ × Unit {0}) Bool} {s : Range ℕ} (u : Range ℕ) (f : F) where
  pub any_below : (P : ℕ → Type 0) (n : ℕ) (r : Bool)
      → (xs : List ℕ) × (o : Option ℕ) × (j : F) × YieldsThen nat_range_steps s xs o u × FoldsTo (λ p x q. Called g p (x, tt) false q) f xs j × MatchOption o (r ≡ false) (λ x. (r ≡ true) × ((h : F) × Called g j (x, tt) true h))
      → s ≡ record { start = 0; end = n }
      → ((x : ℕ) (q : F) → Called g f (x, tt) true q → P x) → ((x : ℕ) (q : F) → Called g f (x, tt) false q → (q ≡ f) × (P x → ⊥))
      → decides ((k : ℕ) × ((k < n) × P k)) r
  any_below P n r ran e met unmet = decided P n r (cases_from_any u f r P (λ k. P k → ⊥) ran (YieldsList-from_range 0 n n e (omega arith)) met unmet)
