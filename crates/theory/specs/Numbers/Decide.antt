-- What a test's answer tells.
use Rattle.std.specs.Prelude.{ℕ, ◌<◌, ◌≡◌, refl, Bool, true, false, ltb}
use Rattle.std.proofs.Common.{subst, arith, ltb-true, ltb-false}
use Rattle.meaning.specs.Number.{decides}

module _ (P : Type 0) {b : Bool} (d : decides P b) where
  pub holds : b ≡ true → P
  holds e = subst (λ (b : Bool). decides P b) e d

  pub fails : b ≡ false → P → ⊥
  fails e = subst (λ (b : Bool). decides P b) e d

-- A comparison decides what it is the same as.
pub compares : (P : Type 0) (a b : ℕ) → (a < b → P) → (P → a < b) → decides P (ltb a b)
compares P a b to from = go (ltb a b) refl
  where
    go : (t : Bool) → ltb a b ≡ t → decides P t
    go true e = to (ltb-true a b e)
    go false e = λ p. let h = from p in let l = ltb-false a b e in omega arith
