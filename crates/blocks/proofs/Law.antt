-- Small laws about tests.
use mathlib.Core.Path.{◌≡◌, sym, ◌∙◌}
use mathlib.Core.Bool.{Bool, true, false}
use Rattle.meaning.specs.Number.{decides}

-- What two values are that differ.
pub differs {ℓ} : {A : Type ℓ} {x y a b : A} → x ≡ a → y ≡ b → (x ≡ y → ⊥) → a ≡ b → ⊥
differs p q d e = d (p ∙ e ∙ sym q)

-- What two values are that agree.
pub agrees {ℓ} : {A : Type ℓ} {x y a b : A} → x ≡ a → y ≡ b → x ≡ y → a ≡ b
agrees p q e = sym p ∙ e ∙ q

-- What decides one statement decides another that comes to the same.
pub carry : (P Q : Type 0) (b : Bool) → decides P b → (P → Q) → (Q → P) → decides Q b
carry P Q true p to from = to p
carry P Q false d to from = λ q. d (from q)
