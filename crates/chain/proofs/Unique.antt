-- What is promised of a test, a divisor, a chain, a fraction or a set determines it.
use Prim.Native.Nat.{ℕ, ◌^◌, ◌≤◌, ◌<◌}
use mathlib.Core.Path.{◌≡◌, refl, sym, ap₂, ◌∙◌}
use mathlib.Core.Logic.{⊎_elim}
use mathlib.Core.Bool.{Bool, true, false}
use native.Mathlib.Omega.{arith}
use lib.Count.{count_trailing_zeros}
use Rattle.theory.specs.Numbers.Sum.{same, below}
use Rattle.theory.specs.Numbers.Bits.{bits_same}
use Rattle.meaning.specs.Number.{decides}
use Rattle.chain.specs.Reduce.{Common}
use Rattle.chain.specs.Rising.{Lowest, Others}
use Rattle.chain.proofs.Rising.{zeros_below, one_at}
use Rattle.chain.specs.declared.Chain.{Chain}
use Rattle.chain.specs.declared.fraction.Fraction.{Fraction}

-- What a test says is one.
pub decides_unique : (P : Type 0) (b b' : Bool) → decides P b → decides P b' → b ≡ b'
decides_unique P true true d d' = refl
decides_unique P true false d d' = absurd (d' d)
decides_unique P false true d d' = absurd (d d')
decides_unique P false false d d' = refl

-- A greatest common divisor is one.
pub common_unique : (a b g g' : ℕ) → Common a b g → Common a b g' → g ≡ g'
common_unique a b g g' c c' = c.is ∙ sym c'.is

-- A chain is its three numbers.
pub framed : {c d : Chain} → c.states ≡ d.states → c.start ≡ d.start → c.goals ≡ d.goals → c ≡ d
framed s t g = λ i. record { states = s i; start = t i; goals = g i }

-- A fraction is its two numbers.
pub joined : {f g : Fraction} → f.numerator ≡ g.numerator → f.denominator ≡ g.denominator → f ≡ g
joined n d = ap₂ (λ (n d : ℕ). record { numerator = n; denominator = d }) n d

-- The lowest state of a set is one.
pub lowest_unique : {s t t' : ℕ} → Lowest s t → Lowest s t' → t ≡ t'
lowest_unique {s} {t} {t'} l l' =
    ⊎_elim
    (λ (h : t < t'). absurd (omega (arith, l.inside, l'.least t h)))
    (λ (h : t' ≤ t). ⊎_elim (λ (k : t' < t). absurd (omega (arith, l'.inside, l.least t' k))) (λ (k : t ≤ t'). omega arith) (below t' t))
    (below t t')

-- And so are the others.
pub others_unique : (s : ℕ) {r r' : ℕ} → 0 < s → s < 2 ^ 64 → Others s r → Others s r' → r ≡ r'
others_unique s h k o o' =
    let t = count_trailing_zeros 64 s in
    let one = one_at 64 s h k in
    let b : Lowest s t = record { inside = one.0; least = zeros_below 64 s; small = one.1 } in
    bits_same
    (λ i.
    ⊎_elim
    (λ (e : i ≡ t). rw e (o.gone t b ∙ sym (o'.gone t b)))
    (λ (d : i ≡ t → ⊥). o.kept t b i d ∙ sym (o'.kept t b i d))
    (same i t))
