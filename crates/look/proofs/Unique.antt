-- What a looking promises determines its finding, what a scan promises its place, and what is missing one list.
use Prim.Native.Nat.{ℕ, ◌<◌}
use mathlib.Core.Path.{◌≡◌, refl, sym, ap, ◌∙◌}
use mathlib.Core.List.{List}
use native.Mathlib.Omega.{arith}
use lib.Seq.{ext_get_or}
use Rattle.meaning.specs.Chain.{most_states}
use Rattle.meaning.specs.Refusal.{Lent, Entry}
use Rattle.theory.specs.Outcomes.Determined.{meet, refused_one}
use Rattle.std.proofs.Common.{Option, None, Some, Ok, Err}
use Rattle.chain.proofs.Faults.{one_refusal}
use Rattle.look.specs.Least.{least}
use Rattle.look.specs.Sums.{Lacks}
use Rattle.look.specs.Says.{Finding, Looks}
use Rattle.look.proofs.Refuse.{refusing, clear}

pub unique : (x : Entry) (l : Lent) (f f' : Finding) → Looks x l f → Looks x l f' → f ≡ f'
unique x l (Ok u) (Ok v) w w' = refl
unique x l (Ok u) (Err r) w z = absurd ((clear w refl).none _ _ (refusing z refl).applies)
unique x l (Err r) (Ok u) z w = absurd ((clear w refl).none _ _ (refusing z refl).applies)
unique x l (Err r) (Err s) z z' =
    let e = refused_one (refusing z refl) (refusing z' refl) in ap (λ r. Err r) (one_refusal r s e.0 e.1)

pub place_unique : (P : ℕ → Type 0) (r r' : Option ℕ) → least P r → least P r' → r ≡ r'
place_unique P None None f f' = refl
place_unique P None (Some p) f f' = absurd (f p f'.here)
place_unique P (Some p) None f f' = absurd (f' p f.here)
place_unique P (Some p) (Some q) f f' = ap (λ (p : ℕ). Some p) (meet p q (λ h. f'.before p h f.here) (λ h. f.before q h f'.here))

-- What is missing from the rows is one list.
pub missing_unique : (denominators edges r r' : List ℕ) → Lacks denominators edges r → Lacks denominators edges r' → r ≡ r'
missing_unique denominators edges r r' f f' =
    ext_get_or 0 r r' (f.size ∙ sym f'.size) (λ i h. let l : i < most_states = omega (arith, f.size) in f.is i l ∙ sym (f'.is i l))
