-- What a layer above knows of the looking.
use Prim.Native.Nat.{ℕ, ◌<◌}
use native.Mathlib.Omega.{arith}
use mathlib.Core.Path.{◌≡◌, sym, ap, subst, ◌∙◌}
use mathlib.Core.Logic.{◌⊎◌, inl, inr}
use Rattle.meaning.specs.Number.{only}
use Rattle.meaning.specs.Refusal.{Lent, Entry, Refused, WellFormed}
use Rattle.meaning.specs.Survey.{SurveyOutcome}
use Rattle.theory.specs.Outcomes.Bare.{alone, bare_refuses, bare_clears}
use Rattle.theory.specs.Outcomes.Determined.{refused_one}
use Rattle.theory.specs.Chains.Sets.{right_one}
use Rattle.chain.proofs.Unique.{decides_unique}
use Rattle.look.specs.Says.{Upto, counted}
use Rattle.survey.specs.Sets.{Known}
use Rattle.survey.specs.Told.{told}
use Rattle.survey.specs.Looking.{asked, size_of, Looked, so_far, looked}
use Rattle.std.specs.Option.{unwrap_or}
use Rattle.std.proofs.Common.{Option, None, Some, Result, Ok, Err}
use Rattle.chain.specs.declared.refusal.Refusal.{Refusal}
use Rattle.chain.specs.Refusal.{number_of}
use Rattle.chain.proofs.Faults.{one_refusal}
use Rattle.survey.specs.declared.Survey.{Survey}
use Rattle.survey.specs.declared.Sets.{Sets}
use Rattle.survey.proofs.Surveyed.{refusing, found}

-- What the survey says of the chain is said of it among all that is lent.
module _ {x : Entry} {l : Lent} (u : Upto x l 3) {a : Result Survey Refusal} (o : SurveyOutcome x.short (alone l) (told a)) where
  pub survey_refuses : {r : Refusal} → a ≡ Err r → Refused x l (number_of r.fault) r.place
  survey_refuses e = bare_refuses x l (λ k p h a. u.clear k h p a) (refusing x.short (alone l) o e)

  pub survey_clears : {s : Survey} → a ≡ Ok s → Upto x l 10 × Known x.short l.chain s.sets
  survey_clears e =
      let f = found x.short (alone l) o e in
      (record { clear = λ k h p a. bare_clears x l (λ k p h a. u.clear k h p a) f.0 k p h a }, f.1)

-- What is taken for the length of a table that may not be lent.
pub wanted : (t : Option ℕ) (n given length : ℕ) → given ≡ unwrap_or t n → length ≡ size_of t → counted (asked t) length n given
wanted None n given length e h = (h, sym e)
wanted (Some k) n given length e h = h ∙ sym e

-- The list lacks records exactly where the length lacks that is given for it.
module _ {A : Type 0} (n list : ℕ) where
  pub lacking_in : (t : Option ℕ) → list ≡ unwrap_or t n → A ⊎ (size_of t < only (asked t) n) → A ⊎ (list < n)
  lacking_in t f (inl h) = inl h
  lacking_in (Some k) f (inr h) = inr (omega (arith, f, h))
  lacking_in None f (inr h) = absurd (omega (arith, h))

  pub lacking_out : (t : Option ℕ) → list ≡ unwrap_or t n → A ⊎ (list < n) → A ⊎ (size_of t < only (asked t) n)
  lacking_out t f (inl h) = inl h
  lacking_out (Some k) f (inr h) = inr (omega (arith, f, h))
  lacking_out None f (inr h) = absurd (omega (arith, f, h))

-- What is said before the numbers from k on are looked at is said of all once these are cleared.
pub settle : (x : Entry) (l : Lent) (k : ℕ) (f : Looked) → (Upto x l k → WellFormed x l) → so_far x l k f → looked x l f
settle x l k (Ok s) rest u = (rest u.0, u.1)
settle x l k (Err r) rest z = z

-- What an entry knows of its looking.
module _ {x : Entry} {l : Lent} {f : Looked} (s : looked x l f) where
  pub refused_by : {r : Refusal} → f ≡ Err r → Refused x l (number_of r.fault) r.place
  refused_by e = subst (λ (f : Looked). looked x l f) e s

  pub clear : {k : Sets} → f ≡ Ok k → WellFormed x l × Known x.short l.chain k
  clear e = subst (λ (f : Looked). looked x l f) e s

-- What is promised of a looking determines it.
pub looked_unique : (x : Entry) (l : Lent) (f f' : Looked) → looked x l f → looked x l f' → f ≡ f'
looked_unique x l (Ok s) (Ok s') o o' =
    let e = right_one o.1.right o'.1.right in
    let m = decides_unique _ _ _ o.1.missed o'.1.missed in
    λ i. Ok (record { good = (e i).good; live = (e i).live; missed = m i })
looked_unique x l (Ok s) (Err r) o z = absurd (o.0.none _ _ z.applies)
looked_unique x l (Err r) (Ok s) z o = absurd (o.0.none _ _ z.applies)
looked_unique x l (Err r) (Err s) z z' = let e = refused_one z z' in ap (λ r. Err r) (one_refusal r s e.0 e.1)
