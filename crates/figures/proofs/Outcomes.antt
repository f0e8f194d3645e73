-- What is answered of a file, from what is answered of its chain and tables where it is accepted.
use Prim.Native.Nat.{ℕ}
use mathlib.Core.Path.{◌≡◌, ap, subst, ◌∙◌}
use mathlib.Core.List.{List, []}
use denote.Ref.{Bor}
use Rattle.std.specs.Fn.{Mut, CalledAt}
use Rattle.std.proofs.Common.{Result, Err}
use Rattle.meaning.specs.Refusal.{Lent}
use Rattle.meaning.specs.Block.{Input}
use Rattle.meaning.specs.File.{plain_in, bare_in}
use Rattle.chain.specs.Lent.{lent}
use Rattle.chain.specs.Given.{with}
use Rattle.chain.specs.Refusal.{number_of}
use Rattle.chain.specs.declared.Chain.{Chain}
use Rattle.chain.specs.declared.refusal.Refusal.{Refusal}
use Rattle.elimination.specs.Own.{ours, Found}
use Rattle.opening.specs.Book.{Holds}
use Rattle.opening.specs.Asked.{Asked}
use Rattle.opening.specs.declared.book.Opened.{Opened}
use Rattle.figures.specs.Found.{FileFound}

module _ {f : Input} {c : Chain} {denominators edges order rewards : List ℕ} (h : Holds f c denominators edges order rewards) where
  -- Without the rewards the tables are what the entries for the chance and for the bounds are lent.
  pub unpaid : ours c denominators edges order [] ≡ plain_in f
  unpaid = ap (λ (l : Lent). record { chain = l.chain; order = l.order; rewards = []; work = l.work; list = l.list }) h.paid

  -- A chain alone is what the survey and the rounds are lent.
  pub bare : lent c denominators edges [] [] [] ≡ bare_in f
  bare = ap (λ (l : Lent). record { chain = l.chain; order = []; rewards = []; work = []; list = 0 }) h.paid

-- What the entries for the chance and for the bounds are lent of an opened file, and what the survey is.
abbrev pub plain_of : Opened → Lent
plain_of p = ours p.given.chain p.given.denominators.now p.given.edges.now p.order.now []

abbrev pub bare_of : Opened → Lent
bare_of p = with p.given [] [] []

module _ {F T : Type 0} {g : Mut F (Bor Opened × Unit {0}) (Result T Refusal)} {before after : F} {f : Input} (r : Result T Refusal) where
  -- What is found of the chain is found of the file.
  pub file_found : {A : Type 0} (told : Result T Refusal → A) (refusal : ℕ → ℕ → A) (Outcome : Lent → A → List ℕ → Type 0)
      → ((x : Refusal) → told (Err x) ≡ refusal (number_of x.fault) x.place) → ((p : Opened) → CalledAt g before p r after → Found (Outcome (plain_of p)) (told r))
      → Asked g f before r after → FileFound f refusal (Outcome (plain_in f)) (told r)
  file_found told refusal Outcome tell found (Asked.refused x w e s) = FileFound.refused _ _ w (ap told e ∙ tell x)
  file_found told refusal Outcome tell found (Asked.asked p s a) =
      FileFound.accepted s.holds.accepted (subst (λ l. Found (Outcome l) (told r)) (unpaid s.holds) (found p a))
