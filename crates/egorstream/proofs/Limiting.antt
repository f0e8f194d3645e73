-- From the verdict on a file to the face for C; and what it promises determines its answer.
use Prim.Native.Nat.{ℕ, ◌+◌, ◌≤◌}
use mathlib.Core.Path.{◌≡◌, refl, sym, ap, subst, ◌∙◌}
use Rattle.meaning.specs.Chain.{most_states, most_edges}
use Rattle.meaning.specs.Block.{Input}
use Rattle.meaning.specs.Limit.{Limit}
use Rattle.meaning.specs.FileLimit.{FileLimit}
use Rattle.near.specs.declared.answer.Between.{Between}
use Rattle.limitfile.specs.Told.{told_verdict, told_limited}
use Rattle.limitfile.specs.declared.Verdict.{Verdict}
use Rattle.limitfile.specs.declared.Limited as file
use Rattle.std.proofs.Common.{Result, Ok, Err}
use Rattle.chain.specs.Refusal.{number_of}
use Rattle.chain.specs.declared.refusal.Refusal.{Refusal}
use Rattle.limitfile.proofs.Judged.{limit_proper}
use Rattle.theory.proofs.Limits.File.{file_limit_one}
use Rattle.egorstream.specs.Limits.{verdict_number, limited_as, Limits}
use Rattle.egorstream.specs.declared.limits.Limited.{Limited}

module _ {f : Input} {m : Limit} {r : Result file.Limited Refusal} (o : FileLimit f m (told_limited r)) where
  said : {a : Result file.Limited Refusal} → r ≡ a → FileLimit f m (told_limited a)
  said e = subst (λ (a : Result file.Limited Refusal). FileLimit f m (told_limited a)) e o

  pub place_small : {x : Refusal} → r ≡ Err x → x.place ≤ most_states + most_edges
  place_small e = (limit_proper (said e)).1

  pub limits_refused : {x : Refusal} → r ≡ Err x → Limits f m (record { number = number_of x.fault; place = x.place; verdict = 0 })
  limits_refused {x} e = record { said = told_limited (Err x); outcome = said e; is = refl }

  pub limits_judged : {l : file.Limited} {n : ℕ} → r ≡ Ok l → n ≡ verdict_number (told_verdict l.verdict)
      → Limits f m (record { number = 0; place = 0; verdict = n })
  limits_judged {l} {n} e q =
      record {
        said = told_limited (Ok l);
        outcome = said e;
        is = λ i. record { number = 0; place = 0; verdict = q i };
      }

pub limits_unique : {f : Input} {m : Limit} {r r' : Limited} → Limits f m r → Limits f m r' → r ≡ r'
limits_unique o o' = o.is ∙ ap limited_as (file_limit_one o.outcome o'.outcome) ∙ sym o'.is
