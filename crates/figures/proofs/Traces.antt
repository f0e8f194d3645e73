-- From what the reader refuses, or the chance entry's companion answers, to the step list of a file.
use Prim.Native.Nat.{ℕ}
use mathlib.Core.Path.{◌≡◌, ap, subst, ◌∙◌}
use mathlib.Core.List.{List, []}
use native.Mathlib.Omega.{arith}
use lib.ListN.{get_or, replicate}
use Rattle.std.proofs.Common.{Err}
use Rattle.meaning.specs.Number.{tab_from}
use Rattle.meaning.specs.Refusal.{with_list}
use Rattle.meaning.specs.Block.{Input}
use Rattle.meaning.specs.File.{FileRefused}
use Rattle.meaning.specs.FileSteps.{file_refused, asked}
use Rattle.theory.specs.Numbers.Tab.{get_d_zeros}
use Rattle.chain.specs.Refusal.{number_of}
use Rattle.chain.specs.declared.refusal.Refusal.{Refusal}
use Rattle.elimination.specs.Log.{log_size}
use Rattle.engines.specs.Answer.{told_chance}
use Rattle.engines.specs.Trace.{record_in, records_in, Traced}
use Rattle.engines.specs.declared.answer.Trace.{Trace}
use Rattle.opening.specs.Asked.{Shown}
use Rattle.opening.specs.declared.book.Opened.{Opened}
use Rattle.figures.specs.Traced.{FileTraced}
use Rattle.figures.proofs.Outcomes.{plain_of, unpaid}

no_records : (numbers : List ℕ) → get_or numbers 0 0 ≡ 0 → records_in numbers ≡ []
unfolding tab_from
no_records numbers e = ap (λ (k : ℕ). tab_from 0 k (record_in numbers)) e

module _ {f : Input} {list : ℕ} {t : Trace} where
  pub refused_traced : {x : Refusal} → FileRefused f (number_of x.fault) x.place → (t.chance ≡ Err x) × (t.numbers ≡ replicate log_size 0)
      → FileTraced f list t
  refused_traced {x} r (e, z) =
      let cell : (j : ℕ) → get_or t.numbers j 0 ≡ 0 = λ j. ap (λ (l : List ℕ). get_or l j 0) z ∙ get_d_zeros log_size j in
      record {
        outcome = file_refused (number_of x.fault) x.place r (ap told_chance e) (cell 0) (no_records t.numbers (cell 0));
        few = omega (arith, cell 0);
        inside = omega (arith, cell 0);
        past = λ j h. cell j;
      }

  pub asked_traced : {p : Opened} {work : List ℕ} → Shown f p → Traced (with_list list (plain_of p)) t work → FileTraced f list t
  asked_traced {p} {work} s o =
      let z = subst (λ l. Traced (with_list list l) t work) (unpaid s.holds) o in
      record { outcome = asked s.holds.accepted work z.outcome; few = z.few; inside = z.inside; past = z.past }
