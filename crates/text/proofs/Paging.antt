-- Pieces in a row on a page: where there is room for all of them, they are written one after another.
use Prim.Native.Nat.{ℕ}
use mathlib.Core.Path.{◌≡◌, ◌∙◌, sym, subst}
use mathlib.Core.List.{List, ◌++◌}
use native.Mathlib.Omega.{arith}
use lib.ListN.{length-append}
use Rattle.octets.specs.Written.{Written}
use Rattle.octets.proofs.Steps.{join, kept}
use Rattle.octets.proofs.Storing.{stored}
use Rattle.text.specs.declared.page.Page.{Page}
use Rattle.text.specs.Page.{Adds, Prints}

pub one : {a b : Page} {t : List ℕ} → Adds a t b → Prints a t b
one s = record { same = s.same; written = λ r. stored r s.stored }

pub and : {a b d : Page} {t u : List ℕ} → Prints a t b → Prints b u d → Prints a (t ++ u) d
and {t = t} {u = u} v w =
    record {
      same = w.same ∙ v.same;
      written = λ r.
          let long = length-append t u in
          let first = v.written (omega arith) in
          let same = kept first in
          join first (w.written (omega (arith, first.past)));
    }

-- One piece more.
pub then : {a b d : Page} {t u : List ℕ} → Prints a t b → Adds b u d → Prints a (t ++ u) d
then v s = and v (one s)

-- What was written on a page is what the lent buffer holds afterwards.
pub landed : {a t b l : List ℕ} {p m : ℕ} → l ≡ b → Written a p t b m → Written a p t l m
landed {a} {t} {p = p} {m = m} e w = subst (λ z. Written a p t z m) (sym e) w
