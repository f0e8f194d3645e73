-- Pieces in a row on a page, and the room that they take.
use Prim.Native.Nat.{ℕ, ◌+◌, ◌^◌, ◌≤◌, ◌<◌}
use native.Mathlib.Omega.{arith}
use mathlib.Core.Path.{◌≡◌, subst, ◌∙◌}
use mathlib.Core.List.{List, ◌++◌}
use lib.ListN.{length}
use Rattle.meaning.specs.Report.{named_text}
use Rattle.octets.specs.Written.{Written}
use Rattle.octets.proofs.Steps.{join, kept}
use Rattle.octets.proofs.Storing.{stored}
use Rattle.text.specs.declared.page.Page.{Page}
use Rattle.text.specs.Page.{Adds, Names}
use Rattle.text.proofs.Naming.{named_written, named_past}
use Rattle.lines.specs.Widths.{Fits}

-- A piece, a number after its name, and two steps one after the other.
pub one : {a b : Page} {t : List ℕ} → Adds a t b → Fits a t (length t) b
one s = record { same = s.same; fitted = λ r. let w = stored r s.stored in record { written = w; past = omega (arith, w.past) } }

pub name : {a b : Page} {n : List ℕ} {x : ℕ} → x < 2 ^ 64 → Names a n x b → Fits a (named_text n x) (length n + 20) b
name small s = record { same = s.same; fitted = λ r. record { written = named_written r s.named; past = named_past r s.named small } }

pub and : {a b d : Page} {t u : List ℕ} {n m : ℕ} → Fits a t n b → Fits b u m d → Fits a (t ++ u) (n + m) d
and v w =
    record {
      same = w.same ∙ v.same;
      fitted = λ r.
          let p = v.fitted (omega (arith, r)) in
          let q = w.fitted (omega (arith, r, p.past, kept p.written)) in
          record { written = join p.written q.written; past = omega (arith, p.past, q.past) };
    }

-- The same text in other words, and more room for it.
pub worded : {a b : Page} {t u : List ℕ} {n m : ℕ} → t ≡ u → n ≤ m → Fits a t n b → Fits a u m b
worded {a} {b} e l v =
    record {
      same = v.same;
      fitted = λ r.
          let p = v.fitted (omega (arith, r, l)) in
          record { written = subst (λ t. Written a.buffer.now a.at t b.buffer.now b.at) e p.written; past = omega (arith, p.past, l) };
    }
