-- The lines of a chain's text, from their pieces.
use Prim.Native.Nat.{ℕ, ◌+◌, ◌*◌, ◌^◌, ◌≤◌, ◌<◌}
use native.Mathlib.Omega.{arith}
use native.Mathlib.Nat.{one-mul, add-mul}
use native.Mathlib.Numerals.{add-one}
use mathlib.Core.Path.{◌≡◌, refl, sym, ap, subst, ◌∙◌}
use mathlib.Core.Bool.{Bool, true, false}
use mathlib.Core.List.{List, [], ◌∷◌, ◌++◌, append_assoc, append-nil}
use lib.ListN.{length, get_or, take, drop, take-append-drop}
use lib.Seq.{take-suc, take-length}
use Rattle.meaning.specs.Number.{choose, tab_from}
use Rattle.meaning.specs.Text.{bytes_of}
use Rattle.meaning.specs.Report.{named_text}
use Rattle.meaning.specs.ChainText.{spaced, text_of}
use Rattle.theory.specs.Numbers.Tab.{tab_more}
use Rattle.theory.specs.Texts.Lines.{spaced_more}
use Rattle.octets.specs.Written.{Written}
use Rattle.octets.proofs.Steps.{join, kept}
use Rattle.octets.proofs.Storing.{stored}
use Rattle.text.specs.declared.page.Page.{Page}
use Rattle.text.specs.Page.{Adds, Names}
use Rattle.text.proofs.Naming.{named_written, named_past}
use Rattle.showing.specs.Print.{Fits}

-- Nothing, a piece, a number after its name, and two steps one after the other.
pub none : {a : Page} → Fits a [] 0 a
none {a} =
    record {
      same = refl;
      put = λ r. record {
        written = record { past = omega arith; room = omega (arith, r); bytes = sym (ap (λ z. z ++ drop a.at a.buffer.now) (append-nil (take a.at a.buffer.now)) ∙ take-append-drop a.at a.buffer.now) };
        near = omega arith;
      };
    }

pub one : {a b : Page} {t : List ℕ} → Adds a t b → Fits a t (length t) b
one s = record { same = s.same; put = λ r. let w = stored r s.stored in record { written = w; near = omega (arith, w.past) } }

pub name : {a b : Page} {n : List ℕ} {x : ℕ} → x < 2 ^ 64 → Names a n x b → Fits a (named_text n x) (length n + 20) b
name small s = record { same = s.same; put = λ r. record { written = named_written r s.named; near = named_past r s.named small } }

pub and : {a b d : Page} {t u : List ℕ} {n m : ℕ} → Fits a t n b → Fits b u m d → Fits a (t ++ u) (n + m) d
and v w =
    record {
      same = w.same ∙ v.same;
      put = λ r.
          let p = v.put (omega (arith, r)) in
          let q = w.put (omega (arith, r, p.near, kept p.written)) in
          record { written = join p.written q.written; near = omega (arith, p.near, q.near) };
    }

-- The same text in other words, and more room for it.
pub worded : {a b : Page} {t u : List ℕ} {n m : ℕ} → t ≡ u → n ≤ m → Fits a t n b → Fits a u m b
worded {a} {b} e l v =
    record {
      same = v.same;
      put = λ r.
          let p = v.put (omega (arith, r, l)) in
          record { written = subst (λ t. Written a.buffer.now a.at t b.buffer.now b.at) e p.written; near = omega (arith, p.near, l) };
    }

-- The line of a state from its numbers, and the piece that ends it.
pub state_put : {a b d : Page} {t : List ℕ} (goal : Bool) → Fits a t 87 b → Adds b (choose goal (bytes_of " goal\n") (bytes_of "\n")) d
    → Fits a (t ++ choose goal (bytes_of " goal") [] ++ bytes_of "\n") 93 d
state_put {t = t} true n s = worded (sym (append_assoc t (bytes_of " goal") (bytes_of "\n"))) (omega arith) (and n (one s))
state_put {t = t} false n s = worded (ap (λ z. z ++ bytes_of "\n") (sym (append-nil t))) (omega arith) (and n (one s))

-- Lines one after the other.
text_more : (ls : List (List ℕ)) (line : List ℕ) → text_of (ls ++ (line ∷ [])) ≡ text_of ls ++ (line ++ bytes_of "\n")
unfolding text_of
text_more [] line = append-nil (line ++ bytes_of "\n")
text_more (l ∷ ls) line =
    ap (λ z. l ++ bytes_of "\n" ++ z) (text_more ls line) ∙ sym (append_assoc (l ++ bytes_of "\n") (text_of ls) (line ++ bytes_of "\n"))

pub none_put : {a : Page} (room : ℕ) (f : ℕ → List ℕ) → Fits a (text_of (tab_from 0 0 f)) (0 * room) a
unfolding text_of tab_from
none_put room f = worded refl (omega arith) none

pub more_put : {a b d : Page} {room : ℕ} (n : ℕ) (f : ℕ → List ℕ) → Fits a (text_of (tab_from 0 n f)) (n * room) b
    → Fits b (f n ++ bytes_of "\n") room d → Fits a (text_of (tab_from 0 (n + 1) f)) ((n + 1) * room) d
more_put {room = room} n f v w =
    worded (sym (ap text_of (tab_more n f) ∙ text_more (tab_from 0 n f) (f n))) (omega (arith, add-mul n 1 room, one-mul room)) (and v w)

pub all_put : {a b : Page} (room : ℕ) (f : ℕ → List ℕ) (i n : ℕ) → i ≡ n → Fits a (text_of (tab_from 0 i f)) (i * room) b
    → Fits a (text_of (tab_from 0 n f)) (n * room) b
all_put room f i n e w = worded (ap (λ k. text_of (tab_from 0 k f)) e) (omega (arith, ap (λ k. k * room) e)) w

-- The line of the order, number by number.
pub numbers_none : {a : Page} (order : List ℕ) → Fits a (spaced (take 0 order)) (0 * 21) a
unfolding spaced
numbers_none order = none

pub numbers_next : {a b d : Page} (p : ℕ) (order : List ℕ) → p < length order → get_or order p 0 < 2 ^ 64
    → Fits a (spaced (take p order)) (p * 21) b → Names b (bytes_of " ") (get_or order p 0) d → Fits a (spaced (take (p + 1) order)) ((p + 1) * 21) d
numbers_next p order h small v w =
    worded (sym (ap (λ k. spaced (take k order)) (add-one p) ∙ ap spaced (take-suc order p 0 h) ∙ spaced_more (take p order) (get_or order p 0))) (omega arith) (and v (name small w))

pub numbers_all : {a b : Page} (p : ℕ) (order : List ℕ) → p ≡ length order → Fits a (spaced (take p order)) (p * 21) b
    → Fits a (spaced order) (length order * 21) b
numbers_all p order e w = worded (ap (λ k. spaced (take k order)) e ∙ ap spaced (take-length order)) (omega (arith, e)) w

-- A text of lines in two parts.
text_parts : (ls ms : List (List ℕ)) → text_of (ls ++ ms) ≡ text_of ls ++ text_of ms
unfolding text_of
text_parts [] ms = refl
text_parts (l ∷ ls) ms =
    ap (λ z. l ++ bytes_of "\n" ++ z) (text_parts ls ms) ∙ sym (append_assoc (l ++ bytes_of "\n") (text_of ls) (text_of ms))

-- The pieces are the text.
pub all_parts : (a b c o : List ℕ) (ls ms : List (List ℕ))
    → (a ++ bytes_of "\n") ++ (b ++ bytes_of "\n") ++ (c ++ bytes_of "\n") ++ text_of ls ++ (o ++ bytes_of "\n") ++ text_of ms
    ≡ text_of (a ∷ b ∷ c ∷ (ls ++ (o ∷ ms)))
unfolding text_of
all_parts a b c o ls ms =
    simp append_assoc (ap (λ z. a ++ (bytes_of "\n" ++ (b ++ (bytes_of "\n" ++ (c ++ (bytes_of "\n" ++ z)))))) (sym (text_parts ls (o ∷ ms) ∙ ap (λ z. text_of ls ++ z) (append_assoc o (bytes_of "\n") (text_of ms)))))
