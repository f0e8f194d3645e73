-- Steps of writing: a text that is put in, one byte, and two steps joined into one.
use Prim.Native.Nat.{ℕ, ◌+◌, ◌-◌, ◌≤◌, ◌<◌}
use native.Mathlib.Nat.{zero-add}
use native.Mathlib.Numerals.{add-one}
use native.Mathlib.Omega.{arith}
use mathlib.Core.Path.{◌≡◌, refl, ap, ◌∙◌}
use mathlib.Core.List.{List, [], ◌∷◌, ◌++◌, append_assoc}
use lib.ListN.{length, take, drop, set, length-append, length-drop}
use lib.Seq.{length-take-le, take_at, drop_at, drop-drop, set_split, append_snoc}
use borrow.Rule.Slice.PartMut.{put_mid}
use Rattle.octets.specs.Written.{Written}

-- A text that is put into a part of the buffer.
pub put : {before text bytes : List ℕ} {place next : ℕ} → next ≡ place + length text → next ≤ length before → bytes ≡ text
    → Written before place text (put_mid place (next - place) before bytes) next
put {before} {text} {bytes} {place} {next} past room is =
    let e : place + (next - place) ≡ next = omega arith in
    record {
      past = past;
      room = room;
      bytes = rw (is, append_assoc, drop-drop (next - place) place before, e);
    }

-- One byte that is set at its place.
pub one : (before : List ℕ) (place x : ℕ) → place < length before
    → Written before place (x ∷ []) (set before place x) (place + 1)
one before place x h =
    record {
      past = refl;
      room = omega arith;
      bytes = rw (set_split, append_snoc, add-one place);
    }

-- A buffer keeps its length.
pub front : {a t b : List ℕ} {p m : ℕ} → Written a p t b m → length (take p a ++ t) ≡ m
front {a} {t} {b} {p} {m} v = simp (length-append, length-take-le p a (omega arith)) (omega arith)

pub kept : {a t b : List ℕ} {p m : ℕ} → Written a p t b m → length b ≡ length a
kept {a} {t} {b} {p} {m} v = rw v.bytes (simp (length-append (take p a ++ t) (drop m a), front v, length-drop) (omega arith))

-- Two steps, the second from where the first ended, are one step.
pub join : {a t b u d : List ℕ} {p m k : ℕ} → Written a p t b m → Written b m u d k → Written a p (t ++ u) d k
join {a} {t} {b} {u} {d} {p} {m} {k} v w =
    let start : take m b ≡ take p a ++ t = ap (take m) v.bytes ∙ take_at (take p a ++ t) (drop m a) m (front v) in
    let end : drop m b ≡ drop m a = ap (drop m) v.bytes ∙ drop_at (take p a ++ t) (drop m a) m (front v) in
    let rest : drop k b ≡ drop k a = rw (w.past, ← drop-drop (length u) m b, ← drop-drop (length u) m a, end) in
    record {
      past = omega (arith, length-append t u);
      room = omega (arith, kept v);
      bytes = w.bytes ∙ rw (start, rest, append_assoc (take p a) t u);
    }

-- A text from the first place on.
pub whole : {a t b : List ℕ} {m : ℕ} → Written a 0 t b m → b ≡ t ++ drop (length t) a
whole {a} {t} w = w.bytes ∙ ap (λ z. t ++ drop z a) (w.past ∙ zero-add (length t))
