-- The line of the order, number by number.
use Prim.Native.Nat.{ℕ, suc, ◌+◌, ◌≤◌, ◌<◌}
use native.Mathlib.Omega.{arith}
use native.Mathlib.Numerals.{add-one}
use native.Mathlib.Nat.{eq-or-lt_of_le}
use mathlib.Core.Path.{◌≡◌, refl, sym, ap, ◌∙◌}
use mathlib.Core.Logic.{⊎_elim}
use mathlib.Core.List.{List, ◌++◌, append_assoc, append-nil, append_cancel_left}
use lib.ListN.{length, get_or, take, drop, set, length-drop, length-set, drop_of_length-le, get_or-eq_default}
use lib.Seq.{drop-cons, take-suc-set, drop-set-lt, get_or-set_same, get_or-set_other, get_or-take, length-take-le}
use Rattle.meaning.specs.Text.{bytes_of}
use Rattle.meaning.specs.Report.{named_text}
use Rattle.meaning.specs.ChainText.{spaced, order_line}
use Rattle.theory.specs.Numbers.Sum.{below}
use Rattle.theory.specs.Texts.Lines.{spaced_ended}
use Rattle.chaintext.specs.Pieces.{NumberAt, NumberRead, WordRead}
use Rattle.chaintext.specs.Lines.{IsOrder, OrderRead}
use Rattle.std.proofs.Common.{Some, None}
use Rattle.theory.specs.Texts.Lines.{spaced_more}
use Rattle.chaintext.proofs.Naming.{piece_one}

-- What is left of an order from p on.
spaced_from : (o : List ℕ) (p : ℕ) → p < length o → spaced (drop p o) ≡ named_text (bytes_of " ") (get_or o p 0) ++ spaced (drop (suc p) o)
unfolding spaced
spaced_from o p h = ap spaced (drop-cons o p 0 h)

grown : (o : List ℕ) (p x : ℕ) (rest : List ℕ) → p < length o
    → order_line (take p o) ++ (named_text (bytes_of " ") x ++ rest) ≡ order_line (take (p + 1) (set o p x)) ++ rest
grown o p x rest h =
    rw (add-one, take-suc-set o p x h, spaced_more (take p o) x)
    (ap (λ z. bytes_of "order" ++ z) (sym (append_assoc (spaced (take p o)) (named_text (bytes_of " ") x) rest)))

-- The first p numbers of the order are read, up to a place; whatever order the line is of, the others stand from there on.
pub record OrderTo (line : List ℕ) (n : ℕ) (before after : List ℕ) (at p : ℕ) : Type 0 where
  pub few : p ≤ n
  pub inside : at ≤ length line
  pub same : length after ≡ length before
  pub past : drop n after ≡ drop n before
  pub fits : (q : ℕ) → q < p → get_or after q 0 < 256
  pub front : line ≡ order_line (take p after) ++ drop at line
  pub only : (o : List ℕ) → IsOrder line n o → drop at line ≡ spaced (drop p o)

module _ {line : List ℕ} {n : ℕ} {before : List ℕ} where
  pub order_begun : {begin : ℕ} → WordRead line 0 (bytes_of "order") (Some begin) → OrderTo line n before before begin 0
  unfolding spaced
  order_begun {begin} f =
      let s = f.told in
      record {
        few = omega arith;
        inside = s.inside;
        same = refl;
        past = refl;
        fits = λ q h. absurd (omega arith);
        front = s.cut;
        only = λ o i. append_cancel_left (bytes_of "order") (drop begin line) (spaced o) (sym s.cut ∙ i.line_is);
      }

  module _ {after : List ℕ} {at p : ℕ} (r : OrderTo line n before after at p) where
    -- Another number.
    next : p < n → (o : List ℕ) → IsOrder line n o → drop at line ≡ named_text (bytes_of " ") (get_or o p 0) ++ spaced (drop (suc p) o)
    next h o i = r.only o i ∙ spaced_from o p (omega (arith, i.long))

    pub order_stuck : p < n → NumberRead line at (bytes_of " ") 255 None → OrderRead line n before after None
    order_stuck h m =
        record {
          told = λ o i. m.told (get_or o p 0) (spaced (drop (suc p) o)) (omega (arith, i.fits p)) (spaced_ended (drop (suc p) o)) (next h o i);
        }

    pub order_more : {x end : ℕ} → p < n → n ≤ length before → NumberAt line at (bytes_of " ") 255 x end
        → OrderTo line n before (set after p x) end (p + 1)
    order_more {x} {end} h room m =
        let inside : p < length after = omega (arith, r.same) in
        record {
          few = omega arith;
          inside = m.stands.inside;
          same = length-set after p x ∙ r.same;
          past = drop-set-lt n after p x h ∙ r.past;
          fits = λ q l.
              ⊎_elim
              (λ (e : q ≡ p). rw (e, get_or-set_same after p x 0 inside) (omega (arith, m.small)))
              (λ (k : q < p). rw (get_or-set_other after p q x 0 (λ e. omega arith)) (r.fits q k))
              (eq-or-lt_of_le {n = q} {m = p} (omega arith));
          front = r.front ∙ ap (λ z. order_line (take p after) ++ z) m.stands.cut ∙ grown after p x (drop end line) inside;
          only = λ o i.
              rw add-one (piece_one m (get_or o p 0) (spaced (drop (suc p) o)) (spaced_ended (drop (suc p) o)) (next h o i)).1;
        }

    pub order_long : at < length line → n ≤ p → OrderRead line n before after None
    unfolding spaced
    order_long h e =
        record {
          told = λ o i.
              let z : length (drop at line) ≡ 0 = ap length (r.only o i ∙ ap spaced (drop_of_length-le o {i = p} (omega (arith, i.long)))) in
              omega (arith, length-drop at line);
        }

    pub order_whole : length line ≤ at → n ≤ p → n ≤ length before → OrderRead line n before after (Some tt)
    order_whole h e room =
        let all : p ≡ n = omega (arith, r.few) in
        record {
          told = record {
            same = r.same;
            past = r.past;
            order = record {
              long = length-take-le n after (omega (arith, r.same));
              fits = λ q.
                  ⊎_elim
                  (λ (l : q < n). rw (get_or-take n after q 0 l) (r.fits q (omega arith)))
                  (λ (l : n ≤ q).
                  rw (get_or-eq_default (take n after) 0 {n = q} (omega (arith, length-take-le n after (omega (arith, r.same))))) (omega arith))
                  (below q n);
              line_is = r.front ∙ ap (λ z. order_line (take p after) ++ z) (drop_of_length-le line h) ∙ append-nil (order_line (take p after)) ∙ ap (λ z. order_line (take z after)) all;
            };
          };
        }
