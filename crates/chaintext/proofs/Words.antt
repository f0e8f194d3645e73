-- A word is what a line goes on with, or it is not.
use Rattle.std.proofs.Common.{ℕ, ◌+◌, ◌-◌, ◌≤◌, ◌≡◌, Bool, true, false, List, ◌++◌, length, take, drop, Some, None, sym, ap, ◌∙◌, arith, length-drop}
use lib.Seq.{take_all, drop-drop}
use Rattle.std.proofs.lemmas.Bool.{false≢true}
use Rattle.chaintext.specs.Pieces.{WordRead}

module _ (line word : List ℕ) (place : ℕ) where
  -- What is left of the line is all of it from the place on.
  left : take (length line - place) (drop place line) ≡ drop place line
  left = take_all (length line - place) (drop place line) (omega (arith, length-drop place line))

  pub word_stands : place ≤ length line → let s = take (length line - place) (drop place line) in
      s ≡ word ++ drop (length word) s → length word ≤ length s → WordRead line place word (Some (place + length word))
  word_stands h e l =
      record {
        told = record {
          inside = omega (arith, ap length left, length-drop place line);
          cut = sym left ∙ e ∙ ap (λ z. word ++ drop (length word) z) left ∙ ap (λ z. word ++ z) (drop-drop (length word) place line);
        };
      }

  pub word_missing : (r : Bool) → ((rest : List ℕ) → take (length line - place) (drop place line) ≡ word ++ rest → r ≡ true) → r ≡ false → WordRead line place word None
  word_missing r stands f = record { told = λ rest e. false≢true (sym f ∙ stands rest (left ∙ e)) }
