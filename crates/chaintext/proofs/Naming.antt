-- A number after its name, from the word and the number; and the lines that are made of such pieces.
use Prim.Native.Nat.{ℕ}
use mathlib.Core.Path.{◌≡◌, sym, ap, ◌∙◌}
use mathlib.Core.List.{List, [], ◌++◌, append_assoc, append_cancel_left}
use lib.ListN.{drop}
use Rattle.std.proofs.Common.{Option, Some, None}
use Rattle.meaning.specs.Text.{decimal}
use Rattle.meaning.specs.Report.{named_text}
use Rattle.theory.specs.Numbers.Cut.{Ended, named_cut}
use Rattle.chaintext.specs.Pieces.{NumberAt, WordRead, numbered, NumberRead}

module _ {line name : List ℕ} {place : ℕ} where
  -- The number is looked for where the word ends.
  pub named_number : {limit next : ℕ} {r : Option (ℕ × ℕ)} → WordRead line place name (Some next) → NumberRead line next [] limit r
      → NumberRead line place name limit r
  named_number {limit} {next} {r} f n = record { told = go r n.told }
    where
      go : (r : Option (ℕ × ℕ)) → numbered line next [] limit r → numbered line place name limit r
      go (Some p) n =
          record {
            stands = record {
              inside = n.stands.inside;
              cut = f.told.cut ∙ ap (λ z. name ++ z) n.stands.cut ∙ sym (append_assoc name (decimal p.0) (drop p.1 line));
            };
            ends = n.ends;
            small = n.small;
          }
      go None n = λ x rest s h q.
          n x rest s h (append_cancel_left name (drop next line) (decimal x ++ rest) (sym f.told.cut ∙ q ∙ append_assoc name (decimal x) rest))

  -- Of a piece that was read, no other stands there.
  pub piece_one : {limit x next : ℕ} → NumberAt line place name limit x next → (y : ℕ) (rest : List ℕ) → Ended rest
      → drop place line ≡ named_text name y ++ rest → (x ≡ y) × (drop next line ≡ rest)
  piece_one {x = x} {next = next} n y rest h e = named_cut name x y (drop next line) rest n.ends h (sym n.stands.cut ∙ e)
