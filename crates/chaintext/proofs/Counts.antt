-- The line of a number after its name.
use Prim.Native.Nat.{ℕ, ◌<◌}
use native.Mathlib.Omega.{arith}
use mathlib.Core.Path.{◌≡◌, sym, ap, ◌∙◌}
use mathlib.Core.List.{List, [], ◌++◌, append-nil}
use lib.ListN.{length, drop, length-drop}
use Rattle.meaning.specs.Report.{named_text}
use Rattle.theory.specs.Texts.Lines.{nothing}
use Rattle.chaintext.specs.Pieces.{NumberAt, NumberRead}
use Rattle.chaintext.specs.Lines.{IsCount, CountRead}
use Rattle.std.proofs.Common.{None}
use Rattle.chaintext.proofs.Naming.{piece_one}

-- The line of a number is all of it.
count_line : {line name : List ℕ} {least limit x : ℕ} → IsCount line name least limit x → drop 0 line ≡ named_text name x ++ []
count_line {name = name} {x = x} i = i.line_is ∙ sym (append-nil (named_text name x))

module _ {line name : List ℕ} {limit : ℕ} where
  pub no_count : {least : ℕ} → NumberRead line 0 name limit None → CountRead line name least limit None
  no_count n = record { told = λ y i. n.told y [] i.high nothing (count_line i) }

  module _ {x next : ℕ} (n : NumberAt line 0 name limit x next) where
    pub count_long : {least : ℕ} → next < length line → CountRead line name least limit None
    count_long h =
        record {
          told = λ y i.
              let z : length (drop next line) ≡ 0 = ap length (piece_one n y [] nothing (count_line i)).1 in
              omega (arith, length-drop next line);
        }

    pub count_low : {least : ℕ} → x < least → CountRead line name least limit None
    count_low h = record { told = λ y i. let z = (piece_one n y [] nothing (count_line i)).0 in omega (arith, i.low) }
