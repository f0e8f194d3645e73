use mathlib.Core.Path.{◌≡◌}
use lib.Bits.{bit_or}
use Rattle.std.specs.List.{fold}
use Rattle.std.proofs.Common.{rules}
use Rattle.octets.proofs.Cut.{looked}
use Rattle.octets.proofs.some_written.Goals as goal

pub returns : goal.returns
returns c =
    let l = c.args.bytes.now in
    let all : c.fold.result ≡ fold bit_or 0 l = search rules in
    looked l all
