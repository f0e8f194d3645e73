use Prim.Native.Nat.{◌+◌, ◌*◌, ◌/◌, ◌%◌, ◌^◌}
use mathlib.Core.Path.{◌≡◌, sym, ap, ◌∙◌}
use native.Mathlib.Nat.{div-one, div-div-eq-div-mul, pow-succ'}
use native.Mathlib.Numerals.{add-one}
use native.Mathlib.Omega.{arith}
use Rattle.theory.specs.Numbers.Walk.{walk_none, walk_more, walk_all}
use Rattle.octets.proofs.store.store.Goals as goal

pub loop-byte-init : goal.loop-byte-init
loop-byte-init c = (walk_none, sym (div-one c.args.x))

pub loop-byte-preserved : goal.loop-byte-preserved
loop-byte-preserved c =
    let k = c.loop-byte in
    let i = k.byte-index in
    let next : 256 ^ i * 256 ≡ 256 ^ (i + 1) = omega (arith, ap (λ z. 256 ^ z) (add-one i), pow-succ' 256 i) in (
      walk_more k.invariant.0 (omega arith) (ap (λ z. z % 256) k.invariant.1),
      ap (λ z. z / 256) k.invariant.1 ∙ div-div-eq-div-mul c.args.x (256 ^ i) 256 ∙ ap (λ z. c.args.x / z) next,
    )

pub returns : goal.returns
returns c = walk_all c.loop-byte.invariant.0 (omega arith)
