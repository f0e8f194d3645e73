use Rattle.std.proofs.Common.{◌≡◌, ◌-◌, ◌/◌, ◌^◌, ◌<◌, sym, ◌∙◌, div-one, arith}
use Rattle.meaning.specs.Near.{spare}
use Rattle.theory.specs.Numbers.Tops.{first_small}
use Rattle.near.proofs.Words.{word_zeros}
use Rattle.near.proofs.word.packed.Goals as goal

pub overflow_add-result : goal.overflow_add-result
overflow_add-result c =
    let s = c.args.s in
    let e : spare s ≡ 0 = omega arith in
    let h : s < 2 ^ 31 = rw (e, div-one s) at (first_small s) in
    omega arith

pub returns-then-n-le31 : goal.returns-then-n-le31
returns-then-n-le31 c =
    let s = c.args.s in
    let k = c.args.k in
    let e : spare s ≡ 0 = omega arith in
    sym (word_zeros s k c.requires.1 ∙ rw (e, div-one s) (omega arith))

pub overflow_add-result-3 : goal.overflow_add-result-3
overflow_add-result-3 c =
    let s = c.args.s in
    let e : c.digits_of-n.result - 31 ≡ spare s = omega arith in
    let h : s / 2 ^ (c.digits_of-n.result - 31) < 2 ^ 31 = rw e (first_small s) in
    omega arith

pub returns : goal.returns
returns c =
    let a = c.args in
    let e : c.digits_of-n.result - 31 ≡ spare a.s = omega arith in
    rw e (sym (word_zeros a.s a.k c.requires.1))
