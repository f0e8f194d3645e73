use Rattle.std.proofs.Common.{◌≡◌, Result, Ok, Err, refl, rules}
use Rattle.std.proofs.lemmas.Result.{err_from_is_err_and}
use Rattle.meaning.specs.Salvage.{verdict}
use Rattle.chainfile.specs.Input.{input}
use Rattle.salvaging.specs.Holds.{InWhole}
use Rattle.text.proofs.Paging.{landed}
use Rattle.salvaging.proofs.Lined.{left_room}
use Rattle.salvaging.proofs.Printed.{lines_fit, left_printed, left_refusal}
use Rattle.salvaging.proofs.left.Goals as goal

-- What is not answered is refused.
refused : {T E : Type 0} (r : Result T E) → ((t : T) → r ≡ Ok t → ⊥) → (e : E) × (r ≡ Err e)
refused (Ok t) n = absurd (n t refl)
refused (Err e) n = (e, refl)

pub returns-in_err-bounds : goal.returns-in_err-bounds
returns-in_err-bounds c = λ more h some.
    let p = err_from_is_err_and c.from_residual.result c.from_residual.ensures.1 in
    let (x, q) = refused c.bounds_left.result (λ t q. let z = rw q at c.in_err-bounds.ensures.cases in cc) in
    let told = rw q at c.in_err-bounds.ensures.cases in
    let w : InWhole (input c.args.kept.now 0) (verdict c.args.lost.now) x c.in_err-bounds.field-0.0 = search (rules, told) in
    rw (p.1, p.2) (left_refusal h x c.in_err-bounds.field-0.0 c.bounds_left.ensures q some w, refl)

pub returns : goal.returns
returns c = λ more h some.
    let q : c.bounds_left.result ≡ Ok c.in_ok-bounds.bounds = search (rules, c.in_ok-bounds.ensures.cases) in
    let fits = lines_fit h c.bounds_left.ensures q c.missing-short.ensures in
    left_printed h c.bounds_left.ensures q c.missing-short.ensures some
    (landed (search rules) (c.left_lines.ensures.written (left_room c.args.buffer.now fits c.requires.room)))
