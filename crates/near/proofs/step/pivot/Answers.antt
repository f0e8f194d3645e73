use Rattle.std.proofs.Common.{◌≡◌, ℕ, ◌<◌, List, length, get_or, set, sym, ◌∙◌, ⊎_elim, arith, rules, length-set, get_or-set_other, get_or-set_same}
use Rattle.theory.specs.Numbers.Sum.{same}
use Rattle.elimination.proofs.Middle.{loaded}
use Rattle.near.proofs.step.pivot.Goals as goal

-- Two lists with the same numbers have the same numbers once one of them is made zero.
set_alike : (p q : List ℕ) (s j : ℕ) → s < length p → s < length q → ((i : ℕ) → get_or p i 0 ≡ get_or q i 0) → get_or (set p s 0) j 0 ≡ get_or (set q s 0) j 0
set_alike p q s j h l e =
    ⊎_elim
    (λ (z : j ≡ s). rw z (get_or-set_same p s 0 0 h ∙ sym (get_or-set_same q s 0 0 l)))
    (λ (z : j ≡ s → ⊥). get_or-set_other p s j 0 0 z ∙ e j ∙ sym (get_or-set_other q s j 0 0 z))
    (same j s)

pub returns : goal.returns
returns c =
    let a = c.args in
    let e = loaded a.part.now _ c.requires.0 c.load-p.ensures in
    let l : length c.load-p.result ≡ 68 = search rules in
    (length-set c.load-p.result a.s 0 ∙ l, λ j. set_alike c.load-p.result a.part.now a.s j (omega (arith, l, c.requires.0, c.requires.1)) c.requires.1 e)
