-- What the laying of a chain's rows promises of one input is one answer, and one work table.
use mathlib.Core.Path.{◌≡◌, refl, sym, ap, ◌∙◌}
use mathlib.Core.Logic.{⊎_elim}
use mathlib.Core.Bool.{Bool, true, false}
use mathlib.Core.List.{List}
use Prim.Native.Nat.{ℕ, ◌+◌, ◌-◌, ◌*◌, ◌/◌, ◌%◌, ◌≤◌, ◌<◌}
use native.Mathlib.Nat.{div-add-mod, mod-lt, mul-le-mul_right}
use native.Mathlib.Omega.{arith}
use lib.ListN.{get_or}
use lib.Seq.{ext_get_or, get_or-drop}
use Rattle.meaning.specs.Number.{decides}
use Rattle.meaning.specs.Row.{width}
use Rattle.meaning.specs.Step.{Table}
use Rattle.meaning.specs.Near.{near_first}
use Rattle.meaning.specs.Survey.{Misses}
use Rattle.meaning.specs.Refusal.{Lent, work_size}
use Rattle.theory.specs.Numbers.Sum.{below}
use Rattle.theory.specs.Chains.Sets.{right_one}
use Rattle.theory.specs.Outcomes.Determined.{refused_one}
use Rattle.survey.specs.Sets.{sets_of}
use Rattle.elimination.specs.Laying.{Lies, laid}
use Rattle.std.specs.Prelude.{Result, Ok, Err}
use Rattle.chain.specs.declared.refusal.Refusal.{Refusal}
use Rattle.chain.proofs.Faults.{one_refusal}
use Rattle.survey.specs.declared.Sets.{Sets}
use Rattle.elimination.proofs.Tables.{row_cell}

-- The row that a number of the table stands in.
row_below : (q m n : ℕ) → q < n * m → q / m < n
row_below q m n h =
    ⊎_elim
    (λ (l : q / m < n). l)
    (λ (l : n ≤ q / m). absurd (omega (arith, div-add-mod q m, mul-le-mul_right m l)))
    (below (q / m) n)

-- Two work tables with the same rows, and the same past them, are the same.
module _ (n : ℕ) (t : Table) (w v u : List ℕ) (x : Lies n t w v) (y : Lies n t w u) where
  inside : (q : ℕ) → q < work_size n → get_or v q 0 ≡ get_or u q 0
  inside q h =
      let m = width n in
      let i = q / m in
      let j = q % m in
      let l : i < n = row_below q m n (omega arith) in
      let e : i * m + j ≡ q = omega (arith, div-add-mod q m) in
      let b : j < m = mod-lt q (omega arith) in
      ap (λ z. get_or v z 0) (sym e)
      ∙ sym (row_cell n v i j b)
      ∙ ap (λ (r : List ℕ). get_or r j 0) (x.rows i l ∙ sym (y.rows i l))
      ∙ row_cell n u i j b
      ∙ ap (λ z. get_or u z 0) e

  past : (q : ℕ) → work_size n ≤ q → get_or v q 0 ≡ get_or u q 0
  past q h =
      let e : work_size n + (q - work_size n) ≡ q = omega arith in
      ap (λ z. get_or v z 0) (sym e)
      ∙ sym (get_or-drop (work_size n) v (q - work_size n) 0)
      ∙ ap (λ (r : List ℕ). get_or r (q - work_size n) 0) (x.kept.past ∙ sym y.kept.past)
      ∙ get_or-drop (work_size n) u (q - work_size n) 0
      ∙ ap (λ z. get_or u z 0) e

  lies_one : v ≡ u
  lies_one =
      ext_get_or 0 v u (x.kept.len ∙ sym y.kept.len)
      (λ q _. ⊎_elim (λ (h : q < work_size n). inside q h) (λ (h : work_size n ≤ q). past q h) (below q (work_size n)))

decided : (P : Type 0) (b c : Bool) → decides P b → decides P c → b ≡ c
decided P true true p q = refl
decided P true false p q = absurd (q p)
decided P false true p q = absurd (p q)
decided P false false p q = refl

pub laid_unique : (l : Lent) (r r' : Result Sets Refusal) {w w' : List ℕ} → laid l w r → laid l w' r' → (r ≡ r') × (w ≡ w')
laid_unique l (Ok s) (Ok s') {w} {w'} x y =
    let k = right_one x.1.right y.1.right in
    let m = decided (Misses false l.chain) s.missed s'.missed x.1.missed y.1.missed in (
      λ i. Ok (record { good = (k i).good; live = (k i).live; missed = m i }),
      lies_one l.chain.states (near_first l.chain (sets_of s)) l.work w w' x.2 (rw (← k) at y.2),
    )
laid_unique l (Ok s) (Err r) x y = absurd (x.0.none _ _ y.0.applies)
laid_unique l (Err r) (Ok s) x y = absurd (y.0.none _ _ x.0.applies)
laid_unique l (Err r) (Err r') x y =
    let o = refused_one x.0 y.0 in
    (ap (λ (r : Refusal). Err r) (one_refusal r r' o.0 o.1), x.1 ∙ sym y.1)
