-- A trace's numbers are its count, its records, and zeros past them.
use Prim.Native.Nat.{ℕ, zero, suc, ◌+◌, ◌*◌, ◌/◌, ◌%◌, ◌<◌}
use mathlib.Core.Path.{◌≡◌, sym, ap, ◌∙◌}
use mathlib.Core.Logic.{⊎_elim}
use mathlib.Core.List.{List}
use native.Mathlib.Omega.{arith}
use lib.ListN.{get_or}
use Rattle.meaning.specs.Steps.{StepRecord}
use Rattle.theory.specs.Numbers.Sum.{below}
use Rattle.theory.specs.Numbers.Tab.{tab_at}
use Rattle.elimination.specs.Log.{record_numbers}
use Rattle.engines.specs.Trace.{count_in, record_in, records_in}

module _ (a b : List ℕ) (count : count_in a ≡ count_in b) (records : records_in a ≡ records_in b) where
  record_one : (i : ℕ) → i < count_in a → record_in a i ≡ record_in b i
  record_one i h =
      let d = record_in a 0 in
      sym (tab_at (count_in a) (record_in a) d i h)
      ∙ ap (λ (rs : List StepRecord). get_or rs i d) records
      ∙ tab_at (count_in b) (record_in b) d i (omega (arith, h, count))

  -- Number m of record i, counted from 0.
  field_one : (i m : ℕ) → i < count_in a → m < record_numbers → get_or a (record_numbers * i + suc m) 0 ≡ get_or b (record_numbers * i + suc m) 0
  field_one i m h k =
      let e = record_one i h in
      let at : (n : ℕ) → m ≡ n → get_or a (record_numbers * i + suc n) 0 ≡ get_or b (record_numbers * i + suc n) 0
      → get_or a (record_numbers * i + suc m) 0 ≡ get_or b (record_numbers * i + suc m) 0 = λ n z g. rw z g in
      ⊎_elim (λ (l : m < 1). at 0 (omega arith) (ap (λ (r : StepRecord). r.state) e))
      (λ some. ⊎_elim (λ (l : m < 2). at 1 (omega arith) (ap (λ (r : StepRecord). r.rows) e))
      (λ more. ⊎_elim (λ (l : m < 3). at 2 (omega arith) (ap (λ (r : StepRecord). r.columns) e))
      (λ most. at 3 (omega arith) (ap (λ (r : StepRecord). r.divisor) e))
      (below m 3))
      (below m 2))
      (below m 1)

  abbrev Past : List ℕ → Type 0
  Past numbers = (j : ℕ) → record_numbers * count_in numbers < j → get_or numbers j 0 ≡ 0

  pub numbers_one : Past a → Past b → (j : ℕ) → get_or a j 0 ≡ get_or b j 0
  numbers_one p q zero = count
  numbers_one p q (suc j) =
      ⊎_elim
      (λ (l : record_numbers * count_in a < suc j). p (suc j) l ∙ sym (q (suc j) (omega (arith, l, count))))
      (λ l.
      let is : suc j ≡ record_numbers * (j / record_numbers) + suc (j % record_numbers) = omega arith in
      rw is (field_one (j / record_numbers) (j % record_numbers) (omega arith) (omega arith)))
      (below (record_numbers * count_in a) (suc j))
