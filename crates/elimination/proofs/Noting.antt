-- A record that is noted in the log: what the log holds then.
use Prim.Native.Nat.{ℕ, zero, suc, ◌+◌, ◌*◌, ◌≤◌, ◌<◌}
use mathlib.Core.Path.{◌≡◌, refl, sym, ap, ◌∙◌}
use mathlib.Core.Logic.{inl, inr, ⊎_elim, dite}
use mathlib.Core.Bool.{true}
use mathlib.Core.List.{List, [], ◌∷◌, ◌++◌}
use native.Mathlib.Nat.{eq-or-lt_of_le}
use native.Mathlib.Numerals.{add-one}
use native.Mathlib.Decide.{dec_lt}
use native.Mathlib.Omega.{arith}
use lib.ListN.{length, get_or, set, length-set, length-append, replicate, length-replicate, get_or-append, get_or-eq_default}
use lib.Count.{ones}
use lib.Dec.{eqb}
use lib.Seq.{get_or-set_same, get_or-set_other}
use borrow.Author.Tests.{eq-eqb, ne_eqb}
use Rattle.meaning.specs.Number.{sum_to, choose, bit, present}
use Rattle.meaning.specs.Chain.{most_states}
use Rattle.meaning.specs.Row.{cell}
use Rattle.meaning.specs.Steps.{StepRecord, rows_to, columns_of, largest_taken, record_of}
use Rattle.theory.specs.Numbers.Sum.{same, last_or_below, sum_next}
use Rattle.theory.specs.Numbers.Tab.{get_d_zeros}
use Rattle.chain.specs.Rising.{place_of}
use Rattle.elimination.specs.Packed.{targets_of, goal_at, trap_at, unpacked, Packed}
use Rattle.elimination.specs.Table.{row_at, table_of}
use Rattle.elimination.proofs.Places.{place_none, place_suc, place_all}
use Rattle.elimination.proofs.Unpacked.{goal_stands, trap_stands}
use Rattle.elimination.proofs.Laws.{packed_few, packed_bit}
use Rattle.elimination.proofs.Removal.{row_is}
use Rattle.elimination.specs.Log.{record_numbers, log_size, numbers_of, HoldsRecords, Logged, Roomy, LoggedMore}

-- The table has these numbers at its front, and zeros past them.
record Begins (t xs : List ℕ) : Type 0 where
  size : length t ≡ log_size
  same : (j : ℕ) → get_or t j 0 ≡ get_or xs j 0

-- One number more behind them.
put_next : {t xs : List ℕ} (p v : ℕ) → Begins t xs → p ≡ length xs → p < log_size → Begins (set t p v) (xs ++ (v ∷ []))
put_next {t} {xs} p v h e l =
    record {
      size = length-set t p v ∙ h.size;
      same =
          λ j.
          dite (dec_lt j p)
          (λ b. get_or-set_other t p j v 0 (λ q. omega arith) ∙ h.same j ∙ sym (get_or-append xs (v ∷ []) 0 j (omega arith)))
          (λ b.
          ⊎_elim
          (λ (q : p ≡ j). rw (← q) (get_or-set_same t p v 0 (omega (arith, h.size)) ∙ sym (rw e (last xs))))
          (λ (q : p < j).
          get_or-set_other t p j v 0 (λ q'. omega arith)
          ∙ h.same j
          ∙ get_or-eq_default xs 0 (omega arith)
          ∙ sym (get_or-eq_default (xs ++ (v ∷ [])) 0 (omega (arith, length-append xs (v ∷ [])))))
          (eq-or-lt_of_le (omega arith)));
    }
  where
    last : (xs : List ℕ) → get_or (xs ++ (v ∷ [])) (length xs) 0 ≡ v
    last [] = refl
    last (x ∷ xs) = last xs

-- Another number in the place of the first.
put_first : {t xs : List ℕ} {x : ℕ} (v : ℕ) → Begins t (x ∷ xs) → Begins (set t 0 v) (v ∷ xs)
put_first {t} {xs} {x} v h = record { size = length-set t 0 v ∙ h.size; same = at }
  where
    at : (j : ℕ) → get_or (set t 0 v) j 0 ≡ get_or (v ∷ xs) j 0
    at zero = get_or-set_same t 0 v 0 (omega (arith, h.size))
    at (suc j) = get_or-set_other t 0 (suc j) v 0 (λ q. omega arith) ∙ h.same (suc j)

pub numbers_length : (rs : List StepRecord) → length (numbers_of rs) ≡ record_numbers * length rs
unfolding numbers_of
numbers_length [] = refl
numbers_length (r ∷ rs) = omega (arith, numbers_length rs)

numbers_more : (rs : List StepRecord) (r : StepRecord)
    → numbers_of (rs ++ (r ∷ []))
    ≡ (((numbers_of rs ++ (r.state ∷ [])) ++ (r.rows ∷ [])) ++ (r.columns ∷ [])) ++ (r.divisor ∷ [])
unfolding numbers_of
numbers_more [] r = refl
numbers_more (x ∷ rs) r = ap (λ (ys : List ℕ). x.state ∷ x.rows ∷ x.columns ∷ x.divisor ∷ ys) (numbers_more rs r)

-- The log with the record r behind the others.
abbrev pub noted : List ℕ → StepRecord → List ℕ
noted log r =
    let k = 1 + record_numbers * get_or log 0 0 in
    set (set (set (set (set log 0 (get_or log 0 0 + 1)) k r.state) (k + 1) r.rows) (k + 2) r.columns) (k + 3) r.divisor

module _ (log : List ℕ) (r : StepRecord) (few : get_or log 0 0 < most_states) (rs : List StepRecord) (h : HoldsRecords log rs) where
  longer : (xs : List ℕ) (x : ℕ) → length (xs ++ (x ∷ [])) ≡ length xs + 1
  longer xs x = length-append xs (x ∷ [])

  pub holds_more : HoldsRecords (noted log r) (rs ++ (r ∷ []))
  holds_more =
      let k = 1 + record_numbers * get_or log 0 0 in
      let h0 : Begins log (length rs ∷ numbers_of rs) = record { size = h.size; same = h.cells } in
      let x0 = (get_or log 0 0 + 1) ∷ numbers_of rs in
      let x1 = x0 ++ (r.state ∷ []) in
      let x2 = x1 ++ (r.rows ∷ []) in
      let e0 : k ≡ length x0 = omega (arith, h.cells 0, numbers_length rs) in
      let e1 : k + 1 ≡ length x1 = omega (arith, longer x0 r.state) in
      let e2 : k + 2 ≡ length x2 = omega (arith, longer x1 r.rows) in
      let e3 : k + 3 ≡ length (x2 ++ (r.columns ∷ [])) = omega (arith, longer x2 r.columns) in
      let h1 = put_next k r.state (put_first (get_or log 0 0 + 1) h0) e0 (omega arith) in
      let h2 = put_next (k + 1) r.rows h1 e1 (omega arith) in
      let h3 = put_next (k + 2) r.columns h2 e2 (omega arith) in
      let h4 = put_next (k + 3) r.divisor h3 e3 (omega arith) in
      let c : get_or log 0 0 + 1 ≡ length (rs ++ (r ∷ [])) = omega (arith, h.cells 0, length-append rs (r ∷ [])) in
      record { size = h4.size; cells = rw (numbers_more rs r, ← c) h4.same }

-- What a loop has counted after i turns.
pub record Counting (f : ℕ → ℕ) (i r : ℕ) : Type 0 where
  pub sum : r ≡ sum_to f i
  pub few : r ≤ i

pub counting_none : (f : ℕ → ℕ) → Counting f 0 0
unfolding sum_to
counting_none f = record { sum = refl; few = omega arith }

pub counting_more : {f : ℕ → ℕ} {i r x : ℕ} → Counting f i r → (x ≡ f i) × (x ≤ 1) → Counting f (i + 1) (r + x)
unfolding sum_to
counting_more z e = record { sum = rw add-one (omega (arith, z.sum, e.0)); few = omega (arith, z.few) }

-- The columns of a packed row but that of s in which it has a weight: its targets but s, Goal and Trap.
module _ {n : ℕ} {p : List ℕ} (h : Packed n p) where
  pub present_bit : (j : ℕ) → j < n → present (cell (unpacked n p) j) ≡ bit (targets_of p) j
  present_bit j l =
      ⊎_elim
      (λ (e : bit (targets_of p) j ≡ 1). rw (ne_eqb (cell (unpacked n p) j) 0 (λ z. omega (arith, (packed_bit h j l).0 e))) (sym e))
      (λ (d : bit (targets_of p) j ≡ 1 → ⊥).
      let z : cell (unpacked n p) j ≡ 0 = ⊎_elim (λ (e : cell (unpacked n p) j ≡ 0). e) (λ (f : cell (unpacked n p) j ≡ 0 → ⊥). absurd (d ((packed_bit h j l).1 (omega arith)))) (same (cell (unpacked n p) j) 0) in
      rw (eq-eqb (cell (unpacked n p) j) 0 z) (omega arith))
      (same (bit (targets_of p) j) 1)

  module _ (s : ℕ) where
    abbrev leads : ℕ → ℕ
    leads j = choose (eqb j s) 0 (present (cell (unpacked n p) j))

    leads_other : (j : ℕ) → j < n → (j ≡ s → ⊥) → leads j ≡ bit (targets_of p) j
    leads_other j l d = rw (ne_eqb j s d) (present_bit j l)

    before_own : (m : ℕ) → m ≤ s → m ≤ n → sum_to leads m ≡ place_of (targets_of p) m
    unfolding sum_to
    before_own zero a b = sym (place_none (targets_of p))
    before_own (suc m) a b =
        omega (arith, before_own m (omega arith) (omega arith), leads_other m (omega arith) (λ e. omega arith), place_suc (targets_of p) m)

    past_own : (m : ℕ) → s < m → m ≤ n → sum_to leads m + bit (targets_of p) s ≡ place_of (targets_of p) m
    unfolding sum_to
    past_own zero a b = absurd (omega arith)
    past_own (suc m) a b =
        last_or_below a
        (λ (e : s ≡ m).
        let z : leads m ≡ 0 = rw (eq-eqb m s (sym e)) in
        omega (arith, before_own m (omega arith) (omega arith), place_suc (targets_of p) m, ap (bit (targets_of p)) e))
        (λ (l : s < m). omega (arith, past_own m l (omega arith), leads_other m (omega arith) (λ e. omega arith), place_suc (targets_of p) m))

    pub columns_packed : s < n → columns_of n s (unpacked n p) + bit (targets_of p) s ≡ ones (targets_of p) + present (get_or p goal_at 0) + present (get_or p trap_at 0)
    columns_packed l =
        let g : leads n ≡ present (get_or p goal_at 0) = rw (ne_eqb n s (λ e. omega arith)) (ap present ((goal_stands n).here p)) in
        let t : leads (n + 1) ≡ present (get_or p trap_at 0) = rw (ne_eqb (n + 1) s (λ e. omega arith)) (ap present ((trap_stands n).here p)) in
        omega (
          arith,
          sum_next leads (n + 1) (n + 2) (omega arith),
          sum_next leads n (n + 1) (omega arith),
          past_own n l (omega arith),
          place_all (targets_of p) n (packed_few h),
          g,
          t,
        )

-- The record of the removal of s, from what was counted before and the divisor of the step.
pub record_is : (n s : ℕ) (w : List ℕ) → s < n → {a b d : ℕ} → a ≡ rows_to n s (table_of n w) → b ≡ columns_of n s (row_at n w s)
    → d ≡ largest_taken n s (table_of n w) → record_of n s (table_of n w) ≡ record { state = s; rows = a; columns = b; divisor = d }
unfolding record_of
record_is n s w h e f g = rw (e, f, g, row_is n w s h)

-- A log that is asked for has a record more.
pub logged_more : {before after : List ℕ} {r : StepRecord} → (length before ≡ 0 → ⊥)
    → ((rs : List StepRecord) → HoldsRecords before rs → HoldsRecords after (rs ++ (r ∷ []))) → LoggedMore true r before after true
logged_more some f rs (inl e) = absurd (some e)
logged_more some f rs (inr h) = inr (f rs h)

-- Fewer records than states leave room for one more.
pub logged_roomy : {log : List ℕ} {rs : List StepRecord} → length rs < most_states → Logged log rs → Roomy log
logged_roomy few (inl e) = inl e
logged_roomy few (inr h) = inr (h.size, omega (arith, h.cells 0))

-- A log of zeros holds no record.
pub logged_zeros : Logged (replicate log_size 0) []
unfolding numbers_of
logged_zeros = inr (record { size = length-replicate {A = ℕ} log_size 0; cells = λ j. get_d_zeros log_size j ∙ nothing j })
  where
    nothing : (j : ℕ) → ◌≡◌ {A = ℕ} 0 (get_or (0 ∷ []) j 0)
    nothing zero = refl
    nothing (suc j) = refl
