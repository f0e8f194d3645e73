-- What rounding, settling and combining do to the total and the Reward of a row.
use mathlib.Core.Path.{◌≡◌, refl, ap, subst, ◌∙◌}
use mathlib.Core.Logic.{dite, inl, inr}
use mathlib.Core.Bool.{Bool, true, false}
use mathlib.Core.List.{List}
use Prim.Native.Nat.{ℕ, ◌+◌, ◌-◌, ◌*◌, ◌^◌, ◌≤◌, ◌<◌}
use native.Mathlib.Nat.{mul-le-mul, zero-div, le-div_iff_mul-le}
use native.Mathlib.Decide.{dec_lt}
use native.Mathlib.Omega.{arith}
use lib.Dec.{eqb, leb}
use lib.ListN.{length, set}
use lib.Seq.{get_or-set_same, get_or-set_other}
use borrow.Author.Tests.{leb-true, leb-false, le-ltb, lt-ltb, eq-eqb, ne_eqb}
use Rattle.meaning.specs.Number.{sum_to, choose, decides}
use Rattle.meaning.specs.Chain.{M}
use Rattle.meaning.specs.Row.{Row, cell, total, reward, divisor, over, lowest, up_to, shift_of, topped, rounded_by, rounded, bounded, settled, width, unknown_column, reward_column, rounding}
use Rattle.meaning.specs.Steps.{taken_out}
use Rattle.meaning.specs.Step.{no_row, combined, renewed}
use Rattle.theory.specs.Numbers.Sum.{sum_ext, sum_le, sum_zero, sum_next, sum_up, sum_mix}
use Rattle.theory.specs.Numbers.Tab.{tab_at, tab_length, get_d_zeros, tab_zeros}
use Rattle.theory.specs.Numbers.Shift.{pow_whole, shift_fits}
use Rattle.theory.specs.Rows.Terms.{over_cell}
use Rattle.std.specs.Prelude.{Option, Some}
use Rattle.std.specs.Bool.{then_some}
use Rattle.elimination.specs.Packed.{unpacked, Packed}
use Rattle.elimination.specs.Row.{Summable, Fit, Removable, Tested, Became}
use Rattle.chain.proofs.Lowest.{over_parts}
use Rattle.elimination.proofs.Unpacked.{unpacked_length}
use Rattle.elimination.proofs.Laws.{packed_held, fit_small}

topped_total : (n t : ℕ) (r : Row) → length r ≡ width n → sum_to (cell r) (unknown_column n) ≤ t → total n (topped n t r) ≡ t
topped_total n t r l h =
    omega (
      arith,
      sum_next (cell (topped n t r)) (unknown_column n) (reward_column n) (omega arith),
      sum_ext (cell (topped n t r)) (cell r) (unknown_column n) (λ j b. get_or-set_other r (unknown_column n) j _ 0 (λ q. omega arith)),
      get_or-set_same r (unknown_column n) (t - sum_to (cell r) (unknown_column n)) 0 (omega arith),
    )

-- Of a row that was divided, all columns but Unknown and Reward.
pub rest_up : (n k : ℕ) (r q : Row) → q ≡ over (2 ^ k) r → (t : ℕ) → t ≡ total n r → sum_to (cell q) (unknown_column n) ≤ up_to t k
rest_up n k r q e t et =
    rw (e, et)
    ((le-div_iff_mul-le (pow_whole k)).1
    (omega (arith, over_parts (2 ^ k) r (unknown_column n), sum_up (cell r) (unknown_column n) (reward_column n) (omega arith), pow_whole k)))

module _ (n : ℕ) (r q : Row) {t k s u : ℕ} (et : t ≡ total n r) (ek : k ≡ shift_of t) (eq : q ≡ over (2 ^ k) r) (es : s ≡ sum_to (cell q) (unknown_column n))
    (eu : u ≡ up_to t k) where
  pub round_is : set q (unknown_column n) (u - s) ≡ rounded n r
  unfolding rounded_by
  round_is = rw (es, eu, eq, ek, et)

  pub round_fits : length q ≡ width n → total n (set q (unknown_column n) (u - s)) ≤ M
  round_fits l =
      rw (es, eu)
      (let z : sum_to (cell q) (unknown_column n) ≤ up_to t k = rest_up n k r q eq t et in
      let f : up_to t k ≤ M = rw ek (shift_fits t) in
      omega (arith, topped_total n (up_to t k) q l z))

module _ (n : ℕ) (r : Row) where
  pub bounded_in : total n r ≤ M → r ≡ bounded true n r
  unfolding bounded
  bounded_in h = rw (le-ltb M (total n r) h)

  pub bounded_out : M < total n r → rounded n r ≡ bounded true n r
  unfolding bounded
  bounded_out h = rw (lt-ltb M (total n r) h)

  pub bounded_off : (b : Bool) → b ≡ false → r ≡ bounded b n r
  unfolding bounded
  bounded_off b e = rw e

  -- A row that earns nothing earns nothing once it is settled.
  pub over_unpaid : (d : ℕ) → reward n r ≡ 0 → reward n (over d r) ≡ 0
  over_unpaid d h = over_cell d r (reward_column n) ∙ rw h (zero-div d)

bounded_unpaid : (n : ℕ) (r : Row) → reward n r ≡ 0 → reward n (bounded true n r) ≡ 0
unfolding rounded_by
bounded_unpaid n r h =
    dite (dec_lt M (total n r))
    (λ l. rw (← bounded_out n r l) (get_or-set_other (over (2 ^ shift_of (total n r)) r) (unknown_column n) (reward_column n) _ 0 (λ q. omega arith) ∙ over_unpaid n r _ h))
    (λ l. rw (← bounded_in n r (omega arith)) h)

pub settled_fit : (n : ℕ) (r q : Row) (b : Bool) → b ≡ true → q ≡ bounded true n (lowest r) → total n q ≤ M → reward n r ≡ 0 → Fit b n q
settled_fit n r q b e eq h z =
    let y : reward n q ≡ 0 = rw eq (bounded_unpaid n (lowest r) (over_unpaid n r (divisor r) z)) in
    record { weights = h; earned = omega arith; unpaid = λ _. y }

choose_le : (b : Bool) (x : ℕ) → choose b 0 x ≤ x
choose_le true x = omega arith
choose_le false x = omega arith

combined_at : (s d : ℕ) (p r : Row) (j : ℕ) → j < length r → cell (combined s d p r) j ≤ cell r j * d + cell r s * cell p j
unfolding combined
combined_at s d p r j h =
    rw (tab_at (length r) (λ j. choose (eqb j s) 0 (cell r j * d + cell r s * cell p j)) 0 j h)
    (choose_le (eqb j s) (cell r j * d + cell r s * cell p j))

-- The new row of a part p that fits, once s is removed: v can be summed, and earns nothing in the bounds engine.
module _ {b : Bool} {n s d : ℕ} {pivot y : List ℕ} (h : Removable b n s d pivot y) (p : List ℕ) {v : List ℕ} (f : Fit b n (unpacked n p)) (k : Packed n v)
    (e : unpacked n v ≡ combined s d (unpacked n pivot) (unpacked n p)) where
  new_at : (j : ℕ) → j < width n → cell (unpacked n v) j ≤ cell (unpacked n p) j * d + cell (unpacked n p) s * cell (unpacked n pivot) j
  new_at j l = rw e (combined_at s d (unpacked n pivot) (unpacked n p) j (omega (arith, unpacked_length n p)))

  pub combined_summable : Summable n v
  combined_summable =
      let r = unpacked n p in
      let x = unpacked n pivot in
      record {
        size = k.size;
        inside = k.inside;
        held = packed_held (omega (arith, h.state)) k;
        bound = omega (
          arith,
          sum_le (cell (unpacked n v)) (λ j. cell r j * d + cell r s * cell x j) (reward_column n) (λ j l. new_at j (omega arith)),
          sum_mix (cell r) (cell x) d (cell r s) (reward_column n),
          mul-le-mul f.weights h.divisor,
          mul-le-mul (fit_small n r f s (omega (arith, h.state))) h.fit.weights,
        );
      }

  pub combined_unpaid : b ≡ rounding → reward n (unpacked n v) ≡ 0
  combined_unpaid z =
      omega (
        arith,
        new_at (reward_column n) (omega arith),
        ap (λ x. x * d) (f.unpaid z),
        ap (λ x. cell (unpacked n p) s * x) (h.fit.unpaid z),
      )

-- The row of a state that is not kept.
pub no_row_length : (n : ℕ) → length (no_row n) ≡ width n
unfolding no_row
no_row_length n = tab_length 0 (width n) _

pub no_row_cell : (n j : ℕ) → cell (no_row n) j ≡ 0
unfolding no_row
no_row_cell n j = rw (tab_zeros 0 (width n)) (get_d_zeros (width n) j)

pub no_row_fit : (b : Bool) (n : ℕ) → Fit b n (no_row n)
no_row_fit b n =
    record {
      weights = omega (arith, sum_zero (cell (no_row n)) (reward_column n) (λ j _. no_row_cell n j));
      earned = omega (arith, no_row_cell n (reward_column n));
      unpaid = λ _. no_row_cell n (reward_column n);
    }

module _ (b : Bool) (n s d : ℕ) (p r : Row) where
  pub renewed_own : (o : Bool) → o ≡ true → renewed b n s d p o r ≡ no_row n
  unfolding renewed
  renewed_own o e = rw e

  pub renewed_none : (o : Bool) → o ≡ false → cell r s ≡ 0 → renewed b n s d p o r ≡ r
  unfolding renewed
  renewed_none o e h = rw (e, eq-eqb (cell r s) 0 h)

  pub renewed_some : (o : Bool) → o ≡ false → (cell r s ≡ 0 → ⊥) → renewed b n s d p o r ≡ settled b n (combined s d p r)
  unfolding renewed
  renewed_some o e h = rw (e, ne_eqb (cell r s) 0 h)

-- The divisor that is taken out of it.
module _ (s d : ℕ) (p r : Row) where
  pub taken_own : (o : Bool) → o ≡ true → taken_out s d p o r ≡ 1
  unfolding taken_out
  taken_own o e = rw e

  pub taken_none : (o : Bool) → o ≡ false → cell r s ≡ 0 → taken_out s d p o r ≡ 1
  unfolding taken_out
  taken_none o e h = rw (e, eq-eqb (cell r s) 0 h)

  pub taken_some : (o : Bool) → o ≡ false → (cell r s ≡ 0 → ⊥) → taken_out s d p o r ≡ divisor (combined s d p r)
  unfolding taken_out
  taken_some o e h = rw (e, ne_eqb (cell r s) 0 h)

-- Answers that are known.
pub apart : false ≡ true → ⊥
apart e = let z : ◌≡◌ {A = ℕ} 0 1 = cc in omega arith

pub tested_fit : {b : Bool} {n : ℕ} {r : Row} {taken d : ℕ} → Fit b n r → d ≡ taken → Tested b n r taken (Some d)
tested_fit f e = record { is = (f, e) }

-- A part that is packed, whose row is known and whether that fits, and the divisor that was taken out of it.
pub became : {b : Bool} {n : ℕ} {r : Row} {taken : ℕ} {v : List ℕ} {answer : Option ℕ} → unpacked n v ≡ r → Packed n v
    → Tested b n (unpacked n v) taken answer → Became b n r taken v answer
became {b} {n} {taken = taken} {answer = answer} e k t =
    record { same = e; packed = k; tested = subst (λ z. Tested b n z taken answer) e t }

-- An exact row that was tested.
pub tested_exact : {n : ℕ} {r : Row} {taken d : ℕ} (q : Bool) → decides ((total n r ≤ M) × (reward n r ≤ M)) q → d ≡ taken
    → Tested false n r taken (then_some q d)
tested_exact true h e = tested_fit (record { weights = h.0; earned = h.1; unpaid = λ e. absurd (apart e) }) e
tested_exact {n} {r} false h e =
    record { is = (refl, dite (dec_lt M (total n r)) inl (λ k. inr (let p : reward n r ≤ M → ⊥ = λ q. h (omega arith, q) in omega arith))) }

-- A row whose total is small is tested by its Reward.
pub both_small : (t w x : ℕ) → t ≤ M → w ≡ x → decides ((t ≤ M) × (w ≤ M)) (leb x M)
both_small t w x h e = go (leb x M) refl
  where
    go : (q : Bool) → leb x M ≡ q → decides ((t ≤ M) × (w ≤ M)) q
    go true f = (h, let g = leb-true x M f in omega arith)
    go false f = λ k. let g = leb-false x M f in let l = k.1 in omega arith
