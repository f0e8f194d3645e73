-- An elimination that rounds rows between removals: its last row gives the value of its state, up to all that was rounded off.
use Rattle.std.specs.Prelude.{ℕ, ◌+◌, ◌*◌, ◌<◌, ◌≡◌, refl, ◌⊎◌, Bool, true, false}
use Rattle.std.proofs.Common.{inl, inr, arith, eq-eqb, ne_eqb}
use Rattle.meaning.specs.Number.{sum_to, only, choose}
use Rattle.theory.specs.Numbers.Sum.{sum_alone}
use Rattle.theory.specs.Numbers.Trimmed.{Close, close_same, close_next, close_to}
use Rattle.theory.specs.Figures.System.{System, Solves, LeadsOut, solution, unique}
use Rattle.theory.specs.Figures.Compared.{summed}
use Rattle.theory.specs.Figures.Moved.{RowTrimmed, SameRow}
use Rattle.theory.specs.Figures.Drift.{same_row_trimmed, trimmed_leads, drift}
use Rattle.theory.specs.Figures.Cleared.{HandedOn, handed, Clears, clears_solves, clears_leads}

-- The system t comes from s by removals, and by roundings of R parts of e in all.
pub data Comes (e n : ℕ) (s : System) : System → ℕ → Type 0 where
  begins : Comes e n s s 0
  clears : {t : System} {R : ℕ} → Comes e n s t R → (u : System) (p : ℕ) → p < n → Clears t u n p → Comes e n s u R
  trims : {t : System} {R : ℕ} → Comes e n s t R → (u : System) (r c : ℕ → ℕ) → ((i : ℕ) → i < n → r i < e)
      → ((i : ℕ) → i < n → RowTrimmed e (r i) (c i) t u n i) → Comes e n s u (R + sum_to r n)

module _ (e n : ℕ) (s : System) (leads : (i : ℕ) → i < n → LeadsOut s n i) where
  pub comes_leads : {t : System} {R : ℕ} → Comes e n s t R → (i : ℕ) → i < n → LeadsOut t n i
  comes_leads begins = leads
  comes_leads (clears {t} C u p h K) = clears_leads t u n p h K (comes_leads C)
  comes_leads (trims {t} C u r c few rows) = λ i h. trimmed_leads e n t u r c few rows h (comes_leads C i h)

  module _ (d : ℕ) (x : ℕ → ℕ) (S : Solves s n d x) where
    -- The values of t are those of s, within R parts of e.
    pub comes_close : {t : System} {R : ℕ} → Comes e n s t R → (d' : ℕ) (x' : ℕ → ℕ) → Solves t n d' x' → (i : ℕ) → i < n
        → Close e R (x i) d (x' i) d'
    comes_close begins d' x' S' i h = close_same e (x i) d (x' i) d' (unique n s leads d d' x x' S S' i h)
    comes_close {R = R} (clears {t} C u p l K) d' x' S' i h =
        let (b, y, B) = solution n t (comes_leads C) in
        let same' = unique n u (comes_leads (clears C u p l K)) b d' y x' (clears_solves t u n p l K b y B) S' i h in
        close_to e R (x i) d (y i) b (x' i) d' B.whole (comes_close C b y B i h) same'
    comes_close (trims {t} {R} C u r c few rows) d' x' S' i h =
        let (b, y, B) = solution n t (comes_leads C) in
        close_next e R (sum_to r n) (x i) d (y i) b (x' i) d' B.whole (comes_close C b y B i h)
        (drift e n t u r c few rows (comes_leads C) b y B d' x' S' i h)

    -- A row with no weight to other states says what its state is worth.
    pub comes_last : {t : System} {R : ℕ} → Comes e n s t R → (i : ℕ) → i < n → ((j : ℕ) → j < n → (j ≡ i → ⊥) → t.a i j ≡ 0)
        → Close e R (x i) d (t.g i) (t.out i)
    comes_last {t} {R} C i h none =
        let (b, y, B) = solution n t (comes_leads C) in
        let a : sum_to (t.a i) n ≡ t.a i i = sum_alone (t.a i) n i h none in
        let c : summed t n y i ≡ t.a i i * y i = sum_alone _ n i h (λ j k q. rw (none j k q) (omega arith)) in
        close_to e R (x i) d (y i) b (t.g i) (t.out i) B.whole (comes_close C b y B i h)
        (omega (arith, rw (a, c) at (B.holds i h)))

-- One removal: p is removed from the rows of which b holds, and these are rounded, row i by r i parts; the others stay.
pub record Turned (e n p : ℕ) (b : ℕ → Bool) (r c : ℕ → ℕ) (t u : System) : Type 0 where
  pub other : (i : ℕ) → i < n → b i ≡ true → i ≡ p → ⊥
  pub few : (i : ℕ) → i < n → r i < e
  pub new : (i : ℕ) → i < n → b i ≡ true → RowTrimmed e (r i) (c i) (handed t n p) u n i
  pub old : (i : ℕ) → i < n → b i ≡ false → SameRow t u n i

-- The rows of t, those of which b holds handed on.
abbrev halfway : ℕ → ℕ → (ℕ → Bool) → System → System
halfway n p b t =
    record {
      a = λ i j. choose (b i) ((handed t n p).a i j) (t.a i j);
      out = λ i. choose (b i) ((handed t n p).out i) (t.out i);
      g = λ i. choose (b i) ((handed t n p).g i) (t.g i);
    }

module _ (e n p : ℕ) (b : ℕ → Bool) (r c : ℕ → ℕ) (t u : System) (turn : Turned e n p b r c t u) where
  halfway_clears : Clears t (halfway n p b t) n p
  halfway_clears i h = go (b i) refl
    where
      go : (z : Bool) → b i ≡ z → SameRow (halfway n p b t) t n i ⊎ ((i ≡ p → ⊥) × HandedOn t (halfway n p b t) n p i)
      go true e =
          inr (
            turn.other i h e,
            record {
              a = λ j k d. rw (e, ne_eqb j p d);
              own = rw (e, eq-eqb p p refl);
              out = rw e;
              g = rw e;
            },
          )
      go false e = inl (record { a = λ j k. rw e; out = rw e; g = rw e })

  halfway_few : (i : ℕ) → i < n → only (b i) (r i) < e
  halfway_few i h = go (b i)
    where
      go : (z : Bool) → only z (r i) < e
      go true = turn.few i h
      go false = omega (arith, turn.few i h)

  halfway_rows : (i : ℕ) → i < n → RowTrimmed e (only (b i) (r i)) (choose (b i) (c i) 1) (halfway n p b t) u n i
  halfway_rows i h = go (b i) refl
    where
      go : (z : Bool) → b i ≡ z → RowTrimmed e (only (b i) (r i)) (choose (b i) (c i) 1) (halfway n p b t) u n i
      go true q = let T = turn.new i h q in record { a = λ j k. rw q (T.a j k); out = rw q T.out; g = rw q T.g }
      go false q =
          let T = same_row_trimmed e t u n i (turn.old i h q) in
          record { a = λ j k. rw q (T.a j k); out = rw q T.out; g = rw q T.g }

  pub turns : {s : System} {R : ℕ} → p < n → Comes e n s t R → Comes e n s u (R + sum_to (λ i. only (b i) (r i)) n)
  turns {s} {R} h C =
      trims (clears C (halfway n p b t) p h halfway_clears) u (λ i. only (b i) (r i)) (λ i. choose (b i) (c i) 1) halfway_few halfway_rows
