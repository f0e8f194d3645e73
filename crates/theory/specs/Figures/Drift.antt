-- Every row rounded: each value moves by at most the sum of what the rows lost, in parts of e.
use Prim.Native.Nat.{ℕ, zero, suc, ◌*◌, ◌≤◌, ◌<◌}
use Rattle.std.specs.Prelude.{◌≡◌, true, false, ltb}
use Rattle.std.proofs.Common.{ap, ⊎_elim, arith, mul-pos, lt-ltb, le-ltb}
use Rattle.meaning.specs.Number.{sum_to, choose}
use Rattle.theory.specs.Numbers.Sum.{below}
use Rattle.theory.specs.Figures.System.{System, Solves, LeadsOut, leaves, passes, solution, unique}
use Rattle.theory.specs.Numbers.Trimmed.{Trimmed, Close, trimmed_whole, close_next, close_same}
use Rattle.theory.specs.Figures.Moved.{times, times_holds, RowTrimmed, SameRow, same_row_holds, moved_one}

-- What has weight in one has weight in the other: then what leads out does.
pub leads_too : (s t : System) (n : ℕ) → ((i : ℕ) → i < n → (0 < s.out i → 0 < t.out i) × ((j : ℕ) → j < n → 0 < s.a i j → 0 < t.a i j))
    → {i : ℕ} → i < n → LeadsOut s n i → LeadsOut t n i
leads_too s t n more {i} l (leaves o) = leaves {i = i} ((more i l).0 o)
leads_too s t n more {i} l (passes j h o k) = passes {i = i} j h ((more i l).1 j h o) (leads_too s t n more h k)

-- The system k times over leads out, and has the same values.
module _ (k : ℕ) (some : 0 < k) (s : System) (n : ℕ) where
  pub times_leads : {i : ℕ} → i < n → LeadsOut s n i → LeadsOut (times k s) n i
  times_leads = leads_too s (times k s) n (λ i l. (λ o. mul-pos some o, λ j h o. mul-pos some o))

  pub times_solves : (d : ℕ) (x : ℕ → ℕ) → Solves s n d x → Solves (times k s) n d x
  times_solves d x S = record { whole = S.whole; holds = λ i h. times_holds k s n d x i (S.holds i h) }

-- The rows before m are those of t, the others those of s.
abbrev mixed : System → System → ℕ → System
mixed s t m =
    record {
      a = λ i j. choose (ltb i m) (t.a i j) (s.a i j);
      out = λ i. choose (ltb i m) (t.out i) (s.out i);
      g = λ i. choose (ltb i m) (t.g i) (s.g i);
    }

module _ (s t : System) (n : ℕ) where
  mixed_before : (m i : ℕ) → i < m → SameRow (mixed s t m) t n i
  mixed_before m i l = record { a = λ j h. rw (lt-ltb i m l); out = rw (lt-ltb i m l); g = rw (lt-ltb i m l) }

  mixed_after : (m i : ℕ) → m ≤ i → SameRow s (mixed s t m) n i
  mixed_after m i l = record { a = λ j h. rw (le-ltb i m l); out = rw (le-ltb i m l); g = rw (le-ltb i m l) }

  mixed_next : (m i : ℕ) → (i ≡ m → ⊥) → SameRow (mixed s t m) (mixed s t (suc m)) n i
  mixed_next m i d =
      ⊎_elim
      (λ (l : i < m).
      let k : ltb i (suc m) ≡ true = lt-ltb i (suc m) (omega arith) in
      record { a = λ j h. rw (lt-ltb i m l, k); out = rw (lt-ltb i m l, k); g = rw (lt-ltb i m l, k) })
      (λ (l : m ≤ i).
      let k : ltb i (suc m) ≡ false = le-ltb i (suc m) (omega arith) in
      record { a = λ j h. rw (le-ltb i m l, k); out = rw (le-ltb i m l, k); g = rw (le-ltb i m l, k) })
      (below i m)

  mixed_row : (e R c m : ℕ) → RowTrimmed e R c s t n m → RowTrimmed e R c (mixed s t m) (mixed s t (suc m)) n m
  mixed_row e R c m Q =
      let f : ltb m m ≡ false = le-ltb m m (omega arith) in
      let k : ltb m (suc m) ≡ true = lt-ltb m (suc m) (omega arith) in
      record { a = λ j h. rw (f, k) (Q.a j h); out = rw (f, k) Q.out; g = rw (f, k) Q.g }

-- A row that is the same is rounded by nothing.
pub same_row_trimmed : (e : ℕ) (s t : System) (n i : ℕ) → SameRow s t n i → RowTrimmed e 0 1 s t n i
same_row_trimmed e s t n i A =
    record {
      a = λ j h. same_trimmed (s.a i j) (t.a i j) (A.a j h);
      out = same_trimmed (s.out i) (t.out i) A.out;
      g = same_trimmed (s.g i) (t.g i) A.g;
    }
  where
    same_trimmed : (w w' : ℕ) → w ≡ w' → Trimmed e 0 w (1 * w')
    same_trimmed w w' p = record { under = omega arith; near = omega (arith, ap (λ z. e * z) p) }

times_whole : (c w : ℕ) → 0 < c * w → 0 < w
times_whole c w h =
    ⊎_elim
    (λ (l : 0 < w). l)
    (λ (l : w ≤ 0). let z : w ≡ 0 = omega arith in absurd (omega (arith, rw z at h)))
    (below 0 w)

-- All rows at once; r i parts of e in row i.
module _ (e n : ℕ) (s t : System) (r c : ℕ → ℕ) (few : (i : ℕ) → i < n → r i < e) (rows : (i : ℕ) → i < n → RowTrimmed e (r i) (c i) s t n i) where
  more : (i : ℕ) → i < n → (0 < s.out i → 0 < t.out i) × ((j : ℕ) → j < n → 0 < s.a i j → 0 < t.a i j)
  more i l = (
    λ o. times_whole (c i) (t.out i) (trimmed_whole e (r i) (few i l) o (rows i l).out),
    λ j h o. times_whole (c i) (t.a i j) (trimmed_whole e (r i) (few i l) o ((rows i l).a j h)),
  )

  pub trimmed_leads : {i : ℕ} → i < n → LeadsOut s n i → LeadsOut t n i
  trimmed_leads = leads_too s t n more

  mixed_leads : (m : ℕ) {i : ℕ} → i < n → LeadsOut s n i → LeadsOut (mixed s t m) n i
  mixed_leads m =
      leads_too s (mixed s t m) n (λ i l.
      ⊎_elim
      (λ (k : i < m). (λ o. rw (lt-ltb i m k) ((more i l).0 o), λ j h o. rw (lt-ltb i m k) ((more i l).1 j h o)))
      (λ (k : m ≤ i). (λ o. rw (le-ltb i m k) o, λ j h o. rw (le-ltb i m k) o))
      (below i m))

  module _ (leads : (i : ℕ) → i < n → LeadsOut s n i) (d : ℕ) (x : ℕ → ℕ) (S : Solves s n d x) where
    drift_to : (m : ℕ) → m ≤ n → (d' : ℕ) (x' : ℕ → ℕ) → Solves (mixed s t m) n d' x' → (i : ℕ) → i < n
        → Close e (sum_to r m) (x i) d (x' i) d'
    unfolding sum_to
    drift_to zero l d' x' S' i h =
        close_same e (x i) d (x' i) d'
        (unique n s leads d d' x x' S
        (record { whole = S'.whole; holds = λ i h. same_row_holds s (mixed s t 0) n i (mixed_after s t n 0 i (omega arith)) d' x' (S'.holds i h) })
        i h)
    drift_to (suc m) l d' x' S' i h =
        let k : (i : ℕ) → i < n → LeadsOut (mixed s t m) n i = λ i h. mixed_leads m h (leads i h) in
        let (b, y, B) = solution n (mixed s t m) k in
        close_next e (sum_to r m) (r m) (x i) d (y i) b (x' i) d' B.whole
        (drift_to m (omega arith) b y B i h)
        (moved_one e (r m) (c m) (few m l) (mixed s t m) (mixed s t (suc m)) n m l k
        (λ i h q. mixed_next s t n m i q)
        (mixed_row s t n e (r m) (c m) m (rows m l))
        b d' y x' B S' i h)

    pub drift : (d' : ℕ) (x' : ℕ → ℕ) → Solves t n d' x' → (i : ℕ) → i < n → Close e (sum_to r n) (x i) d (x' i) d'
    drift d' x' S' =
        drift_to n (omega arith) d' x'
        (record { whole = S'.whole; holds = λ i h. same_row_holds (mixed s t n) t n i (mixed_before s t n n i h) d' x' (S'.holds i h) })
