-- A table that drops the rows of removed states follows an elimination that keeps every row: a dropped row stays there unchanged.
use Rattle.std.specs.Prelude.{ℕ, ◌+◌, ◌≤◌, ◌<◌, ◌≡◌, refl, Bool, true, false}
use Rattle.std.proofs.Common.{◌∙◌, ⊎_elim, arith}
use Rattle.meaning.specs.Number.{sum_to, only, choose}
use Rattle.theory.specs.Numbers.Sum.{same, sum_ext}
use Rattle.theory.specs.Numbers.Trimmed.{Close, close_more}
use Rattle.theory.specs.Figures.System.{System, Solves, LeadsOut, leaves, passes}
use Rattle.theory.specs.Figures.Moved.{RowTrimmed, SameRow}
use Rattle.theory.specs.Figures.Cleared.{outer, handed}
use Rattle.theory.specs.Figures.Comes.{Comes, begins, comes_leads, comes_last, Turned, turns}

-- The kept rows of w are those of a system that comes from s by roundings of at most R parts of e.
pub record Follows (e n : ℕ) (s : System) (Kept : ℕ → Type 0) (w : System) (R : ℕ) : Type 0 where
  pub whole : System
  pub parts : ℕ
  pub few : parts ≤ R
  pub comes : Comes e n s whole parts
  pub rows : (i : ℕ) → i < n → Kept i → SameRow whole w n i

-- The state p is removed: the rows of which b holds have their weight to p handed on, rounded by P parts; of the others those that
-- are kept stay.
pub record Passes (e n P p : ℕ) (b : ℕ → Bool) (c : ℕ → ℕ) (Kept Kept' : ℕ → Type 0) (w w' : System) : Type 0 where
  pub inside : p < n
  pub here : Kept p
  pub kept : (i : ℕ) → i < n → Kept' i → Kept i
  pub changed : (i : ℕ) → i < n → b i ≡ true → Kept i
  pub other : (i : ℕ) → i < n → b i ≡ true → i ≡ p → ⊥
  pub new : (i : ℕ) → i < n → b i ≡ true → RowTrimmed e P (c i) (handed w n p) w' n i
  pub old : (i : ℕ) → i < n → b i ≡ false → Kept' i → SameRow w w' n i

module _ (u w : System) (n : ℕ) where
  same_outer : (p : ℕ) → SameRow u w n p → p < n → outer u n p ≡ outer w n p
  same_outer p A h =
      let a : sum_to (u.a p) n ≡ sum_to (w.a p) n = sum_ext _ _ n A.a in
      rw (a, A.out, A.a p h)

  same_handed : (p i : ℕ) → p < n → SameRow u w n p → SameRow u w n i → SameRow (handed u n p) (handed w n p) n i
  same_handed p i h A B =
      let o = same_outer p A h in
      record {
        a = λ j k. rw (o, B.a j k, B.a p h, A.a j k);
        out = rw (o, B.out, B.a p h, A.out);
        g = rw (o, B.g, B.a p h, A.g);
      }

pub follows_first : (e n : ℕ) (s : System) (Kept : ℕ → Type 0) (w : System) → ((i : ℕ) → i < n → Kept i → SameRow s w n i)
    → Follows e n s Kept w 0
follows_first e n s Kept w rows = record { whole = s; parts = 0; few = omega arith; comes = begins; rows = rows }

-- At a position where nothing is removed.
pub follows_on : (e n : ℕ) (s : System) (Kept Kept' : ℕ → Type 0) (w : System) (R : ℕ) → ((i : ℕ) → Kept' i → Kept i)
    → Follows e n s Kept w R → Follows e n s Kept' w R
follows_on e n s Kept Kept' w R less F =
    record {
      whole = F.whole;
      parts = F.parts;
      few = F.few;
      comes = F.comes;
      rows = λ i h q. F.rows i h (less i q);
    }

module _ (e n P p : ℕ) (b : ℕ → Bool) (c : ℕ → ℕ) (Kept Kept' : ℕ → Type 0) (w w' : System) (few : P < e)
    (pass : Passes e n P p b c Kept Kept' w w') (s : System) (R : ℕ) (F : Follows e n s Kept w R)
  where
    abbrev u : System
    u = F.whole

    -- The changed rows are those of w', the others stay.
    abbrev u' : System
    u' =
        record {
          a = λ i j. choose (b i) (w'.a i j) (u.a i j);
          out = λ i. choose (b i) (w'.out i) (u.out i);
          g = λ i. choose (b i) (w'.g i) (u.g i);
        }

    changed_row : (i : ℕ) → b i ≡ true → SameRow u' w' n i
    changed_row i q = record { a = λ j k. rw q; out = rw q; g = rw q }

    new_row : (i : ℕ) → i < n → b i ≡ true → RowTrimmed e P (c i) (handed u n p) u' n i
    new_row i h q =
        let T = pass.new i h q in
        let A = same_handed u w n p i pass.inside (F.rows p pass.inside pass.here) (F.rows i h (pass.changed i h q)) in
        record {
          a = λ j k. rw (A.a j k, q) (T.a j k);
          out = rw (A.out, q) T.out;
          g = rw (A.g, q) T.g;
        }

    turned : Turned e n p b (λ _. P) c u u'
    turned =
        record {
          other = pass.other;
          few = λ i h. few;
          new = new_row;
          old = λ i h q. record { a = λ j k. rw q; out = rw q; g = rw q };
        }

    kept_row : (i : ℕ) → i < n → Kept' i → (z : Bool) → b i ≡ z → SameRow u' w' n i
    kept_row i h q true e = changed_row i e
    kept_row i h q false e =
        let A = F.rows i h (pass.kept i h q) in
        let B = pass.old i h e q in
        record {
          a = λ j k. rw e (A.a j k ∙ B.a j k);
          out = rw e (A.out ∙ B.out);
          g = rw e (A.g ∙ B.g);
        }

    pub follows_counted : Follows e n s Kept' w' (R + sum_to (λ i. only (b i) P) n)
    follows_counted =
        record {
          whole = u';
          parts = F.parts + sum_to (λ i. only (b i) P) n;
          few = omega (arith, F.few);
          comes = turns e n p b (λ _. P) c u u' turned pass.inside F.comes;
          rows = λ i h q. kept_row i h q (b i) refl;
        }

-- A kept row with no weight to other states says what its state is worth.
pub follows_last : (e n : ℕ) (s : System) → ((i : ℕ) → i < n → LeadsOut s n i) → (d : ℕ) (x : ℕ → ℕ) → Solves s n d x
    → (Kept : ℕ → Type 0) (w : System) (R : ℕ) → Follows e n s Kept w R
    → (i : ℕ) → i < n → Kept i → ((j : ℕ) → j < n → (j ≡ i → ⊥) → w.a i j ≡ 0)
    → Close e R (x i) d (w.g i) (w.out i)
follows_last e n s leads d x S Kept w R F i h q none =
    let A = F.rows i h q in
    close_more e F.parts R (x i) d (w.g i) (w.out i) F.few
    (rw (A.g, A.out) at (comes_last e n s leads d x S F.comes i h (λ j k l. A.a j k ∙ none j k l)))

-- And something leads out of it.
alone_out : (u : System) (n i : ℕ) → ((j : ℕ) → j < n → (j ≡ i → ⊥) → u.a i j ≡ 0) → {k : ℕ} → LeadsOut u n k → k ≡ i → 0 < u.out i
alone_out u n i none {k} (leaves o) e = rw e at o
alone_out u n i none {k} (passes j h o l) e =
    ⊎_elim
    (λ (q : j ≡ i). alone_out u n i none l q)
    (λ (q : j ≡ i → ⊥). absurd (omega (arith, rw e at o, none j h q)))
    (same j i)

pub follows_out : (e n : ℕ) (s : System) → ((i : ℕ) → i < n → LeadsOut s n i) → (Kept : ℕ → Type 0) (w : System) (R : ℕ)
    → Follows e n s Kept w R → (i : ℕ) → i < n → Kept i → ((j : ℕ) → j < n → (j ≡ i → ⊥) → w.a i j ≡ 0) → 0 < w.out i
follows_out e n s leads Kept w R F i h q none =
    let A = F.rows i h q in
    rw A.out at (alone_out F.whole n i (λ j k l. A.a j k ∙ none j k l) (comes_leads e n s leads F.comes i h) refl)
