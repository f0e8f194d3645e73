-- The chain's own rows as a system: every state leads out, the chances solve it, and an elimination from there that rounds gives the chance.
use Rattle.std.specs.Prelude.{ℕ, ◌+◌, ◌*◌, ◌≤◌, ◌<◌, ◌≡◌, refl, eqb}
use Rattle.std.proofs.Common.{ap, ◌∙◌, inl, ⊎_elim, arith, eq-eqb, ne_eqb}
use Rattle.meaning.specs.Number.{sum_to, only, choose, bit}
use Rattle.meaning.specs.Chain.{Chain, Goal, Live}
use Rattle.meaning.specs.Figure.{Shares, Chance}
use Rattle.meaning.specs.Row.{Row, cell, total, exact}
use Rattle.meaning.specs.Step.{row, Table, Sets, Right, given, first}
use Rattle.theory.specs.Numbers.Sum.{same, below, sum_ext, sum_zero, sum_next}
use Rattle.theory.specs.Numbers.Trimmed.{Close, close_from}
use Rattle.theory.specs.Figures.System.{System, Solves, LeadsOut}
use Rattle.theory.specs.Figures.Compared.{summed}
use Rattle.theory.specs.Figures.Moved.{RowHolds, times}
use Rattle.theory.specs.Figures.Drift.{times_leads, times_solves}
use Rattle.theory.specs.Figures.Followed.{Follows, follows_first, follows_last}
use Rattle.theory.specs.Figures.Shares.{shares_exist}
use Rattle.theory.specs.Chains.Fine.{Fine, fine_whole}
use Rattle.theory.specs.Rows.Relation.{worth}
use Rattle.theory.specs.Rows.Settle.{settled_zero, one_engine}
use Rattle.theory.specs.Stages.Leads.{Leads, Sound}
use Rattle.theory.specs.Stages.Given.{LiveRow, given_state, given_unknown, given_length, given_shares}
use Rattle.theory.specs.Rows.Columns.{Columns, columns, columns_are}
use Rattle.theory.specs.Stages.Seen.{seen}
use Rattle.theory.specs.Stages.First.{first_row_lem, first_sound}

module _ (c : Chain) (k : Sets) where
  abbrev n : ℕ
  n = c.states

  abbrev start_row : ℕ → Row
  start_row i = given c k (λ _. 0) 0 i

  abbrev pub outset : System
  outset =
      record {
        a = λ i j. only (eqb (bit k.live i) 1) (cell (start_row i) j);
        out = λ i. choose (eqb (bit k.live i) 1) (cell (start_row i) n + cell (start_row i) (n + 1)) 1;
        g = λ i. only (eqb (bit k.live i) 1) (cell (start_row i) n);
      }

  -- The row of a live state, and of another.
  module _ (i : ℕ) (l : bit k.live i ≡ 1) where
    live_sum : (x : ℕ → ℕ) → summed outset n x i ≡ sum_to (λ j. cell (start_row i) j * x j) n
    live_sum x = sum_ext _ _ n (λ j h. rw (eq-eqb (bit k.live i) 1 l))

    live_all : sum_to (outset.a i) n ≡ sum_to (cell (start_row i)) n
    live_all = sum_ext _ _ n (λ j h. rw (eq-eqb (bit k.live i) 1 l))

    live_total : sum_to (outset.a i) n + outset.out i ≡ total n (start_row i)
    live_total =
        rw (live_all, eq-eqb (bit k.live i) 1 l)
        (omega (
          arith,
          sum_next (cell (start_row i)) n (n + 1) (omega arith),
          sum_next (cell (start_row i)) (n + 1) (n + 2) (omega arith),
          sum_next (cell (start_row i)) (n + 2) (n + 3) (omega arith),
          given_unknown c k (λ _. 0) 0 i,
        ))

  -- A table whose live rows are those given, f times over.
  pub outset_follows : (e f : ℕ) (t : Table) → ((i : ℕ) → LiveRow c k i → (j : ℕ) → j < n + 2 → f * cell (start_row i) j ≡ cell (row t i) j)
      → Follows e n (times f outset) (LiveRow c k) (seen n t) 0
  outset_follows e f t rows =
      follows_first e n (times f outset) (LiveRow c k) (seen n t) (λ i h q.
      let l = eq-eqb (bit k.live i) 1 q.1 in
      record {
        a = λ j b. rw l (rows i q j (omega arith));
        out = rw l (omega (arith, rows i q n (omega arith), rows i q (n + 1) (omega arith)));
        g = rw l (rows i q n (omega arith));
      })

  -- What counts of the chances: those of the live states.
  abbrev pub counted : (ℕ → ℕ) → ℕ → ℕ
  counted x i = only (eqb (bit k.live i) 1) (x i)

  other_sum : (i : ℕ) → (bit k.live i ≡ 1 → ⊥) → (x : ℕ → ℕ) → summed outset n x i ≡ 0
  other_sum i l x = sum_zero _ n (λ j h. rw (ne_eqb (bit k.live i) 1 l) (omega arith))

  other_all : (i : ℕ) → (bit k.live i ≡ 1 → ⊥) → sum_to (outset.a i) n ≡ 0
  other_all i l = sum_zero _ n (λ j h. rw (ne_eqb (bit k.live i) 1 l))

  module _ (fine : Fine c) (ok : Right c k) where
    module _ (d : ℕ) (x : ℕ → ℕ) (share : Shares c d x) where
      abbrev v : ℕ → ℕ
      v = columns n x d 0 0 0

      counted_sum : (i : ℕ) → sum_to (λ j. cell (start_row i) j * counted x j) n ≡ sum_to (λ j. cell (start_row i) j * v j) n
      counted_sum i =
          sum_ext _ _ n (λ j h.
          rw ((columns_are n x d 0 0 0).state j h)
          (⊎_elim
          (λ (l : bit k.live j ≡ 1). rw (eq-eqb (bit k.live j) 1 l))
          (λ (l : bit k.live j ≡ 1 → ⊥).
          let z : cell (start_row i) j ≡ 0 = given_state c k (λ _. 0) 0 i j h ∙ rw (ne_eqb (bit k.live j) 1 l) in
          rw z (omega arith))
          (same (bit k.live j) 1)))

      live_worth : (i : ℕ) → worth n (start_row i) v ≡ sum_to (λ j. cell (start_row i) j * counted x j) n + cell (start_row i) n * d
      live_worth i =
          let are : Columns n x d 0 0 0 v = columns_are n x d 0 0 0 in
          let f : ℕ → ℕ = λ j. cell (start_row i) j * v j in
          omega (
            arith,
            counted_sum i,
            sum_next f n (n + 1) (omega arith),
            sum_next f (n + 1) (n + 2) (omega arith),
            sum_next f (n + 2) (n + 3) (omega arith),
            sum_next f (n + 3) (n + 4) (omega arith),
            ap (λ z. cell (start_row i) n * z) are.goal,
            ap (λ z. cell (start_row i) (n + 1) * z) are.trap,
            ap (λ z. cell (start_row i) (n + 2) * z) are.unknown,
            ap (λ z. cell (start_row i) (n + 3) * z) are.paid,
          )

      outset_holds : (i : ℕ) → i < n → RowHolds outset n d (counted x) i
      outset_holds i h =
          ⊎_elim
          (λ (l : bit k.live i ≡ 1).
          rw (live_total i l, live_sum i l (counted x), eq-eqb (bit k.live i) 1 l)
          (omega (
            arith,
            live_worth i,
            rw ((columns_are n x d 0 0 0).state i h) at
                (given_shares c k (λ _. 0) fine ok d x share 0 v (columns_are n x d 0 0 0) i (h, l)),
          )))
          (λ (l : bit k.live i ≡ 1 → ⊥).
          rw (other_all i l, other_sum i l (counted x), ne_eqb (bit k.live i) 1 l) (omega arith))
          (same (bit k.live i) 1)

      pub outset_solves : Solves outset n d (counted x)
      outset_solves = record { whole = share.whole; holds = outset_holds }

    -- What leads out of the first table leads out of the system.
    abbrev table : Table
    table = first exact c k (λ _. 0) (λ _. 0)

    sound : Sound exact n (LiveRow c k) table
    sound = first_sound exact c k (λ _. 0) (λ _. 0) (Goal c) (λ _ g. g) (λ _ g. inl g) (fine_whole fine) ok (λ _ _. refl)

    weighs : (i j : ℕ) → LiveRow c k i → 0 < cell (row table i) j → 0 < cell (start_row i) j
    weighs i j q p =
        ⊎_elim
        (λ (l : 0 < cell (start_row i) j). l)
        (λ (l : cell (start_row i) j ≤ 0).
        let z = settled_zero exact n (start_row i) (given_length c k (λ _. 0) 0 i) j (λ e. one_engine exact refl e) (omega arith) in
        absurd (omega (arith, z, rw (first_row_lem exact c k (λ _. 0) i q.0, eq-eqb (bit k.live i) 1 q.1) at p)))
        (below 0 (cell (start_row i) j))

    leads_live : {i : ℕ} → LiveRow c k i → Leads n table i → LeadsOut outset n i
    leads_live {i} q (Leads.leaves j a h p) =
        let w = weighs i j q p in
        LeadsOut.leaves {i = i}
        (rw (eq-eqb (bit k.live i) 1 q.1)
        (⊎_elim
        (λ (e : j ≡ n). omega (arith, rw e at w))
        (λ (e : j ≡ n → ⊥).
        ⊎_elim
        (λ (f : j ≡ n + 1). omega (arith, rw f at w))
        (λ (f : j ≡ n + 1 → ⊥).
        let m : j ≡ n + 2 = omega arith in
        absurd (omega (arith, rw m at w, given_unknown c k (λ _. 0) 0 i)))
        (same j (n + 1)))
        (same j n)))
    leads_live {i} q (Leads.passes j h p l) =
        LeadsOut.passes {i = i} j h (rw (eq-eqb (bit k.live i) 1 q.1) (weighs i j q p)) (leads_live (sound.closed i j q h p) l)

    pub outset_leads : (i : ℕ) → i < n → LeadsOut outset n i
    outset_leads i h =
        ⊎_elim
        (λ (l : bit k.live i ≡ 1). leads_live (h, l) (sound.leads i (h, l)))
        (λ (l : bit k.live i ≡ 1 → ⊥). LeadsOut.leaves {i = i} (rw (ne_eqb (bit k.live i) 1 l) (omega arith)))
        (same (bit k.live i) 1)

    -- The chance is what the last kept row says, within the parts of e that were rounded off; the first rows may be taken f times over.
    module _ (inside : c.start < n) (alive : Live c c.start) (e R f : ℕ) (some : 0 < f) (Kept : ℕ → Type 0) (w : System)
        (follows : Follows e n (times f outset) Kept w R) (kept : Kept c.start)
        (alone : (j : ℕ) → j < n → (j ≡ c.start → ⊥) → w.a c.start j ≡ 0)
      where
        pub outset_share : (d : ℕ) (x : ℕ → ℕ) → Shares c d x → Close e R (x c.start) d (w.g c.start) (w.out c.start)
        outset_share d x share =
            rw (eq-eqb (bit k.live c.start) 1 ((ok.live c.start).1 alive)) at
            (follows_last e n (times f outset) (λ i h. times_leads f some outset n h (outset_leads i h)) d (counted x)
            (times_solves f some outset n d (counted x) (outset_solves d x share)) Kept w R follows c.start inside kept alone)

        pub outset_chance : (p q : ℕ) → Chance c p q → Close e R p q (w.g c.start) (w.out c.start)
        outset_chance p q C =
            let (d, x, share) = shares_exist fine in
            close_from e R p q (x c.start) d (w.g c.start) (w.out c.start) share.whole
            (C.share d x share)
            (outset_share d x share)
