-- The last stage of a near chance: how many rows were made anew, and the chance that the start's last row gives, up to what those rows lost.
use Prim.Native.Nat.{ℕ, zero, suc, ◌+◌, ◌*◌, ◌^◌, ◌≤◌, ◌<◌}
use Rattle.std.specs.Prelude.{◌≡◌, refl, Bool, false, List}
use Rattle.std.proofs.Common.{ap, ◌∙◌, ⊎_elim, mul-pos, mul-le-mul, mul-le-mul_right, eq-eqb}
use native.Mathlib.Omega.{arith}
use Rattle.std.proofs.Math.ListN.{get_or}
use Rattle.meaning.specs.Number.{sum_to, only}
use Rattle.meaning.specs.Chain.{Chain, Live}
use Rattle.meaning.specs.Figure.{Shares, Chance}
use Rattle.meaning.specs.Row.{Row, cell}
use Rattle.meaning.specs.Step.{Table, row, Sets, outside}
use Rattle.meaning.specs.Near.{made_anew, near_outside, near_stage, rows_made}
use Rattle.theory.specs.Numbers.Sum.{same, below}
use Rattle.theory.specs.Numbers.Trimmed.{Trimmed, Close, trimmed_whole}
use Rattle.theory.specs.Numbers.Sure.{row_loss}
use Rattle.theory.specs.Figures.Moved.{times}
use Rattle.theory.specs.Figures.Shares.{shares_exist}
use Rattle.theory.specs.Figures.Below.{share_above}
use Rattle.theory.specs.Figures.Drift.{times_leads}
use Rattle.theory.specs.Figures.Followed.{follows_out}
use Rattle.theory.specs.Rows.Lone.{lone_outside}
use Rattle.theory.specs.Stages.Seen.{seen}
use Rattle.theory.specs.Stages.Blended.{outside_trimmed}
use Rattle.theory.specs.Stages.Outset.{outset, outset_leads, outset_share, outset_chance}
use Rattle.theory.specs.Stages.Stage.{leaving, StageKept, kept_start, only_start}
use Rattle.theory.specs.Stages.Last.{Prepared}
use Rattle.theory.specs.Stages.NearStep.{anew, only_few}
use Rattle.theory.proofs.Stages.Nearly.{nearly_stage}

-- Ones, at least one of which is left out.
ones_most : (b : ℕ → Bool) (n : ℕ) → sum_to (λ i. only (b i) 1) n ≤ n
unfolding sum_to
ones_most b zero = omega arith
ones_most b (suc n) = omega (arith, ones_most b n, only_few (b n) 1)

ones_less : (b : ℕ → Bool) (n s : ℕ) → s < n → b s ≡ false → sum_to (λ i. only (b i) 1) n < n
unfolding sum_to
ones_less b zero s h e = absurd (omega arith)
ones_less b (suc n) s h e =
    ⊎_elim
    (λ (l : s < n). omega (arith, ones_less b n s l e, only_few (b n) 1))
    (λ (l : n ≤ s).
    let z : s ≡ n = omega arith in
    let y : b n ≡ false = rw z at e in
    rw y (omega (arith, ones_most b n)))
    (below s n)

-- The state that is removed has its own row not made anew.
anew_less : (n s : ℕ) (t : Table) → s < n → anew n s t < n
anew_less n s t h = ones_less (λ i. made_anew s i (row t i)) n s h (rw (eq-eqb s s refl))

pairs_most : (m n : ℕ) → n ≤ 64 → m + n ≤ n * n → m ≤ 4032
pairs_most m n few h =
    ⊎_elim
    (λ (l : 63 < n). let z : n ≡ 64 = omega arith in omega (arith, ap (λ x. n * x) z))
    (λ (l : n ≤ 63). omega (arith, mul-le-mul l l))
    (below 63 n)

lost_all : (e R y : ℕ) → R < e → 0 < y → e * y ≤ R * y → ⊥
lost_all e R y h o l = omega (arith, mul-le-mul_right y h)

twice : (S D : ℕ) → Trimmed (2 ^ 48) (2 ^ 18 + 1) S D → S ≤ 2 * D
twice S D T = omega (arith, T.near)

module _ (c : Chain) (k : Sets) (o : List ℕ) (ready : Prepared c k o) (few : c.states ≤ 64) where
  abbrev size : ℕ
  size = c.states

  -- Fewer rows are made anew than there are pairs of states.
  fewer_made : (p : ℕ) → p ≤ size → rows_made c k o p + p ≤ p * size
  unfolding rows_made
  fewer_made zero h = omega arith
  fewer_made (suc p) h =
      let s = get_or o p 0 in
      let t = near_stage c k o p in
      omega (
        arith,
        fewer_made p (omega arith),
        anew_less size s t (ready.orders p (omega arith)),
        only_few (leaving c k o p) (anew size s t),
      )

  pub rows_most : rows_made c k o size ≤ 4032
  rows_most = pairs_most (rows_made c k o size) size few (fewer_made size (omega arith))

  module _ (alive : Live c c.start) where
    abbrev last : Row
    last = row (near_stage c k o size) c.start

    pub start_kept : StageKept c k o size c.start
    start_kept = kept_start c k o ready.start ((ready.right.live c.start).1 alive) size

    pub last_alone : (j : ℕ) → j < size → (j ≡ c.start → ⊥) → cell last j ≡ 0
    last_alone j h d =
        ⊎_elim
        (λ (e : cell last j ≡ 0). e)
        (λ (z : cell last j ≡ 0 → ⊥).
        absurd
        (d (only_start c k o ready.every j h ((nearly_stage c k o ready few size (omega arith)).joins c.start j ready.start h (omega arith)).1)))
        (same (cell last j) 0)

    -- The last row says the chance, within the parts of 2 ^ 48 that the rows lost.
    pub nearly_chance : (p q : ℕ) → Chance c p q
        → Close (2 ^ 48) (rows_made c k o size * row_loss) p q (cell last size) (cell last size + cell last (size + 1))
    nearly_chance =
        outset_chance c k ready.fine ready.right ready.start alive (2 ^ 48) (rows_made c k o size * row_loss) 1 (omega arith) (StageKept c k o size)
        (seen size (near_stage c k o size)) (nearly_stage c k o ready few size (omega arith)).follows start_kept last_alone

    -- The same of the chances at all states.
    nearly_share : (d : ℕ) (x : ℕ → ℕ) → Shares c d x
        → Close (2 ^ 48) (rows_made c k o size * row_loss) (x c.start) d (cell last size) (cell last size + cell last (size + 1))
    nearly_share =
        outset_share c k ready.fine ready.right ready.start alive (2 ^ 48) (rows_made c k o size * row_loss) 1 (omega arith) (StageKept c k o size)
        (seen size (near_stage c k o size)) (nearly_stage c k o ready few size (omega arith)).follows start_kept last_alone

    -- Something leads out of it.
    pub last_out : 0 < cell last size + cell last (size + 1)
    last_out =
        follows_out (2 ^ 48) size (times 1 (outset c k)) (λ i h. times_leads 1 (omega arith) (outset c k) size h (outset_leads c k ready.fine ready.right i h))
        (StageKept c k o size) (seen size (near_stage c k o size)) (rows_made c k o size * row_loss) (nearly_stage c k o ready few size (omega arith)).follows
        c.start ready.start start_kept last_alone

    -- D of it is rounded, and is what leads to Goal and to Trap.
    pub last_outside : Trimmed (2 ^ 48) (2 ^ 18 + 1) (cell last size + cell last (size + 1)) (near_outside size c.start last)
    last_outside =
        let N = nearly_stage c k o ready few size (omega arith) in
        let e : outside size c.start last ≡ cell last size + cell last (size + 1) =
        lone_outside size c.start last ready.start last_alone
        ∙ rw (N.unknown_none c.start ready.start) (omega arith) in
        rw e at (outside_trimmed size c.start last few ready.start (N.reward_none c.start ready.start))

    -- The rows lose less than all.
    pub few_lost : rows_made c k o size * row_loss < 2 ^ 48
    few_lost = omega (arith, rows_most)

    -- And something leads to Goal.
    pub last_goal : 0 < cell last size
    last_goal =
        let (d, x, share) = shares_exist ready.fine in
        let y = mul-pos (share_above c ready.fine d x share alive.leads ready.start) last_out in
        let h = (nearly_share d x share).under in
        ⊎_elim
        (λ (l : 0 < cell last size). l)
        (λ (l : cell last size ≤ 0).
        let z : cell last size ≡ 0 = omega arith in
        let w : cell last size * d ≡ 0 = rw z (omega arith) in
        absurd (lost_all (2 ^ 48) (rows_made c k o size * row_loss) (x c.start * (cell last size + cell last (size + 1))) few_lost y (omega (arith, h, w))))
        (below 0 (cell last size))

    -- D is above 0, and not far below what leads out.
    pub last_some : 0 < near_outside size c.start last
    last_some = trimmed_whole (2 ^ 48) (2 ^ 18 + 1) (omega arith) last_out last_outside

    pub last_twice : cell last size + cell last (size + 1) ≤ 2 * near_outside size c.start last
    last_twice = twice _ _ last_outside
