-- What the last stage says of the start: the chance, bounds of it, the expected reward.
use Rattle.std.specs.Prelude.{ℕ, ◌+◌, ◌*◌, ◌-◌, ◌≤◌, ◌<◌, ◌≡◌, ◌⊎◌, Bool, List, get_or}
use Rattle.std.proofs.Common.{sym, ap, inl, ⊎_elim, arith, le_of_eq}
use Rattle.meaning.specs.Chain.{Chain, Goal, LiveTo, Live}
use Rattle.meaning.specs.Figure.{Shares, Missed, Earns}
use Rattle.meaning.specs.Row.{Row, cell, total, reward, exact, rounding}
use Rattle.meaning.specs.Step.{row, Sets, RightTo, Right, outside, given, stage_from, stage, after}
use Rattle.theory.specs.Numbers.Sum.{same}
use Rattle.theory.specs.Rows.Relation.{worth, AtMostRow, AtLeastRow}
use Rattle.theory.specs.Stages.Leads.{Sound}
use Rattle.theory.specs.Stages.Removal.{steady_least, steady_most, steady_known}
use Rattle.theory.specs.Chains.Fine.{Fine, FineTo, fine_whole}
use Rattle.theory.specs.Stages.Given.{LiveRow, given_shares, given_earns}
use Rattle.theory.specs.Rows.Columns.{Columns, columns, columns_are}
use Rattle.theory.specs.Stages.First.{first_least, first_most, first_known, first_sound}
use Rattle.theory.specs.Stages.Stage.{StageKept, sound_stage, loose_stage, steady_stage, kept_start, kept_turn, only_start}
use Rattle.theory.specs.Figures.Below.{share_below}
use Rattle.theory.specs.Rows.Flip.{Flips, flip_most, flipped}
use Rattle.theory.specs.Rows.Lone.{lone_outside, lone_least, lone_most}

upper : (D x y d G T U : ℕ) → x + y ≡ d → D ≡ G + T + U → T * d ≤ D * y → x * D ≤ (G + U) * d
upper D x y d G T U e f h = omega (arith, ap (λ z. D * z) e, ap (λ z. z * d) f)

-- What the engines are given; u i is what is missing from the row of i, and the ends are the goals and the rows that fall short.
pub record PreparedTo (c : Chain) (k : Sets) (o : List ℕ) (u : ℕ → ℕ) (End : ℕ → Type 0) : Type 0 where
  pub fine : FineTo c u
  pub right : RightTo c End k
  pub ends : (i : ℕ) → Goal c i → End i
  pub are : (i : ℕ) → End i → Goal c i ⊎ (0 < u i)
  pub orders : (p : ℕ) → p < c.states → get_or o p 0 < c.states
  pub once : (p : ℕ) → p < c.states → (q : ℕ) → q < p → get_or o q 0 ≡ get_or o p 0 → ⊥
  pub every : (i : ℕ) → i < c.states → (q : ℕ) × (q < c.states) × (get_or o q 0 ≡ i)
  pub start : c.start < c.states

-- The same where nothing is missing.
pub record Prepared (c : Chain) (k : Sets) (o : List ℕ) : Type 0 where
  pub fine : Fine c
  pub right : Right c k
  pub orders : (p : ℕ) → p < c.states → get_or o p 0 < c.states
  pub once : (p : ℕ) → p < c.states → (q : ℕ) → q < p → get_or o q 0 ≡ get_or o p 0 → ⊥
  pub every : (i : ℕ) → i < c.states → (q : ℕ) × (q < c.states) × (get_or o q 0 ≡ i)
  pub start : c.start < c.states

pub prepared_whole : {c : Chain} {k : Sets} {o : List ℕ} → Prepared c k o → PreparedTo c k o (λ _. 0) (Goal c)
prepared_whole r =
    record {
      fine = fine_whole r.fine;
      right = r.right;
      ends = λ _ g. g;
      are = λ _ g. inl g;
      orders = r.orders;
      once = r.once;
      every = r.every;
      start = r.start;
    }

-- The bounds engine earns nothing.
module _ (c : Chain) (k : Sets) (o : List ℕ) (u : ℕ → ℕ) (End : ℕ → Type 0) (ready : PreparedTo c k o u End) (b : Bool) (pay : ℕ → ℕ)
    (free : b ≡ rounding → (i : ℕ) → pay i ≡ 0)
  where
    abbrev n : ℕ
    n = c.states

    sound : Sound b n (StageKept c k o 0) (stage_from b c k pay u o 0)
    unfolding StageKept after
    sound = first_sound b c k pay u End ready.ends ready.are ready.fine ready.right free

    -- At every stage every kept state has weight outside its own loop.
    pub kept_loose : (p : ℕ) → p ≤ n → (i : ℕ) → StageKept c k o p i → 0 < outside n i (row (stage_from b c k pay u o p) i)
    kept_loose = loose_stage b c k pay u o ready.orders sound

    -- So has a live state at its turn.
    pub turn_loose : (p : ℕ) → p < n → LiveTo c End (get_or o p 0) → 0 < outside n (get_or o p 0) (row (stage_from b c k pay u o p) (get_or o p 0))
    turn_loose p h live =
        kept_loose p (omega arith) (get_or o p 0)
        (kept_turn c k o p (ready.orders p h) (ready.once p h) ((ready.right.live (get_or o p 0)).1 live))

    -- In the exact engine nothing is Unknown.
    pub kept_known : b ≡ exact → ((i : ℕ) → u i ≡ 0) → (p : ℕ) → p ≤ n → (i : ℕ) → StageKept c k o p i → cell (row (stage_from b c k pay u o p) i) (n + 2) ≡ 0
    unfolding StageKept after
    kept_known e nought =
        steady_stage b c k pay u o ready.orders sound (λ i z. cell z (n + 2) ≡ 0) (steady_known b n e) (first_known b c k pay u e nought)

    module _ (alive : LiveTo c End c.start) where
      -- The start's row at the end.
      abbrev last : Row
      last = row (stage_from b c k pay u o n) c.start

      abbrev D : ℕ
      D = outside n c.start last

      kept : StageKept c k o n c.start
      kept = kept_start c k o ready.start ((ready.right.live c.start).1 alive) n

      alone : (j : ℕ) → j < n → (j ≡ c.start → ⊥) → cell last j ≡ 0
      alone j h d =
          ⊎_elim
          (λ (e : cell last j ≡ 0). e)
          (λ (z : cell last j ≡ 0 → ⊥).
          absurd
          (d
          (only_start c k o ready.every j h
          ((sound_stage b c k pay u o ready.orders sound n (omega arith)).closed c.start j kept h (omega arith)))))
          (same (cell last j) 0)

      pub last_loose : 0 < D
      last_loose = kept_loose n (omega arith) c.start kept

      pub last_known : b ≡ exact → ((i : ℕ) → u i ≡ 0) → cell last (n + 2) ≡ 0
      last_known e nought = kept_known e nought n (omega arith) c.start kept

      last_least : (v : ℕ → ℕ) → (b ≡ rounding → v (n + 2) ≡ 0)
          → ((i : ℕ) → LiveRow c k i → AtLeastRow n (given c k pay (u i) i) (v i) v) → AtLeastRow n last (v c.start) v
      unfolding StageKept after
      last_least v w h =
          steady_stage b c k pay u o ready.orders sound (λ i z. AtLeastRow n z (v i) v) (steady_least b n v w)
          (first_least b c k pay u v w h) n (omega arith) c.start kept

      last_most : (v : ℕ → ℕ) → b ≡ exact
          → ((i : ℕ) → LiveRow c k i → AtMostRow n (given c k pay (u i) i) (v i) v) → AtMostRow n last (v c.start) v
      unfolding StageKept after
      last_most v w h =
          steady_stage b c k pay u o ready.orders sound (λ i z. AtMostRow n z (v i) v) (steady_most b n v w)
          (first_most b c k pay u v w h) n (omega arith) c.start kept

      -- What the first rows say of the values x over d, the last row says of the start's.
      module _ (d : ℕ) (x : ℕ → ℕ) where
        abbrev low_value : ℕ → ℕ
        low_value = columns n x d 0 0 0

        abbrev high_value : ℕ → ℕ
        high_value = columns n x d 0 d 0

        -- It is at least what leads to Goal.
        pub value_least : ((i : ℕ) → LiveRow c k i → AtLeastRow n (given c k pay (u i) i) (low_value i) low_value) → cell last n * d ≤ x c.start * D
        value_least says =
            let are : Columns n x d 0 0 0 low_value = columns_are n x d 0 0 0 in
            let h = last_least low_value (λ _. are.unknown) says in
            omega (arith, lone_least n c.start last ready.start alone x d 0 0 0 low_value are h)

        -- In the exact engine it is at most that too.
        pub value_exact : b ≡ exact → ((i : ℕ) → LiveRow c k i → AtMostRow n (given c k pay (u i) i) (low_value i) low_value)
            → x c.start * D ≤ cell last n * d
        value_exact f says =
            let are : Columns n x d 0 0 0 low_value = columns_are n x d 0 0 0 in
            let h = last_most low_value f says in
            omega (arith, lone_most n c.start last ready.start alone x d 0 0 0 low_value are h)

        -- It is at most what leads to Goal or is Unknown.
        pub value_most : ((i : ℕ) → i < n → x i ≤ d) → ((i : ℕ) → LiveRow c k i → AtMostRow n (given c k pay (u i) i) (high_value i) high_value)
            → x c.start * D ≤ (cell last n + cell last (n + 2)) * d
        value_most small says =
            let y : ℕ → ℕ = λ j. d - x j in
            let w : ℕ → ℕ = columns n y 0 d 0 0 in
            let are : Columns n x d 0 d 0 high_value = columns_are n x d 0 d 0 in
            let be : Columns n y 0 d 0 0 w = columns_are n y 0 d 0 0 in
            let f : Flips n d high_value w = flipped n d x high_value w small are be in
            let h =
            last_least w (λ _. be.unknown) (λ i q.
            flip_most n (given c k pay (u i) i) d high_value w f (high_value i) (w i) (f.both i (omega (arith, q.0))) (says i q)) in
            upper
            D (x c.start) (y c.start) d (cell last n) (cell last (n + 1)) (cell last (n + 2))
            (omega (arith, small c.start ready.start))
            (lone_outside n c.start last ready.start alone)
            (omega (arith, lone_least n c.start last ready.start alone y 0 d 0 0 w be h))

-- Where nothing is missing.
module _ (c : Chain) (k : Sets) (o : List ℕ) (ready : Prepared c k o) (b : Bool) (pay : ℕ → ℕ) (free : b ≡ rounding → (i : ℕ) → pay i ≡ 0) where
  abbrev m : ℕ
  m = c.states

  abbrev whole : PreparedTo c k o (λ _. 0) (Goal c)
  whole = prepared_whole ready

  module _ (alive : Live c c.start) where
    abbrev end : Row
    end = row (stage b c k pay o m) c.start

    abbrev E : ℕ
    E = outside m c.start end

    module _ (d : ℕ) (x : ℕ → ℕ) (share : Shares c d x) where
      says : (unknown : ℕ) (v : ℕ → ℕ) → Columns m x d 0 unknown 0 v → (i : ℕ) → LiveRow c k i
          → worth m (given c k pay 0 i) v ≡ total m (given c k pay 0 i) * v i
      says = given_shares c k pay ready.fine ready.right d x share

      -- The chance is at least what leads to Goal.
      pub chance_least : cell end m * d ≤ x c.start * E
      chance_least =
          value_least c k o (λ _. 0) (Goal c) whole b pay free alive d x
          (λ i q. le_of_eq (says 0 _ (columns_are m x d 0 0 0) i q))

      -- In the exact engine it is that.
      pub chance_exact : b ≡ exact → cell end m * d ≡ x c.start * E
      chance_exact f =
          omega (
            arith,
            chance_least,
            value_exact c k o (λ _. 0) (Goal c) whole b pay free alive d x f
                (λ i q. le_of_eq (sym (says 0 _ (columns_are m x d 0 0 0) i q))),
          )

      -- It is at most what leads to Goal or is Unknown.
      pub chance_most : x c.start * E ≤ (cell end m + cell end (m + 2)) * d
      chance_most =
          value_most c k o (λ _. 0) (Goal c) whole b pay free alive d x (share_below c ready.fine d x share)
          (λ i q. le_of_eq (sym (says d _ (columns_are m x d 0 d 0) i q)))

    -- The expected reward, where the goal is not missed.
    module _ (sure : Missed c → ⊥) (d : ℕ) (y : ℕ → ℕ) (earn : Earns c pay d y) where
      pub reward_exact : b ≡ exact → reward m end * d ≡ y c.start * E
      reward_exact f =
          let v : ℕ → ℕ = columns m y 0 0 0 d in
          let are : Columns m y 0 0 0 d v = columns_are m y 0 0 0 d in
          let e : (i : ℕ) → LiveRow c k i → worth m (given c k pay 0 i) v ≡ total m (given c k pay 0 i) * v i =
          given_earns c k pay ready.fine ready.right sure d y earn 0 v are in
          let least = last_least c k o (λ _. 0) (Goal c) whole b pay free alive v (λ _. are.unknown) (λ i q. le_of_eq (e i q)) in
          let most = last_most c k o (λ _. 0) (Goal c) whole b pay free alive v f (λ i q. le_of_eq (sym (e i q))) in
          let lone = alone c k o (λ _. 0) (Goal c) whole b pay free alive in
          omega (
            arith,
            lone_least m c.start end ready.start lone y 0 0 0 d v are least,
            lone_most m c.start end ready.start lone y 0 0 0 d v are most,
          )
