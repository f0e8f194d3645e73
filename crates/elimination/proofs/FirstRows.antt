-- The first table: what is gathered along the edges, finished, is what the chain gives.
use mathlib.Core.Path.{◌≡◌, refl, sym, ap, ◌∙◌}
use mathlib.Core.Logic.{⊎_elim}
use mathlib.Core.Bool.{Bool, true, false}
use mathlib.Core.List.{List}
use Prim.Native.Nat.{ℕ, ◌+◌, ◌-◌, ◌*◌, ◌^◌, ◌≤◌, ◌<◌}
use native.Mathlib.Omega.{arith}
use native.Mathlib.Nat.{zero-div}
use lib.Count.{ones}
use lib.Dec.{eqb}
use lib.ListN.{length, get_or, set, length-set, get_or-eq_default}
use lib.Seq.{ext_get_or, get_or-set_same, get_or-set_other}
use borrow.Author.Tests.{eq-eqb, ne_eqb, eqb-true, eqb-false}
use Rattle.meaning.specs.Number.{sum_to, only, choose, bit}
use Rattle.meaning.specs.Chain.{Chain, denominator, edge_count, from, to, carried, flow, along, Goal, End}
use Rattle.meaning.specs.Row.{cell, width, unknown_column, total, rounding}
use Rattle.meaning.specs.Step.{row, Sets, RightTo, given, first_row, no_row, first, unknown}
use Rattle.meaning.specs.Refusal.{Lent, Entry, work_size, WellFormed}
use Rattle.theory.specs.Numbers.Sum.{same, below, sum_ext, sum_zero, sum_term}
use Rattle.theory.specs.Numbers.Tab.{tab_ext}
use Rattle.theory.specs.Numbers.Bits.{set_apart, bit_below}
use Rattle.theory.specs.Chains.Fine.{reached_to}
use Rattle.theory.specs.Chains.Flow.{flow_ext}
use Rattle.theory.specs.Stages.Given.{Fate, LiveRow, goes_on, given_state, given_goal, given_trap, given_unknown, given_reward, given_length, given_whole}
use Rattle.theory.specs.Stages.First.{first_row_from}
use Rattle.theory.specs.Outcomes.Formed.{few_states, few_edges, start_in, some_goal, goals_in_lem, formed_fine_to, from_in_lem, weight_small, denominator_small, reward_small, edge_reward_small}
use Rattle.theory.specs.Outcomes.Whole.{goal_end}
use Rattle.elimination.specs.Packed.{weights_at}
use Rattle.elimination.specs.Pay.{pays}
use Rattle.std.specs.Prelude.{Option}
use Rattle.elimination.proofs.Removal.{match_more}
use Rattle.elimination.specs.Table.{part_at, row_at, Renewed}
use Rattle.elimination.specs.Gather.{column_of, share, lack, Added, Held, Gatherable, Completable}
use Rattle.elimination.specs.First.{Packable, finished, finished_at, Finishable, Makeable}
use Rattle.elimination.specs.Turn.{Made}
use Rattle.elimination.proofs.Laws.{set_room}
use Rattle.elimination.proofs.Tables.{kept_more, length_row, states_row}
use Rattle.elimination.proofs.Cells.{held_added, share_dead, share_live, shares_le}
use Rattle.elimination.proofs.Missing.{lack_dead, lack_here, lack_aside}
use Rattle.elimination.proofs.Packing.{zero_row}
use Rattle.elimination.proofs.Targets.{in_live, in_dead, in_goal, in_trap, in_none}

flow_none : (edges : List ℕ) (i : ℕ) → flow edges i (λ _. 0) ≡ 0
unfolding flow carried
flow_none edges i = sum_zero _ (edge_count edges) (λ e h. go (eqb (from edges e) i) _)
  where
    go : (b : Bool) (x : ℕ) → only b (x * 0) ≡ 0
    go true x = omega arith
    go false x = refl

module _ (c : Chain) (k : Sets) (b p short : Bool) (rewards work : List ℕ) (a : Makeable b p short c k rewards work) where
  abbrev n : ℕ
  n = c.states

  abbrev pay : ℕ → ℕ
  pay = pays p c rewards

  abbrev u : ℕ → ℕ
  u = unknown short c

  -- What is gathered along the edges, and what is missing.
  abbrev gathered : ℕ → ℕ → ℕ
  gathered i j = sum_to (share n k c.edges i j) (edge_count c.edges)

  abbrev lacked : ℕ → ℕ → ℕ
  lacked i j = lack n k.live i (u i) j

  pub makeable_gatherable : Gatherable n c.edges work
  makeable_gatherable =
      record {
        few = a.few;
        room = a.room;
        sources = a.sources;
        targets = a.fine.targets;
        sums = λ i h. omega (arith, a.fine.sums i h, a.small i h);
      }

  pub makeable_completable : {v : List ℕ} → Held n gathered work v → Completable n u v
  makeable_completable z =
      record {
        few = a.few;
        room = omega (arith, z.kept.len, a.room);
        sums = λ i h.
            let held = z.cells i (unknown_column n) h (omega arith) in
            omega (arith, held, shares_le n k c.edges i (unknown_column n), a.fine.sums i h, a.small i h);
      }

  -- A live state is reached; and a goal is not live, so that a part has room for the number of the targets too.
  live_state : (i : ℕ) → bit k.live i ≡ 1 → i < n
  live_state i l = reached_to a.fine a.start ((a.right.live i).0 l).reached

  live_room : weights_at + ones k.live ≤ width n
  live_room =
      let g = a.goal.0 in
      let d : bit k.live g ≡ 1 → ⊥ = λ l. ((a.right.live g).0 l).unwon a.goal.1.1 in
      (set_room n g a.goal.1.0 k.live live_state (omega arith)).1

  -- The sum of the weights to each column, with what is missing, is what the chain gives.
  module _ (i : ℕ) (q : LiveRow c k i) where
    by_target : (f g : ℕ → ℕ) → ((t : ℕ) → t < n → Fate c k t → f t ≡ g t) → along c i f ≡ along c i g
    by_target f g h =
        flow_ext c.edges i f g (λ e l p.
        h (to c.edges e) (a.fine.targets e l) (goes_on c k pay u a.fine (End short c) (goal_end short c) a.right i e q l p))

    flow_state : (j : ℕ) → j < n → along c i (λ t. only (eqb (column_of n k t) j) 1) ≡ cell (given c k pay (u i) i) j
    flow_state j h =
        ⊎_elim
        (λ (m : bit k.live j ≡ 1).
        by_target _ (λ t. only (eqb t j) 1) (λ t l f. in_live c k t j l h m f)
        ∙ sym (given_state c k pay (u i) i j h ∙ rw (eq-eqb (bit k.live j) 1 m)))
        (λ (m : bit k.live j ≡ 1 → ⊥).
        by_target _ (λ _. 0) (λ t l f. in_dead c k t j l h m f)
        ∙ flow_none c.edges i
        ∙ sym (given_state c k pay (u i) i j h ∙ rw (ne_eqb (bit k.live j) 1 m)))
        (same (bit k.live j) 1)

    -- All columns but Unknown: nothing that is missing comes to them.
    flow_known : (j : ℕ) → j < n + 2 → along c i (λ t. only (eqb (column_of n k t) j) 1) ≡ cell (given c k pay (u i) i) j
    flow_known j h =
        ⊎_elim (λ (s : j < n). flow_state j s)
        (λ (s : n ≤ j).
        ⊎_elim
        (λ (e : j ≡ n). rw e (by_target _ (bit c.goals) (λ t l f. in_goal c k t l f) ∙ sym (given_goal c k pay (u i) i)))
        (λ (d : j ≡ n → ⊥).
        let e : j ≡ n + 1 = omega arith in
        rw e (by_target _ (λ t. 1 - bit k.good t) (λ t l f. in_trap c k t l f) ∙ sym (given_trap c k pay (u i) i)))
        (same j n))
        (below j n)

    pub flow_past : (j : ℕ) → n + 1 < j → along c i (λ t. only (eqb (column_of n k t) j) 1) ≡ 0
    flow_past j g = by_target _ (λ _. 0) (λ t l f. in_none c k t j g l f) ∙ flow_none c.edges i

    pub flow_column : (j : ℕ) → j < n + 3 → along c i (λ t. only (eqb (column_of n k t) j) 1) + lacked i j ≡ cell (given c k pay (u i) i) j
    flow_column j h =
        ⊎_elim
        (λ (s : j < n + 2). omega (arith, flow_known j s, lack_aside n k.live i (u i) j (omega arith)))
        (λ (s : n + 2 ≤ j).
        let e : j ≡ n + 2 = omega arith in
        rw e (omega (arith, flow_past (n + 2) (omega arith), lack_here n k.live i (u i) q.1, given_unknown c k pay (u i) i)))
        (below j (n + 2))

  -- The table once all edges are gathered, and what is missing.
  module _ {w v : List ℕ} (gathers : Held n gathered work w) (adds : Added n lacked w v) (earnings : List ℕ)
      (earn : (i : ℕ) → i < n → get_or earnings i 0 ≡ pay i) where
    z : Held n (λ i j. gathered i j + lacked i j) work v
    z = held_added gathers adds

    space : n * (n + 4) ≤ length v
    space = omega (arith, z.kept.len, a.room)

    module _ (i : ℕ) (q : LiveRow c k i) where
      live_cell : (j : ℕ) → j < n + 3 → cell (part_at n v i) j ≡ cell (given c k pay (u i) i) j
      unfolding flow
      live_cell j h =
          z.cells i j q.0 (omega arith)
          ∙ ap (λ (x : ℕ). x + lacked i j)
          (sum_ext (share n k c.edges i j) (carried c.edges i (λ t. only (eqb (column_of n k t) j) 1)) (edge_count c.edges)
          (λ e _. share_live n k c.edges e i j q.1))
          ∙ flow_column i q j h

      live_total : total n (part_at n v i) ≡ denominator c i
      live_total =
          sum_ext (cell (part_at n v i)) (cell (given c k pay (u i) i)) (n + 3) live_cell
          ∙ given_whole c k pay u a.fine (End short c) (goal_end short c) a.right i q

      pub live_row : set (part_at n v i) (n + 3) (pay i) ≡ given c k pay (u i) i
      live_row =
          let g = set (part_at n v i) (n + 3) (pay i) in
          let l : length (part_at n v i) ≡ n + 4 = length_row n v space i q.0 in
          let w : length (set (part_at n v i) (n + 3) (pay i)) ≡ n + 4 = length-set (part_at n v i) (n + 3) (pay i) ∙ l in
          ext_get_or 0 g (given c k pay (u i) i) (w ∙ sym (given_length c k pay (u i) i))
          (λ j h.
          ⊎_elim
          (λ (e : j ≡ n + 3).
          rw e (get_or-set_same (part_at n v i) (n + 3) (pay i) 0 (omega arith) ∙ sym (given_reward c k pay (u i) i)))
          (λ (d : j ≡ n + 3 → ⊥).
          get_or-set_other (part_at n v i) (n + 3) j (pay i) 0 d ∙ live_cell j (omega arith))
          (same j (n + 3)))

      live_packable : Packable k.live (part_at n v i)
      live_packable =
          let s = states_row n v space i q.0 in
          record {
            few = omega (arith, a.few);
            inside = λ j l. omega (arith, live_state j l);
            room = omega (arith, length_row n v space i q.0, live_room);
            outside = λ j h l.
                let h' : j < n = omega arith in
                live_cell j (omega arith) ∙ given_state c k pay (u i) i j h' ∙ rw (ne_eqb (bit k.live j) 1 (omega arith));
            fits = λ j h. omega (arith, live_total, a.small i q.0, sum_term (cell (part_at n v i)) (n + 3) j (omega arith));
          }

    module _ (i : ℕ) (h : i < n) (d : bit k.live i ≡ 1 → ⊥) where
      dead_cell : (j : ℕ) → cell (part_at n v i) j ≡ 0
      dead_cell j =
          ⊎_elim
          (λ (l : j < width n).
          omega (
            arith,
            z.cells i j h l,
            sum_zero (share n k c.edges i j) (edge_count c.edges) (λ e _. share_dead n k c.edges e i j d),
            lack_dead n k.live i (u i) j d,
          ))
          (λ (l : width n ≤ j). get_or-eq_default (part_at n v i) 0 (omega (arith, length_row n v space i h)))
          (below j (width n))

      pub dead_row : part_at n v i ≡ no_row n
      dead_row = zero_row n (length_row n v space i h) (λ j _. dead_cell j)

    pub makeable_finishable : Finishable b n k.live earnings v
    makeable_finishable =
        record {
          few = a.few;
          room = space;
          gathered = λ i h.
              record {
                size = length_row n v space i h;
                ready = λ e. live_packable i (h, eqb-true (bit k.live i) 1 e);
                bound = λ e. omega (arith, live_total i (h, eqb-true (bit k.live i) 1 e), a.small i h);
                zero = λ e j. dead_cell i h (eqb-false (bit k.live i) 1 e) j;
                unpaid = λ e. earn i h ∙ rw (a.unpaid e);
              };
        }

    first_at : (i : ℕ) → i < n
        → finished_at b n k.live earnings v i ≡ choose (eqb (bit k.live i) 1) (first_row b c k pay (u i) i) (no_row n)
    unfolding finished
    first_at i h =
        ⊎_elim
        (λ (l : bit k.live i ≡ 1). rw (eq-eqb (bit k.live i) 1 l, earn i h, live_row i (h, l)))
        (λ (d : bit k.live i ≡ 1 → ⊥). rw (ne_eqb (bit k.live i) 1 d) (dead_row i h d))
        (same (bit k.live i) 1)

    first_is : (i : ℕ) → i < n → finished_at b n k.live earnings v i ≡ row (first b c k pay u) i
    first_is i h = first_at i h ∙ sym (first_row_from b c k pay u i h)

    pub first_made : {A : Type 0} {made : List ℕ} (answer : Option A) → Renewed b (finished_at b n k.live earnings v) n v made answer
        → Made b n (first b c k pay u) work made answer
    unfolding first
    first_made {made = made} answer y =
        let t = kept_more z.kept y.kept in
        record {
          kept = t;
          is =
              match_more answer (λ l. (l.0, (l.1.0, (l.1.1.0, rw (first_is l.1.0 l.1.1.0) at l.1.1.1))))
              (λ _ r.
              record {
                kept = t;
                same = tab_ext n (row_at n made) _ (λ i h. r.all i h ∙ first_at i h);
                packed = r.packed;
                fit = λ i h. rw (first_is i h) at (r.fit i h);
              })
              y.is;
        }

-- A goal set that is not empty, and holds states alone, holds one.
formed_goal : (x : Entry) (l : Lent) → WellFormed x l → (g : ℕ) × ((g < l.chain.states) × Goal l.chain g)
formed_goal x l formed =
    let goals = l.chain.goals in
    let d = set_apart goals 0 (λ e. omega (arith, some_goal x l formed)) in
    let b : bit goals d.0 ≡ 1 = omega (arith, d.1, zero-div (2 ^ d.0)) in
    (d.0, (bit_below goals l.chain.states d.0 (goals_in_lem x l formed) b, b))

-- What a well-formed input has. The bounds engine is lent no rewards.
pub first_given : (b : Bool) (x : Entry) (l : Lent) (k : Sets) → WellFormed x l → work_size l.chain.states ≤ length l.work → (b ≡ rounding → x.rewards ≡ false)
    → RightTo l.chain (End x.short l.chain) k → Makeable b x.rewards x.short l.chain k l.rewards l.work
first_given b x l k formed enough free right =
    record {
      few = few_states x l formed;
      room = enough;
      fine = formed_fine_to x l formed;
      sources = from_in_lem x l formed;
      small = denominator_small x l formed;
      start = start_in x l formed;
      right = right;
      goal = formed_goal x l formed;
      paid = λ e.
          record {
            few = few_states x l formed;
            small = denominator_small x l formed;
            states = reward_small x l formed e;
            paying = record {
              few = few_edges x l formed;
              sources = λ d h. omega (arith, from_in_lem x l formed d h, few_states x l formed);
              weights = weight_small x l formed;
              rewards = edge_reward_small x l formed e;
            };
          };
      unpaid = free;
    }
