-- From the table of words at the end to the figures.
use Rattle.std.proofs.Common.{◌≡◌, ℕ, ◌+◌, ◌*◌, ◌^◌, ◌<◌, ◌≤◌, Bool, true, false, eqb, List, [], get_or, sym, refl, ap, ◌∙◌, subst, ⊎_elim, mul-le-mul, arith}
use Rattle.meaning.specs.Number.{bit, choose}
use Rattle.meaning.specs.Chain.{Chain, ToGoal, FromStart, Live}
use Rattle.meaning.specs.Row.{Row, cell}
use Rattle.meaning.specs.Step.{row, Sets}
use Rattle.meaning.specs.Near.{near_outside, near_stage, rows_made, Near, near, near_from, near_live, NearFigure}
use Rattle.meaning.specs.Miss.{miss_from, miss_live, MissFigure}
use Rattle.theory.specs.Numbers.Sum.{below}
use Rattle.theory.proofs.Stages.NearDigits.{near_each}
use Rattle.theory.proofs.Stages.NearLast.{last_goal, last_some}
use Rattle.chain.specs.declared.Chain.{Chain as Frame}
use Rattle.chain.specs.Lent.{lent}
use Rattle.survey.specs.Sets.{chain_of, sets_of}
use Rattle.survey.specs.declared.Sets.{Sets as Found}
use Rattle.elimination.specs.Table.{part_at}
use Rattle.near.specs.Word.{word, value}
use Rattle.near.specs.Row.{value_at}
use Rattle.near.specs.Step.{outside_at}
use Rattle.near.specs.Table.{Stands, most_digits, Worded}
use Rattle.near.specs.Walk.{Walked}
use Rattle.near.specs.Answer.{Tells, Answers, Misses, told_between, known_as}
use Rattle.near.specs.Entry.{Readable, Begun}
use Rattle.near.specs.declared.answer.Between.{Between}
use Rattle.near.proofs.Words.{word_none}
use Rattle.near.proofs.Linked.{stage_outside}
use Rattle.near.proofs.Scaled.{alike_some, alike_below, near_alike, miss_alike}
use Rattle.near.proofs.Standing.{pivot_sum}

-- What the definition tells is what is told.
told_is : (a : Near) (r : Between) → a.number ≡ 0 → a.place ≡ 0 → Tells a r → told_between r ≡ a
told_is a r n p t =
    let n' = sym n in
    let p' = sym p in
    λ i. record { number = n' i; place = p' i; lower = t.lower i; upper = t.upper i; twos = t.twos i }

-- A missing chance is an answer too, whatever leads to Trap.
miss_answered : (T D rows : ℕ) → ((miss_from T D rows).number ≡ 0) × ((miss_from T D rows).place ≡ 0)
miss_answered T D rows = go (eqb T 0)
  where
    go : (b : Bool) → ((choose b (near 0 0 0 0 0) (near_from T D rows)).number ≡ 0) × ((choose b (near 0 0 0 0 0) (near_from T D rows)).place ≡ 0)
    go true = (refl, refl)
    go false = (refl, refl)

module _ (c : Frame) (s : Found) (d e o w : List ℕ) (b : Begun c s d e o w) where
  abbrev m : Chain
  m = chain_of c d e

  abbrev k : Sets
  k = sets_of s

  abbrev n : ℕ
  n = c.states

  pub follow_won : bit c.goals c.start ≡ 1
      → NearFigure (lent c d e o [] w) (told_between (known_as 1 0).chance) × MissFigure (lent c d e o [] w) (told_between (known_as 1 0).miss)
  follow_won g = (NearFigure.won g refl, MissFigure.won g refl)

  pub follow_lost : (bit s.good c.start ≡ 1 → ⊥)
      → NearFigure (lent c d e o [] w) (told_between (known_as 0 1).chance) × MissFigure (lent c d e o [] w) (told_between (known_as 0 1).miss)
  follow_lost g =
      let h : ToGoal m c.start → ⊥ = λ t. g ((b.walks.ready.right.good c.start).1 t) in
      (NearFigure.lost h refl, MissFigure.lost h refl)

  -- The start is live.
  module _ (unwon : bit c.goals c.start ≡ 1 → ⊥) (leads : bit s.good c.start ≡ 1) {v : List ℕ} {rows : ℕ}
      (z : Walked c s.live o n w v rows)
    where
      alive : Live m c.start
      alive = record { unwon = unwon; reached = FromStart.begin; leads = (b.walks.ready.right.good c.start).0 leads }

      ended : Worded n n (near_stage m k o n) v × (rows ≡ rows_made m k o n)
      ended = z.worded d e s.good b.walks b.worded

      abbrev last : Row
      last = row (near_stage m k o n) c.start

      abbrev part : List ℕ
      part = part_at n v c.start

      inside : c.start < n
      inside = b.walks.ready.start

      S : Stands (n + 4) (cell last) part (most_digits n)
      S = ended.0.rows c.start inside

      -- The word of D, and D.
      abbrev D : ℕ
      D = value (outside_at n c.start v)

      abbrev outside : ℕ
      outside = near_outside n c.start last

      outside_alike : D * 2 ^ S.down ≡ outside * 2 ^ S.up
      unfolding near_outside
      outside_alike =
          pivot_sum (n + 4) c.start (cell last) (omega (arith, inside)) part (most_digits n) (omega (arith, b.walks.few)) S
          (stage_outside m k o b.walks.ready b.walks.few b.walks.small n (omega arith) c.start inside)

      most : (j : ℕ) → n ≤ j → j < n + 4 → value_at part j ≤ D
      most j l h =
          alike_below S.down S.up (value_at part j) (cell last j) D outside (S.alike j h) outside_alike
          (near_each m k o b.walks.ready b.walks.few b.walks.small n (omega arith) c.start inside j h (λ q. omega (arith, inside)))

      trap_above : 0 < get_or part (n + 1) 0 → 0 < value_at part (n + 1)
      trap_above h =
          ⊎_elim
          (λ (l : 0 < value_at part (n + 1)). l)
          (λ (l : value_at part (n + 1) ≤ 0).
          let y : value_at part (n + 1) ≡ 0 = omega arith in
          absurd (omega (arith, S.proper (n + 1) (omega arith) ∙ ap word y ∙ word_none)))
          (below 0 (value_at part (n + 1)))

      pub readable : Readable n c.start rows v
      readable =
          let few = b.walks.few in
          let square : n * n ≤ 64 * 64 = mul-le-mul few few in
          record {
            states = few;
            room = omega (arith, b.room, z.kept.len);
            inside = inside;
            few = omega (arith, z.few, square);
            goal = alike_some S.down S.up (value_at part n) (cell last n) (S.alike n (omega arith)) (last_goal m k o b.walks.ready few alive);
            goal_most = most n (omega arith) (omega arith);
            trap = trap_above;
            trap_most = most (n + 1) (omega arith) (omega arith);
          }

      pub follow_live : {chance miss : Between} → Answers (value_at part n) D rows chance → Misses (value_at part (n + 1)) D rows miss
          → NearFigure (lent c d e o [] w) (told_between chance) × MissFigure (lent c d e o [] w) (told_between miss)
      follow_live {chance} {miss} x y =
          let some = last_some m k o b.walks.ready b.walks.few alive in
          let goal = last_goal m k o b.walks.ready b.walks.few alive in
          let f = near_alike S.down S.up (value_at part n) D (cell last n) outside rows (S.alike n (omega arith)) outside_alike some goal in
          let g = miss_alike S.down S.up (value_at part (n + 1)) D (cell last (n + 1)) outside rows (S.alike (n + 1) (omega arith)) outside_alike some in
          let x' = rw ended.1 at (subst (λ (a : Near). Tells a chance) f x) in
          let y' = rw ended.1 at (subst (λ (a : Near). Tells a miss) g y) in (
            NearFigure.live k b.walks.ready.right alive (told_is (near_live m k o) chance refl refl x'),
            MissFigure.live k b.walks.ready.right alive (let q = miss_answered (cell last (n + 1)) outside (rows_made m k o n) in told_is (miss_live m k o) miss q.0 q.1 y'),
          )

-- A figure does not ask for the work table.
module _ {c : Frame} {d e o w v : List ℕ} {a : Near} where
  pub near_lent : NearFigure (lent c d e o [] w) a → NearFigure (lent c d e o [] v) a
  near_lent (NearFigure.won g q) = NearFigure.won g q
  near_lent (NearFigure.lost g q) = NearFigure.lost g q
  near_lent (NearFigure.live k r g q) = NearFigure.live k r g q

  pub miss_lent : MissFigure (lent c d e o [] w) a → MissFigure (lent c d e o [] v) a
  miss_lent (MissFigure.won g q) = MissFigure.won g q
  miss_lent (MissFigure.lost g q) = MissFigure.lost g q
  miss_lent (MissFigure.live k r g q) = MissFigure.live k r g q
