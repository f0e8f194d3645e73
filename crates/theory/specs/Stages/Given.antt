-- The row of a live state as the chain gives it: its columns, and what it says of the chances and of the rewards.
use Rattle.std.specs.Prelude.{ℕ, ◌+◌, ◌*◌, ◌-◌, ◌<◌, ◌≡◌, refl, Bool, true, false, eqb, length}
use Rattle.std.proofs.Common.{sym, ap, subst, ◌∙◌, ⊎_elim, arith, mul-zero}
use borrow.Author.Tests.{eq-eqb, ne_eqb, lt-ltb, le-ltb}
use Rattle.meaning.specs.Number.{sum_to, only, bit}
use Rattle.meaning.specs.Chain.{Chain, denominator, edge_count, from, to, along, Goal, PathTo, FromStart, LiveTo}
use Rattle.meaning.specs.Figure.{Shares, Missed, Earns}
use Rattle.meaning.specs.Row.{Row, cell, total}
use Rattle.meaning.specs.Step.{Sets, RightTo, Right, given}
use Rattle.theory.specs.Numbers.Sum.{same, sum_ext, sum_one, sum_next}
use Rattle.theory.specs.Numbers.Tab.{tab_at, tab_length}
use Rattle.theory.specs.Chains.Fine.{Fine, FineTo, fine_whole}
use Rattle.theory.specs.Numbers.Bits.{bit_small}
use Rattle.theory.specs.Rows.Relation.{worth, ones}
use Rattle.theory.specs.Rows.Columns.{Columns}
use Rattle.theory.specs.Chains.Flow.{flow_ext, flow_add, flow_scale, flow_swap}

-- A live state by the sets.
abbrev pub LiveRow : Chain → Sets → ℕ → Type 0
LiveRow c k i = (i < c.states) × (bit k.live i ≡ 1)

-- What becomes of a state that is reached: it is live, or a goal, or can only miss.
pub data Fate (c : Chain) (k : Sets) (t : ℕ) : Type 0 where
  live : bit k.live t ≡ 1 → bit c.goals t ≡ 0 → bit k.good t ≡ 1 → Fate c k t
  won : bit k.live t ≡ 0 → bit c.goals t ≡ 1 → bit k.good t ≡ 1 → Fate c k t
  lost : bit k.live t ≡ 0 → bit c.goals t ≡ 0 → bit k.good t ≡ 0 → Fate c k t

pub fate : (c : Chain) (k : Sets) (End : ℕ → Type 0) → ((i : ℕ) → Goal c i → End i) → RightTo c End k → (t : ℕ) → FromStart c t → Fate c k t
fate c k End ends ok t f =
    ⊎_elim
    (λ (l : bit k.live t ≡ 1).
    let a = (ok.live t).0 l in
    let g = a.unwon in
    live l (omega (arith, g, bit_small c.goals t)) ((ok.good t).1 a.leads))
    (λ (l : bit k.live t ≡ 1 → ⊥).
    let z : bit k.live t ≡ 0 = omega (arith, bit_small k.live t) in
    ⊎_elim
    (λ (g : bit c.goals t ≡ 1). won z g ((ok.good t).1 (PathTo.here t (ends t g))))
    (λ (g : bit c.goals t ≡ 1 → ⊥).
    let q : bit k.good t ≡ 1 → ⊥ = λ e. l ((ok.live t).1 (record { unwon = g; reached = f; leads = (ok.good t).0 e })) in
    lost z (omega (arith, bit_small c.goals t)) (omega (arith, bit_small k.good t)))
    (same (bit c.goals t) 1))
    (same (bit k.live t) 1)

module _ (c : Chain) (k : Sets) (pay : ℕ → ℕ) (u i : ℕ) where
  abbrev n : ℕ
  n = c.states

  pub given_state : (j : ℕ) → j < n → cell (given c k pay u i) j ≡ only (eqb (bit k.live j) 1) (along c i (λ t. only (eqb t j) 1))
  unfolding given
  given_state j h = tab_at (n + 4) _ 0 j (omega arith) ∙ rw (lt-ltb j n h)

  pub given_goal : cell (given c k pay u i) n ≡ along c i (bit c.goals)
  unfolding given
  given_goal = tab_at (n + 4) _ 0 n (omega arith) ∙ rw (le-ltb n n (omega arith), eq-eqb n n refl)

  pub given_trap : cell (given c k pay u i) (n + 1) ≡ along c i (λ t. 1 - bit k.good t)
  unfolding given
  given_trap =
      tab_at (n + 4) _ 0 (n + 1) (omega arith)
      ∙ rw (le-ltb (n + 1) n (omega arith), ne_eqb (n + 1) n (omega arith), eq-eqb (n + 1) (n + 1) refl)

  pub given_unknown : cell (given c k pay u i) (n + 2) ≡ u
  unfolding given
  given_unknown =
      tab_at (n + 4) _ 0 (n + 2) (omega arith)
      ∙ rw (le-ltb (n + 2) n (omega arith), ne_eqb (n + 2) n (omega arith), ne_eqb (n + 2) (n + 1) (omega arith), eq-eqb (n + 2) (n + 2) refl)

  pub given_reward : cell (given c k pay u i) (n + 3) ≡ pay i
  unfolding given
  given_reward =
      tab_at (n + 4) _ 0 (n + 3) (omega arith)
      ∙ rw (le-ltb (n + 3) n (omega arith), ne_eqb (n + 3) n (omega arith), ne_eqb (n + 3) (n + 1) (omega arith), ne_eqb (n + 3) (n + 2) (omega arith))

  pub given_length : length (given c k pay u i) ≡ n + 4
  unfolding given
  given_length = tab_length 0 (n + 4) _

-- What a target is worth, by its column.
abbrev pub fare : Chain → Sets → (ℕ → ℕ) → ℕ → ℕ
fare c k v t =
    only (eqb (bit k.live t) 1) (v t) + v c.states * bit c.goals t + v (c.states + 1) * (1 - bit k.good t)

pull : (b : Bool) (a v : ℕ) → only b a * v ≡ only b v * a
pull true a v = omega arith
pull false a v = omega arith

push : (b : Bool) (v : ℕ) → v * only b 1 ≡ only b v
push true v = omega arith
push false v = omega arith

-- The first rows; u i is Unknown of the row of i, and what is missing from it.
module _ (c : Chain) (k : Sets) (pay u : ℕ → ℕ) (fine : FineTo c u) where
  abbrev begun : ℕ → Row
  begun i = given c k pay (u i) i

  one_state : (i : ℕ) (b : Bool) (v j : ℕ) → only b (along c i (λ t. only (eqb t j) 1)) * v ≡ along c i (λ t. only (eqb t j) (only b v))
  one_state i b v j =
      pull b (along c i (λ t. only (eqb t j) 1)) v
      ∙ sym (flow_scale c.edges i (only b v) (λ t. only (eqb t j) 1))
      ∙ flow_ext c.edges i _ _ (λ e h q. push (eqb (to c.edges e) j) (only b v))

  given_states : (i : ℕ) (v : ℕ → ℕ)
      → sum_to (λ j. cell (begun i) j * v j) c.states ≡ along c i (λ t. only (eqb (bit k.live t) 1) (v t))
  given_states i v =
      sum_ext _ (λ j. along c i (λ t. only (eqb t j) (only (eqb (bit k.live j) 1) (v j)))) c.states
      (λ j h. ap (λ z. z * v j) (given_state c k pay (u i) i j h) ∙ one_state i (eqb (bit k.live j) 1) (v j) j)
      ∙ flow_swap c.edges i (λ j t. only (eqb t j) (only (eqb (bit k.live j) 1) (v j))) c.states
      ∙ flow_ext c.edges i _ _ (λ e h q.
      sum_one (λ j. only (eqb (bit k.live j) 1) (v j)) c.states (to c.edges e) (fine.targets e h))

  given_sum : (i : ℕ) (v : ℕ → ℕ) → sum_to (λ j. cell (begun i) j * v j) (c.states + 3) ≡ along c i (fare c k v) + u i * v (c.states + 2)
  given_sum i v =
      let n = c.states in
      let f : ℕ → ℕ = λ j. cell (begun i) j * v j in
      let L : ℕ → ℕ = λ t. only (eqb (bit k.live t) 1) (v t) in
      let a = flow_add c.edges i (λ t. L t + v n * bit c.goals t) (λ t. v (n + 1) * (1 - bit k.good t)) in
      let b = flow_add c.edges i L (λ t. v n * bit c.goals t) in
      let d = flow_scale c.edges i (v n) (bit c.goals) in
      let e = flow_scale c.edges i (v (n + 1)) (λ t. 1 - bit k.good t) in
      omega (
        arith,
        a,
        b,
        d,
        e,
        sum_next f n (n + 1) (omega arith),
        sum_next f (n + 1) (n + 2) (omega arith),
        sum_next f (n + 2) (n + 3) (omega arith),
        given_states i v,
        ap (λ z. z * v n) (given_goal c k pay (u i) i),
        ap (λ z. z * v (n + 1)) (given_trap c k pay (u i) i),
        ap (λ z. z * v (n + 2)) (given_unknown c k pay (u i) i),
      )

  pub given_worth : (i : ℕ) (v : ℕ → ℕ)
      → worth c.states (begun i) v ≡ along c i (fare c k v) + u i * v (c.states + 2) + pay i * v (c.states + 3)
  given_worth i v =
      omega (
        arith,
        given_sum i v,
        sum_next (λ j. cell (begun i) j * v j) (c.states + 3) (c.states + 4) (omega arith),
        ap (λ z. z * v (c.states + 3)) (given_reward c k pay (u i) i),
      )

  module _ (End : ℕ → Type 0) (ends : (i : ℕ) → Goal c i → End i) (ok : RightTo c End k) where
    reached_by : (i e : ℕ) → LiveRow c k i → e < edge_count c.edges → from c.edges e ≡ i → FromStart c (to c.edges e)
    reached_by i e q h p =
        let l = (ok.live i).0 q.1 in FromStart.step e h (subst (FromStart c) (sym p) l.reached) (λ g. l.unwon (subst (Goal c) p g))

    pub goes_on : (i e : ℕ) → LiveRow c k i → e < edge_count c.edges → from c.edges e ≡ i → Fate c k (to c.edges e)
    goes_on i e q h p = fate c k End ends ok (to c.edges e) (reached_by i e q h p)

    one_each : (t : ℕ) → Fate c k t → fare c k (λ _. 1) t ≡ 1
    one_each t (live a b d) = rw (a, b, d)
    one_each t (won a b d) = rw (a, b, d)
    one_each t (lost a b d) = rw (a, b, d)

    -- The missing weight counts in the total.
    pub given_whole : (i : ℕ) → LiveRow c k i → total c.states (begun i) ≡ denominator c i
    given_whole i q =
        let a = flow_ext c.edges i (fare c k (λ _. 1)) (λ _. 1) (λ e h p. one_each (to c.edges e) (goes_on i e q h p)) in
        omega (arith, ones c.states (begun i), given_sum i (λ _. 1), a, fine.sums i q.0)

-- Where nothing is missing and the ends are the goals.
module _ (c : Chain) (k : Sets) (pay : ℕ → ℕ) (fine : Fine c) where
  abbrev whole : FineTo c (λ _. 0)
  whole = fine_whole fine

  worth_whole : (i : ℕ) (v : ℕ → ℕ) → worth c.states (given c k pay 0 i) v ≡ along c i (fare c k v) + pay i * v (c.states + 3)
  worth_whole i v = omega (arith, given_worth c k pay (λ _. 0) whole i v)

  module _ (ok : Right c k) where
    alive : (i : ℕ) → LiveRow c k i → LiveTo c (Goal c) i
    alive i q = (ok.live i).0 q.1

    target : (i e : ℕ) → LiveRow c k i → e < edge_count c.edges → from c.edges e ≡ i → FromStart c (to c.edges e)
    target = reached_by c k pay (λ _. 0) whole (Goal c) (λ _ g. g) ok

    pub goes_to : (i e : ℕ) → LiveRow c k i → e < edge_count c.edges → from c.edges e ≡ i → Fate c k (to c.edges e)
    goes_to = goes_on c k pay (λ _. 0) whole (Goal c) (λ _ g. g) ok

    pub given_total : (i : ℕ) → LiveRow c k i → total c.states (given c k pay 0 i) ≡ denominator c i
    given_total = given_whole c k pay (λ _. 0) whole (Goal c) (λ _ g. g) ok

    -- The row of a live state says of the chances what the chain says.
    module _ (d : ℕ) (x : ℕ → ℕ) (share : Shares c d x) (unknown : ℕ) (v : ℕ → ℕ) (are : Columns c.states x d 0 unknown 0 v) where
      share_each : (t : ℕ) → t < c.states → Fate c k t → fare c k v t ≡ x t
      share_each t h (live a b e) = rw (a, b, e) (omega (arith, are.state t h, mul-zero (v c.states), mul-zero (v (c.states + 1))))
      share_each t h (won a b e) = rw (a, b, e) (omega (arith, are.goal, share.won t h b))
      share_each t h (lost a b e) =
          rw (a, b, e) (omega (arith, are.trap, share.lost t h (λ g. omega (arith, e, (ok.good t).1 g))))

      pub given_shares : (i : ℕ) → LiveRow c k i → worth c.states (given c k pay 0 i) v ≡ total c.states (given c k pay 0 i) * v i
      given_shares i q =
          let l = alive i q in
          let a = worth_whole i v in
          let b : along c i (fare c k v) ≡ along c i x =
          flow_ext c.edges i _ _ (λ e h p. share_each (to c.edges e) (fine.targets e h) (goes_to i e q h p)) in
          rw (given_total i q, are.state i q.0, a, are.paid, b, share.flows i q.0 l.unwon l.leads) (omega arith)

    -- And of the rewards.
    module _ (sure : Missed c → ⊥) (d : ℕ) (y : ℕ → ℕ) (earn : Earns c pay d y) (unknown : ℕ) (v : ℕ → ℕ) (are : Columns c.states y 0 0 unknown d v) where
      earn_each : (t : ℕ) → t < c.states → FromStart c t → Fate c k t → fare c k v t ≡ y t
      earn_each t h f (live a b e) = rw (a, b, e) (omega (arith, are.state t h))
      earn_each t h f (won a b e) = rw (a, b, e) (omega (arith, are.goal, earn.won t f b))
      earn_each t h f (lost a b e) = absurd (sure (t, f, λ g. omega (arith, e, (ok.good t).1 g)))

      pub given_earns : (i : ℕ) → LiveRow c k i → worth c.states (given c k pay 0 i) v ≡ total c.states (given c k pay 0 i) * v i
      given_earns i q =
          let l = alive i q in
          let a = worth_whole i v in
          let b : along c i (fare c k v) ≡ along c i y =
          flow_ext c.edges i _ _ (λ e h p.
          earn_each (to c.edges e) (fine.targets e h) (target i e q h p) (goes_to i e q h p)) in
          rw (given_total i q, are.state i q.0, a, are.paid, b, earn.flows i l.reached l.unwon) (omega arith)
