-- What holds of the first table holds at every stage; the start is kept, and at the end it alone.
use Prim.Native.Nat.{ℕ, zero, suc, ◌≤◌, ◌<◌}
use Rattle.std.proofs.Math.Path.{◌≡◌, refl}
use Rattle.std.proofs.Common.{sym, arith}
use Rattle.std.proofs.Math.Logic.{⊎_elim}
use Rattle.std.specs.Prelude.{Bool, List}
use Rattle.std.proofs.Math.Bool.{true, false}
use Rattle.std.proofs.Math.ListN.{get_or}
use borrow.Author.Tests.{eq-eqb, ne_eqb}
use Rattle.meaning.specs.Number.{choose, bit}
use Rattle.meaning.specs.Chain.{Chain}
use Rattle.meaning.specs.Row.{Row}
use Rattle.meaning.specs.Step.{Table, row, Sets, outside, removed, goes, after, stage_from}
use Rattle.theory.specs.Numbers.Sum.{same}
use Rattle.theory.specs.Stages.Given.{LiveRow}
use Rattle.theory.specs.Stages.Leads.{Sound, sound_loose}
use Rattle.theory.specs.Stages.Removal.{Steady, sound_map, sound_removed, steady_removed}

-- Whether the state at position p of the order is removed at its turn.
abbrev pub leaving : Chain → Sets → List ℕ → ℕ → Bool
leaving c k o p = goes c.start k.live (get_or o p 0)

-- The states that are kept after the first p positions of the order.
unfoldable pub StageKept : Chain → Sets → List ℕ → ℕ → ℕ → Type 0
StageKept c k o zero i = LiveRow c k i
StageKept c k o (suc p) i = StageKept c k o p i × (leaving c k o p ≡ true → i ≡ get_or o p 0 → ⊥)

module _ (b : Bool) (c : Chain) (k : Sets) (pay u : ℕ → ℕ) (o : List ℕ) (sorted : (p : ℕ) → p < c.states → get_or o p 0 < c.states) where
  abbrev at : ℕ → Table
  at p = stage_from b c k pay u o p

  -- One position of the order: the state there is removed, or nothing changes.
  turn : (p : ℕ) (P : (ℕ → Type 0) → Table → Type 0)
      → ((Q Q' : ℕ → Type 0) (t : Table) → ((i : ℕ) → Q i → Q' i) → ((i : ℕ) → Q' i → Q i) → P Q t → P Q' t)
      → (leaving c k o p ≡ true → P (λ i. StageKept c k o p i × (i ≡ get_or o p 0 → ⊥)) (removed b c.states (get_or o p 0) (at p)))
      → P (StageKept c k o p) (at p)
      → P (StageKept c k o (suc p)) (at (suc p))
  unfolding after StageKept
  turn p P move leave stay = go (leaving c k o p) refl
    where
      go : (g : Bool) → leaving c k o p ≡ g → P (λ i. StageKept c k o p i × (leaving c k o p ≡ true → i ≡ get_or o p 0 → ⊥))
          (choose g (removed b c.states (get_or o p 0) (at p)) (at p))
      go true e =
          move _ _ _
          (λ i q. (q.0, λ _. q.1))
          (λ i q. (q.0, q.1 e))
          (leave e)
      go false e =
          move _ _ _
          (λ i q. (q, λ f. absurd (let z : ◌≡◌ {A = ℕ} 0 1 = cc in omega arith)))
          (λ i q. q.0)
          stay

  module _ (start : Sound b c.states (StageKept c k o 0) (at 0)) where
    pub sound_stage : (p : ℕ) → p ≤ c.states → Sound b c.states (StageKept c k o p) (at p)
    sound_stage zero h = start
    sound_stage (suc p) h =
        let s = sound_stage p (omega arith) in
        turn p (Sound b c.states) (λ Q Q' t f g x. sound_map b c.states Q Q' t f g x)
        (λ _. sound_removed b c.states (get_or o p 0) (at p) (StageKept c k o p) s (sorted p (omega arith)))
        s

    -- At every stage every kept state has weight outside its own loop.
    pub loose_stage : (p : ℕ) → p ≤ c.states → (i : ℕ) → StageKept c k o p i → 0 < outside c.states i (row (at p) i)
    loose_stage p h = sound_loose b c.states (StageKept c k o p) (at p) (sound_stage p h)

    pub steady_stage : (R : ℕ → Row → Type 0) → Steady b c.states R → ((i : ℕ) → StageKept c k o 0 i → R i (row (at 0) i))
        → (p : ℕ) → p ≤ c.states → (i : ℕ) → StageKept c k o p i → R i (row (at p) i)
    steady_stage R steady a zero h = a
    steady_stage R steady a (suc p) h =
        let s = sound_stage p (omega arith) in
        let x = steady_stage R steady a p (omega arith) in
        turn p (λ Q t. (i : ℕ) → Q i → R i (row t i)) (λ Q Q' t f g y i q. y i (g i q))
        (λ _. steady_removed b c.states (get_or o p 0) (at p) (StageKept c k o p) s (sorted p (omega arith)) R steady x)
        x

-- The start is never removed, and at the end only the start is left.
module _ (c : Chain) (k : Sets) (o : List ℕ) where
  pub kept_start : c.start < c.states → bit k.live c.start ≡ 1 → (p : ℕ) → StageKept c k o p c.start
  unfolding StageKept
  kept_start h l zero = (h, l)
  kept_start h l (suc p) = (
    kept_start h l p,
    λ g e.
        let z : leaving c k o p ≡ false = rw (eq-eqb (get_or o p 0) c.start (sym e)) in
        absurd (let y : ◌≡◌ {A = ℕ} 0 1 = cc in omega arith),
  )

  kept_live : (p i : ℕ) → StageKept c k o p i → bit k.live i ≡ 1
  unfolding StageKept
  kept_live zero i q = q.1
  kept_live (suc p) i q = kept_live p i q.0

  kept_not : (p i q : ℕ) → StageKept c k o p i → q < p → get_or o q 0 ≡ i → i ≡ c.start
  unfolding StageKept
  kept_not zero i q h l e = absurd (omega arith)
  kept_not (suc p) i q h l e =
      ⊎_elim
      (λ (a : q ≡ p).
      ⊎_elim
      (λ (s : i ≡ c.start). s)
      (λ (s : i ≡ c.start → ⊥).
      let f : get_or o p 0 ≡ i = rw (← a) e in
      let g : leaving c k o p ≡ true =
      rw (f, ne_eqb i c.start s, kept_live p i h.0) in
      absurd (h.1 g (sym f)))
      (same i c.start))
      (λ (a : q ≡ p → ⊥). kept_not p i q h.0 (omega arith) e)
      (same q p)

  pub only_start : ((i : ℕ) → i < c.states → (q : ℕ) × (q < c.states) × (get_or o q 0 ≡ i)) → (i : ℕ) → i < c.states
      → StageKept c k o c.states i → i ≡ c.start
  only_start all i h q = let a = all i h in kept_not c.states i a.0 q a.1 a.2

  -- A state is kept until its turn.
  pub kept_turn : (p : ℕ) → get_or o p 0 < c.states → ((q : ℕ) → q < p → get_or o q 0 ≡ get_or o p 0 → ⊥) → bit k.live (get_or o p 0) ≡ 1
      → StageKept c k o p (get_or o p 0)
  unfolding StageKept
  kept_turn p h new live = go p (omega arith)
    where
      go : (q : ℕ) → q ≤ p → StageKept c k o q (get_or o p 0)
      go zero l = (h, live)
      go (suc q) l = (go q (omega arith), λ _ e. new q (omega arith) (sym e))
