-- The walk through the order, on a table of words.
use Rattle.std.specs.Prelude.{◌≡◌, ℕ, ◌*◌, ◌<◌, ◌≤◌, Bool, true, false, List}
use Rattle.meaning.specs.Chain.{M, Chain, denominator}
use Rattle.meaning.specs.Step.{Sets}
use Rattle.meaning.specs.Near.{near_stage, rows_made}
use Rattle.theory.specs.Stages.Last.{Prepared}
use Rattle.chain.specs.declared.Chain.{Chain as Frame}
use Rattle.survey.specs.Sets.{chain_of}
use Rattle.elimination.specs.Table.{Kept}
use Rattle.near.specs.Step.{RemovedWords}
use Rattle.near.specs.Table.{Worded}

-- A turn: the state is removed where it goes, and else nothing changes.
pub record Turned (n : ℕ) (go : Bool) (s : ℕ) (w v : List ℕ) (rows : ℕ) : Type 0 where
  pub kept : Kept n w v
  pub few : rows ≤ n
  pub gone : go ≡ true → RemovedWords n s w v rows
  pub stays : go ≡ false → (v ≡ w) × (rows ≡ 0)

-- What the laws of a stage ask of a chain.
pub record Walkable (c : Chain) (k : Sets) (o : List ℕ) : Type 0 where
  pub ready : Prepared c k o
  pub few : c.states ≤ 64
  pub small : (i : ℕ) → i < c.states → denominator c i ≤ M

abbrev pub sets : ℕ → ℕ → Sets
sets good live = record { good = good; live = live }

-- After p positions: where the table stood for a chain's first rows, it stands for its rows after p positions, and so many rows were made anew.
pub record Walked (c : Frame) (live : ℕ) (o : List ℕ) (p : ℕ) (w v : List ℕ) (rows : ℕ) : Type 0 where
  pub so_far : p ≤ c.states
  pub kept : Kept c.states w v
  pub few : rows ≤ p * c.states
  pub worded : (denominators edges : List ℕ) (good : ℕ)
      → let m = chain_of c denominators edges in
      let k = sets good live in
      Walkable m k o → Worded c.states 0 (near_stage m k o 0) w → Worded c.states p (near_stage m k o p) v × (rows ≡ rows_made m k o p)
