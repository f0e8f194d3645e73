-- What is read from a text.
use Rattle.std.specs.Prelude.{ℕ, ◌+◌, ◌≡◌, List, [], ◌∷◌, ◌++◌, ltb, Option, Some, None, Result, Ok, Err}
use Rattle.meaning.specs.Number.{choose}
use Rattle.meaning.specs.File.{Tables}
use Rattle.meaning.specs.ChainText.{said, Begins, TextRefused, TextSays}
use Rattle.chaintext.specs.Turns.{held_lent, Ready, so_far}
use Rattle.chaintext.specs.declared.turns.Turn.{Turn}
use Rattle.chaintext.specs.declared.turns.Turn.TheVariants.{States, Edges, Start, State, Edge}
use Rattle.chaintext.specs.declared.turns.Held.{Held}
use Rattle.chain.specs.declared.refusal.Fault.TheVariants as fault
use Rattle.chain.specs.declared.refusal.Refusal.{Refusal}

-- The line after so many is not there.
abbrev pub unfinished : ℕ → Result Held Refusal
unfinished number = Err (record { fault = fault.Line; place = number + 1 })

-- At the end of a text: all lines have come, or one is missing.
abbrev pub finished : Turn → Held → ℕ → Result Held Refusal
finished States h number = unfinished number
finished Edges h number = unfinished number
finished Start h number = unfinished number
finished (State i) h number = unfinished number
finished (Edge e) h number = choose (ltb e h.edges) (unfinished number) (Ok h)

-- A line is passed over or added, or no chain's lines begin so.
pub record Passed (turn : Turn) (h : Held) (t : Tables) (line : List ℕ) (turn' : Turn) (h' : Held) (t' : Tables) : Type 0 where
  pub ready : Ready turn' h' t'
  pub lines : so_far turn' (held_lent h' t') ≡ so_far turn (held_lent h t) ++ said (line ∷ [])

abbrev pub passed_as : Turn → Held → Tables → List ℕ → Tables → Option (Turn × Held) → Type 0
passed_as turn h t line t' (Some p) = Passed turn h t line p.0 p.1 t'
passed_as turn h t line t' None = Begins (so_far turn (held_lent h t) ++ said (line ∷ [])) → ⊥

pub record PassedAs (turn : Turn) (h : Held) (t : Tables) (line : List ℕ) (t' : Tables) (r : Option (Turn × Held)) : Type 0 where
  pub told : passed_as turn h t line t' r

-- The text says what is held with the tables, or it is refused.
pub record Held-says (text : List ℕ) (t : Tables) (h : Held) : Type 0 where
  pub ready : Ready (Edge h.edges) h t
  pub says : TextSays text (held_lent h t)

abbrev pub read_as : List ℕ → Tables → Result Held Refusal → Type 0
read_as text t (Ok h) = Held-says text t h
read_as text t (Err r) = (r.fault ≡ fault.Line) × TextRefused text r.place

pub record ReadAs (text : List ℕ) (t : Tables) (r : Result Held Refusal) : Type 0 where
  pub told : read_as text t r
