-- The text form of chain files: the text of a chain with its tables; and what is read from a text that people write.
use Rattle.std.specs.Prelude.{ℕ, suc, ◌^◌, ◌≤◌, ◌<◌, ◌≡◌, Bool, true, List, [], ◌∷◌, ◌++◌, length, get_or, take, eqb}
use Rattle.meaning.specs.Number.{choose, bit, tab_from}
use Rattle.meaning.specs.Chain.{most_reward, denominator, edge_count, from, to, weight, edge_reward}
use Rattle.meaning.specs.Refusal.{Lent, Misshaped}
use Rattle.meaning.specs.Write.{filing}
use Rattle.meaning.specs.Text.{bytes_of}
use Rattle.meaning.specs.Report.{named_text}

-- The line of a state, as `state 5 denominator 8 reward 0`, and ` goal` after it where it is one.
abbrev pub state_line : ℕ → ℕ → ℕ → Bool → List ℕ
state_line state denominator reward goal =
    named_text (bytes_of "state ") state
    ++ named_text (bytes_of " denominator ") denominator
    ++ named_text (bytes_of " reward ") reward
    ++ choose goal (bytes_of " goal") []

-- The line of an edge, as `edge 0 5 weight 7 reward 0`.
abbrev pub edge_line : ℕ → ℕ → ℕ → ℕ → List ℕ
edge_line source target weight reward =
    named_text (bytes_of "edge ") source
    ++ named_text (bytes_of " ") target
    ++ named_text (bytes_of " weight ") weight
    ++ named_text (bytes_of " reward ") reward

-- Numbers, each after a space.
unfoldable pub spaced : List ℕ → List ℕ
spaced [] = []
spaced (x ∷ xs) = named_text (bytes_of " ") x ++ spaced xs

-- The line of the order, as `order 0 2 1`.
abbrev pub order_line : List ℕ → List ℕ
order_line order = bytes_of "order" ++ spaced order

-- Of a chain with its order and its rewards: whether state i is a goal, the lines of state i and of edge e, and all the lines, without their ends.
abbrev pub goal_at : Lent → ℕ → Bool
goal_at l i = eqb (bit l.chain.goals i) 1

abbrev pub state_line_of : Lent → ℕ → List ℕ
state_line_of l i = state_line i (denominator l.chain i) (get_or l.rewards i 0) (goal_at l i)

abbrev pub edge_line_of : Lent → ℕ → List ℕ
edge_line_of l e = let es = l.chain.edges in edge_line (from es e) (to es e) (weight es e) (edge_reward es e)

abbrev pub chain_lines : Lent → List (List ℕ)
chain_lines l =
    let n = l.chain.states in
    let edges = edge_count l.chain.edges in
    named_text (bytes_of "states ") n
    ∷ named_text (bytes_of "edges ") edges
    ∷ named_text (bytes_of "start ") l.chain.start
    ∷ (tab_from 0 n (state_line_of l) ++ (order_line l.order ∷ tab_from 0 edges (edge_line_of l)))

-- A text of lines, each with its end.
unfoldable pub text_of : List (List ℕ) → List ℕ
text_of [] = []
text_of (line ∷ lines) = line ++ bytes_of "\n" ++ text_of lines

abbrev pub chain_text : Lent → List ℕ
chain_text l = text_of (chain_lines l)

-- What a chain file can hold: the tables have the right lengths, and each number is in the range of its field.
pub record Storable (l : Lent) : Type 0 where
  pub shape : Misshaped filing l.chain.states (length l.chain.denominators) (length l.chain.edges) (length l.order) (length l.rewards)
      → ⊥
  pub start : l.chain.start < 256
  pub goals : l.chain.goals < 2 ^ l.chain.states
  pub denominators : (i : ℕ) → denominator l.chain i < 2 ^ 32
  pub order : (p : ℕ) → get_or l.order p 0 < 256
  pub rewards : (i : ℕ) → get_or l.rewards i 0 ≤ most_reward
  pub sources : (e : ℕ) → from l.chain.edges e < 256
  pub targets : (e : ℕ) → to l.chain.edges e < 256
  pub weights : (e : ℕ) → weight l.chain.edges e < 2 ^ 32
  pub edge_rewards : (e : ℕ) → edge_reward l.chain.edges e ≤ most_reward

-- The newline, and the sign that begins a comment.
abbrev pub newline : ℕ
newline = 10

abbrev pub comment : ℕ
comment = 35

-- A text with no newline.
pub record OneLine (line : List ℕ) : Type 0 where
  pub unbroken : (j : ℕ) → get_or line j 0 ≡ newline → ⊥

-- The lines of a text, as editors show them: what stands after the last newline is a line unless it is empty.
pub data LinesOf : List ℕ → List (List ℕ) → Type 0 where
  none : LinesOf [] []
  unended : (byte : ℕ) (line : List ℕ) → OneLine (byte ∷ line) → LinesOf (byte ∷ line) ((byte ∷ line) ∷ [])
  ended : (line text : List ℕ) (lines : List (List ℕ)) → OneLine line → LinesOf text lines
      → LinesOf (line ++ bytes_of "\n" ++ text) (line ∷ lines)

-- Empty lines and comments are passed over.
abbrev pub passed : List ℕ → Bool
passed [] = true
passed (byte ∷ line) = eqb byte comment

unfoldable pub said : List (List ℕ) → List (List ℕ)
said [] = []
said (line ∷ lines) = choose (passed line) (said lines) (line ∷ said lines)

-- Some chain's lines begin with these.
abbrev pub Begins : List (List ℕ) → Type 0
Begins lines = (l : Lent) × (rest : List (List ℕ)) × Storable l × (chain_lines l ≡ lines ++ rest)

-- 40, with the number of the first line, counted from 1, up to which no chain's lines begin so; or with the number after the last line, where
-- lines are missing.
pub data TextRefused (text : List ℕ) : ℕ → Type 0 where
  line_wrong : (lines : List (List ℕ)) (p : ℕ) → LinesOf text lines → p < length lines → Begins (said (take p lines))
      → (Begins (said (take (suc p) lines)) → ⊥) → TextRefused text (suc p)
  line_missing : (lines : List (List ℕ)) → LinesOf text lines → Begins (said lines)
      → ((l : Lent) → Storable l → chain_lines l ≡ said lines → ⊥) → TextRefused text (suc (length lines))

-- A text of a chain with its tables: their lines, among comments and empty lines.
pub record TextSays (text : List ℕ) (l : Lent) : Type 0 where
  pub lines : List (List ℕ)
  pub split : LinesOf text lines
  pub storable : Storable l
  pub says : chain_lines l ≡ said lines
