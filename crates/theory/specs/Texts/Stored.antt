-- The tables of an accepted file are such as a chain file can hold, so what is shown of it is read back as the same.
use Rattle.std.specs.Prelude.{ℕ, ◌+◌, ◌*◌, ◌^◌, ◌≤◌, ◌<◌, get_or}
use Rattle.std.proofs.Common.{arith, ⊎_elim}
use Rattle.std.proofs.Math.Numerals.{unary_clauses}
use Rattle.meaning.specs.Number.{tab_from}
use Rattle.meaning.specs.Chain.{edge_size, edge_number}
use Rattle.meaning.specs.Block.{
  Input,
  byte,
  number_at,
  head_states,
  head_edges,
  state_at,
  denominator_in,
  reward_in,
  flag_in,
  order_byte,
  order_in,
  edge_at,
  edge_reward_byte,
  weight_byte,
}
use Rattle.meaning.specs.File.{Accepted, goals_in, edge_in, edges_in, paid_in}
use Rattle.meaning.specs.Write.{Bytes, filing}
use Rattle.meaning.specs.ChainText.{chain_text, Storable, TextSays}
use Rattle.theory.specs.Numbers.Sum.{below}
use Rattle.theory.specs.Numbers.Tab.{tab_at, tab_past, tab_length}
use Rattle.theory.specs.Numbers.Digits.{digits_below}
use Rattle.theory.specs.Files.Right.{bounded, flag_low}
use Rattle.theory.specs.Files.Alike.{edge_at_lem}
use Rattle.theory.specs.Files.Written.{shaped}
use Rattle.theory.specs.Texts.Shown.{shown_says}

-- The entries of a table, and what is read past them.
tab_under : (n : ℕ) (g : ℕ → ℕ) (most : ℕ) → 0 < most → (j : ℕ) → (j < n → g j < most) → get_or (tab_from 0 n g) j 0 < most
tab_under n g most some j h =
    ⊎_elim
    (λ (l : j < n). omega (arith, h l, tab_at n g 0 j l))
    (λ (l : n ≤ j). omega (arith, tab_past 0 n g 0 j l))
    (below j n)

module _ {f : Input} (bytes : Bytes f.kept) (taken : Accepted f) where
  number_under : (at width : ℕ) → number_at f at width < 256 ^ width
  number_under at width = digits_below 256 (λ i. byte f (at + i)) width (λ i _. bytes (at + i))

  goals_under : goals_in f < 2 ^ head_states f
  goals_under = digits_below 2 (flag_in f) (head_states f) (λ i h. let e = flag_low f taken i h in omega arith)

  -- Number t of edge e.
  edge_under : (most e t : ℕ) → 0 < most → t < edge_size → get_or (edge_in f e) t 0 < most → get_or (edges_in f) (edge_size * e + t) 0 < most
  edge_under most e t some h k =
      tab_under (edge_size * head_edges f) (edge_number (edge_in f)) most some (edge_size * e + t) (λ _. omega (arith, edge_at_lem (edge_in f) e t h))

  pub accepted_storable : Storable (paid_in f)
  accepted_storable =
      let n = head_states f in
      record {
        shape = shaped (bounded f (taken.blocks 0 (omega arith))) filing (omega arith) (tab_length 0 n (order_in f)) (tab_length 0 n (reward_in f));
        start = bytes _;
        goals = goals_under;
        denominators = λ i. tab_under n (denominator_in f) (2 ^ 32) (omega arith) i (λ _. number_under (state_at i) 4);
        order = λ p. tab_under n (order_in f) 256 (omega arith) p (λ _. bytes (state_at p + order_byte));
        rewards = λ i. let h = tab_under n (reward_in f) 65536 (omega arith) i (λ _. number_under (state_at i + 4) 2) in omega arith;
        sources = λ e. simp unary_clauses at (edge_under 256 e 0 (omega arith) (omega arith) (bytes (edge_at f e)));
        targets = λ e. edge_under 256 e 1 (omega arith) (omega arith) (bytes (edge_at f e + 1));
        weights = λ e. edge_under (2 ^ 32) e 2 (omega arith) (omega arith) (number_under (edge_at f e + weight_byte) 4);
        edge_rewards = λ e. let h = edge_under 65536 e 3 (omega arith) (omega arith) (number_under (edge_at f e + edge_reward_byte) 2) in omega arith;
      }

  -- Every shown file reads back.
  pub shown_again : TextSays (chain_text (paid_in f)) (paid_in f)
  shown_again = shown_says accepted_storable
