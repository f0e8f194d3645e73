-- How long the text of a chain is that a file can hold, and how many lines a text has.
use Rattle.std.specs.Prelude.{ℕ, zero, suc, ◌+◌, ◌*◌, ◌^◌, ◌≤◌, ◌<◌, ◌≡◌, Bool, true, false, List, [], ◌∷◌, ◌++◌, length, get_or}
use native.Mathlib.Omega.{arith}
use Rattle.std.proofs.Common.{⊎_elim, length-append}
use Rattle.meaning.specs.Number.{choose, tab_from}
use Rattle.meaning.specs.Chain.{most_states, most_edges, most_reward, edge_count}
use Rattle.meaning.specs.Refusal.{Lent, Misshaped}
use Rattle.meaning.specs.Text.{bytes_of}
use Rattle.meaning.specs.ChainText.{
  state_line,
  edge_line,
  spaced,
  goal_at,
  state_line_of,
  edge_line_of,
  chain_text,
  text_of,
  Storable,
  LinesOf,
  none,
  unended,
  ended,
  TextRefused,
  line_wrong,
  line_missing,
}
use Rattle.theory.specs.Numbers.Sum.{below}
use Rattle.theory.specs.Numbers.Decimal.{digits}
use Rattle.theory.specs.Texts.ChainOne.{order_length}

goal_short : (goal : Bool) → length (choose goal (bytes_of " goal") []) ≤ 5
goal_short true = omega arith
goal_short false = omega arith

state_short : (i d r : ℕ) (goal : Bool) → i < most_states → d < 2 ^ 32 → r ≤ most_reward → length (state_line i d r goal) ≤ 49
state_short i d r goal a b c =
    simp length-append (omega (arith, goal_short goal, digits 1 i (omega arith), digits 9 d (omega arith), digits 4 r (omega arith)))

edge_short : (a b w r : ℕ) → a < 256 → b < 256 → w < 2 ^ 32 → r ≤ most_reward → length (edge_line a b w r) ≤ 43
edge_short a b w r ha hb hw hr =
    simp length-append (omega (arith, digits 2 a (omega arith), digits 2 b (omega arith), digits 9 w (omega arith), digits 4 r (omega arith)))

spaced_short : (xs : List ℕ) → ((p : ℕ) → get_or xs p 0 < 256) → length (spaced xs) ≤ length xs * 4
unfolding spaced
spaced_short [] h = omega arith
spaced_short (x ∷ xs) h = simp length-append (omega (arith, digits 2 x (omega (arith, h 0)), spaced_short xs (λ p. h (suc p))))

-- Lines of a table, each with its end.
tab_short : (most i n : ℕ) (f : ℕ → List ℕ) → ((j : ℕ) → j < i + n → length (f j) ≤ most) → length (text_of (tab_from i n f)) ≤ n * suc most
unfolding text_of tab_from
tab_short most i zero f h = omega arith
tab_short most i (suc n) f h =
    simp length-append (omega (arith, h i (omega arith), tab_short most (suc i) n f (λ j l. h j (omega arith))))

text_parts : (ls ms : List (List ℕ)) → length (text_of (ls ++ ms)) ≡ length (text_of ls) + length (text_of ms)
unfolding text_of
text_parts [] ms = omega arith
text_parts (l ∷ ls) ms = simp length-append (omega (arith, text_parts ls ms))

module _ {l : Lent} (s : Storable l) where
  pub few_states : l.chain.states ≤ most_states
  few_states =
      ⊎_elim (λ (h : most_states < l.chain.states). absurd (s.shape (Misshaped.many_states h))) (λ h. h) (below most_states l.chain.states)

  pub few_edges : edge_count l.chain.edges ≤ most_edges
  few_edges =
      ⊎_elim
      (λ (h : most_edges < edge_count l.chain.edges). absurd (s.shape (Misshaped.many_edges h)))
      (λ h. h)
      (below most_edges (edge_count l.chain.edges))

  -- No text without comments is longer.
  pub text_short : length (chain_text l) ≤ 183717
  unfolding text_of
  text_short =
      let n = l.chain.states in
      let es = l.chain.edges in
      let states =
      tab_short 49 0 n (state_line_of l) (λ j h. state_short j _ _ (goal_at l j) (omega (arith, few_states)) (s.denominators j) (s.rewards j)) in
      let edges =
      tab_short 43 0 (edge_count es) (edge_line_of l) (λ e _. edge_short _ _ _ _ (s.sources e) (s.targets e) (s.weights e) (s.edge_rewards e)) in
      simp (length-append, text_parts)
      (omega (
        arith,
        few_states,
        few_edges,
        states,
        edges,
        spaced_short l.order s.order,
        order_length s,
        digits 1 n (omega (arith, few_states)),
        digits 3 (edge_count es) (omega (arith, few_edges)),
        digits 2 l.chain.start (omega (arith, s.start)),
      ))

-- A text has no more lines than bytes, so that a refusal's line is a small number.
lines_fewer : {text : List ℕ} {lines : List (List ℕ)} → LinesOf text lines → length lines ≤ length text
lines_fewer none = omega arith
lines_fewer (unended byte line h) = omega arith
lines_fewer (ended line text lines h r) = simp length-append (omega (arith, lines_fewer r))

pub refused_place : {text : List ℕ} {place : ℕ} → TextRefused text place → place ≤ suc (length text)
refused_place (line_wrong lines p r h b n) = omega (arith, lines_fewer r)
refused_place (line_missing lines r b n) = omega (arith, lines_fewer r)
