-- What the looking has cleared makes a file, and the file is the front of the buffer.
use Prim.Native.Nat.{ℕ, ◌+◌, ◌*◌, ◌-◌, ◌≤◌, ◌<◌}
use mathlib.Core.Path.{◌≡◌, refl, sym, ap, ◌∙◌}
use mathlib.Core.Logic.{⊎_elim}
use mathlib.Core.List.{List, ◌++◌}
use native.Mathlib.Omega.{arith}
use lib.ListN.{length, get_or, take, drop, length-take, length-drop, take-append-drop, get_or-eq_default}
use lib.Seq.{ext_get_or, length-take-le, get_or-take, get_or-drop}
use Rattle.meaning.specs.Number.{filled}
use Rattle.meaning.specs.Chain.{edge_size}
use Rattle.meaning.specs.Refusal.{Lent, WellFormed}
use Rattle.meaning.specs.Block.{block_at}
use Rattle.meaning.specs.Write.{Bytes, filing}
use Rattle.theory.specs.Numbers.Sum.{below}
use Rattle.theory.specs.Outcomes.Formed.{
  some_states,
  few_states,
  denominators_length,
  denominator_small,
  edges_whole,
  few_edges,
  some_edges,
  from_in_lem,
  to_in_lem,
  weight_small,
  start_in,
  goals_in_lem,
  order_length,
  order_in_lem,
  rewards_length,
  reward_small,
  edge_reward_small,
}
use Rattle.chainwriter.specs.Packed.{Fitting}
use Rattle.chainwriter.specs.Made.{Block, Filed}
use Rattle.chainwriter.proofs.Making.{stays}

-- What the looking has cleared makes a file. The buffer does not count.
module _ (l : Lent) (formed : WellFormed filing l) (w : List ℕ) where
  past : (t : List ℕ) (i : ℕ) {most : ℕ} → 0 < most → (i < length t → get_or t i 0 < most) → get_or t i 0 < most
  past t i some h =
      ⊎_elim (λ (k : i < length t). h k) (λ (k : length t ≤ i). rw (get_or-eq_default t 0 {n = i} k) some) (below i (length t))

  pub fitting : Fitting (record { chain = l.chain; order = l.order; rewards = l.rewards; work = w; list = l.list })
  fitting =
      let n = few_states filing l formed in
      let d = denominators_length filing l formed in
      let o = order_length filing l formed refl in
      let r = rewards_length filing l formed refl in
      let full = edges_whole filing l formed in
      record {
        some_states = some_states filing l formed;
        states = n;
        start = omega (arith, start_in filing l formed);
        goals = goals_in_lem filing l formed;
        some_edges = some_edges filing l formed;
        edges = few_edges filing l formed;
        edges_whole = full;
        denominators_length = d;
        order_length = o;
        rewards_length = r;
        denominators = λ i. past l.chain.denominators i (omega arith) (λ k. omega (arith, denominator_small filing l formed i (omega arith)));
        order = λ i. past l.order i (omega arith) (λ k. omega (arith, order_in_lem filing l formed refl i (omega arith)));
        rewards = λ i. past l.rewards i (omega arith) (λ k. omega (arith, reward_small filing l formed refl i (omega arith)));
        from = λ e. past l.chain.edges (edge_size * e) (omega arith) (λ k. omega (arith, from_in_lem filing l formed e (omega arith)));
        to = λ e. past l.chain.edges (edge_size * e + 1) (omega arith) (λ k. omega (arith, to_in_lem filing l formed e (omega arith)));
        weight = λ e. past l.chain.edges (edge_size * e + 2) (omega arith) (λ k. omega (arith, weight_small filing l formed e (omega arith)));
        edge_rewards_lem = λ e.
            past l.chain.edges (edge_size * e + 3) (omega arith) (λ k. omega (arith, edge_reward_small filing l formed refl e (omega arith)));
      }

-- The file is the front of the buffer, and the rest of the buffer is as it was.
module _ {l : Lent} {before after : List ℕ} {total : ℕ} (f : Filed l before total after) (room : block_at total ≤ length before) where
  pub front_size : length (take (block_at total) after) ≡ block_at total
  front_size = length-take-le (block_at total) after (omega (arith, f.outside.size))

  pub front_block : (b : ℕ) → b < total → Block l (take (block_at total) after) b
  front_block b h = stays b (f.blocks b h) (λ j k. get_or-take (block_at total) after j 0 (omega arith))

  pub front_filled : after ≡ filled (take (block_at total) after) before
  front_filled =
      sym (take-append-drop (block_at total) after)
      ∙ ap (λ t. take (block_at total) after ++ t)
      (ext_get_or 0 (drop (block_at total) after) (drop (block_at total) before)
      (length-drop (block_at total) after ∙ ap (λ n. n - block_at total) f.outside.size ∙ sym (length-drop (block_at total) before))
      (λ j h.
      get_or-drop (block_at total) after j 0 ∙ f.outside.over (block_at total + j) (omega arith) ∙ sym (get_or-drop (block_at total) before j 0)))
      ∙ ap (λ n. take (block_at total) after ++ drop n before) (sym front_size)

-- Bytes, of a part too.
pub front_bytes : (n : ℕ) (s : List ℕ) → Bytes s → Bytes (take n s)
front_bytes n s h j =
    ⊎_elim (λ (k : j < n). rw (get_or-take n s j 0 k) (h j))
    (λ (k : n ≤ j). rw (get_or-eq_default (take n s) 0 {n = j} (omega (arith, length-take n s))) (omega arith))
    (below j n)
