-- The file of a plan: the writer never refuses it, and the exact chance that is asked of it is the plan's.
use Rattle.std.specs.Prelude.{ℕ, ◌+◌, ◌*◌, ◌≤◌, ◌≡◌, refl, List, length, take}
use Rattle.std.proofs.Common.{ap, ◌∙◌, arith}
use Rattle.std.proofs.lemmas.List.{length-replicate}
use Rattle.meaning.specs.Chain.{edge_count}
use Rattle.meaning.specs.Block.{blocks_of}
use Rattle.meaning.specs.Refusal.{Lent, own_work, WellFormed}
use Rattle.meaning.specs.Buffer.{Writing}
use Rattle.meaning.specs.Write.{FileOf, file_size, filing, WriteOutcome}
use Rattle.meaning.specs.Call.{AsksExact, answer_length, answer_number, CallOutcome}
use Rattle.meaning.specs.Copies.{most_copies, Plan, Sensible, copies_states, copies_edges, copies_chain, copies_order, copies_lent, no_rewards}
use Rattle.theory.specs.Numbers.Tab.{get_d_zeros}
use Rattle.theory.specs.Files.Written.{formed_written, written_inside, read_back, file_of_same}
use Rattle.theory.specs.Files.CallFile.{Exactly, call_exactly}
use Rattle.theory.specs.Plans.Kinds.{copies_count_lem}
use Rattle.theory.specs.Plans.Formed.{in_range_lem, copies_formed, copies_plain}

-- How long the longest file of a plan is.
abbrev pub copies_room : ℕ
copies_room = file_size (most_copies + 2) (3 * most_copies + 1)

-- What the file of a plan is of.
abbrev pub copies_filed : Plan → Lent
copies_filed j = own_work (copies_chain j) (copies_order j) (no_rewards j)

module _ {j : Plan} (sensible : Sensible j) where
  -- The writer, lent the plan's tables and room enough.
  module _ {l : Lent} (chain_is : l.chain ≡ copies_chain j) (order_is : l.order ≡ copies_order j) (rewards_are : l.rewards ≡ no_rewards j)
      (room : copies_room ≤ length l.work)
    where
      formed : WellFormed filing l
      formed =
          let few = (in_range_lem sensible).few in
          let states : blocks_of (copies_states j) ≤ 1 = omega arith in
          let edges : blocks_of (edge_count (copies_edges j)) ≤ 2 = omega (arith, copies_count_lem j) in
          copies_formed sensible
          (record {
            chain_is = chain_is;
            order_is = order_is;
            asks_order = refl;
            whole = refl;
            rewards_length = ap length rewards_are ∙ length-replicate (copies_states j) 0;
            rewards_none = λ i. rw rewards_are (get_d_zeros (copies_states j) i);
            few = omega arith;
            room = omega arith;
            list_room = omega arith;
          })

      pub plan_filed : {a : Writing} {after : List ℕ} → WriteOutcome l a after
          → FileOf (copies_filed j) (take a.written after) × (a.written ≤ length after)
      plan_filed o =
          let x = read_back o (formed_written o formed) in
          (file_of_same chain_is order_is rewards_are x.0, written_inside o)

  -- The call, in a mode that asks for the exact chance.
  module _ {file before after : List ℕ} {mode returned : ℕ} (exact : AsksExact mode) (x : FileOf (copies_filed j) file)
      (room : answer_length ≤ length before) (o : CallOutcome file mode before returned after)
    where
      -- It returns 0 and the plan's chance, or 12.
      pub plan_asked : Exactly (copies_lent j) returned (answer_number after 0) (answer_number after 1)
      plan_asked = call_exactly exact x (copies_plain sensible) room o
