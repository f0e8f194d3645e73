use Rattle.std.proofs.Common.{◌+◌, ◌*◌, ◌≤◌, ◌≡◌, [], refl, sym, ap, ◌∙◌, length, arith}
use Rattle.meaning.specs.Chain.{edge_count}
use Rattle.meaning.specs.Refusal.{WellFormed}
use Rattle.meaning.specs.Block.{block_size, block_at, blocks_of}
use Rattle.meaning.specs.Buffer.{writing}
use Rattle.meaning.specs.Write.{filing, WriteOutcome}
use Rattle.theory.specs.Outcomes.Formed.{few_states, few_edges, room}
use Rattle.chain.specs.Given.{with}
use Rattle.look.proofs.Refuse.{handed, refusing, clear}
use Rattle.chainwriter.specs.Tells.{told}
use Rattle.chainwriter.proofs.Filing.{file_of}
use Rattle.chainwriter.proofs.Cleared.{fitting, front_size, front_block, front_filled, front_bytes}
use Rattle.chainwriter.proofs.write.Goals as goal
use Rattle.chainwriter.proofs.write.Goals.{After-total-total, In_ok-look}

cleared : (c : In_ok-look) → let a = c.args in WellFormed filing (with a.g.now a.order.now a.rewards.now a.buffer.now)
cleared c = clear (c.in_ok-look.ensures _ refl) refl

-- The buffer has room for all blocks.
long : (c : After-total-total) → let a = c.args in WellFormed filing (with a.g.now a.order.now a.rewards.now a.buffer.now) → block_at c.total-total.result ≤ length a.buffer.now
long c f = omega (arith, c.total-total.ensures.0, c.count.ensures, room filing _ f)

pub returns-in_err-look : goal.returns-in_err-look
returns-in_err-look c =
    let a = c.args in
    let l = with a.g.now a.order.now a.rewards.now a.buffer.now in
    handed (λ f. WriteOutcome l (told f) a.buffer.now) c.from_residual.result _ c.from_residual.ensures.1
    (WriteOutcome.refused _ _ (refusing (c.in_err-look.ensures _ refl) refl) refl refl)

pub total-total-requires : goal.total-total-requires
total-total-requires c =
    let f = cleared (goal.at.total-total-requires c).In_ok-look in (few_states filing _ f, omega (arith, c.count.ensures, few_edges filing _ f))

pub invariant_of-source : goal.invariant_of-source
invariant_of-source c = record { fitting = fitting _ (cleared (goal.at.invariant_of-source c).In_ok-look) [] }

pub blocks-requires : goal.blocks-requires
blocks-requires c =
    let here = goal.at.blocks-requires c in (c.total-total.ensures.1, long here.After-total-total (cleared here.In_ok-look))

pub returns : goal.returns
returns c =
    let here = goal.at.returns c in
    let a = c.args in
    let clear = cleared here.In_ok-look in
    let room = long here.After-total-total clear in
    let f = c.blocks-2.ensures in
    let size = front_size f room in
    let t = with a.g.now a.order.now a.rewards.now a.buffer.now in
    let e : c.total-total.result ≡ 1 + blocks_of t.chain.states + blocks_of (edge_count t.chain.edges) =
    c.total-total.ensures.0 ∙ ap (λ z. 1 + blocks_of t.chain.states + blocks_of z) c.count.ensures in
    let file =
    file_of (with a.g.now a.order.now a.rewards.now []) _ (fitting t clear [])
    (λ b h. front_block f room b (omega (arith, e)))
    (front_bytes (block_at c.total-total.result) c.blocks-2.new.buffer (λ j. omega (arith, c.type_inv.buffer j)))
    (size ∙ ap (λ z. block_size * z) e) in
    WriteOutcome.written clear _
    (record { bytes = file.bytes; version = file.version; accepted = file.accepted; chain = file.chain; order = file.order; rewards = file.rewards })
    (ap writing (sym size)) (front_filled f room)
