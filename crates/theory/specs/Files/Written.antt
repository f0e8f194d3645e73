-- What the writer promises: one answer and one buffer; the file is read back as what was lent; and a file of version 2 that is well formed is
-- written again byte for byte.
use Rattle.std.specs.Prelude.{ℕ, zero, suc, ◌*◌, ◌≤◌, ◌≡◌, refl, List, length, take, drop}
use Rattle.std.proofs.Common.{sym, ap, ap₂, subst, ◌∙◌, arith, length-append, take_at}
use Rattle.meaning.specs.Number.{only, filled}
use Rattle.meaning.specs.Chain.{Chain, edge_size, edge_count, edge_number}
use Rattle.meaning.specs.Refusal.{Lent, Entry, paid, Misshaped, Applies, WellFormed}
use Rattle.meaning.specs.Block.{Input, whole_file, second_version, version_in, head_states, head_edges, denominator_in, reward_in, order_in}
use Rattle.meaning.specs.File.{Accepted, edge_in, chain_in, orders_in, rewards_in, paid_in, Tables, Short, Reading, ReadOutcome}
use Rattle.meaning.specs.Buffer.{Writing, no_writing, writing}
use Rattle.meaning.specs.Write.{Bytes, FileOf, file_size, filing, WriteOutcome, refused, written}
use Rattle.theory.specs.Outcomes.Formed.{room_enough}
use Rattle.theory.specs.Numbers.Tab.{tab_length}
use Rattle.theory.specs.Outcomes.Determined.{refused_one}
use Rattle.theory.specs.Files.FileOne.{read_one}
use Rattle.theory.specs.Files.Right.{Bounded, bounded}
use Rattle.theory.specs.Files.Alike.{accepted_length, alike}

-- Two files of what is lent are equal, byte for byte.
pub file_of_one : {l : Lent} {a b : List ℕ} → FileOf l a → FileOf l b → a ≡ b
file_of_one {a = a} {b} x y =
    alike a b x.bytes y.bytes x.accepted y.accepted (x.chain ∙ sym y.chain) (x.order ∙ sym y.order)
    (x.rewards ∙ sym y.rewards) (x.version ∙ sym y.version)

-- How many edges a file's chain has.
edges_in_lem : (f : Input) → length (chain_in f).edges ≡ edge_size * head_edges f
edges_in_lem f = tab_length 0 (edge_size * head_edges f) (edge_number (edge_in f))

edges_of_lem : {l : Lent} {file : List ℕ} → FileOf l file → head_edges (whole_file file) ≡ edge_count l.chain.edges
edges_of_lem {l} {file} x =
    let e : length (chain_in (whole_file file)).edges ≡ length l.chain.edges = ap (λ (c : Chain). length c.edges) x.chain in
    omega (arith, edges_in_lem (whole_file file))

-- How long the file is.
pub file_of_size : {l : Lent} {file : List ℕ} → FileOf l file → length file ≡ file_size l.chain.states (edge_count l.chain.edges)
file_of_size x =
    accepted_length x.accepted ∙ ap₂ file_size (ap (λ (c : Chain). c.states) x.chain) (edges_of_lem x)

-- One answer, and one buffer.
pub write_one : {l : Lent} {a a' : Writing} {after after' : List ℕ} → WriteOutcome l a after → WriteOutcome l a' after'
    → (a ≡ a') × (after ≡ after')
write_one (refused n p r e k) (refused n' p' r' e' k') =
    let o = refused_one r r' in (e ∙ ap₂ no_writing o.0 o.1 ∙ sym e', k ∙ sym k')
write_one (refused n p r e k) (written w f x e' k') = absurd (w.none n p r.applies)
write_one (written w f x e k) (refused n p r e' k') = absurd (w.none n p r.applies)
write_one {l} (written w f x e k) (written w' f' x' e' k') =
    let o = file_of_one x x' in
    (e ∙ ap (λ f. writing (length f)) o ∙ sym e', k ∙ ap (λ f. filled f l.work) o ∙ sym k')

-- What is well formed is written.
pub formed_written : {l : Lent} {a : Writing} {after : List ℕ} → WriteOutcome l a after → WellFormed filing l → a.number ≡ 0
formed_written (refused n p r e k) w = absurd (w.none n p r.applies)
formed_written (written w f x e k) _ = ap (λ (a : Writing). a.number) e

-- The file is in the buffer.
pub written_inside : {l : Lent} {a : Writing} {after : List ℕ} → WriteOutcome l a after → a.written ≤ length after
written_inside (refused n p r e k) = let z = ap (λ (a : Writing). a.written) e in omega arith
written_inside {l} (written w f x e k) =
    let z = ap (λ (a : Writing). a.written) e in
    omega (arith, ap length k, length-append f (drop (length f) l.work))

-- A file is of the tables, whatever else is lent.
pub file_of_same : {l m : Lent} {file : List ℕ} → l.chain ≡ m.chain → l.order ≡ m.order → l.rewards ≡ m.rewards → FileOf l file → FileOf m file
file_of_same c o r x =
    record {
      bytes = x.bytes;
      version = x.version;
      accepted = x.accepted;
      chain = x.chain ∙ c;
      order = x.order ∙ o;
      rewards = x.rewards ∙ r;
    }

-- With number 0, what was written is a file of what is lent, and the buffer has kept its other bytes.
pub read_back : {l : Lent} {a : Writing} {after : List ℕ} → WriteOutcome l a after → a.number ≡ 0
    → FileOf l (take a.written after) × (after ≡ filled (take a.written after) l.work)
read_back {l} (refused n p r e k) z =
    absurd (subst (λ n. Applies filing l n p) (ap (λ (a : Writing). a.number) (sym e) ∙ z) r.applies)
read_back {l} {a} {after} (written w f x e k) z =
    let o : f ≡ take a.written after =
    sym (ap₂ take (ap (λ (a : Writing). a.written) e) k ∙ take_at f (drop (length f) l.work) (length f) refl) in
    (subst (FileOf l) o x, k ∙ ap (λ f. filled f l.work) o)

-- The tables that are read from it are those that were lent.
pub read_again : {l : Lent} {a : Writing} {after : List ℕ} {before filledTables : Tables} {r : Reading} → WriteOutcome l a after → a.number ≡ 0
    → (Short before → ⊥) → ReadOutcome (whole_file (take a.written after)) before r filledTables
    → (r ≡ record { number = 0; place = 0; states = l.chain.states; start = l.chain.start; goals = l.chain.goals; edges = edge_count l.chain.edges })
    × (filledTables
    ≡ record {
      denominators = filled l.chain.denominators before.denominators;
      edges = filled l.chain.edges before.edges;
      order = filled l.order before.order;
      rewards = filled l.rewards before.rewards;
    })
read_again {l} {before = before} o z long read =
    let x = (read_back o z).0 in
    let e = read_one read (ReadOutcome.accepted long x.accepted refl refl) in (
      e.0
          ∙ ap₂ (λ (c : Chain) n. record { number = 0; place = 0; states = c.states; start = c.start; goals = c.goals; edges = n }) x.chain (edges_of_lem x),
      e.1
          ∙ (λ i.
          record {
            denominators = filled (x.chain i).denominators before.denominators;
            edges = filled (x.chain i).edges before.edges;
            order = filled (x.order i) before.order;
            rewards = filled (x.rewards i) before.rewards;
          }),
    )

-- The chain of an accepted file never meets 1, whichever of its tables an entry is lent.
pub shaped : {f : Input} → Bounded f → (x : Entry) → x.fewest ≤ 1 → {order rewards : ℕ}
    → order ≡ only x.order (head_states f) → rewards ≡ only x.rewards (head_states f)
    → Misshaped x (head_states f) (length (chain_in f).denominators) (length (chain_in f).edges) order rewards → ⊥
shaped b x least o r (Misshaped.no_states h) = omega (arith, b.some_states)
shaped b x least o r (Misshaped.many_states h) = omega (arith, b.few_states)
shaped {f} b x least o r (Misshaped.denominators_length h) = h (tab_length 0 (head_states f) (denominator_in f))
shaped {f} b x least o r (Misshaped.edges_ragged h) = h (omega (arith, edges_in_lem f))
shaped {f} b x least o r (Misshaped.many_edges h) = omega (arith, b.few_edges, edges_in_lem f)
shaped {f} b x least o r (Misshaped.few_edges h) = omega (arith, b.some_edges, edges_in_lem f)
shaped b x least o r (Misshaped.order_length h) = h o
shaped b x least o r (Misshaped.rewards_length h) = h r

-- What the writer is lent to write a file's chain again.
abbrev pub again : List ℕ → List ℕ → Lent
again file buffer =
    let f = whole_file file in record { chain = chain_in f; order = orders_in f; rewards = rewards_in f; work = buffer; list = 0 }

module _ (file : List ℕ) (bytes : Bytes file) (second : version_in (whole_file file) 0 ≡ second_version) (taken : Accepted (whole_file file))
    (clear : (k p : ℕ) → 3 ≤ k → Applies paid (paid_in (whole_file file)) k p → ⊥) (buffer : List ℕ) (room : length file ≤ length buffer)
  where
    abbrev f : Input
    f = whole_file file

    same : FileOf (again file buffer) file
    same = record { bytes = bytes; version = second; accepted = taken; chain = refl; order = refl; rewards = refl }

    formed : WellFormed filing (again file buffer)
    formed = record { none = go }
      where
        go : (k p : ℕ) → Applies filing (again file buffer) k p → ⊥
        go zero p h = h
        go (suc zero) p h =
            let b = bounded f (taken.blocks 0 (omega arith)) in
            shaped b filing (omega arith) (tab_length 0 (head_states f) (order_in f)) (tab_length 0 (head_states f) (reward_in f)) h.1
        go (suc (suc zero)) p h = room_enough (omega (arith, file_of_size same)) (omega arith) h.1
        go (suc (suc (suc k))) p h = clear (suc (suc (suc k))) p (omega arith) h

    -- A file of version 2 that meets none of 20 to 24 and 3 to 11 is written again byte for byte, whatever the buffer held.
    pub written_again : {a : Writing} {after : List ℕ} → WriteOutcome (again file buffer) a after
        → (a ≡ writing (length file)) × (after ≡ filled file buffer)
    written_again o = write_one o (written formed file same refl refl)
