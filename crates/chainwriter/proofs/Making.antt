-- A block that is written field by field, and the blocks one after the other.
use Prim.Native.Nat.{ℕ, ◌+◌, ◌*◌, ◌-◌, ◌/◌, ◌%◌, ◌^◌, ◌≤◌, ◌<◌, min}
use mathlib.Core.Path.{◌≡◌, refl, sym, ap, ap₂, subst, ◌∙◌}
use mathlib.Core.Logic.{⊎_elim}
use mathlib.Core.List.{List, ◌++◌}
use native.Mathlib.Nat.{div-one}
use native.Mathlib.Omega.{arith}
use lib.Dec.{eqb, leb}
use lib.ListN.{length, get_or, take, drop, get_or-append}
use lib.Seq.{length-take-le, get_or-take, get_or-append-add, get_or-drop}
use borrow.Author.Tests.{eq-eqb}
use Rattle.meaning.specs.Number.{choose}
use Rattle.meaning.specs.Refusal.{Lent}
use Rattle.meaning.specs.Block.{
  Input,
  byte,
  block_byte,
  block_size,
  block_at,
  records_at,
  check_at,
  record_size,
  full_block,
  first_sum,
  second_sum,
  checked_bytes,
  blocks_of,
  head_states,
  head_edges,
}
use Rattle.meaning.specs.File.{kind_of, count_of}
use Rattle.theory.specs.Numbers.Sum.{same, last_or_below, sum_ext}
use Rattle.theory.specs.Numbers.Tab.{tab_at}
use Rattle.theory.specs.Files.Agree.{sum_of, sums_agree}
use Rattle.octets.specs.Input.{input}
use Rattle.octets.specs.Written.{Written, Stored, little_endian}
use Rattle.chainwriter.specs.Packed.{slot_of, front_of, check_of, begin_of}
use Rattle.chainwriter.specs.Made.{Outside, Stands, Fronted, Slots, Checked, Block, Made, Filed}
use Rattle.fletcher.proofs.Summed.{sums_small}
use Rattle.octets.proofs.Steps.{front, kept}
use Rattle.octets.proofs.Storing.{size, stored}

-- What a text that is written leaves, byte by byte.
module _ {before text after : List ℕ} {place next : ℕ} (w : Written before place text after next) where
  front_length : length (take place before) ≡ place
  front_length = length-take-le place before (omega (arith, w.past, w.room))

  at : (j : ℕ) → get_or after j 0 ≡ get_or (take place before ++ text ++ drop next before) j 0
  at j = ap (λ s. get_or s j 0) w.bytes

  under : (j : ℕ) → j < place → get_or after j 0 ≡ get_or before j 0
  under j h =
      at j ∙ get_or-append (take place before ++ text) (drop next before) 0 j (omega (arith, front w, w.past))
      ∙ get_or-append (take place before) text 0 j (omega (arith, front_length))
      ∙ get_or-take place before j 0 h

  here : (k : ℕ) → k < length text → get_or after (place + k) 0 ≡ get_or text k 0
  here k h =
      at (place + k) ∙ get_or-append (take place before ++ text) (drop next before) 0 (place + k) (omega (arith, front w, w.past))
      ∙ ap (λ z. get_or (take place before ++ text) (z + k) 0) (sym front_length)
      ∙ get_or-append-add (take place before) text k 0

  over : (j : ℕ) → next ≤ j → get_or after j 0 ≡ get_or before j 0
  over j h =
      let k = j - next in
      let e : j ≡ length (take place before ++ text) + k = omega (arith, front w) in
      at j ∙ ap (λ z. get_or (take place before ++ text ++ drop next before) z 0) e
      ∙ get_or-append-add (take place before ++ text) (drop next before) k 0
      ∙ get_or-drop next before k 0
      ∙ ap (λ z. get_or before z 0) (omega arith)

-- A number that is stored where it has room stands there, and all else is as it was.
module _ {before after : List ℕ} {place next : ℕ} (width x : ℕ) (room : place + width ≤ length before)
    (s : Stored before place (little_endian width x) after next) where
  w : Written before place (little_endian width x) after next
  w = stored (omega (arith, size width x)) s

  pub stored_outside : (high : ℕ) → high ≡ place + width → Outside before place high after
  stored_outside high e =
      record { size = kept w; under = under w; over = λ j h. over w j (omega (arith, w.past, size width x)) }

  pub stored_stands : Stands after place width x
  stored_stands k h = here w k (omega (arith, size width x)) ∙ tab_at width (λ i. x / 256 ^ i % 256) 0 k h

-- The records, one after the other.
module _ {l : Lent} {kind count begin b : ℕ} {before : List ℕ} where
  pub no_slots : Slots l kind count begin before b 0 before
  no_slots =
      record { outside = record { size = refl; under = λ j h. refl; over = λ j h. refl }; slots = λ r h. absurd (omega arith) }

  module _ {i : ℕ} {table after : List ℕ} (s : Slots l kind count begin before b i table) (place x : ℕ) (at : place ≡ records_at b + record_size * i)
      (o : Outside table place (place + record_size) after) (n : Stands after place record_size x) (e : x ≡ slot_of l kind count begin i) where
    pub more_slots : Slots l kind count begin before b (i + 1) after
    more_slots =
        record {
          outside = record {
            size = o.size ∙ s.outside.size;
            under = λ j h. o.under j (omega arith) ∙ s.outside.under j h;
            over = λ j h. o.over j (omega arith) ∙ s.outside.over j (omega arith);
          };
          slots =
              λ r h.
              last_or_below {j = r} {n = i} (omega arith)
              (λ z. subst (λ r. Stands after (records_at b + record_size * r) record_size (slot_of l kind count begin r)) (sym z)
              (λ k m. ap (λ z. get_or after (z + k) 0) (sym at) ∙ n k m ∙ ap (λ x. x / 256 ^ k % 256) e))
              (λ m k q. o.under (records_at b + record_size * r + k) (omega arith) ∙ s.slots r m k q);
        }

pub slots_at : {l : Lent} {kind count begin b i j : ℕ} {before after : List ℕ} → i ≡ j → Slots l kind count begin before b i after
    → Slots l kind count begin before b j after
slots_at {l} {kind} {count} {begin} {b} {before = before} {after} e s = subst (λ i. Slots l kind count begin before b i after) e s

-- The check of what was written before it.
module _ {before after : List ℕ} (b first second : ℕ) (o : Outside before (check_at b) (block_at b + block_size) after)
    (n : Stands after (check_at b) 2 (check_of first second))
    (p : first ≡ sum_of first_sum (input before 0) b)
    (q : second ≡ sum_of second_sum (input before 0) b) where
  as_before : (j : ℕ) → j < checked_bytes → block_byte (input before 0) b j ≡ block_byte (input after 0) b j
  as_before j h = sym (o.under (block_at b + j) (omega arith))

  first_byte : first < 256
  first_byte = omega (arith, p, (sums_small (input before 0) b).0)

  second_byte : second < 256
  second_byte = omega (arith, q, (sums_small (input before 0) b).1)

  pub checked : Checked before b after
  checked =
      record {
        outside = o;
        first =
            ap (λ z. get_or after z 0) (omega arith) ∙ n 0 (omega arith) ∙ omega (arith, first_byte, div-one (check_of first second))
            ∙ p
            ∙ (sums_agree (input before 0) (input after 0) b as_before).0;
        second = n 1 (omega arith) ∙ omega (arith, first_byte, second_byte) ∙ q ∙ (sums_agree (input before 0) (input after 0) b as_before).1;
      }

-- What the head says is said of each further block.
pub record Heads (f g : Input) : Type 0 where
  pub states : head_states f ≡ head_states g
  pub edges : head_edges f ≡ head_edges g

pub same_heads : (f g : Input) → ((j : ℕ) → j < block_size → byte f j ≡ byte g j) → Heads f g
same_heads f g h =
    record { states = h 6 (omega arith); edges = sum_ext _ _ 2 (λ i l. ap (λ z. z * 256 ^ i) (h (8 + i) (omega arith))) }

pub record Turns (f g : Input) (b : ℕ) : Type 0 where
  pub kind : kind_of f b ≡ kind_of g b
  pub count : count_of f b ≡ count_of g b
  pub begin : begin_of f b ≡ begin_of g b

pub turns : (f g : Input) (b : ℕ) → (0 < b → Heads f g) → Turns f g b
turns f g b h =
    ⊎_elim
    (λ (z : b ≡ 0). record { kind = rw (eq-eqb b 0 z); count = rw (eq-eqb b 0 z); begin = rw (eq-eqb b 0 z) })
    (λ (d : b ≡ 0 → ⊥).
    let e = h (omega arith) in
    record {
      kind = ap (λ n. choose (eqb b 0) 1 (choose (leb b (blocks_of n)) 2 3)) e.states;
      count =
          ap₂ (λ n m.
          choose (eqb b 0) 1
          (choose (leb b (blocks_of n)) (min full_block (n - full_block * (b - 1))) (min full_block (m - full_block * (b - 1 - blocks_of n)))))
          e.states e.edges;
      begin =
          ap (λ n. choose (eqb b 0) 0 (choose (leb b (blocks_of n)) (full_block * (b - 1)) (full_block * (b - 1 - blocks_of n)))) e.states;
    })
    (same b 0)

-- A block's three parts are a block.
module _ {l : Lent} {before u v after : List ℕ} {b kind count begin : ℕ} (x : Fronted before b kind count u)
    (y : Slots l kind count begin u b full_block v) (z : Checked v b after) where
  made_outside : Outside before (block_at b) (block_at b + block_size) after
  made_outside =
      record {
        size = z.outside.size ∙ y.outside.size ∙ x.outside.size;
        under = λ j h. z.outside.under j (omega arith) ∙ y.outside.under j (omega arith) ∙ x.outside.under j h;
        over = λ j h. z.outside.over j h ∙ y.outside.over j (omega arith) ∙ x.outside.over j (omega arith);
      }

  pub made : kind ≡ kind_of (input before 0) b → count ≡ count_of (input before 0) b → begin ≡ begin_of (input before 0) b → Made l before b after
  made p q r =
      let t = turns (input after 0) (input before 0) b (λ h. same_heads _ _ (λ j k. made_outside.under j (omega arith))) in
      let kinds = p ∙ sym t.kind in
      let counts = q ∙ sym t.count in
      let begins = r ∙ sym t.begin in
      record {
        outside = made_outside;
        block =
            record {
              front = λ k h.
                  z.outside.under (block_at b + k) (omega arith) ∙ y.outside.under (block_at b + k) (omega arith) ∙ x.front k h
                  ∙ ap₂ (λ kind count. front_of kind b count / 256 ^ k % 256) kinds counts;
              slots = λ s h k m.
                  z.outside.under (records_at b + record_size * s + k) (omega arith) ∙ y.slots s h k m
                  ∙ (λ i. slot_of l (kinds i) (counts i) (begins i) s / 256 ^ k % 256);
              first = z.first;
              second = z.second;
            };
      }

-- A block stays a block where its bytes and the head stay.
pub stays : {l : Lent} {s t : List ℕ} (b : ℕ) → Block l s b → ((j : ℕ) → j < block_at b + block_size → get_or t j 0 ≡ get_or s j 0) → Block l t b
stays {l} {s} {t} b x e =
    let w = turns (input s 0) (input t 0) b (λ h. same_heads _ _ (λ j k. sym (e j (omega arith)))) in
    let as_before : (j : ℕ) → j < checked_bytes → block_byte (input s 0) b j ≡ block_byte (input t 0) b j =
    λ j h. sym (e (block_at b + j) (omega arith)) in
    record {
      front = λ k h.
          e (block_at b + k) (omega arith) ∙ x.front k h ∙ ap₂ (λ kind count. front_of kind b count / 256 ^ k % 256) w.kind w.count;
      slots = λ r h k m.
          e (records_at b + record_size * r + k) (omega arith) ∙ x.slots r h k m
          ∙ (λ i. slot_of l (w.kind i) (w.count i) (w.begin i) r / 256 ^ k % 256);
      first = e (check_at b) (omega arith) ∙ x.first ∙ (sums_agree (input s 0) (input t 0) b as_before).0;
      second = e (check_at b + 1) (omega arith) ∙ x.second ∙ (sums_agree (input s 0) (input t 0) b as_before).1;
    }

-- The blocks, one after the other.
module _ {l : Lent} {before : List ℕ} where
  pub no_blocks : Filed l before 0 before
  no_blocks =
      record { outside = record { size = refl; under = λ j h. refl; over = λ j h. refl }; blocks = λ a h. absurd (omega arith) }

  pub blocks_at : {b d : ℕ} {after : List ℕ} → b ≡ d → Filed l before b after → Filed l before d after
  blocks_at {after = after} e f = subst (λ b. Filed l before b after) e f

  pub more_blocks : {b : ℕ} {u after : List ℕ} → Filed l before b u → Made l u b after → Filed l before (b + 1) after
  more_blocks {b} {u} {after} f m =
      record {
        outside = record {
          size = m.outside.size ∙ f.outside.size;
          under = λ j h. absurd (omega arith);
          over = λ j h. m.outside.over j (omega arith) ∙ f.outside.over j (omega arith);
        };
        blocks =
            λ a h.
            last_or_below {j = a} {n = b} (omega arith) (λ z. subst (Block l after) (sym z) m.block)
            (λ k. stays a (f.blocks a k) (λ j q. m.outside.under j (omega arith)));
      }
