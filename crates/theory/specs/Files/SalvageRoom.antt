-- There is room for whatever the salvage program prints.
use Rattle.std.specs.Prelude.{ℕ, suc, ◌+◌, ◌*◌, ◌^◌, ◌≤◌, ◌<◌, ◌≡◌, false, List, ◌++◌, length, ltb}
use Rattle.std.proofs.Common.{inl, inr, ⊎_elim, arith, length-append, le-ltb}
use Rattle.meaning.specs.Chain.{most_states, M, Chain, missing}
use Rattle.meaning.specs.Refusal.{Lent, Refused, WellFormed}
use Rattle.meaning.specs.Left.{short_rows}
use Rattle.meaning.specs.Block.{Input, head_states, state_blocks, demanded}
use Rattle.meaning.specs.Text.{bytes_of}
use Rattle.meaning.specs.Report.{bounds_text, line_text}
use Rattle.meaning.specs.Salvage.{Opened, left_chain, left_in, PlaceIn, pair_text, lost_text, short_text, Salvaged, bounds_room, lost_room, short_room, salvage_room}
use Rattle.theory.specs.Numbers.Sum.{below}
use Rattle.theory.specs.Numbers.Join.{join_length, join_past}
use Rattle.theory.specs.Numbers.Decimal.{digits}
use Rattle.theory.specs.Outcomes.Small.{bounds_small, left_small}
use Rattle.theory.specs.Outcomes.Formed.{few_states, denominator_small}
use Rattle.theory.specs.Files.Right.{Bounded, bounded}
use Rattle.theory.specs.Files.Opened.{front_file, lost_numbers}
use Rattle.theory.specs.Files.Lengths.{Brief, chain_brief, block_brief, refusal_line, bounds_line_lem}

-- A line of two numbers, of so many digits and one more.
pair_short : (word : List ℕ) (k m a b : ℕ) → a < 10 ^ suc k → b < 10 ^ suc m → length (pair_text word a b) ≤ length word + k + m + 4
pair_short word k m a b h l = simp length-append (omega (arith, digits k a h, digits m b l))

-- The lines of the lost blocks: head and state blocks are none of them, and there are at most 66 edge blocks.
module _ {f : Input} {v : ℕ → ℕ} (opened : Opened f v) where
  limits : Bounded f
  limits = bounded f (opened.front 0 (omega arith))

  kept_line : (b : ℕ) → v b ≡ 0 → ltb 0 (v b) ≡ false
  kept_line b z = le-ltb 0 (v b) (omega arith)

  few_lost : (b : ℕ) → b ≤ demanded f → length (lost_text v b) ≤ lost_room
  few_lost b h =
      join_length (λ a. ltb 0 (v a)) (λ a. pair_text (bytes_of "lost ") a (v a)) (1 + state_blocks f) 11 b 66 (omega (arith, limits.few_edges))
      (λ a l. kept_line a (opened.none a (inl (omega arith))))
      (λ a l. pair_short (bytes_of "lost ") 1 1 a (v a) (omega (arith, limits.few_blocks)) (omega (arith, lost_numbers opened a)))

  -- Past the last block nothing is lost.
  pub lost_past : (b : ℕ) → demanded f ≤ b → lost_text v b ≡ lost_text v (demanded f)
  lost_past b h =
      join_past (λ a. ltb 0 (v a)) (λ a. pair_text (bytes_of "lost ") a (v a)) (demanded f) b h (λ a l. kept_line a (opened.none a (inr l)))

  pub lost_room_lem : (b : ℕ) → length (lost_text v b) ≤ lost_room
  lost_room_lem b =
      ⊎_elim
      (λ (l : demanded f < b). rw (lost_past b (omega arith)) (few_lost (demanded f) (omega arith)))
      (λ (l : b ≤ demanded f). few_lost b l)
      (below (demanded f) b)

-- The lines of the rows that fell short.
pub short_room_lem : (c : Chain) (i : ℕ) → i ≤ most_states → ((j : ℕ) → j < i → missing c j ≤ M) → length (short_text c i) ≤ 20 * i
short_room_lem c i h small =
    join_length (λ j. ltb 0 (missing c j)) (λ j. pair_text (bytes_of "short ") j (missing c j)) 0 20 i i (omega arith)
    (λ j l. absurd (omega arith))
    (λ j l. pair_short (bytes_of "short ") 1 9 j (missing c j) (omega arith) (omega (arith, small j l)))

pub left_short : (l : Lent) → WellFormed short_rows l → (i : ℕ) → i ≤ l.chain.states → length (short_text l.chain i) ≤ short_room
left_short l formed i h =
    let few = few_states short_rows l formed in
    omega (arith, short_room_lem l.chain i (omega arith) (λ j m. omega (arith, denominator_small short_rows l formed j (omega arith))))

place_brief : {f : Input} {v : ℕ → ℕ} {number place at : ℕ} → Opened f v → Refused short_rows (left_in f v) number place → PlaceIn f v number place at
    → Brief number at
place_brief opened r (PlaceIn.edge e h l i) = record { two = omega arith; four = omega (arith, i.inside, (limits opened).few_edges) }
place_brief opened r (PlaceIn.other h) = chain_brief r

three_short : (x y z : List ℕ) (a b c : ℕ) → length x ≤ a → length y ≤ b → length z ≤ c → length (x ++ y ++ z) ≤ a + b + c
three_short x y z a b c h k l = simp length-append (omega arith)

-- No text is longer than the room that is asked for.
pub salvage_room_lem : (f : Input) (t : List ℕ) → Salvaged f t → length t ≤ salvage_room
salvage_room_lem f t (Salvaged.file_refused number place r e) = rw e (omega (arith, refusal_line number place (block_brief (front_file r))))
salvage_room_lem f t (Salvaged.whole_refused number place a r e) = rw e (omega (arith, refusal_line number place (chain_brief r)))
salvage_room_lem f t (Salvaged.whole accepted formed a work o e) = rw e (omega (arith, bounds_line_lem a (bounds_small o)))
salvage_room_lem f t (Salvaged.left_refused v opened lost number place at r i e) = rw e (omega (arith, refusal_line number at (place_brief opened r i)))
salvage_room_lem f t (Salvaged.left v opened lost formed a work o e) =
    rw e
    (three_short (line_text (bytes_of "bounds ") (bounds_text a)) (lost_text v (demanded f)) (short_text (left_chain f v) (head_states f)) bounds_room lost_room
    short_room (bounds_line_lem a (left_small o)) (lost_room_lem opened (demanded f)) (left_short (left_in f v) formed (head_states f) (omega arith)))
