-- Parts that are taken one after the other.
use Prim.Native.Nat.{ℕ, ◌+◌, ◌*◌, ◌-◌, ◌^◌, ◌≤◌, ◌<◌}
use mathlib.Core.Path.{◌≡◌, refl, sym, ap, ◌∙◌}
use mathlib.Core.List.{List, [], ◌∷◌, ◌++◌}
use native.Mathlib.Omega.{arith}
use native.Mathlib.Nat.{min-le_left, min-le_right}
use lib.ListN.{length}
use lib.Seq.{length-paste}
use Rattle.input.specs.Kept.{SoFar, fitting, pasted, fresh, taken, all_taken}
use Rattle.input.specs.Reads.{so_far, Steps, TookPart, CameAs, LeftAs, Reads}
use Rattle.std.specs.declared.io.Error.{Error}
use Rattle.input.specs.declared.Input.{Input}
use Rattle.std.specs.Prelude.{Option, Some, None, Result, Ok, Err}

-- What was kept of one part, and counted.
pub takes : {buffer after : List ℕ} {r n : ℕ} (came : Input) (part : List ℕ) → r ≡ fitting buffer came.length part → after ≡ pasted buffer came.length part r
    → length part ≡ n → 0 < n → n ≤ 65536 → Steps (so_far buffer came) after (Ok (Some (record { length = came.length + r; more = came.more + (n - r) })))
takes {buffer} {after} {r} {n} came part e b l some few =
    record { step = record { part = part; some = omega arith; few = omega arith; is = rw (b, ← l, e) refl } }

-- What is kept stays within the buffer, whose length stays.
module _ (s : SoFar) (part : List ℕ) (h : s.kept ≤ length s.buffer) where
  fits : s.kept + fitting s.buffer s.kept part ≤ length s.buffer
  fits = omega (arith, min-le_right (length part) (length s.buffer - s.kept))

  taken_same : length (taken s part).buffer ≡ length s.buffer
  taken_same = length-paste s.buffer s.kept part (fitting s.buffer s.kept part) fits (min-le_left (length part) (length s.buffer - s.kept))

  pub taken_inside : (taken s part).kept ≤ length (taken s part).buffer
  taken_inside = omega (arith, fits, taken_same)

all_same : (s : SoFar) (parts : List (List ℕ)) → s.kept ≤ length s.buffer → length (all_taken s parts).buffer ≡ length s.buffer
unfolding all_taken
all_same s [] h = refl
all_same s (part ∷ parts) h = all_same (taken s part) parts (taken_inside s part h) ∙ taken_same s part h

all_inside : (s : SoFar) (parts : List (List ℕ)) → s.kept ≤ length s.buffer → (all_taken s parts).kept ≤ length (all_taken s parts).buffer
unfolding all_taken
all_inside s [] h = h
all_inside s (part ∷ parts) h = all_inside (taken s part) parts (taken_inside s part h)

all_more : (s : SoFar) (parts : List (List ℕ)) (part : List ℕ) → all_taken s (parts ++ (part ∷ [])) ≡ taken (all_taken s parts) part
unfolding all_taken
all_more s [] part = refl
all_more s (p ∷ parts) part = all_more (taken s p) parts part

pub nothing : (before : List ℕ) → CameAs before before (record { length = 0; more = 0 })
unfolding all_taken
nothing before = record { parts = []; is = refl }

-- A file that is missing is empty, and of one that was not opened nothing came either.
pub missing : {before : List ℕ} → Reads before before (Ok (record { length = 0; more = 0 }))
missing {before} = record { reading = nothing before }

pub unopened : {before : List ℕ} (why : Error) → Reads before before (Err why)
unfolding all_taken
unopened why = record { reading = record { parts = []; is = refl } }

module _ {before mid : List ℕ} {came : Input} (a : CameAs before mid came) where
  -- What is kept is within the buffer, whose length stays.
  pub inside : came.length ≤ length mid
  inside =
      let k : came.length ≡ (all_taken (fresh before) a.parts).kept = ap (λ (s : SoFar). s.kept) a.is in
      let b : mid ≡ (all_taken (fresh before) a.parts).buffer = ap (λ (s : SoFar). s.buffer) a.is in
      omega (arith, all_inside (fresh before) a.parts (omega arith), k, ap length b)

  pub same : length mid ≡ length before
  same = ap (λ (s : SoFar). length s.buffer) a.is ∙ all_same (fresh before) a.parts (omega arith)

  -- One part more.
  pub further : {after : List ℕ} {next : Input} → TookPart (so_far mid came) after next → CameAs before after next
  further b =
      record {
        parts = a.parts ++ (b.part ∷ []);
        is = b.is ∙ ap (λ (s : SoFar). taken s b.part) a.is ∙ sym (all_more (fresh before) a.parts b.part);
      }

  -- No part more, at the end of the input and where a read fails.
  pub ended : {after : List ℕ} → after ≡ mid → CameAs before after came
  ended e = record { parts = a.parts; is = rw e a.is }

  pub left : {after : List ℕ} → after ≡ mid → LeftAs before after
  left e = record { parts = a.parts; is = e ∙ ap (λ (s : SoFar). s.buffer) a.is }

-- Between two reads of a loop that has so many left.
pub record Going (before after : List ℕ) (came : Input) (reads : ℕ) : Type 0 where
  pub small : came.more + 65536 * reads ≤ 2 ^ 63
  pub same : length after ≡ length before
  pub within : came.length ≤ length after
  pub parts : CameAs before after came

pub going_none : (before : List ℕ) → Going before before (record { length = 0; more = 0 }) 140737488355328
going_none before = record { small = omega arith; same = refl; within = omega arith; parts = nothing before }

module _ {before mid after : List ℕ} {came : Input} {reads : ℕ} (g : Going before mid came reads) {r : Result (Option Input) Error} (h : Steps (so_far mid came) after r) where
  pub going_more : {next : Input} {left : ℕ} → r ≡ Ok (Some next) → left + 1 ≡ reads → Going before after next left
  going_more {next} e l =
      let b : TookPart (so_far mid came) after next = rw e at h.step in
      let f = further g.parts b in
      let m : next.more ≡ came.more + (length b.part - fitting mid came.length b.part) = ap (λ (s : SoFar). s.more) b.is in
      record { small = omega (arith, m, b.few, g.small); same = same f; within = inside f; parts = f }

  pub going_ended : r ≡ Ok None → Reads before after (Ok came)
  going_ended e = let b : after ≡ mid = rw e at h.step in record { reading = ended g.parts b }

  pub going_broke : {why e : Error} → r ≡ Err why → Reads before after (Err e)
  going_broke q = let b : after ≡ mid = rw q at h.step in record { reading = left g.parts b }

-- What is kept is within the buffer, so that its part of the buffer can be lent on.
pub came_within : {before after : List ℕ} {i : Input} (r : Result Input Error) → Reads before after r → r ≡ Ok i → i.length ≤ length after
came_within {before} {after} {i} r h e = let a : CameAs before after i = rw e at h.reading in inside a
