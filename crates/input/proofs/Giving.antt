-- What a reader gives is taken as one part.
use Rattle.std.proofs.Common.{ℕ, ◌+◌, ◌-◌, ◌≤◌, ◌<◌, ◌≡◌, refl, ap, ◌∙◌, List, [], ◌++◌, length, arith, length-append}
use Rattle.std.proofs.KnownBytes.{Consumes-nil, Consumes-trans, Consumes-kept}
use Rattle.std.specs.Io.KnownBytes.{Keeps, Consumes}
use Rattle.std.specs.declared.io.Error.{Error}
use Rattle.std.specs.declared.option.Option.{Option}
use Rattle.input.specs.Kept.{SoFar, fitting, pasted, fresh, taken, all_taken}
use Rattle.input.specs.Reads.{so_far, Steps}
use Rattle.input.specs.Gives.{GavePart, GaveNone, GivesPart, GaveAll, GaveSome}
use Rattle.input.specs.declared.Input.{Input}
use Rattle.std.specs.Prelude.{Some, None, Result, Ok, Err}
use Rattle.input.proofs.Joined.{joined, all_joined, taken_two}

-- What was kept of one part that the reader gave.
pub gives : {old new : Option (List ℕ)} {buffer after : List ℕ} {r n : ℕ} (came : Input) (part : List ℕ) → r ≡ fitting buffer came.length part
    → after ≡ pasted buffer came.length part r → length part ≡ n → 0 < n → Consumes old new part
    → GivesPart old new (so_far buffer came) after (Ok (Some (record { length = came.length + r; more = came.more + (n - r) })))
gives {old} {new} {buffer} {after} {r} {n} came part e b l some given =
    record { step = record { part = part; some = omega arith; given = given; is = rw (b, ← l, e) refl } }

-- Between two reads of a loop that has so many left.
pub record Giving (old new : Option (List ℕ)) (before after : List ℕ) (came : Input) (reads : ℕ) : Type 0 where
  pub bytes : List ℕ
  pub given : Consumes old new bytes
  pub is : so_far after came ≡ taken (fresh before) bytes
  pub spent : 140737488355328 ≤ length bytes + reads

pub giving_none : (a : Option (List ℕ)) (before : List ℕ) → Giving a a before before (record { length = 0; more = 0 }) 140737488355328
unfolding all_taken joined
giving_none a before =
    record {
      bytes = [];
      given = Consumes-nil a;
      is = all_joined (fresh before) [] (omega arith);
      spent = omega arith;
    }

module _ {a b c : Option (List ℕ)} {before mid after : List ℕ} {came : Input} {reads : ℕ} (g : Giving a b before mid came reads) {r : Result (Option Input) Error}
    (h : Steps (so_far mid came) after r) (k : GivesPart b c (so_far mid came) after r) where
  pub giving_more : {next : Input} {left : ℕ} → r ≡ Ok (Some next) → left + 1 ≡ reads → Giving a c before after next left
  giving_more {next} e l =
      let p : GavePart b c (so_far mid came) after next = rw e at k.step in
      record {
        bytes = g.bytes ++ p.part;
        given = Consumes-trans a b c g.bytes p.part g.given p.given;
        is = p.is ∙ ap (λ (s : SoFar). taken s p.part) g.is ∙ taken_two before 0 0 g.bytes p.part (omega arith);
        spent = omega (arith, g.spent, p.some, length-append g.bytes p.part);
      }

  pub giving_ended : r ≡ Ok None → GaveAll a c before after came
  giving_ended e =
      let o : after ≡ mid = rw e at h.step in
      let n : GaveNone b c = rw e at k.step in
      record { bytes = g.bytes; given = Consumes-kept a b c g.bytes g.given n.given; is = rw o g.is; end = λ _. n.end }

  pub giving_broke : {why : Error} → r ≡ Err why → GaveSome a c before after
  giving_broke e =
      let o : after ≡ mid = rw e at h.step in
      let n : Keeps b c = rw e at k.step in
      record { bytes = g.bytes; given = Consumes-kept a b c g.bytes g.given n; is = o ∙ ap (λ (s : SoFar). s.buffer) g.is }

-- Where the reads are spent, as many bytes came.
pub giving_spent : {a b : Option (List ℕ)} {before after : List ℕ} {came : Input} {reads : ℕ} → Giving a b before after came reads → reads ≤ 0
    → GaveAll a b before after came
giving_spent g l = record { bytes = g.bytes; given = g.given; is = g.is; end = λ k. absurd (omega (arith, g.spent)) }
