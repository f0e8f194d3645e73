-- From what the writer answers to what its face for C answers.
use Prim.Native.Nat.{ℕ, ◌+◌, ◌≤◌}
use mathlib.Core.Path.{◌≡◌, ap, subst}
use mathlib.Core.List.{List}
use native.Mathlib.Omega.{arith}
use Rattle.std.proofs.Common.{Result, Ok, Err, IfErr, ◌<◌, ◌^◌}
use Rattle.meaning.specs.Chain.{most_states, most_edges}
use Rattle.meaning.specs.Refusal.{Lent}
use Rattle.meaning.specs.Buffer.{Writing, no_writing}
use Rattle.meaning.specs.Write.{WriteOutcome, refused, written}
use Rattle.theory.specs.Outcomes.Places.{refused_places}
use Rattle.theory.specs.Files.Written.{file_of_size, write_one}
use Rattle.chain.specs.declared.Chain.{Chain}
use Rattle.chain.specs.Lent.{lent as framed}
use Rattle.chainwriter.specs.Tells.{told as answered}
use Rattle.chain.specs.declared.refusal.Refusal.{Refusal}
use Rattle.egorstream.specs.declared.write.Written.{Written}
use Rattle.egorstream.specs.Told.{lent, told}

-- A refusal's place is small. No file is empty, so that none is mistaken for a refusal.
pub place_small : {l : Lent} {number place : ℕ} {after : List ℕ} → WriteOutcome l (no_writing number place) after → place ≤ most_states + most_edges
place_small (refused k p r e d) =
    let z = ap (λ (a : Writing). a.place) e in let n = refused_places k p r in omega (arith, n.2)
place_small (written w f x e d) = let z = ap (λ (a : Writing). a.written) e in absurd (omega (arith, file_of_size x))

pub place_fits : {l : Lent} {after : List ℕ} (r : Result ℕ Refusal) → WriteOutcome l (answered r) after → IfErr r (λ x. x.place < 2 ^ 32)
place_fits (Ok n) o = tt
place_fits (Err x) o = omega (arith, place_small o)

-- The chain is made of the numbers that were given.
pub faced : {c : Chain} {states start goals : ℕ} {denominators edges order rewards before after : List ℕ} {a : Writing}
    → (c.states ≡ states) × (c.start ≡ start) × (c.goals ≡ goals)
    → WriteOutcome (framed c denominators edges order rewards before) a after
    → WriteOutcome (lent states start goals denominators edges order rewards before) a after
faced {denominators = denominators} {edges} {order} {rewards} {before} {after} {a} n o =
    subst (λ (l : Lent). WriteOutcome l a after) (λ i. lent (n.0 i) (n.1 i) (n.2 i) denominators edges order rewards before) o

-- What the face promises determines its answer and the buffer afterwards.
pub written_unique : {l : Lent} {after after' : List ℕ} (r r' : Written) → WriteOutcome l (told r) after → WriteOutcome l (told r') after'
    → (r ≡ r') × (after ≡ after')
written_unique r r' o o' =
    let e = write_one o o' in
    (λ i. record { number = (e.0 i).number; place = (e.0 i).place; length = (e.0 i).written }, e.1)
