-- Laws of a list that grows at the front of a table.
use Prim.Native.Nat.{ℕ, ◌+◌, ◌*◌, ◌≤◌, ◌<◌}
use mathlib.Core.Path.{◌≡◌, refl, sym, ap, subst, ◌∙◌}
use mathlib.Core.List.{List, [], ◌∷◌, ◌++◌, append_assoc, append-nil}
use native.Mathlib.Omega.{arith}
use native.Mathlib.Numerals.{add-one}
use lib.ListN.{length, set, take, length-append, length-set}
use lib.Seq.{take-suc-set}
use Rattle.meaning.specs.Number.{tab_from}
use Rattle.meaning.specs.Chain.{edge_size}
use Rattle.meaning.specs.Copies.{each}
use Rattle.theory.specs.Numbers.Tab.{tab_more}
use Rattle.theory.specs.Chains.Joined.{Edges, each_edges}
use Rattle.copies.specs.Grown.{Grown}

-- Nothing is written yet.
pub grown_none : (before : List ℕ) (place : ℕ) → place ≤ length before → Grown before place [] before place
grown_none before place h =
    record { same = refl; past = omega arith; room = h; written = sym (append-nil (take place before)) }

-- One number is stored.
pub grown_one : (before : List ℕ) (place x : ℕ) → place < length before → Grown before place (x ∷ []) (set before place x) (place + 1)
grown_one before place x h =
    record {
      same = length-set before place x;
      past = refl;
      room = omega arith;
      written = rw add-one (take-suc-set before place x h);
    }

-- One step, and another after it.
pub grown_more : {before middle after : List ℕ} {place then next : ℕ} {first second : List ℕ} → Grown before place first middle then
    → Grown middle then second after next → Grown before place (first ++ second) after next
grown_more {before} {place = place} {first = first} {second} x y =
    record {
      same = y.same ∙ x.same;
      past = omega (arith, length-append first second, x.past, y.past);
      room = omega (arith, y.room, x.same);
      written = y.written ∙ ap (λ s. s ++ second) x.written ∙ append_assoc (take place before) first second;
    }

-- The edges f 1, .., f k, of n that there will be.
pub record Rungs (f : ℕ → List ℕ) (before : List ℕ) (place n : ℕ) (after : List ℕ) (next k : ℕ) : Type 0 where
  pub grown : Grown before place (each f k) after next
  pub few : k ≤ n

module _ {f : ℕ → List ℕ} {before : List ℕ} {place n : ℕ} where
  pub rungs_none : place ≤ length before → Rungs f before place n before place 0
  unfolding each
  rungs_none h = record { grown = grown_none before place h; few = omega arith }

  module _ {middle : List ℕ} {then k : ℕ} (x : Rungs f before place n middle then k) where
    -- There is room for one more.
    pub rungs_room : ((k : ℕ) → Edges (f k) 1) → k < n → place + edge_size * n ≤ length before → then + edge_size ≤ length middle
    rungs_room one h room = omega (arith, x.grown.past, x.grown.same, each_edges f one k)

    pub rungs_more : {after : List ℕ} {next : ℕ} → k < n → Grown middle then (f (k + 1)) after next → Rungs f before place n after next (k + 1)
    unfolding each
    rungs_more h y = record { grown = rw add-one (grown_more x.grown (rw add-one at y)); few = omega arith }

    pub rungs_all : n ≤ k → Grown before place (each f n) middle then
    rungs_all h = let e : n ≡ k = omega (arith, x.few) in rw e x.grown

-- The numbers f 0, .., f (k - 1), of n that there will be.
pub record Filled (f : ℕ → ℕ) (before : List ℕ) (n : ℕ) (after : List ℕ) (k : ℕ) : Type 0 where
  pub grown : Grown before 0 (tab_from 0 k f) after k
  pub few : k ≤ n

module _ {f : ℕ → ℕ} {before : List ℕ} {n : ℕ} where
  pub filled_none : Filled f before n before 0
  unfolding tab_from
  filled_none = record { grown = grown_none before 0 (omega arith); few = omega arith }

  module _ {middle : List ℕ} {k : ℕ} (x : Filled f before n middle k) where
    pub filled_more : {after : List ℕ} {v next : ℕ} → k < n → v ≡ f k → Grown middle k (v ∷ []) after next → Filled f before n after (k + 1)
    filled_more {after} {v} {next} h e y =
        let z : next ≡ k + 1 = y.past in
        record {
          grown = subst (λ s. Grown before 0 s after (k + 1)) (sym (tab_more k f))
              (subst (λ m. Grown before 0 (tab_from 0 k f ++ (f k ∷ [])) after m) z (grown_more x.grown (subst (λ v. Grown middle k (v ∷ []) after next) e y)));
          few = omega arith;
        }

    pub filled_all : n ≤ k → Grown before 0 (tab_from 0 n f) middle n
    filled_all h = let e : n ≡ k = omega (arith, x.few) in rw e x.grown
