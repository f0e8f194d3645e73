-- From what the tests and the scans find to what is refused.
use Prim.Native.Nat.{ℕ, ◌+◌, ◌/◌, ◌%◌, ◌≤◌, ◌<◌}
use mathlib.Core.Path.{◌≡◌, refl, sym, ap, subst, ◌∙◌}
use mathlib.Core.Logic.{⊎_elim}
use mathlib.Core.Bool.{Bool, true, false}
use native.Mathlib.Nat.{not-suc-le-zero, eq-zero-or-pos}
use native.Mathlib.Decide.{dec_lt}
use native.Mathlib.Omega.{arith}
use lib.ListN.{length, get_or-eq_default}
use borrow.Author.Count.{below_more}
use Rattle.meaning.specs.Number.{only}
use Rattle.meaning.specs.Chain.{most_states, most_edges, edge_size}
use Rattle.meaning.specs.Refusal.{Lent, Entry, paid, Misshaped, faults, whole, never, Applies, Refused, WellFormed, refused as refused_by, formed}
use Rattle.theory.specs.Numbers.Sum.{same}
use Rattle.std.proofs.Common.{MatchResult, Option, None, Some, Result, Ok, Err}
use Rattle.chain.specs.declared.refusal.Fault.{Fault}
use Rattle.chain.specs.declared.refusal.Refusal.{Refusal}
use Rattle.chain.specs.Refusal.{number_of}
use Rattle.chain.proofs.Faults.{above_0}
use Rattle.std.specs.Result.{IsErrAnd}
use Rattle.look.specs.Least.{Least, least}
use Rattle.look.proofs.Found.{found, none}
use Rattle.meaning.specs.Number.{decides}
use Rattle.theory.specs.Numbers.Decide.{holds, fails}
use Rattle.look.specs.Says.{Finding, Looks, Upto, upto, counted, Shaped}

pub refuse : {x : Entry} {l : Lent} {k p : ℕ} → Upto x l k → Least (Applies x l k) p → Refused x l k p
refuse u f = record { applies = f.here; number_least = λ j q h a. u.clear j h q a; place_least = f.before }

pub next : {x : Entry} {l : Lent} {k : ℕ} → Upto x l k → ((p : ℕ) → Applies x l k p → ⊥) → Upto x l (k + 1)
next {x} {l} {k} u none = record { clear = below_more (λ j. (p : ℕ) → Applies x l j p → ⊥) k u.clear none }

-- A scan for the fault of the next number: where it finds nothing it clears that number, and what it finds is the refusal.
module _ {x : Entry} {l : Lent} {k : ℕ} {place : Option ℕ} (u : Upto x l k) (f : least (Applies x l k) place) where
  pub scanned : place ≡ None → Upto x l (k + 1)
  scanned e = next u (none (Applies x l k) f e)

  pub seen : {fault : Fault} → number_of fault ≡ k → {r : Refusal} → (r.fault ≡ fault) × (place ≡ Some r.place) → Refused x l (number_of r.fault) r.place
  seen n e = rw (e.0, n) (refuse u (found (Applies x l k) f e.1))

pub scan : {x : Entry} {l : Lent} {k : ℕ} (place : Option ℕ) → Upto x l k → least (Applies x l k) place → (fault : Fault) → number_of fault ≡ k
    → (a : Finding) → MatchResult a (λ _. place ≡ None) (λ r. (r.fault ≡ fault) × (place ≡ Some r.place)) → (j : ℕ) → j ≡ k + 1 → upto x l j a
scan place u f fault n (Ok t) e j q = rw q (scanned u f e)
scan place u f fault n (Err r) e j q = seen u f n e

-- A fault of the whole is at place 0, and where it is not there it is nowhere.
pub at_0 : {F : Type 0} → F → Least (whole F) 0
at_0 f = record { here = (refl, f); before = λ q h. absurd (not-suc-le-zero h) }

pub off : {F : Type 0} → (F → ⊥) → (p : ℕ) → whole F p → ⊥
off not p f = not f.1

-- Number 0 is no refusal.
pub begin : (x : Entry) (l : Lent) → Upto x l 1
begin x l = next (record { clear = λ j h. absurd (not-suc-le-zero h) }) (λ p a. a)

-- What a `?` hands on is the refusal that it was.
pub handed : {T : Type 0} (P : Result T Refusal → Type 0) (a : Result T Refusal) (r : Refusal) → IsErrAnd a (λ e. e ≡ r) → P (Err r) → P a
handed P (Err e) r h z = subst (λ r. P (Err r)) (sym h) z
handed P (Ok t) r h z = absurd h

pub well : {x : Entry} {l : Lent} → Upto x l 12 → WellFormed x l
well {x} {l} u = record { none = λ k p a. go k p a (dec_lt k 12) }
  where
    go : (k p : ℕ) → Applies x l k p → Dec (k < 12) → ⊥
    go k p a (yes h) = u.clear k h p a
    go k p a (no f) = subst (λ (F : ℕ → Type 0). F p) (get_or-eq_default (faults x l) never {n = k} (omega arith)) a

-- Number 0 is no refusal.
pub refused_some : {x : Entry} {l : Lent} {number place : ℕ} → Refused x l number place → 0 < number
refused_some {x} {l} {number} {place} z =
    ⊎_elim (λ (e : number ≡ 0). absurd (subst (λ k. Applies x l k place) e z.applies)) (λ h. h) (eq-zero-or-pos number)

-- The length of a table, by what is given for it.
module _ (n : ℕ) {o : ℕ} where
  lent_wrong : (b : Bool) {given : ℕ} → counted b o n given → (given ≡ n → ⊥) → o ≡ only b n → ⊥
  lent_wrong true g h e = h (sym g ∙ e)
  lent_wrong false g h e = h (sym g.1)

  given_wrong : (b : Bool) {given : ℕ} → counted b o n given → (o ≡ only b n → ⊥) → given ≡ n → ⊥
  given_wrong true g h e = h (g ∙ e)
  given_wrong false g h e = h g.0

module _ (x : Entry) {n d e o w p q : ℕ} (g : counted x.order o n p) (f : counted x.rewards w n q) where
  pub lend : Misshaped paid n d e p q → Misshaped x n d e o w
  lend (Misshaped.no_states h) = Misshaped.no_states h
  lend (Misshaped.many_states h) = Misshaped.many_states h
  lend (Misshaped.denominators_length h) = Misshaped.denominators_length h
  lend (Misshaped.edges_ragged h) = Misshaped.edges_ragged h
  lend (Misshaped.many_edges h) = Misshaped.many_edges h
  lend (Misshaped.few_edges h) = absurd (omega arith)
  lend (Misshaped.order_length h) = Misshaped.order_length (lent_wrong n x.order g h)
  lend (Misshaped.rewards_length h) = Misshaped.rewards_length (lent_wrong n x.rewards f h)

  pub reclaim : (e / edge_size < x.fewest → ⊥) → Misshaped x n d e o w → Misshaped paid n d e p q
  reclaim enough (Misshaped.no_states h) = Misshaped.no_states h
  reclaim enough (Misshaped.many_states h) = Misshaped.many_states h
  reclaim enough (Misshaped.denominators_length h) = Misshaped.denominators_length h
  reclaim enough (Misshaped.edges_ragged h) = Misshaped.edges_ragged h
  reclaim enough (Misshaped.many_edges h) = Misshaped.many_edges h
  reclaim enough (Misshaped.few_edges h) = absurd (enough h)
  reclaim enough (Misshaped.order_length h) = Misshaped.order_length (given_wrong n x.order g h)
  reclaim enough (Misshaped.rewards_length h) = Misshaped.rewards_length (given_wrong n x.rewards f h)

module _ {n d e o w : ℕ} where
  pub shapely : 0 < n → n ≤ most_states → d ≡ n → (((e % edge_size ≡ 0 → ⊥) → ⊥)) → e / edge_size ≤ most_edges → o ≡ n → w ≡ n
      → Misshaped paid n d e o w
      → ⊥
  shapely some few p full edges q r (Misshaped.no_states h) = omega arith
  shapely some few p full edges q r (Misshaped.many_states h) = omega arith
  shapely some few p full edges q r (Misshaped.denominators_length h) = h p
  shapely some few p full edges q r (Misshaped.edges_ragged h) = full h
  shapely some few p full edges q r (Misshaped.many_edges h) = omega arith
  shapely some few p full edges q r (Misshaped.few_edges h) = omega arith
  shapely some few p full edges q r (Misshaped.order_length h) = h q
  shapely some few p full edges q r (Misshaped.rewards_length h) = h r

-- A wrong shape is number 1, and a right one clears it.
module _ (x : Entry) (any : x.fewest ≡ 0) (l : Lent) (b : Bool) (o w : ℕ)
    (p : counted x.order (length l.order) l.chain.states o) (q : counted x.rewards (length l.rewards) l.chain.states w)
    (s : decides (Misshaped paid l.chain.states (length l.chain.denominators) (length l.chain.edges) o w) b) where
  pub misshapen : b ≡ true → Refused x l 1 0
  misshapen t = refuse (begin x l) (at_0 (lend x p q (holds _ s t)))

  pub shaped : b ≡ false → Upto x l 2
  shaped t = next (begin x l) (off (λ f. fails _ s t (reclaim x p q (λ h. omega arith) f)))

-- The lengths of a right shape.
stable : (a b : ℕ) → ((a ≡ b → ⊥) → ⊥) → a ≡ b
stable a b f = ⊎_elim (λ e. e) (λ d. absurd (f d)) (same a b)

at_most : (a b : ℕ) → (b < a → ⊥) → a ≤ b
at_most a b f = omega arith

module _ {x : Entry} {l : Lent} {k : ℕ} (u : Upto x l k) (h : 1 < k) where
  shape : Misshaped x l.chain.states (length l.chain.denominators) (length l.chain.edges) (length l.order) (length l.rewards) → ⊥
  shape f = u.clear 1 h 0 (refl, f)

  pub sized : Shaped l.chain.states l.chain.denominators l.chain.edges
  sized =
      record {
        few_states = at_most _ _ (λ h. shape (Misshaped.many_states h));
        denominators_length = stable _ _ (λ h. shape (Misshaped.denominators_length h));
        few_edges = at_most _ _ (λ h. shape (Misshaped.many_edges h));
      }

  pub order_length : x.order ≡ true → length l.order ≡ l.chain.states
  order_length t = stable _ _ (λ h. shape (Misshaped.order_length (λ e. h (rw t at e))))

  pub rewards_length : x.rewards ≡ true → length l.rewards ≡ l.chain.states
  rewards_length t = stable _ _ (λ h. shape (Misshaped.rewards_length (λ e. h (rw t at e))))

-- What is said before the numbers from k on are looked at is said of all once these are cleared.
pub settle : (x : Entry) (l : Lent) (k : ℕ) (f : Finding) → (Upto x l k → Upto x l 12) → upto x l k f → Looks x l f
settle x l k (Ok u) rest z = formed (well (rest z)) refl
settle x l k (Err r) rest z = refused_by _ _ z refl

-- What an entry knows of a looking.
module _ {x : Entry} {l : Lent} where
  told_refused : (r : Refusal) → Looks x l (Err r) → Refused x l (number_of r.fault) r.place
  told_refused r t =
      elim t [
        | refused_by j p z e ↦
            let a : number_of r.fault ≡ j = ap (λ z. z.number) e in let b : r.place ≡ p = ap (λ z. z.place) e in rw (a, b) z
        | formed w e ↦ absurd (let a : number_of r.fault ≡ 0 = ap (λ z. z.number) e in omega (arith, above_0 r.fault))
      ]

  told_clear : (u : Unit) → Looks x l (Ok u) → WellFormed x l
  told_clear u t =
      elim t [
        | refused_by j p z e ↦ absurd (let a : 0 ≡ j = ap (λ z. z.number) e in omega (arith, refused_some z))
        | formed w e ↦ w
      ]

  module _ {f : Finding} (s : Looks x l f) where
    pub refusing : {r : Refusal} → f ≡ Err r → Refused x l (number_of r.fault) r.place
    refusing {r} e = told_refused r (subst (λ (f : Finding). Looks x l f) e s)

    pub clear : {u : Unit} → f ≡ Ok u → WellFormed x l
    clear {u} e = told_clear u (subst (λ (f : Finding). Looks x l f) e s)
