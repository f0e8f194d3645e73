-- What refuses a chain alone refuses it among the tables of any entry, and clears the numbers 3 to 9 there.
use Rattle.std.specs.Prelude.{ℕ, zero, suc, ◌+◌, ◌-◌, ◌/◌, ◌≤◌, ◌<◌, ◌≡◌, refl, ◌⊎◌, List, [], ◌∷◌, get_or}
use Rattle.std.proofs.Common.{sym, subst, ⊎_elim, arith, le_refl}
use Rattle.meaning.specs.Number.{only}
use Rattle.meaning.specs.Chain.{edge_size}
use Rattle.meaning.specs.Refusal.{Lent, chain_alone, Entry, bare_of, whole, never, Misshaped, faults, Applies, Refused, WellFormed}
use Rattle.theory.specs.Numbers.Sum.{below}
use Rattle.theory.specs.Outcomes.Formed.{room_enough}

-- Of what is lent, its chain alone.
abbrev pub alone : Lent → Lent
alone l = chain_alone l.chain

-- Each fault of one list is that fault of another.
pub data Entails : List (ℕ → Type 0) → List (ℕ → Type 0) → Type 1 where
  none : Entails [] []
  more : {F G : ℕ → Type 0} {Fs Gs : List (ℕ → Type 0)} → ((p : ℕ) → F p → G p) → Entails Fs Gs → Entails (F ∷ Fs) (G ∷ Gs)

pub entails_at : {Fs Gs : List (ℕ → Type 0)} → Entails Fs Gs → (k p : ℕ) → get_or Fs k never p → get_or Gs k never p
entails_at none k p h = absurd h
entails_at (more f w) zero p h = f p h
entails_at (more f w) (suc k) p h = entails_at w k p h

-- Two inputs with the same faults are refused, or well formed, alike.
module _ {x y : Entry} {l m : Lent} (there : Entails (faults x l) (faults y m)) (back : Entails (faults y m) (faults x l)) where
  pub same_refused : {number place : ℕ} → Refused x l number place → Refused y m number place
  same_refused {number} {place} r =
      record {
        applies = entails_at there number place r.applies;
        number_least = λ k p h a. r.number_least k p h (entails_at back k p a);
        place_least = λ p h a. r.place_least p h (entails_at back number p a);
      }

  pub same_formed : WellFormed x l → WellFormed y m
  same_formed w = record { none = λ k p a. w.none k p (entails_at back k p a) }

-- 1 for one entry is 1 for another that asks no less.
pub reshaped : {x y : Entry} {n d e o w o' w' : ℕ} → (e / edge_size < x.fewest → e / edge_size < y.fewest)
    → ((o ≡ only x.order n → ⊥) → o' ≡ only y.order n → ⊥) → ((w ≡ only x.rewards n → ⊥) → w' ≡ only y.rewards n → ⊥)
    → Misshaped x n d e o w → Misshaped y n d e o' w'
reshaped f g k (Misshaped.no_states h) = Misshaped.no_states h
reshaped f g k (Misshaped.many_states h) = Misshaped.many_states h
reshaped f g k (Misshaped.denominators_length h) = Misshaped.denominators_length h
reshaped f g k (Misshaped.edges_ragged h) = Misshaped.edges_ragged h
reshaped f g k (Misshaped.many_edges h) = Misshaped.many_edges h
reshaped f g k (Misshaped.few_edges h) = Misshaped.few_edges (f h)
reshaped f g k (Misshaped.order_length h) = Misshaped.order_length (g h)
reshaped f g k (Misshaped.rewards_length h) = Misshaped.rewards_length (k h)

module _ (x : Entry) (l : Lent) where
  misshaped : {n d e o w : ℕ} (p : ℕ) → whole (Misshaped (bare_of x.short) n d e 0 0) p → whole (Misshaped x n d e o w) p
  misshaped p a = (a.0, reshaped (λ h. absurd (omega arith)) (λ h. absurd (h refl)) (λ h. absurd (h refl)) a.1)

  -- What applies to the chain alone applies among all that is lent.
  among : Entails (faults (bare_of x.short) (alone l)) (faults x l)
  among =
      more (λ p a. a)
      (more misshaped
      (more (λ p (a : whole ((0 < 0) ⊎ (0 < 0)) p). absurd (room_enough (le_refl 0) (le_refl 0) a.1))
      (more (λ p a. a)
      (more (λ p a. a)
      (more (λ p a. a)
      (more (λ p a. a)
      (more (λ p a. a)
      (more (λ p a. a)
      (more (λ p a. a)
      (more (λ p a. absurd a)
      (more (λ p a. absurd a) none)))))))))))

  -- What is well formed with all its tables is well formed with none.
  pub bare_formed : WellFormed x l → WellFormed (bare_of x.short) (alone l)
  bare_formed formed = record { none = λ k p a. formed.none k p (entails_at among k p a) }

  -- Of 3 to 9, what applies among all that is lent applies to the chain alone.
  own : (k p : ℕ) → k < 7 → Applies x l (3 + k) p → Applies (bare_of x.short) (alone l) (3 + k) p
  own zero p h a = a
  own (suc zero) p h a = a
  own (suc (suc zero)) p h a = a
  own (suc (suc (suc zero))) p h a = a
  own (suc (suc (suc (suc zero)))) p h a = a
  own (suc (suc (suc (suc (suc zero))))) p h a = a
  own (suc (suc (suc (suc (suc (suc zero)))))) p h a = a
  own (suc (suc (suc (suc (suc (suc (suc k))))))) p h a = absurd (omega arith)

  -- Nothing from 10 on applies to a chain alone.
  past : (k p : ℕ) → Applies (bare_of x.short) (alone l) (suc (suc (suc (suc (suc (suc (suc (suc (suc (suc k)))))))))) p → ⊥
  past zero p a = a
  past (suc zero) p a = a
  past (suc (suc k)) p a = a

  numbered : (k p : ℕ) → Applies (bare_of x.short) (alone l) k p → k < 10
  numbered k p a =
      ⊎_elim (λ h. h)
      (λ (h : 10 ≤ k).
      let e : k ≡ suc (suc (suc (suc (suc (suc (suc (suc (suc (suc (k - 10)))))))))) = omega arith in
      absurd (past (k - 10) p (subst (λ k. Applies (bare_of x.short) (alone l) k p) e a)))
      (below k 10)

  -- Where 1 and 2 do not apply.
  module _ (clear : (k p : ℕ) → k < 3 → Applies x l k p → ⊥) where
    back : (k p : ℕ) → k < 10 → Applies x l k p → Applies (bare_of x.short) (alone l) k p
    back k p h a =
        ⊎_elim (λ (g : k < 3). absurd (clear k p g a))
        (λ (g : 3 ≤ k).
        let e : 3 + (k - 3) ≡ k = omega arith in
        subst (λ k. Applies (bare_of x.short) (alone l) k p) e (own (k - 3) p (omega arith) (subst (λ k. Applies x l k p) (sym e) a)))
        (below k 3)

    pub bare_refuses : {number place : ℕ} → Refused (bare_of x.short) (alone l) number place → Refused x l number place
    bare_refuses {number} {place} r =
        let n = numbered number place r.applies in
        record {
          applies = entails_at among number place r.applies;
          number_least = λ k p h a. r.number_least k p h (back k p (omega arith) a);
          place_least = λ p h a. r.place_least p h (back number p n a);
        }

    pub bare_clears : WellFormed (bare_of x.short) (alone l) → (k p : ℕ) → k < 10 → Applies x l k p → ⊥
    bare_clears formed k p h a = formed.none k p (back k p h a)
