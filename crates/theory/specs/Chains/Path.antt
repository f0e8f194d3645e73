-- Whether a state has a path to an end, is reached from the start, or is live, is decided, by taking in the edges one by one.
use Rattle.std.specs.Prelude.{ℕ, zero, suc, ◌<◌, ◌≡◌, refl, ◌↔◌, ◌⊎◌, Bool, true, false, List}
use Rattle.std.proofs.Common.{sym, subst, inl, inr, ⊎_elim, arith}
use Rattle.std.proofs.Math.Logic.{⊎_map}
use Rattle.std.proofs.Math.Logic.Dec
use Rattle.std.proofs.Math.Decide.{ℕ_discrete, map_dec}
use Rattle.meaning.specs.Chain.{Chain, edge_count, from, to, Goal, PathTo, ToGoal, FromStart, LiveTo, Live}
use Rattle.theory.specs.Numbers.Sum.{last_or_below}

-- A decision as a test, and what the test says.
abbrev pub test : {P : Type 0} → Dec P → Bool
test (yes p) = true
test (no n) = false

pub test_yes : {P : Type 0} (d : Dec P) → P → test d ≡ true
test_yes (yes p) q = refl
test_yes (no n) q = absurd (n q)

pub test_no : {P : Type 0} (d : Dec P) → (P → ⊥) → test d ≡ false
test_no (yes p) n = absurd (n p)
test_no (no m) n = refl

pub test_law : {P : Type 0} (d : Dec P) → (test d ≡ true) ↔ P
test_law (yes p) = (λ e. p, λ q. refl)
test_law (no n) = (λ e. absurd (let z : ◌≡◌ {A = ℕ} 0 1 = cc in omega arith), λ q. absurd (n q))

-- i has a path, along those of the first k edges of which Used holds, from f e to t e each, to a place of which P holds.
data Reach (f t : ℕ → ℕ) (Used P : ℕ → Type 0) (k : ℕ) : ℕ → Type 0 where
  here : {i : ℕ} → P i → Reach f t Used P k i
  along : {i : ℕ} (e : ℕ) → e < k → Used e → f e ≡ i → Reach f t Used P k (t e) → Reach f t Used P k i

module _ (f t : ℕ → ℕ) (Used P : ℕ → Type 0) (k : ℕ) where
  -- A path by way of the last edge comes to its start and goes on from its target.
  abbrev By : ℕ → Type 0
  By i = Used k × (Reach f t Used P k (t k) × Reach f t Used (λ j. j ≡ f k) k i)

  split : {i : ℕ} → Reach f t Used P (suc k) i → Reach f t Used P k i ⊎ By i
  split (here p) = inl (here p)
  split {i} (along e h u q r) =
      last_or_below h
      (λ (l : e ≡ k).
      inr (rw l at u, (⊎_elim (λ (a : Reach f t Used P k (t e)). rw l at a) (λ ab. ab.1.0) (split r), here (rw l at (sym q)))))
      (λ (b : e < k). ⊎_map (along e b u q) (λ ab. (ab.0, (ab.1.0, along e b u q ab.1.1))) (split r))

  more : {i : ℕ} → Reach f t Used P k i → Reach f t Used P (suc k) i
  more (here p) = here p
  more (along e h u q r) = along e (omega arith) u q (more r)

  join : {i : ℕ} → Used k → Reach f t Used P k (t k) → Reach f t Used (λ j. j ≡ f k) k i → Reach f t Used P (suc k) i
  join u a (here q) = along k (omega arith) u (sym q) (more a)
  join u a (along e h v q r) = along e (omega arith) v q (join u a r)

module _ (f t : ℕ → ℕ) (Used : ℕ → Type 0) (dec_used : (e : ℕ) → Dec (Used e)) where
  reach : (P : ℕ → Type 0) → ((i : ℕ) → Dec (P i)) → (k i : ℕ) → Dec (Reach f t Used P k i)
  reach P dec zero i = map_dec here empty (dec i)
    where
      empty : Reach f t Used P 0 i → P i
      empty (here p) = p
      empty (along e h u q r) = absurd (omega arith)
  reach P dec (suc k) i =
      go (reach P dec k i)
      (Dec.and (dec_used k) (Dec.and (reach P dec k (t k)) (reach (λ j. j ≡ f k) (λ j. ℕ_discrete j (f k)) k i)))
    where
      go : Dec (Reach f t Used P k i) → Dec (By f t Used P k i) → Dec (Reach f t Used P (suc k) i)
      go (yes a) d = yes (more f t Used P k a)
      go (no a) (yes b) = yes (join f t Used P k b.0 b.1.0 b.1.1)
      go (no a) (no b) = no (λ r. ⊎_elim a b (split f t Used P k r))

pub dec_goal : (c : Chain) (i : ℕ) → Dec (Goal c i)
dec_goal c i = ℕ_discrete _ _

module _ (edges : List ℕ) (End : ℕ → Type 0) where
  -- All edges, as they go.
  abbrev Onward : ℕ → Type 0
  Onward = Reach (from edges) (to edges) (λ _. Unit {0}) End (edge_count edges)

  onward : {i : ℕ} → PathTo edges End i → Onward i
  onward (PathTo.here i g) = here g
  onward (PathTo.step e h r) = along e h tt refl (onward r)

  from_onward : {i : ℕ} → Onward i → PathTo edges End i
  from_onward (here {i = i} g) = PathTo.here i g
  from_onward (along e h u q r) = subst (PathTo edges End) q (PathTo.step e h (from_onward r))

  pub dec_path_to : ((i : ℕ) → Dec (End i)) → (i : ℕ) → Dec (PathTo edges End i)
  dec_path_to dec i =
      map_dec from_onward onward (reach (from edges) (to edges) (λ _. Unit {0}) (λ _. yes tt) End dec (edge_count edges) i)

module _ (c : Chain) where
  pub dec_to_goal : (i : ℕ) → Dec (ToGoal c i)
  dec_to_goal = dec_path_to c.edges (Goal c) (dec_goal c)

  -- The edges that leave no goal, the other way round.
  abbrev Unwon : ℕ → Type 0
  Unwon e = Goal c (from c.edges e) → ⊥

  abbrev Back : ℕ → Type 0
  Back = Reach (to c.edges) (from c.edges) Unwon (λ j. j ≡ c.start) (edge_count c.edges)

  back : {i : ℕ} → FromStart c i → Back i
  back FromStart.begin = here refl
  back (FromStart.step e h r n) = along e h n refl (back r)

  from_back : {i : ℕ} → Back i → FromStart c i
  from_back (here q) = subst (FromStart c) (sym q) FromStart.begin
  from_back (along e h n q r) = subst (FromStart c) q (FromStart.step e h (from_back r) n)

  pub dec_from_start : (i : ℕ) → Dec (FromStart c i)
  dec_from_start i =
      map_dec from_back back
      (reach (to c.edges) (from c.edges) Unwon (λ e. Dec.not (dec_goal c (from c.edges e))) (λ j. j ≡ c.start)
      (λ j. ℕ_discrete j c.start)
      (edge_count c.edges)
      i)

  pub dec_live_to : (End : ℕ → Type 0) → ((i : ℕ) → Dec (End i)) → (i : ℕ) → Dec (LiveTo c End i)
  dec_live_to End dec i =
      map_dec (λ p. record { unwon = p.0; reached = p.1.0; leads = p.1.1 }) (λ l. (l.unwon, (l.reached, l.leads)))
      (Dec.and (Dec.not (dec_goal c i)) (Dec.and (dec_from_start i) (dec_path_to c.edges End dec i)))

  pub dec_live : (i : ℕ) → Dec (Live c i)
  dec_live = dec_live_to (Goal c) (dec_goal c)
