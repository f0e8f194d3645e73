-- The sets of a chain, computed: marks spread along the edges for some rounds, and a test says whether they are all there.
use Prim.Native.Nat.{ℕ, zero, suc, ◌+◌, ◌*◌, ◌/◌, ◌^◌, ◌≤◌, ◌<◌}
use Rattle.std.specs.Prelude.{◌≡◌, refl, ◌↔◌, Bool, true, false, not, eqb, ltb}
use Rattle.std.proofs.Common.{sym, ap, ◌∙◌, arith}
use Rattle.std.proofs.Math.Logic.{⊎_elim}
use Rattle.std.proofs.Math.Nat.{pow-succ', one-le-pow, add-div_right, zero-div}
use borrow.Author.Tests.{eq-eqb, ne_eqb, eqb-true, eqb-false, ltb-true, not-true}
use Rattle.meaning.specs.Number.{choose, bit}
use Rattle.meaning.specs.Chain.{Chain, edge_count, from, to, PathTo, ToGoal, FromStart, Live}
use Rattle.meaning.specs.Step.{Sets, Right}
use Rattle.theory.specs.Numbers.Sum.{same, last_or_below}
use Rattle.theory.specs.Chains.Sets.{packed, packed_set}
use Rattle.theory.specs.Numbers.Bits.{bit_zero, bit_suc, bit_below}

-- Whether i is in the set s.
abbrev pub has : ℕ → ℕ → Bool
has s i = eqb (bit s i) 1

-- Both tests hold.
abbrev both : Bool → Bool → Bool
both a b = choose a b false

-- The set s with j.
unfoldable added : ℕ → ℕ → ℕ
added s j = choose (has s j) s (s + 2 ^ j)

-- A mark spreads along each way that is used, from its source to its target.
record Ways : Type 0 where
  count : ℕ
  used : ℕ → Bool
  source : ℕ → ℕ
  target : ℕ → ℕ

-- Way e sends a mark from the set s.
abbrev sends : Ways → ℕ → ℕ → Bool
sends w s e = both (has s (w.source e)) (w.used e)

-- The set s with what the first m ways add to it, one after the other; and what some rounds over all ways add.
unfoldable swept : Ways → ℕ → ℕ → ℕ
swept w zero s = s
swept w (suc m) s = swept w m (choose (sends w s m) (added s (w.target m)) s)

unfoldable grown : Ways → ℕ → ℕ → ℕ
grown w zero s = s
grown w (suc rounds) s = grown w rounds (swept w w.count s)

-- The first m ways add nothing to the set s.
unfoldable closed : Ways → ℕ → ℕ → Bool
closed w s zero = true
closed w s (suc m) = let further = closed w s m in both (choose (sends w s m) (has s (w.target m)) true) further

-- From goals backwards; and from the start, but never from a goal.
abbrev backward : Chain → Ways
backward c = record { count = edge_count c.edges; used = λ _. true; source = to c.edges; target = from c.edges }

abbrev onward : Chain → Ways
onward c =
    record {
      count = edge_count c.edges;
      used = λ e. not (has c.goals (from c.edges e));
      source = from c.edges;
      target = to c.edges;
    }

-- The marks that some rounds make.
unfoldable pub marks_to_goal : ℕ → Chain → ℕ
unfolding grown swept added
marks_to_goal rounds c = grown (backward c) rounds c.goals

unfoldable pub marks_from_start : ℕ → Chain → ℕ
unfolding grown swept added
marks_from_start rounds c = grown (onward c) rounds (added 0 c.start)

-- Whether so many rounds were enough.
unfoldable pub all_to_goal : ℕ → Chain → Bool
unfolding closed marks_to_goal
all_to_goal rounds c = closed (backward c) (marks_to_goal rounds c) (edge_count c.edges)

unfoldable pub all_from_start : ℕ → Chain → Bool
unfolding closed marks_from_start
all_from_start rounds c = closed (onward c) (marks_from_start rounds c) (edge_count c.edges)

-- The sets that the marks give, and whether they are right.
unfoldable pub marks : ℕ → Chain → Sets
unfolding marks_to_goal marks_from_start packed
marks rounds c =
    let good = marks_to_goal rounds c in
    let reached = marks_from_start rounds c in
    record { good = good; live = packed c.states (λ i. both (has good i) (both (has reached i) (not (has c.goals i)))) }

unfoldable pub enough : ℕ → Chain → Bool
unfolding all_to_goal all_from_start
enough rounds c = both (all_to_goal rounds c) (both (all_from_start rounds c) (ltb (marks_to_goal rounds c) (2 ^ c.states)))

-- The laws of the tests.
both_true : (a b : Bool) → both a b ≡ true → (a ≡ true) × (b ≡ true)
both_true true b e = (refl, e)
both_true false b e = absurd (let z : ◌≡◌ {A = ℕ} 0 1 = cc in omega arith)

true_both : (a b : Bool) → a ≡ true → b ≡ true → both a b ≡ true
true_both a b e f = rw (e, f)

-- The set s with j holds j and what s holds, and nothing else.
add_other : (j i s : ℕ) → bit s j ≡ 0 → (i ≡ j → ⊥) → bit (s + 2 ^ j) i ≡ bit s i
add_other zero zero s b n = absurd (n refl)
add_other zero (suc i) s b n =
    let h : (s + 1) / 2 ≡ s / 2 = omega (arith, bit_zero s) in
    rw (bit_suc (s + 1) i, bit_suc s i, h)
add_other (suc j) zero s b n = rw (bit_zero (s + 2 ^ suc j), bit_zero s, pow-succ' 2 j) (omega arith)
add_other (suc j) (suc i) s b n =
    let h : (s + 2 * 2 ^ j) / 2 ≡ s / 2 + 2 ^ j = omega arith in
    rw (bit_suc (s + 2 ^ suc j) i, bit_suc s i, pow-succ' 2 j, h)
    (add_other j i (s / 2) (sym (bit_suc s j) ∙ b) (λ e. n (ap suc e)))

add_same : (j s : ℕ) → bit s j ≡ 0 → bit (s + 2 ^ j) j ≡ 1
add_same j s b =
    let w : 0 < 2 ^ j = one-le-pow j 2 (omega arith) in
    rw (add-div_right s w) (omega arith)

-- Of added: where j was there the set stays.
added_cases : (P : ℕ → Type 0) (s j : ℕ) → (bit s j ≡ 1 → P s) → (bit s j ≡ 0 → P (s + 2 ^ j)) → P (added s j)
unfolding added
added_cases P s j there new =
    ⊎_elim
    (λ (e : bit s j ≡ 1). rw (eq-eqb (bit s j) 1 e) (there e))
    (λ (n : bit s j ≡ 1 → ⊥). rw (ne_eqb (bit s j) 1 n) (new (omega arith)))
    (same (bit s j) 1)

added_same : (s j : ℕ) → bit (added s j) j ≡ 1
added_same s j = added_cases (λ t. bit t j ≡ 1) s j (λ e. e) (add_same j s)

added_other : (s j i : ℕ) → (i ≡ j → ⊥) → bit (added s j) i ≡ bit s i
added_other s j i n = added_cases (λ t. bit t i ≡ bit s i) s j (λ e. refl) (λ e. add_other j i s e n)

-- Whatever holds of all that s holds, and is handed on along the ways, holds of all that is marked; and no mark is lost.
record Spreads (P : ℕ → Type 0) (s t : ℕ) : Type 0 where
  kept : (i : ℕ) → bit s i ≡ 1 → bit t i ≡ 1
  sound : ((i : ℕ) → bit s i ≡ 1 → P i) → (i : ℕ) → bit t i ≡ 1 → P i

module _ (w : Ways) (P : ℕ → Type 0) (on : (e : ℕ) → e < w.count → w.used e ≡ true → P (w.source e) → P (w.target e)) where
  nothing : (s : ℕ) → Spreads P s s
  nothing s = record { kept = λ i b. b; sound = λ f. f }

  then : {s t u : ℕ} → Spreads P s t → Spreads P t u → Spreads P s u
  then p q = record { kept = λ i b. q.kept i (p.kept i b); sound = λ f. q.sound (p.sound f) }

  one_added : (s j : ℕ) → (((i : ℕ) → bit s i ≡ 1 → P i) → P j) → Spreads P s (added s j)
  one_added s j p =
      record {
        kept = λ i b.
            ⊎_elim (λ (e : i ≡ j). rw e (added_same s j)) (λ (n : i ≡ j → ⊥). added_other s j i n ∙ b) (same i j);
        sound = λ f i b.
            ⊎_elim
            (λ (e : i ≡ j). rw e (p f))
            (λ (n : i ≡ j → ⊥). f i (sym (added_other s j i n) ∙ b))
            (same i j);
      }

  one_way : (e : ℕ) → e < w.count → (s : ℕ) → Spreads P s (choose (sends w s e) (added s (w.target e)) s)
  one_way e h s = go (sends w s e) refl
    where
      go : (b : Bool) → sends w s e ≡ b → Spreads P s (choose b (added s (w.target e)) s)
      go true q =
          let (marked, used) = both_true (has s (w.source e)) (w.used e) q in
          one_added s (w.target e) (λ f. on e h used (f (w.source e) (eqb-true (bit s (w.source e)) 1 marked)))
      go false q = nothing s

  sweeps : (m : ℕ) → m ≤ w.count → (s : ℕ) → Spreads P s (swept w m s)
  unfolding swept
  sweeps zero h s = nothing s
  sweeps (suc m) h s = then (one_way m h s) (sweeps m (omega arith) _)

  grows : (rounds s : ℕ) → Spreads P s (grown w rounds s)
  unfolding grown
  grows zero s = nothing s
  grows (suc rounds) s = then (sweeps w.count (omega arith) s) (grows rounds _)

-- In a closed set each way is closed.
closed_way : (w : Ways) (s m : ℕ) → closed w s m ≡ true → (e : ℕ) → e < m → bit s (w.source e) ≡ 1 → w.used e ≡ true → bit s (w.target e) ≡ 1
unfolding closed
closed_way w s zero c e h b u = absurd (omega arith)
closed_way w s (suc m) c e h b u =
    let (here, further) = both_true (choose (sends w s m) (has s (w.target m)) true) (closed w s m) c in
    last_or_below h
    (λ (q : e ≡ m).
    let sent : sends w s m ≡ true = true_both _ _ (eq-eqb (bit s (w.source m)) 1 (rw q at b)) (rw q at u) in
    rw q (eqb-true (bit s (w.target m)) 1 (rw sent at here)))
    (λ (l : e < m). closed_way w s m further e l b u)

module _ (rounds : ℕ) (c : Chain) where
  pub marks_to_goal_lem : all_to_goal rounds c ≡ true → (i : ℕ) → (bit (marks_to_goal rounds c) i ≡ 1) ↔ ToGoal c i
  unfolding marks_to_goal all_to_goal
  marks_to_goal_lem all i = (G.sound PathTo.here i, back)
    where
      G : Spreads (ToGoal c) c.goals (marks_to_goal rounds c)
      G = grows (backward c) (ToGoal c) (λ e h u p. PathTo.step e h p) rounds c.goals

      back : {i : ℕ} → ToGoal c i → bit (marks_to_goal rounds c) i ≡ 1
      back (PathTo.here i g) = G.kept i g
      back (PathTo.step e h p) = closed_way (backward c) (marks_to_goal rounds c) (edge_count c.edges) all e h (back p) refl

  pub marks_from_start_lem : all_from_start rounds c ≡ true → (i : ℕ) → (bit (marks_from_start rounds c) i ≡ 1) ↔ FromStart c i
  unfolding marks_from_start all_from_start
  marks_from_start_lem all i = (G.sound begun i, back)
    where
      begun : (i : ℕ) → bit (added 0 c.start) i ≡ 1 → FromStart c i
      begun i b =
          ⊎_elim
          (λ (e : i ≡ c.start). rw e FromStart.begin)
          (λ (n : i ≡ c.start → ⊥). absurd (omega (arith, added_other 0 c.start i n, zero-div (2 ^ i))))
          (same i c.start)

      G : Spreads (FromStart c) (added 0 c.start) (marks_from_start rounds c)
      G =
          grows (onward c) (FromStart c)
          (λ e h u p. FromStart.step e h p (eqb-false _ _ (not-true _ u)))
          rounds
          (added 0 c.start)

      back : {i : ℕ} → FromStart c i → bit (marks_from_start rounds c) i ≡ 1
      back FromStart.begin = G.kept c.start (added_same 0 c.start)
      back (FromStart.step e h p n) =
          closed_way (onward c) (marks_from_start rounds c) (edge_count c.edges) all e h (back p)
          (rw (ne_eqb (bit c.goals (from c.edges e)) 1 n))

  pub marks_right : enough rounds c ≡ true → Right c (marks rounds c)
  unfolding marks enough
  marks_right all =
      let (to-goal, more) = both_true (all_to_goal rounds c) _ all in
      let (from_start, small) = both_true (all_from_start rounds c) _ more in
      let good = marks_to_goal_lem to-goal in
      let reached = marks_from_start_lem from_start in
      record {
        good = good;
        live =
            packed_set c.states _ (Live c)
            (λ i. (
              λ e.
                  let (g, rest) = both_true _ _ e in
                  let (f, n) = both_true _ _ rest in
                  record {
                    unwon = eqb-false _ _ (not-true _ n);
                    reached = (reached i).0 (eqb-true _ _ f);
                    leads = (good i).0 (eqb-true _ _ g);
                  },
              λ l.
                  true_both _ _ (eq-eqb _ _ ((good i).1 l.leads))
                  (true_both _ _ (eq-eqb _ _ ((reached i).1 l.reached)) (rw (ne_eqb (bit c.goals i) 1 l.unwon))),
            ))
            (λ i l.
            bit_below (marks_to_goal rounds c) c.states i (ltb-true (marks_to_goal rounds c) (2 ^ c.states) small)
            ((good i).1 l.leads));
      }
