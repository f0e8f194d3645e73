-- More copies: with the same weights, the chance that no copy is left before the finish is smaller.
use Prim.Native.Nat.{ℕ, zero, suc, ◌+◌, ◌*◌, ◌-◌, ◌≤◌, ◌<◌, min}
use Rattle.std.specs.Prelude.{◌≡◌, refl}
use Rattle.std.proofs.Common.{sym, ap, subst, ◌∙◌, mul-pos, mul-le-mul_left}
use Rattle.std.proofs.Math.Logic.{⊎_elim}
use native.Mathlib.Omega.{arith}
use Rattle.std.proofs.Math.Nat.{mul-lt-mul_of_pos_left, lt_of_mul-lt-mul_left}
use Rattle.meaning.specs.Chain.{from, to, row_sum, PathTo, ToGoal}
use Rattle.meaning.specs.Figure.{Shares, Chance}
use Rattle.meaning.specs.Refusal.{plain}
use Rattle.meaning.specs.Outcome.{Answer}
use Rattle.meaning.specs.Copies.{Plan, Sensible, finished, copies_states, copies_edges, copies_chain, copies_lent, copies_wrong, weight_wrong, CopiesOutcome, refused, large, planned}
use Rattle.meaning.specs.PlanTable.{Weights, with_copies}
use Rattle.theory.specs.Numbers.Sum.{below}
use Rattle.theory.specs.Numbers.Bits.{in_one}
use Rattle.theory.specs.Numbers.Tab.{tab_at}
use Rattle.theory.specs.Outcomes.Existence.{chances_exist}
use Rattle.theory.specs.Plans.Kinds.{Kind, loses, rebuilt, ends, empty, done, kind, losing, copies_count_lem}
use Rattle.theory.specs.Plans.Sums.{flow_between, flow_full}
use Rattle.theory.specs.Plans.Formed.{in_range_lem, copies_plain}

-- Values on a ladder: of the t k that rung k + 1 weighs, a k lead to the rung below and r to the one above. x is on each rung at least what the
-- rungs beside it give it, and y at most. Where y over x falls at the last rung it falls at each, and so is less there than at the foot.
module _ (a t x y : ℕ → ℕ) (r : ℕ) (rises : 0 < r) (some : (k : ℕ) → 0 < x k)
    (least : (k : ℕ) → a k * x k + r * x (suc (suc k)) ≤ t k * x (suc k))
  where
    falls : (n : ℕ) → ((k : ℕ) → k < n → t k * y (suc k) ≤ a k * y k + r * y (suc (suc k))) → y (suc n) * x n < y n * x (suc n)
        → y (suc n) * x 0 < y 0 * x (suc n)
    falls zero most h = h
    falls (suc n) most h =
        let before : y (suc n) * x n < y n * x (suc n) =
        lt_of_mul-lt-mul_left (a n)
        (omega (
          arith,
          mul-le-mul_left (y (suc n)) (least n),
          mul-le-mul_left (x (suc n)) (most n (omega arith)),
          mul-lt-mul_of_pos_left h rises,
        )) in
        lt_of_mul-lt-mul_left (x (suc n))
        (omega (
          arith,
          mul-lt-mul_of_pos_left h (some 0),
          mul-lt-mul_of_pos_left (falls n (λ k l. most k (omega arith)) before) (some (suc (suc n))),
        ))

module _ (j : Plan) where
  -- A state with copies left leads to the goal, which is 0 alone;
  leads : (k : ℕ) → k ≤ j.copies → ToGoal (copies_chain j) k
  leads zero h = PathTo.here 0 refl
  leads (suc k) h =
      let x = losing j k h in
      let e : to (copies_edges j) k ≡ k = omega (arith, x.target_is) in
      subst (ToGoal (copies_chain j)) x.source_is (PathTo.step k (omega (arith, copies_count_lem j)) (rw e (leads k (omega arith))))

  -- the finished job does not.
  stays : {e : ℕ} → Kind j e → from (copies_edges j) e ≡ finished j → to (copies_edges j) e ≡ finished j
  stays (loses k h q x) s = omega (arith, x.source_is)
  stays (rebuilt k h q x) s = omega (arith, x.source_is)
  stays (ends k h q x) s = x.target_is
  stays (empty q x) s = omega (arith, x.source_is)
  stays (done q x) s = x.target_is

  ended : {i : ℕ} → i ≡ finished j → ToGoal (copies_chain j) i → ⊥
  ended s (PathTo.here i g) = omega (arith, (in_one 0 i).0 g)
  ended s (PathTo.step e l p) = ended (stays (kind j e l) s) p

-- The shares of a plan by how many copies are left: with more than all of them, as with all.
module _ {j : Plan} (sensible : Sensible j) {d : ℕ} {x : ℕ → ℕ} (share : Shares (copies_chain j) d x) where
  held : ℕ → ℕ
  held k = x (min k j.copies)

  -- So the last rung, too, has one below it and one above.
  rung : (k : ℕ) → k < j.copies
      → (suc k * j.loss + j.rebuild + j.finish) * held (suc k) ≡ suc k * j.loss * held k + j.rebuild * held (suc (suc k))
  unfolding held
  rung k h =
      let e : suc k - 1 ≡ k = omega arith in
      let z : x (finished j) ≡ 0 = share.lost (finished j) (omega arith) (ended j refl) in
      let u : min k j.copies ≡ k = omega arith in
      let v : min (suc k) j.copies ≡ suc k = omega arith in
      let f =
      rw (tab_at (copies_states j) (row_sum (copies_edges j)) 0 (suc k) (omega arith)) at
      (share.flows (suc k) (omega arith) (λ g. omega (arith, (in_one 0 (suc k)).0 g)) (leads j (suc k) h)) in
      ⊎_elim
      (λ (l : suc k < j.copies).
      let w : min (suc (suc k)) j.copies ≡ suc k + 1 = omega arith in
      let o : (g : ℕ → ℕ) → _ = λ g. flow_between j g (suc k) (omega arith) l in
      rw (u, v, w) (omega (arith, rw (o (λ _. 1), o x, e, z) at f)))
      (λ (l : j.copies ≤ suc k).
      let w : min (suc (suc k)) j.copies ≡ suc k = omega arith in
      let o : (g : ℕ → ℕ) → _ = λ g. flow_full j g (suc k) (omega arith) (omega arith) in
      rw (u, v, w) (omega (arith, rw (o (λ _. 1), o x, e, z) at f)))
      (below (suc k) j.copies)

  foot : held 0 ≡ d
  unfolding held
  foot = let u : min 0 j.copies ≡ 0 = omega arith in rw u (share.won 0 (omega arith) refl)

  full : (k : ℕ) → j.copies ≤ k → held k ≡ x j.copies
  unfolding held
  full k h = let u : min k j.copies ≡ j.copies = omega arith in rw u

  -- Each is at least what those beside it give it, above the last one too; so each is above 0.
  rung_least : (k : ℕ) → suc k * j.loss * held k + j.rebuild * held (suc (suc k)) ≤ (suc k * j.loss + j.rebuild + j.finish) * held (suc k)
  rung_least k =
      ⊎_elim
      (λ (h : k < j.copies). omega (arith, rung k h))
      (λ (h : j.copies ≤ k). rw (full k h, full (suc k) (omega arith), full (suc (suc k)) (omega arith)) (omega arith))
      (below k j.copies)

  worth : (k : ℕ) → 0 < held k
  worth zero = omega (arith, foot, share.whole)
  worth (suc k) =
      let r = in_range_lem sensible in
      let h : 0 < suc k * j.loss * held k = mul-pos (mul-pos (omega arith) r.loss_some) (worth k) in
      lt_of_mul-lt-mul_left (suc k * j.loss + j.rebuild + j.finish) (omega (arith, rung_least k))

  -- The last is less than the one before, since the job may finish.
  last_falls : (k : ℕ) → k < j.copies → j.copies ≤ suc k → held (suc k) < held k
  last_falls k h l =
      let e : held (suc (suc k)) ≡ held (suc k) = full (suc (suc k)) (omega arith) ∙ sym (full (suc k) l) in
      let r = in_range_lem sensible in
      lt_of_mul-lt-mul_left (suc k * j.loss) (omega (arith, rw e at (rung k h), mul-pos r.finish_some (worth (suc k))))

-- What the planner answers with number 0 is the chance of a sensible plan.
pub answered : {j : Plan} {a : Answer} → CopiesOutcome j a → a.number ≡ 0 → Sensible j × Chance (copies_chain j) a.numerator a.denominator
answered (refused n p (copies_wrong f) e) z = absurd (omega (arith, ap (λ (a : Answer). a.number) e))
answered (refused n p (weight_wrong g q f b) e) z = absurd (omega (arith, ap (λ (a : Answer). a.number) e))
answered (large s n e) z = absurd (omega (arith, ap (λ (a : Answer). a.number) e))
answered {j} (planned s n p q h e) z = (s, subst (λ (a : Answer). Chance (copies_chain j) a.numerator a.denominator) (sym e) h)

-- Plans with the same weights.
module _ (g : Weights) where
  -- Of two, the one with more copies has the smaller share at its start,
  shares_less : {n m d e : ℕ} {x y : ℕ → ℕ} → Sensible (with_copies g n) → Sensible (with_copies g m) → n < m → Shares (copies_chain (with_copies g n)) d x
      → Shares (copies_chain (with_copies g m)) e y → y m * d < e * x n
  shares_less {n} {m} s s' h S S' =
      let k : ℕ = m - 1 in
      let flat : held s S k ≡ held s S (suc k) = full s S k (omega arith) ∙ sym (full s S (suc k) (omega arith)) in
      rw (foot s S, foot s' S', full s S (suc k) (omega arith), full s' S' (suc k) (omega arith)) at
      (falls (λ i. suc i * g.loss) (λ i. suc i * g.loss + g.rebuild + g.finish) (held s S) (held s' S') g.rebuild (in_range_lem s).rebuild_some
      (worth s S)
      (rung_least s S)
      k
      (λ i l. omega (arith, rung s' S' i (omega arith)))
      (rw flat (omega (arith, mul-lt-mul_of_pos_left (last_falls s' S' k (omega arith) (omega arith)) (worth s S (suc k))))))

  -- and so the smaller chance.
  pub more_copies_less : {n m : ℕ} → Sensible (with_copies g n) → Sensible (with_copies g m) → n < m → {p q p' q' : ℕ}
      → Chance (copies_chain (with_copies g n)) p q → Chance (copies_chain (with_copies g m)) p' q' → p' * q < p * q'
  more_copies_less {n} {m} s s' h {p} {q} {p'} {q'} C C' =
      let (d, x, S) = chances_exist plain (copies_lent (with_copies g n)) (copies_plain s) refl in
      let (e, y, S') = chances_exist plain (copies_lent (with_copies g m)) (copies_plain s') refl in
      lt_of_mul-lt-mul_left (d * e)
      (omega (
        arith,
        ap (λ z. z * (e * q')) (C.share d x S),
        ap (λ z. z * (d * q)) (C'.share e y S'),
        mul-lt-mul_of_pos_left (shares_less s s' h S S') (mul-pos C.lowest.whole C'.lowest.whole),
      ))
