-- The turns as they are taken, and the whole order.
use Prim.Native.Nat.{ℕ, suc, ◌+◌, ◌*◌, ◌≤◌, ◌<◌}
use mathlib.Core.Path.{◌≡◌, refl, sym, ap, subst, ◌∙◌}
use mathlib.Core.Logic.Iff
use mathlib.Core.Logic.{◌↔◌}
use mathlib.Core.List.{List, []}
use native.Mathlib.Omega.{arith}
use lib.ListN.{length, get_or, set, length-set}
use lib.Seq.{get_or-set_same, get_or-set_other}
use Rattle.meaning.specs.Number.{sum_to, bit}
use Rattle.meaning.specs.Chain.{Chain}
use Rattle.meaning.specs.Row.{exact}
use Rattle.meaning.specs.Step.{row, Sets, outside, removed, goes}
use Rattle.meaning.specs.Choice.{product, exact_at, product_at, Left, Next, products_to}
use Rattle.theory.specs.Numbers.Sum.{last_or_below, sum_next}
use Rattle.theory.specs.Stages.Weighs.{Wide}
use Rattle.theory.specs.Outcomes.Turns.{Alike, Turns, exact_alike, product_alike, turns_more, table_more, products_alike, going_state, turns_wide, left_loose}
use Rattle.theory.specs.Outcomes.TurnsCounted.{turns_room}
use Rattle.survey.specs.Sets.{Exactly}
use Rattle.choice.specs.Columns.{Weighed, Without, Emptied}
use Rattle.choice.specs.Turns.{Held, product_in, most_product, Picked, Ready, Turned}
use Rattle.choice.specs.declared.turns.Pick.{Pick}
use Rattle.choice.specs.declared.turns.Tally.{Tally}
use Rattle.theory.specs.Numbers.Bits.{nothing_in}
use Rattle.choice.proofs.Weights.{weighed_product, weighed_removed}

pub record Turning (c : Chain) (k : Sets) (n p left sum : ℕ) (columns o : List ℕ) : Type 0 where
  pub size : length o ≡ n
  pub turns : Turns c k o p
  pub weighed : Weighed n (exact_at c k o p) columns
  pub lefts : (i : ℕ) → Held left i ↔ Left c k o p i
  pub sums : sum ≡ products_to c k o p
  pub few : sum ≤ p * most_product

module _ {c : Chain} {k : Sets} {n going : ℕ} {columns₀ order₀ : List ℕ} (r : Ready c k n going columns₀ order₀) where
  pub turning_none : Turning c k n 0 going 0 columns₀ order₀
  unfolding sum_to
  turning_none =
      let a : Alike [] order₀ 0 = record { entry = λ q h. absurd (omega arith) } in
      record {
        size = r.size;
        turns = record { turn = λ q h. absurd (omega arith) };
        weighed = subst (λ t. Weighed n t columns₀) (exact_alike c k a) r.weighed;
        lefts = λ i. (
          λ b. record { going = (r.goers i).0 b; unseen = λ q h. absurd (omega arith) },
          λ l. (r.goers i).1 l.going,
        );
        sums = refl;
        few = omega arith;
      }

  module _ {p left sum : ℕ} {columns o : List ℕ} (x : Turning c k n p left sum columns o) where
    -- There is a place for one more.
    pub turning_room : p < n
    turning_room = omega (arith, turns_room c k r.fine r.right r.start x.turns, r.states)

    pub turning_inside : (i : ℕ) → Held left i → i < n
    turning_inside i b = omega (arith, going_state c k r.fine r.right r.start ((x.lefts i).0 b).going, r.states)

    module _ (pick : Pick) (picked : Picked (Held left) (product_in n columns) n pick) where
      abbrev s : ℕ
      s = pick.state

      product_is : (i : ℕ) → i < n → product_in n columns i ≡ product_at c k o p i
      product_is i h =
          weighed_product x.weighed r.few i h ∙ ap (λ m. product m i (exact_at c k o p)) (sym r.states)

      inside : {i : ℕ} → Left c k o p i → i < n
      inside {i} l = turning_inside i ((x.lefts i).1 l)

      -- What is picked is the state whose turn it is.
      turning_next : Next c k o p s
      turning_next =
          let f = picked.first in
          record {
            left = (x.lefts s).0 f.here;
            least = λ i l. omega (arith, f.least i (inside l) ((x.lefts i).1 l), product_is i (inside l), product_is s f.inside);
            lowest = λ i l e.
                f.lowest i (inside l) ((x.lefts i).1 l) (product_is i (inside l) ∙ e ∙ sym (product_is s f.inside));
          }

      -- One turn more: the state is written, and removed from the columns and from those that are left.
      module _ (new : List ℕ) (emptied : Emptied n s columns new) (left' : ℕ) (others : Exactly (Without left s) left') where
        abbrev o' : List ℕ
        o' = set o p s

        same_front : Alike o o' p
        same_front = record { entry = λ q h. sym (get_or-set_other o p q s 0 (omega arith)) }

        entry : get_or o' p 0 ≡ s
        entry = get_or-set_same o p s 0 (omega (arith, x.size, turning_room))

        table : exact_at c k o' (suc p) ≡ removed exact n s (exact_at c k o p)
        table =
            table_more c k o' p (ap (goes c.start k.live) entry ∙ turning_next.left.going)
            ∙ ap (λ (s : ℕ). removed exact c.states s (exact_at c k o' p)) entry
            ∙ ap (λ (n : ℕ). removed exact n s (exact_at c k o' p)) r.states
            ∙ ap (removed exact n s) (sym (exact_alike c k same_front))

        wide : Wide n (exact_at c k o p)
        wide = subst (λ n. Wide n (exact_at c k o p)) r.states (turns_wide c k r.fine r.right r.start o p x.turns)

        loose : 0 < outside n s (row (exact_at c k o p) s)
        loose =
            subst (λ n. 0 < outside n s (row (exact_at c k o p) s)) r.states
            (left_loose c k r.fine r.right r.start x.turns turning_next.left)

        left_more : (i : ℕ) → Without left s i → Left c k o' (suc p) i
        left_more i w =
            let l = (x.lefts i).0 w.0 in
            record {
              going = l.going;
              unseen = λ q h.
                  last_or_below h
                  (λ (a : q ≡ p). λ e. w.1 (sym e ∙ ap (λ q. get_or o' q 0) a ∙ entry))
                  (λ (a : q < p). λ e. l.unseen q a (same_front.entry q a ∙ e));
            }

        more_left : (i : ℕ) → Left c k o' (suc p) i → Without left s i
        more_left i l = (
          (x.lefts i).1 (record { going = l.going; unseen = λ q h e. l.unseen q (omega arith) (sym (same_front.entry q h) ∙ e) }),
          λ e. l.unseen p (omega arith) (entry ∙ sym e),
        )

        pub turning_more : Turning c k n (p + 1) left' (sum + pick.product) new o'
        turning_more =
            let one : suc p ≡ p + 1 = omega arith in
            subst (λ q. Turning c k n q left' (sum + pick.product) new o') one
            (record {
              size = length-set o p s ∙ x.size;
              turns = turns_more c k same_front x.turns turning_next entry;
              weighed = subst (λ t. Weighed n t new) (sym table) (weighed_removed x.weighed r.few s picked.first.inside wide loose new emptied);
              lefts = λ i. Iff.trans (others i) (left_more i, more_left i);
              sums =
                  omega (
                    arith,
                    x.sums,
                    picked.is,
                    product_is s picked.first.inside,
                    product_alike c k same_front s,
                    products_alike c k same_front,
                    ap (product_at c k o' p) entry,
                    sum_next (λ q. product_at c k o' q (get_or o' q 0)) p (suc p) refl,
                  );
              few = omega (arith, x.few, picked.few);
            })

    -- No state is left.
    pub turning_all : (tally : Tally) → tally.count ≡ p → tally.sum ≡ sum → left ≡ 0 → Turned c k tally o
    turning_all tally e f z =
        record {
          size = x.size ∙ sym r.states;
          turns = rw e x.turns;
          done = rw e (λ i l. nothing_in i (ap (λ s. bit s i) (sym z) ∙ (x.lefts i).1 l));
          sum = rw (e, f) x.sums;
        }
