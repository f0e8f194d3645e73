-- The turns of a chosen order: what they read of it, what holds of the table at each of them, and how many they are.
use Prim.Native.Nat.{ℕ, zero, suc, ◌≤◌, ◌<◌}
use Rattle.std.proofs.Math.Logic.{inl}
use Rattle.std.specs.Prelude.{◌≡◌, refl, Bool, true, List}
use Rattle.std.proofs.Common.{sym, ap₂, ◌∙◌, arith}
use Rattle.std.proofs.Math.Path.{ap, subst}
use Rattle.std.proofs.Math.ListN.{get_or}
use Rattle.meaning.specs.Number.{choose}
use Rattle.meaning.specs.Chain.{Chain, Goal}
use Rattle.meaning.specs.Row.{exact}
use Rattle.meaning.specs.Step.{Table, row, Sets, Right, outside, removed, goes, after}
use Rattle.meaning.specs.Choice.{product, exact_at, product_at, Left, Next, products_to}
use Rattle.theory.specs.Numbers.Sum.{last_or_below, sum_ext}
use Rattle.theory.specs.Chains.Fine.{Fine, fine_whole, reached_state}
use Rattle.theory.specs.Rows.Settle.{one_engine}
use Rattle.theory.specs.Stages.Given.{LiveRow}
use Rattle.theory.specs.Stages.First.{first_sound}
use Rattle.theory.specs.Stages.Leads.{Sound, sound_loose}
use Rattle.theory.specs.Stages.Removal.{sound_map, sound_removed}
use Rattle.theory.specs.Stages.Weighs.{Wide, first_wide, removed_wide}
use Rattle.theory.specs.Outcomes.StepsStates.{goes_law}

-- The first p entries of two orders are the same.
pub record Alike (o o' : List ℕ) (p : ℕ) : Type 0 where
  pub entry : (q : ℕ) → q < p → get_or o q 0 ≡ get_or o' q 0

-- Each of the first p entries is the state whose turn it is.
pub record Turns (c : Chain) (k : Sets) (o : List ℕ) (p : ℕ) : Type 0 where
  pub turn : (q : ℕ) → q < p → Next c k o q (get_or o q 0)

pub alike_back : {o o' : List ℕ} {p : ℕ} → Alike o o' p → Alike o' o p
alike_back h = record { entry = λ q l. sym (h.entry q l) }

pub alike_less : {o o' : List ℕ} {p q : ℕ} → q ≤ p → Alike o o' p → Alike o o' q
alike_less l h = record { entry = λ r k. h.entry r (omega (arith, k, l)) }

-- The table after p positions reads only the first p entries of the order.
pub after_prefix : (b : Bool) (n : ℕ) (go : ℕ → Bool) (t : Table) {o o' : List ℕ} (p : ℕ) → Alike o o' p → after b n go o t p ≡ after b n go o' t p
unfolding after
after_prefix b n go t zero h = refl
after_prefix b n go t (suc p) h =
    ap₂ (λ (s : ℕ) (u : Table). choose (go s) (removed b n s u) u) (h.entry p (omega arith)) (after_prefix b n go t p (alike_less (omega arith) h))

module _ (c : Chain) (k : Sets) where
  abbrev n : ℕ
  n = c.states

  abbrev go : ℕ → Bool
  go = goes c.start k.live

  module _ {o o' : List ℕ} {p : ℕ} (h : Alike o o' p) where
    pub exact_alike : exact_at c k o p ≡ exact_at c k o' p
    exact_alike = after_prefix exact n go _ p h

    pub product_alike : (s : ℕ) → product_at c k o p s ≡ product_at c k o' p s
    product_alike s = ap (product n s) exact_alike

    pub left_alike : {i : ℕ} → Left c k o p i → Left c k o' p i
    left_alike l = record { going = l.going; unseen = λ q b e. l.unseen q b (h.entry q b ∙ e) }

  pub next_alike : {o o' : List ℕ} {p s : ℕ} → Alike o o' p → Next c k o p s → Next c k o' p s
  next_alike {s = s} h x =
      record {
        left = left_alike h x.left;
        least = λ i l. omega (arith, x.least i (left_alike (alike_back h) l), product_alike h s, product_alike h i);
        lowest = λ i l e. x.lowest i (left_alike (alike_back h) l) (product_alike h i ∙ e ∙ sym (product_alike h s));
      }

  -- It is the turn of one state.
  pub next_one : {o : List ℕ} {p s s' : ℕ} → Next c k o p s → Next c k o p s' → s ≡ s'
  next_one {o} {p} {s} {s'} x y =
      let e : product_at c k o p s ≡ product_at c k o p s' = omega (arith, x.least s' y.left, y.least s x.left) in
      omega (arith, x.lowest s' y.left (sym e), y.lowest s x.left e)

  pub turns_alike : {o o' : List ℕ} {p : ℕ} → Alike o o' p → Turns c k o p → Turns c k o' p
  turns_alike {o' = o'} h t =
      record { turn = λ q l. subst (Next c k o' q) (h.entry q l) (next_alike (alike_less (omega arith) h) (t.turn q l)) }

  -- One turn more.
  pub turns_more : {o o' : List ℕ} {p s : ℕ} → Alike o o' p → Turns c k o p → Next c k o p s → get_or o' p 0 ≡ s → Turns c k o' (suc p)
  turns_more {o} {o'} {p} {s} h t x e =
      record {
        turn = λ q l.
            last_or_below l
            (λ (a : q ≡ p). subst (λ q. Next c k o' q (get_or o' q 0)) (sym a) (subst (Next c k o' p) (sym e) (next_alike h x)))
            (λ (a : q < p). (turns_alike h t).turn q a);
      }

  turns_less : {o : List ℕ} {p : ℕ} → Turns c k o (suc p) → Turns c k o p
  turns_less t = record { turn = λ q l. t.turn q (omega arith) }

  pub table_more : (o : List ℕ) (p : ℕ) → go (get_or o p 0) ≡ true → exact_at c k o (suc p) ≡ removed exact n (get_or o p 0) (exact_at c k o p)
  unfolding after
  table_more o p e = rw e

  -- The sum of the products reads only the entries of its turns.
  pub products_alike : {o o' : List ℕ} {p : ℕ} → Alike o o' p → products_to c k o p ≡ products_to c k o' p
  products_alike {o} {o'} {p} h =
      sum_ext _ _ p (λ q l.
      product_alike (alike_less (omega arith) h) (get_or o q 0) ∙ ap (product_at c k o' q) (h.entry q l))

  -- A state that is left is kept until its turn.
  abbrev Kept : List ℕ → ℕ → ℕ → Type 0
  Kept o p i = LiveRow c k i × ((q : ℕ) → q < p → get_or o q 0 ≡ i → ⊥)

  module _ (fine : Fine c) (right : Right c k) (start : c.start < n) where
    pub going_state : {i : ℕ} → go i ≡ true → i < n
    going_state {i} e = reached_state fine start ((goes_law c k right i).0 e).0.reached

    left_kept : {o : List ℕ} {p i : ℕ} → Left c k o p i → Kept o p i
    left_kept {i = i} l = ((going_state l.going, (right.live i).1 ((goes_law c k right i).0 l.going).0), l.unseen)

    pub turns_wide : (o : List ℕ) (p : ℕ) → Turns c k o p → Wide n (exact_at c k o p)
    unfolding after
    turns_wide o zero t = first_wide c k _
    turns_wide o (suc p) t =
        let x = t.turn p (omega arith) in
        subst (Wide n) (sym (table_more o p x.left.going))
        (removed_wide n (get_or o p 0) (exact_at c k o p) (turns_wide o p (turns_less t)) (going_state x.left.going))

    turns_sound : (o : List ℕ) (p : ℕ) → Turns c k o p → Sound exact n (Kept o p) (exact_at c k o p)
    unfolding after
    turns_sound o zero t =
        sound_map exact n (LiveRow c k) (Kept o 0) _ (λ i q. (q, λ r l. absurd (omega arith))) (λ i q. q.0)
        (first_sound exact c k _ (λ _. 0) (Goal c) (λ _ g. g) (λ _ g. inl g) (fine_whole fine) right (one_engine exact refl))
    turns_sound o (suc p) t =
        let x = t.turn p (omega arith) in
        let s = turns_sound o p (turns_less t) in
        subst (Sound exact n (Kept o (suc p))) (sym (table_more o p x.left.going))
        (sound_map exact n _ (Kept o (suc p)) _
        (λ i q. (q.0.0, λ r l. last_or_below l (λ (a : r ≡ p). λ e. q.1 (sym e ∙ ap (λ r. get_or o r 0) a)) (λ (a : r < p). q.0.1 r a)))
        (λ i q. ((q.0, λ r l. q.1 r (omega arith)), λ e. q.1 p (omega arith) (sym e)))
        (sound_removed exact n (get_or o p 0) (exact_at c k o p) (Kept o p) s (going_state x.left.going)))

    -- A state that is left has weight outside its own loop.
    pub left_loose : {o : List ℕ} {p i : ℕ} → Turns c k o p → Left c k o p i → 0 < outside n i (row (exact_at c k o p) i)
    left_loose {o} {p} {i} t l = sound_loose exact n (Kept o p) (exact_at c k o p) (turns_sound o p t) i (left_kept l)
