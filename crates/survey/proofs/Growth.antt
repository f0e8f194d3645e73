-- How a set grows along the edges until it is whole.
use Prim.Native.Nat.{ℕ, ◌+◌, ◌^◌, ◌≤◌, ◌<◌}
use mathlib.Core.Path.{◌≡◌, refl, sym, subst, ◌∙◌}
use mathlib.Core.Logic.{◌↔◌, ⊎_elim, inl, inr}
use mathlib.Core.Bool.{Bool, true, false}
use mathlib.Core.List.{List}
use native.Mathlib.Omega.{arith}
use lib.Bits.{bit_or, or_add_and, and_le_r}
use borrow.Author.Count.{below_more}
use Rattle.meaning.specs.Number.{decides}
use Rattle.look.proofs.Ends.{from_below, to_below}
use Rattle.meaning.specs.Number.{bit}
use Rattle.meaning.specs.Chain.{most_states, edge_count}
use Rattle.meaning.specs.Refusal.{EndFault}
use Rattle.theory.specs.Numbers.Bits.{in_either, in_one}
use Rattle.survey.specs.Grow.{tail, head, Open, Way, Grown, sown, joined, in_turn, Idle, AllIdle, Larger}

-- What decides one thing decides another that is the same.
pub alike : {P Q : Type 0} (b : Bool) → (P → Q) → (Q → P) → decides P b → decides Q b
alike true to from d = to d
alike false to from d = λ q. d (from q)

-- Both ends of an edge are below 64.
pub end_below : (back : Bool) (edges : List ℕ) (e : ℕ) → e < edge_count edges → ((e : ℕ) → EndFault most_states edges e → ⊥)
    → tail back edges e < most_states
end_below true edges e h f = to_below edges f e h
end_below false edges e h f = from_below edges f e h

-- What grows from what has grown has grown.
pub regrown : {w : Way} {seed set i : ℕ} → ((i : ℕ) → bit set i ≡ 1 → Grown w seed i) → Grown w set i → Grown w seed i
regrown f (sown b) = f _ b
regrown f (joined e h g n) = joined e h (regrown f g) n

-- A set that is not changed.
pub unchanged : {w : Way} {Known : ℕ → Type 0} {set : ℕ} → Known set → Larger w Known set set
unchanged k = record { grows = omega arith; kept = λ i b. b; grown = λ i b. sown b; whole = λ e. k }

-- A set that grows twice.
pub again : {w : Way} {A B C : ℕ → Type 0} {r s t : ℕ} → ((z : ℕ) → A z → B z → C z) → Larger w A r s → Larger w B s t → Larger w C r t
again {A = A} {B} {C} {r} {s} {t} f a b =
    record {
      grows = omega (arith, a.grows, b.grows);
      kept = λ i h. b.kept i (a.kept i h);
      grown = λ i h. regrown a.grown (b.grown i h);
      whole = λ e.
          let q : s ≡ r = omega (arith, a.grows, b.grows) in
          f r (a.whole q) (subst B q (b.whole (e ∙ sym q)));
    }

-- The head of an edge whose tail is open joins the set.
pub with_head : (w : Way) (set e j : ℕ) → j ≡ head w.back w.edges e → e < edge_count w.edges
    → Open w.barrier set (tail w.back w.edges e) → Larger w (Idle w e) set (bit_or set (2 ^ j))
with_head w set e j q h o =
    let lies : bit (bit_or set (2 ^ j)) j ≡ 1 = (in_either set (2 ^ j) j).1 (inr ((in_one j j).1 refl)) in
    record {
      grows = omega (arith, or_add_and set (2 ^ j), and_le_r set (2 ^ j));
      kept = λ i b. (in_either set (2 ^ j) i).1 (inl b);
      grown = λ i b.
          ⊎_elim
          (λ (a : bit set i ≡ 1). sown a)
          (λ (a : bit (2 ^ j) i ≡ 1).
          subst (Grown w set) (sym ((in_one j i).0 a ∙ q)) (joined e h (sown o.inside) o.free))
          ((in_either set (2 ^ j) i).0 b);
      whole = λ r o. subst (λ z. bit set z ≡ 1) q (subst (λ z. bit z j ≡ 1) r lies);
    }

-- A set to which no edge adds anything is whole.
pub whole_set : {w : Way} {seed set i : ℕ} → ((i : ℕ) → bit seed i ≡ 1 → bit set i ≡ 1) → AllIdle w (edge_count w.edges) set → Grown w seed i
    → bit set i ≡ 1
whole_set k idle (sown b) = k _ b
whole_set k idle (joined e h g n) = idle e h (record { inside = whole_set k idle g; free = n })

-- A pass over n edges: none of those at its first k places adds anything.
abbrev pub Past : Way → ℕ → ℕ → ℕ → Type 0
Past w n k set = (d : ℕ) → d < k → Idle w (in_turn w.back n d) set

pub one_more : (w : Way) (n : ℕ) {set larger next e : ℕ} → Larger w (Past w n e) set larger
    → Larger w (Idle w (in_turn w.back n e)) larger next → Larger w (Past w n (e + 1)) set next
one_more w n {e = e} a b = again (λ z f g. below_more (λ d. Idle w (in_turn w.back n d) z) e f g) a b

pub turn_below : (back : Bool) (n e : ℕ) → e < n → in_turn back n e < n
turn_below true n e h = omega arith
turn_below false n e h = h

turn_back : (back : Bool) (n e : ℕ) → e < n → in_turn back n (in_turn back n e) ≡ e
turn_back true n e h = omega arith
turn_back false n e h = refl

pub all_past : (w : Way) (n : ℕ) {set larger : ℕ} → Larger w (Past w n n) set larger → Larger w (AllIdle w n) set larger
all_past w n a =
    again
    (λ z f u e h. subst (λ d. Idle w d z) (turn_back w.back n e h) (f (in_turn w.back n e) (turn_below w.back n e h)))
    a (unchanged {Known = λ _. Unit {0}} tt)

-- Once a pass adds nothing, the set is what grows from the seed.
pub all_grown : (w : Way) (seed set larger : ℕ) → Larger w (λ _. Unit {0}) seed set → Larger w (AllIdle w (edge_count w.edges)) set larger
    → larger ≤ set → (i : ℕ) → (bit set i ≡ 1) ↔ Grown w seed i
all_grown w seed set larger a b l i =
    let e : larger ≡ set = omega (arith, b.grows) in
    (a.grown i, λ g. whole_set a.kept (b.whole e) g)
