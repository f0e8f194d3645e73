-- Edges parted by a test into those that are picked and the rest: what flows along the two is what flows along all.
use Rattle.std.specs.Prelude.{ℕ, ◌+◌, ◌*◌, ◌≤◌, ◌<◌, ◌≡◌, refl, Bool, true, false, not, List, get_or}
use Rattle.std.proofs.Math.Path.{sym, ap}
use Rattle.std.proofs.Common.{ap₂, ◌∙◌, arith, eq-eqb}
use Rattle.meaning.specs.Number.{sum_to, only, join_to}
use Rattle.meaning.specs.Chain.{edge_size, edge, edge_count, from, to, weight, carried, flow}
use Rattle.theory.specs.Numbers.Sum.{sum_ext, sum_add, sum_term}
use Rattle.theory.specs.Chains.Joined.{flow_edge}
use Rattle.theory.specs.Chains.Picked.{picked_to, picked_edges, picked_rises, picked_at, picked_from, picked_flow}

-- One of the edges goes from one state to another.
abbrev pub Joins : List ℕ → ℕ → ℕ → Type 0
Joins edges source target = (d : ℕ) × (d < edge_count edges) × (from edges d ≡ source) × (to edges d ≡ target)

-- Edge e of a list; its reward does not count here.
abbrev pub edge_at : List ℕ → ℕ → List ℕ
edge_at edges e = edge (from edges e) (to edges e) (weight edges e) 0

-- The edges of which the test does not hold.
abbrev pub rest_of : List ℕ → ℕ → (ℕ → Bool) → List ℕ
rest_of edges count test = join_to (λ e. not (test e)) (edge_at edges) count

split_by : (b : Bool) (x y : ℕ) → (b ≡ true → x ≡ y) → y ≡ only b x + only (not b) y
split_by true x y e = omega (arith, e refl)
split_by false x y e = omega arith

-- Where the test holds, the numbers of an edge of the list are what f, t and w say.
pub record Agrees (edges : List ℕ) (count : ℕ) (test : ℕ → Bool) (f t w : ℕ → ℕ) : Type 0 where
  pub counted : edge_count edges ≡ count
  pub agree : (e : ℕ) → e < count → test e ≡ true → (from edges e ≡ f e) × (to edges e ≡ t e) × (weight edges e ≡ w e)

-- Such edges are picked, with any rewards r; the rest is picked from the list itself.
module _ {edges : List ℕ} {count : ℕ} {test : ℕ → Bool} {f t w : ℕ → ℕ} (r : ℕ → ℕ) (agrees : Agrees edges count test f t w) where
  abbrev kept : ℕ → List ℕ
  kept e = edge (f e) (t e) (w e) (r e)

  abbrev picked : List ℕ
  picked = join_to test kept count

  abbrev others : ℕ → Bool
  others e = not (test e)

  abbrev rest : List ℕ
  rest = rest_of edges count test

  picked_count : edge_count picked ≡ picked_to test count
  picked_count = omega (arith, picked_edges test kept (λ _. refl) count)

  rest_count : edge_count rest ≡ picked_to others count
  rest_count = omega (arith, picked_edges others (edge_at edges) (λ _. refl) count)

  -- Each edge is picked or among the rest.
  splits_one : (i : ℕ) (g : ℕ → ℕ) (e : ℕ) → e < count
      → carried edges i g e ≡ only (test e) (flow (kept e) i g) + only (others e) (flow (edge_at edges e) i g)
  unfolding carried
  splits_one i g e h =
      rw (flow_edge (f e) (t e) (w e) (r e) i g, flow_edge (from edges e) (to edges e) (weight edges e) 0 i g)
      (split_by (test e) _ _ (λ q. let a = agrees.agree e h q in rw (a.0, a.1, a.2) refl))

  pub splits : (i : ℕ) (g : ℕ → ℕ) → flow edges i g ≡ flow picked i g + flow rest i g
  unfolding flow
  splits i g =
      ap (sum_to (carried edges i g)) agrees.counted
      ∙ sum_ext _ _ count (splits_one i g)
      ∙ sum_add (λ e. only (test e) (flow (kept e) i g)) (λ e. only (others e) (flow (edge_at edges e) i g)) count
      ∙ sym
      (ap₂ (λ a b. a + b) (picked_flow test kept (λ _. refl) count i g) (picked_flow others (edge_at edges) (λ _. refl) count i g))

  -- An edge of the rest has the target of one of the edges.
  pub rest_inside : (n : ℕ) → ((e : ℕ) → e < count → to edges e < n) → (e : ℕ) → e < edge_count rest → to rest e < n
  rest_inside n inside e h =
      let (d, l, o, q) = picked_from others count e (omega (arith, rest_count)) in
      let a : to rest e ≡ to edges d =
      ap (λ z. get_or rest (edge_size * z + 1) 0) (sym q) ∙ picked_at others (edge_at edges) (λ _. refl) count d l o 1 (omega arith) in
      rw a (inside d l)

  -- An edge that is picked joins what it joined.
  pub picked_joins : (e : ℕ) → e < count → test e ≡ true → Joins picked (from edges e) (to edges e)
  picked_joins e h q =
      let a = agrees.agree e h q in
      let at : (k : ℕ) → k < edge_size → get_or picked (edge_size * picked_to test e + k) 0 ≡ get_or (kept e) k 0 =
      picked_at test kept (λ _. refl) count e h q in
      let first : edge_size * picked_to test e + 0 ≡ edge_size * picked_to test e = omega arith in (
        picked_to test e,
        omega (arith, picked_count, picked_rises test e count h q),
        (rw first at (at 0 (omega arith))) ∙ sym a.0,
        at 1 (omega arith) ∙ sym a.1,
      )

  -- One that is not has its weight in the rest.
  pub rest_weighs : (e : ℕ) → e < count → test e ≡ false → weight edges e ≤ flow rest (from edges e) (λ _. 1)
  rest_weighs e h q =
      let i = from edges e in
      let one : only (others e) (flow (edge_at edges e) i (λ _. 1)) ≡ weight edges e =
      rw (q, flow_edge i (to edges e) (weight edges e) 0 i (λ _. 1), eq-eqb i i refl) (omega arith) in
      omega (
        arith,
        picked_flow others (edge_at edges) (λ _. refl) count i (λ _. 1),
        sum_term (λ d. only (others d) (flow (edge_at edges d) i (λ _. 1))) count e h,
        one,
      )
