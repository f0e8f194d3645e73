-- Edges picked from a row of them by a test: how many they are, at which place each stands, and what flows along them.
use Prim.Native.Nat.{ℕ, zero, suc, ◌+◌, ◌*◌, ◌≤◌, ◌<◌}
use Rattle.std.specs.Prelude.{◌≡◌, Bool, List, [], ◌++◌, get_or}
use Rattle.std.proofs.Math.Path.{refl, ap}
use Rattle.std.proofs.Common.{sym, ◌∙◌, append-nil, arith}
use Rattle.std.proofs.Math.Bool.{true, false}
use Rattle.meaning.specs.Number.{sum_to, only, choose, join_to}
use Rattle.meaning.specs.Chain.{edge_size, flow}
use Rattle.theory.specs.Numbers.Sum.{last_or_below, sum_up}
use Rattle.theory.specs.Chains.Joined.{Edges, edges_joined, first_at, second_at, flow_joined, flow_none}

-- How many of the numbers below e the test holds of.
abbrev pub picked_to : (ℕ → Bool) → ℕ → ℕ
picked_to test e = sum_to (λ d. only (test d) 1) e

-- One number more is picked, or left.
pub join_cases : (test : ℕ → Bool) (f : ℕ → List ℕ) (n : ℕ) (P : List ℕ → ℕ → Type 0)
    → (test n ≡ true → P (join_to test f n ++ f n) (picked_to test n + 1)) → (test n ≡ false → P (join_to test f n) (picked_to test n))
    → P (join_to test f (suc n)) (picked_to test (suc n))
unfolding join_to sum_to
join_cases test f n P picked left = go (test n) refl
  where
    go : (b : Bool) → test n ≡ b → P (join_to test f n ++ choose b (f n) []) (picked_to test n + only b 1)
    go true e = picked e
    go false e =
        let z : picked_to test n + 0 ≡ picked_to test n = omega arith in rw (append-nil (join_to test f n), z) (left e)

-- Numbers that are picked are counted on.
pub picked_rises : (test : ℕ → Bool) (d e : ℕ) → d < e → test d ≡ true → picked_to test d < picked_to test e
picked_rises test d e h t = let u = sum_up (λ d. only (test d) 1) d e h in omega (arith, rw t at u)

pub picked_small : (test : ℕ → Bool) (e : ℕ) → picked_to test e ≤ e
unfolding sum_to
picked_small test zero = omega arith
picked_small test (suc e) = go (picked_small test e) (test e)
  where
    go : picked_to test e ≤ e → (b : Bool) → picked_to test e + only b 1 ≤ suc e
    go h true = omega arith
    go h false = omega arith

-- Each place among the picked is that of one of them.
abbrev pub PickedAt : (ℕ → Bool) → ℕ → ℕ → Type 0
PickedAt test e j = (d : ℕ) × (d < e) × (test d ≡ true) × (picked_to test d ≡ j)

pub picked_from : (test : ℕ → Bool) (e j : ℕ) → j < picked_to test e → PickedAt test e j
unfolding sum_to
picked_from test zero j h = absurd (omega arith)
picked_from test (suc e) j h =
    go (λ l. let w = picked_from test e j l in (w.0, omega (arith, w.1), w.2, w.3)) (test e) refl h
  where
    go : (j < picked_to test e → PickedAt test (suc e) j) → (b : Bool) → test e ≡ b → j < picked_to test e + only b 1 → PickedAt test (suc e) j
    go further true t l =
        last_or_below {j = j} {n = picked_to test e} (omega arith) (λ (q : j ≡ picked_to test e). (e, omega arith, t, sym q)) further
    go further false t l = further (omega arith)

module _ (test : ℕ → Bool) (edges : ℕ → List ℕ) (one : (e : ℕ) → Edges (edges e) 1) where
  pub picked_edges : (e : ℕ) → Edges (join_to test edges e) (picked_to test e)
  unfolding join_to sum_to
  picked_edges zero = refl
  picked_edges (suc e) =
      join_cases test edges e Edges
      (λ t. edges_joined (join_to test edges e) (edges e) (picked_to test e) (picked_edges e) 1 (one e))
      (λ t. picked_edges e)

  -- Number k of the picked edge d.
  pub picked_at : (e d : ℕ) → d < e → test d ≡ true → (k : ℕ) → k < edge_size
      → get_or (join_to test edges e) (edge_size * picked_to test d + k) 0 ≡ get_or (edges d) k 0
  unfolding join_to
  picked_at zero d h t k l = absurd (omega arith)
  picked_at (suc e) d h t k l =
      last_or_below h
      (λ (q : d ≡ e).
      rw (q, rw q at t)
      (second_at (join_to test edges e) (edges e) (picked_to test e) (picked_edges e) k (edge_size * picked_to test e + k) refl))
      (λ (m : d < e).
      first_at (join_to test edges e) (choose (test e) (edges e) []) (picked_to test e) (picked_edges e) (edge_size * picked_to test d + k)
      (omega (arith, picked_rises test d e m t))
      ∙ picked_at e d m t k l)

  pub picked_flow : (e i : ℕ) (f : ℕ → ℕ) → flow (join_to test edges e) i f ≡ sum_to (λ d. only (test d) (flow (edges d) i f)) e
  unfolding join_to sum_to
  picked_flow zero i f = flow_none i f
  picked_flow (suc e) i f = go (picked_flow e i f) (test e)
    where
      go : flow (join_to test edges e) i f ≡ sum_to (λ d. only (test d) (flow (edges d) i f)) e → (b : Bool)
          → flow (join_to test edges e ++ choose b (edges e) []) i f
          ≡ sum_to (λ d. only (test d) (flow (edges d) i f)) e + only b (flow (edges e) i f)
      go rest true =
          flow_joined (join_to test edges e) (edges e) (picked_to test e) (picked_edges e) 1 (one e) i f
          ∙ ap (λ z. z + flow (edges e) i f) rest
      go rest false = rw (append-nil (join_to test edges e)) (omega (arith, rest))
