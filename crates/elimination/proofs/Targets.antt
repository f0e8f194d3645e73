-- The column of a target, by what becomes of it.
use mathlib.Core.Path.{◌≡◌, refl, sym, ap, ◌∙◌}
use Prim.Native.Nat.{ℕ, ◌-◌, ◌<◌}
use native.Mathlib.Omega.{arith}
use lib.Dec.{eqb}
use borrow.Author.Tests.{eq-eqb, ne_eqb}
use Rattle.meaning.specs.Number.{only, bit}
use Rattle.meaning.specs.Chain.{Chain}
use Rattle.meaning.specs.Row.{trap_column}
use Rattle.meaning.specs.Step.{Sets}
use Rattle.theory.specs.Stages.Given.{Fate, live, won, lost}
use Rattle.elimination.specs.Gather.{column_of}

module _ (c : Chain) (k : Sets) (t : ℕ) where
  abbrev n : ℕ
  n = c.states

  column_live : bit k.live t ≡ 1 → column_of n k t ≡ t
  unfolding column_of
  column_live l = rw (eq-eqb (bit k.live t) 1 l)

  column_won : bit k.live t ≡ 0 → bit k.good t ≡ 1 → column_of n k t ≡ n
  unfolding column_of
  column_won l g = rw (ne_eqb (bit k.live t) 1 (omega arith), eq-eqb (bit k.good t) 1 g)

  column_lost : bit k.live t ≡ 0 → bit k.good t ≡ 0 → column_of n k t ≡ trap_column n
  unfolding column_of
  column_lost l g = rw (ne_eqb (bit k.live t) 1 (omega arith), ne_eqb (bit k.good t) 1 (omega arith))

  module _ (j : ℕ) (inside : t < n) where
    pub in_live : j < n → bit k.live j ≡ 1 → Fate c k t → only (eqb (column_of n k t) j) 1 ≡ only (eqb t j) 1
    in_live h m (live a b d) = rw (column_live a)
    in_live h m (won a b d) =
        rw (column_won a d, ne_eqb n j (omega arith), ne_eqb t j (λ q. omega (arith, ap (bit k.live) q)))
    in_live h m (lost a b d) =
        rw (column_lost a d, ne_eqb (trap_column n) j (omega arith), ne_eqb t j (λ q. omega (arith, ap (bit k.live) q)))

    pub in_dead : j < n → (bit k.live j ≡ 1 → ⊥) → Fate c k t → only (eqb (column_of n k t) j) 1 ≡ 0
    in_dead h m (live a b d) = rw (column_live a, ne_eqb t j (λ q. m (sym (ap (bit k.live) q) ∙ a)))
    in_dead h m (won a b d) = rw (column_won a d, ne_eqb n j (omega arith))
    in_dead h m (lost a b d) = rw (column_lost a d, ne_eqb (trap_column n) j (omega arith))

  pub in_goal : t < n → Fate c k t → only (eqb (column_of n k t) n) 1 ≡ bit c.goals t
  in_goal h (live a b d) = rw (column_live a, ne_eqb t n (omega arith), b)
  in_goal h (won a b d) = rw (column_won a d, eq-eqb n n refl, b)
  in_goal h (lost a b d) = rw (column_lost a d, ne_eqb (trap_column n) n (omega arith), b)

  pub in_trap : t < n → Fate c k t → only (eqb (column_of n k t) (trap_column n)) 1 ≡ 1 - bit k.good t
  in_trap h (live a b d) = rw (column_live a, ne_eqb t (trap_column n) (omega arith), d)
  in_trap h (won a b d) = rw (column_won a d, ne_eqb n (trap_column n) (omega arith), d)
  in_trap h (lost a b d) = rw (column_lost a d, eq-eqb (trap_column n) (trap_column n) refl, d)

  -- Nothing goes to the columns behind Trap.
  pub in_none : (j : ℕ) → trap_column n < j → t < n → Fate c k t → only (eqb (column_of n k t) j) 1 ≡ 0
  in_none j g h (live a b d) = rw (column_live a, ne_eqb t j (omega arith))
  in_none j g h (won a b d) = rw (column_won a d, ne_eqb n j (omega arith))
  in_none j g h (lost a b d) = rw (column_lost a d, ne_eqb (trap_column n) j (omega arith))
