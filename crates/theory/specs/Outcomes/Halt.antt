-- The elimination stops at a position, or it runs through: number 12 is decided.
use Prim.Native.Nat.{ℕ, zero, suc, ◌+◌, ◌<◌}
use Rattle.std.specs.Prelude.{◌≡◌, refl, Bool, true, false}
use Rattle.std.proofs.Math.Logic.Dec
use native.Mathlib.Omega.{arith}
use Rattle.std.proofs.Math.Decide.{dec_lt}
use Rattle.meaning.specs.Chain.{most_states, M}
use Rattle.meaning.specs.Row.{total, reward, exact}
use Rattle.meaning.specs.Step.{row, Sets}
use Rattle.meaning.specs.Refusal.{Lent}
use Rattle.meaning.specs.Stop.{table_at, NoFit, Passed, Stops, before_steps, in_step}
use Rattle.theory.specs.Numbers.Sum.{last_or_below}
use Rattle.theory.specs.Numbers.Search.{either, anywhere}

-- Two truth values are compared.
unfoldable pub alike : (a b : Bool) → Dec (a ≡ b)
alike true true = yes refl
alike true false = no (λ e. let z : ◌≡◌ {A = ℕ} 0 1 = cc in omega arith)
alike false true = no (λ e. let z : ◌≡◌ {A = ℕ} 0 1 = cc in omega arith)
alike false false = yes refl

-- What the elimination comes to.
pub data Halted (pay : ℕ → ℕ) (b : Bool) (l : Lent) (k : Sets) : Type 0 where
  stops : (number place : ℕ) → Stops pay b l k number place → Halted pay b l k
  runs : Passed pay b l k l.chain.states → Halted pay b l k

module _ (pay : ℕ → ℕ) (b : Bool) (l : Lent) (k : Sets) where
  unfoldable pub unfit : (p : ℕ) → Dec (NoFit pay b l k p)
  unfolding Dec.and alike anywhere either dec_lt
  unfit p =
      let n = l.chain.states in
      let t = table_at pay b l k p in
      Dec.and (alike b exact)
      (anywhere _ n (λ i. either (dec_lt M (total n (row t i))) (dec_lt M (reward n (row t i)))))

  pub passed_none : (NoFit pay b l k 0 → ⊥) → Passed pay b l k 0
  passed_none h q m f = h (let e : q ≡ 0 = omega arith in rw e at f)

  pub passed_more : (p : ℕ) → Passed pay b l k p → (NoFit pay b l k (suc p) → ⊥) → Passed pay b l k (suc p)
  passed_more p h f q m g =
      last_or_below {n = suc p} (omega arith) (λ (e : q ≡ suc p). f (rw e at g)) (λ (m : q < suc p). h q (omega arith) g)

  unfoldable pub halt_from : (m p : ℕ) → p + m ≡ l.chain.states → Passed pay b l k p → Halted pay b l k
  unfolding unfit
  halt_from zero p e h = runs (let q : p ≡ l.chain.states = omega arith in rw q at h)
  halt_from (suc m) p e h =
      elim (unfit (suc p)) [
        | yes f ↦ stops 12 p (in_step p (omega arith) h f)
        | no f ↦ halt_from m (suc p) (omega arith) (passed_more p h f)
      ]

  unfoldable pub halt : Halted pay b l k
  unfolding halt_from unfit
  halt =
      elim (unfit 0) [
        | yes f ↦ stops 12 most_states (before_steps f)
        | no f ↦ halt_from l.chain.states 0 (omega arith) (passed_none f)
      ]

  -- Nothing stops an elimination that runs through.
  pub runs_unstopped : Passed pay b l k l.chain.states → (number place : ℕ) → Stops pay b l k number place → ⊥
  runs_unstopped h _ _ (before_steps f) = h 0 (omega arith) f
  runs_unstopped h _ _ (in_step p m g f) = h (suc p) m f
