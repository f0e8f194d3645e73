-- What a test leaves of a list of numbers: those of which it holds.
use Rattle.std.specs.Prelude.{ℕ, zero, suc, ◌<◌, ◌≡◌, refl, length, get_or}
use Rattle.std.proofs.Common.{sym, ◌∙◌, arith}
use Rattle.std.proofs.Math.Logic.{ite}
use mathlib.Core.List.{List, [], ◌∷◌, filter}

-- The list o has s.
pub record Holds (o : List ℕ) (s : ℕ) : Type 0 where
  pub position : ℕ
  pub inside : position < length o
  pub here : get_or o position 0 ≡ s

-- No number stands twice.
abbrev pub Once : List ℕ → Type 0
Once o = (i j : ℕ) → i < j → j < length o → get_or o i 0 ≡ get_or o j 0 → ⊥

further : {o : List ℕ} {s : ℕ} (x : ℕ) → Holds o s → Holds (x ∷ o) s
further x h = record { position = suc h.position; inside = omega (arith, h.inside); here = h.here }

module _ {P : ℕ → Type 0} (d : (s : ℕ) → Dec (P s)) where
  -- It holds of what is left, and that was there.
  pub filter_from : (o : List ℕ) (i : ℕ) → i < length (filter d o) → Holds o (get_or (filter d o) i 0) × P (get_or (filter d o) i 0)
  filter_from [] i h = absurd (omega arith)
  filter_from (x ∷ o) i h = at (d x) i h (filter_from o)
    where
      at : (e : Dec (P x)) (i : ℕ) → i < length (ite {C = List ℕ} e (x ∷ filter d o) (filter d o))
          → ((i : ℕ) → i < length (filter d o) → Holds o (get_or (filter d o) i 0) × P (get_or (filter d o) i 0))
          → Holds (x ∷ o) (get_or (ite {C = List ℕ} e (x ∷ filter d o) (filter d o)) i 0) × P (get_or (ite {C = List ℕ} e (x ∷ filter d o) (filter d o)) i 0)
      at (yes y) zero h f = (record { position = 0; inside = omega arith; here = refl }, y)
      at (yes y) (suc i) h f = let g = f i (omega arith) in (further x g.0, g.1)
      at (no y) i h f = let g = f i h in (further x g.0, g.1)

  -- What was there and of which it holds is left.
  pub filter_every : (o : List ℕ) (s : ℕ) → P s → Holds o s → Holds (filter d o) s
  filter_every [] s h w = absurd (omega (arith, w.inside))
  filter_every (x ∷ o) s h w = at (d x) w.position w.inside w.here (filter_every o s h)
    where
      at : (e : Dec (P x)) (p : ℕ) → p < length (x ∷ o) → get_or (x ∷ o) p 0 ≡ s → (Holds o s → Holds (filter d o) s)
          → Holds (ite {C = List ℕ} e (x ∷ filter d o) (filter d o)) s
      at (yes y) zero l q f = record { position = 0; inside = omega arith; here = q }
      at (yes y) (suc p) l q f = further x (f (record { position = p; inside = omega arith; here = q }))
      at (no y) zero l q f = absurd (y (rw q h))
      at (no y) (suc p) l q f = f (record { position = p; inside = omega arith; here = q })

  pub filter_once : (o : List ℕ) → Once o → Once (filter d o)
  filter_once [] u i j a b e = absurd (omega arith)
  filter_once (x ∷ o) u i j a b e =
      at (d x) i j a b e (filter_once o (λ i j a b e. u (suc i) (suc j) (omega arith) (omega arith) e))
    where
      at : (y : Dec (P x)) (i j : ℕ) → i < j → j < length (ite {C = List ℕ} y (x ∷ filter d o) (filter d o))
          → get_or (ite {C = List ℕ} y (x ∷ filter d o) (filter d o)) i 0 ≡ get_or (ite {C = List ℕ} y (x ∷ filter d o) (filter d o)) j 0
          → Once (filter d o) → ⊥
      at (yes y) i zero a b e f = omega arith
      at (yes y) zero (suc j) a b e f =
          let w = (filter_from o j (omega arith)).0 in u 0 (suc w.position) (omega arith) (omega (arith, w.inside)) (e ∙ sym w.here)
      at (yes y) (suc i) (suc j) a b e f = f i j (omega arith) (omega arith) e
      at (no y) i j a b e f = f i j a b e
