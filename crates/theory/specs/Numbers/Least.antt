-- The first of the least: of the numbers below a bound with a property, the lowest of those with the least value.
use Rattle.std.specs.Prelude.{ℕ, zero, suc, ◌≤◌, ◌<◌, ◌≡◌, ◌⊎◌}
use Rattle.std.proofs.Common.{inl, inr, ⊎_elim, arith}
use Rattle.theory.specs.Numbers.Sum.{below, last_or_below}

pub record FirstLeast (F : ℕ → Type 0) (value : ℕ → ℕ) (m s : ℕ) : Type 0 where
  pub here : F s
  pub inside : s < m
  pub least : (i : ℕ) → i < m → F i → value s ≤ value i
  pub lowest : (i : ℕ) → i < m → F i → value i ≡ value s → s ≤ i

module _ (F : ℕ → Type 0) (value : ℕ → ℕ) where
  -- None of the numbers below m has the property.
  abbrev pub NoneBelow : ℕ → Type 0
  NoneBelow m = (i : ℕ) → i < m → F i → ⊥

  pub none_more : (m : ℕ) → NoneBelow m → (F m → ⊥) → NoneBelow (suc m)
  none_more m f d i h x = last_or_below h (λ (e : i ≡ m). d (rw e at x)) (λ (a : i < m). f i a x)

  -- One number more: it is the first with the property; it is less than the least so far; or the least so far stays.
  pub least_new : (m : ℕ) → NoneBelow m → F m → FirstLeast F value (suc m) m
  least_new m f x =
      record {
        here = x;
        inside = omega arith;
        least = λ i h y. last_or_below h (λ (e : i ≡ m). rw e (omega arith)) (λ (a : i < m). absurd (f i a y));
        lowest = λ i h y _. last_or_below h (λ (e : i ≡ m). omega arith) (λ (a : i < m). absurd (f i a y));
      }

  module _ (m s : ℕ) (b : FirstLeast F value m s) where
    pub least_lower : F m → value m < value s → FirstLeast F value (suc m) m
    least_lower x l =
        record {
          here = x;
          inside = omega arith;
          least = λ i h y. last_or_below h (λ (e : i ≡ m). rw e (omega arith)) (λ (a : i < m). omega (arith, l, b.least i a y));
          lowest = λ i h y e. last_or_below h (λ (e : i ≡ m). omega arith) (λ (a : i < m). absurd (omega (arith, l, e, b.least i a y)));
        }

    pub least_stays : (F m → value s ≤ value m) → FirstLeast F value (suc m) s
    least_stays l =
        record {
          here = b.here;
          inside = omega (arith, b.inside);
          least = λ i h y. last_or_below h (λ (e : i ≡ m). rw e (l (rw e at y))) (λ (a : i < m). b.least i a y);
          lowest = λ i h y e. last_or_below h (λ (e : i ≡ m). omega (arith, b.inside)) (λ (a : i < m). b.lowest i a y e);
        }

  -- It is found, where the property is decided.
  pub least_found : ((i : ℕ) → F i ⊎ (F i → ⊥)) → (m : ℕ) → ((s : ℕ) × FirstLeast F value m s) ⊎ NoneBelow m
  least_found decide zero = inr (λ i h. absurd (omega arith))
  least_found decide (suc m) =
      ⊎_elim
      (λ (w : (s : ℕ) × FirstLeast F value m s).
      ⊎_elim
      (λ (x : F m).
      ⊎_elim
      (λ (l : value m < value w.0). inl (m, least_lower m w.0 w.1 x l))
      (λ (l : value w.0 ≤ value m). inl (w.0, least_stays m w.0 w.1 (λ _. l)))
      (below (value m) (value w.0)))
      (λ (d : F m → ⊥). inl (w.0, least_stays m w.0 w.1 (λ x. absurd (d x))))
      (decide m))
      (λ (f : NoneBelow m).
      ⊎_elim
      (λ (x : F m). inl (m, least_new m f x))
      (λ (d : F m → ⊥). inr (none_more m f d))
      (decide m))
      (least_found decide m)
