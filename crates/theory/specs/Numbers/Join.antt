-- How long lists are together of which a test picks some.
use Rattle.std.specs.Prelude.{ℕ, zero, suc, ◌+◌, ◌*◌, ◌≤◌, ◌<◌, ◌≡◌, refl, Bool, true, false, List, [], ◌++◌, length}
use Rattle.std.proofs.Common.{sym, ap, ◌∙◌, append-nil, arith, length-append}
use Rattle.meaning.specs.Number.{choose, join_to}
use Rattle.theory.specs.Numbers.Sum.{last_or_below}

apart : false ≡ true → ⊥
apart e = let z : ◌≡◌ {A = ℕ} 0 1 = ap (λ (b : Bool). choose b 1 0) e in omega arith

-- Where the test holds of none of the first k, at most m lists are joined, each of at most so many entries.
pub join_length : (test : ℕ → Bool) (f : ℕ → List ℕ) (k most n m : ℕ) → n ≤ k + m → ((i : ℕ) → i < k → test i ≡ false)
    → ((i : ℕ) → i < n → length (f i) ≤ most) → length (join_to test f n) ≤ most * m
unfolding join_to
join_length test f k most zero m h none short = omega arith
join_length test f k most (suc n) m h none short =
    go (λ l g. join_length test f k most n l g none (λ i q. short i (omega arith))) (test n) refl m h
  where
    go : ((l : ℕ) → n ≤ k + l → length (join_to test f n) ≤ most * l) → (b : Bool) → test n ≡ b → (m : ℕ) → suc n ≤ k + m
        → length (join_to test f n ++ choose b (f n) []) ≤ most * m
    go rest true e zero h = absurd (apart (sym (none n (omega arith)) ∙ e))
    go rest true e (suc m) h = omega (arith, length-append (join_to test f n) (f n), rest m (omega arith), short n (omega arith))
    go rest false e m h = omega (arith, length-append (join_to test f n) [], rest m (omega arith))

-- Where the test holds of none from n on, further numbers add nothing.
pub join_past : (test : ℕ → Bool) (f : ℕ → List ℕ) (n m : ℕ) → n ≤ m → ((i : ℕ) → n ≤ i → test i ≡ false) → join_to test f m ≡ join_to test f n
unfolding join_to
join_past test f n zero h none = let e : 0 ≡ n = omega arith in ap (join_to test f) e
join_past test f n (suc m) h none =
    last_or_below {j = n} {n = suc m} (omega arith) (λ (e : n ≡ suc m). ap (join_to test f) (sym e))
    (λ (l : n < suc m). rw (none m (omega arith)) (append-nil (join_to test f m)) ∙ join_past test f n m (omega arith) none)
