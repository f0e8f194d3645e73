-- A list whose middle, from a on and up to e, was lent and has come back as ys.
use Prim.Native.Nat.{ℕ, ◌+◌, ◌-◌, ◌≤◌, ◌<◌, min}
use mathlib.Core.Path.{◌≡◌, sym, ap, ◌∙◌}
use mathlib.Core.Logic.{dite}
use mathlib.Core.List.{List, ◌++◌}
use native.Mathlib.Decide.{dec_lt}
use native.Mathlib.Omega.{arith}
use lib.ListN.{length, get_or, take, drop, replicate, get_or-append, get_or-eq_default}
use Rattle.std.proofs.Math.Nat.{min-eq_left, min-eq_right}
use Rattle.std.proofs.Math.Seq.{take-length}
use Rattle.std.proofs.lemmas.List.{take_all}
use lib.Seq.{get_or-append-add, get_or-take, get_or-drop, length-take-le, take-append_seam, drop_at}
use Rattle.theory.specs.Numbers.Tab.{get_d_zeros}
use borrow.Rule.Slice.PartMut.{mid_of, post_of, put_mid, mid_len, take_put, drop_put, same_len_mid}

module _ (a e : ℕ) (xs ys : List ℕ) (h : a ≤ e) (g : e ≤ length xs) (l : length ys ≡ e - a) where
  pub put_length : length (put_mid a (e - a) xs ys) ≡ length xs
  put_length = same_len_mid a (e - a) xs ys (l ∙ sym (mid_len a e xs g))

  pub put_before : (q : ℕ) → q < a → get_or (put_mid a (e - a) xs ys) q 0 ≡ get_or xs q 0
  put_before q b =
      sym (get_or-take a (put_mid a (e - a) xs ys) q 0 b)
      ∙ ap (λ (z : List ℕ). get_or z q 0) (take_put a (e - a) xs ys (omega arith))
      ∙ get_or-take a xs q 0 b

  pub put_within : (i : ℕ) → i < e - a → get_or (put_mid a (e - a) xs ys) (a + i) 0 ≡ get_or ys i 0
  put_within i b =
      sym (get_or-drop a (put_mid a (e - a) xs ys) i 0)
      ∙ ap (λ (z : List ℕ). get_or z i 0) (drop_at (take a xs) (ys ++ post_of a (e - a) xs) a (length-take-le a xs (omega arith)))
      ∙ sym (get_or-take (length ys) (ys ++ post_of a (e - a) xs) i 0 (omega arith))
      ∙ ap (λ (z : List ℕ). get_or z i 0) (take-append_seam ys (post_of a (e - a) xs))

  pub put_past : (q : ℕ) → e ≤ q → get_or (put_mid a (e - a) xs ys) q 0 ≡ get_or xs q 0
  put_past q b =
      let k : e + (q - e) ≡ q = omega arith in
      sym (ap (λ z. get_or (put_mid a (e - a) xs ys) z 0) k)
      ∙ sym (get_or-drop e (put_mid a (e - a) xs ys) (q - e) 0)
      ∙ ap (λ (z : List ℕ). get_or z (q - e) 0) (drop_put a e xs ys h g l)
      ∙ get_or-drop e xs (q - e) 0
      ∙ ap (λ z. get_or xs z 0) k

-- The number at a + i of the list is number i of its middle.
pub mid_at : (a e : ℕ) (xs : List ℕ) (i : ℕ) → i < e - a → get_or (mid_of a (e - a) xs) i 0 ≡ get_or xs (a + i) 0
mid_at a e xs i b = get_or-take (e - a) (drop a xs) i 0 b ∙ get_or-drop a xs i 0

-- A list of at most 68 numbers that was copied to the front of zeros.
pub copied : (x l t : List ℕ) → x ≡ l → t ≡ replicate 68 0 → (j : ℕ) → get_or (x ++ drop (length l) t) j 0 ≡ get_or l j 0
copied x l t e z j =
    rw (e, z)
    (dite (dec_lt j (length l)) (λ h. get_or-append l (drop (length l) (replicate 68 0)) 0 j h)
    (λ h.
    let r = drop (length l) (replicate 68 0) in
    let q : length l + (j - length l) ≡ j = omega arith in
    let p : length l ≤ j = omega arith in
    ap (λ k. get_or (l ++ r) k 0) (sym q)
    ∙ get_or-append-add l r (j - length l) 0
    ∙ get_or-drop (length l) (replicate 68 0) (j - length l) 0
    ∙ get_d_zeros 68 (length l + (j - length l))
    ∙ sym (get_or-eq_default l 0 p)))

-- A list of which the numbers up to the 68th were copied to the front of zeros.
pub copied_front : (x l t : List ℕ) (m : ℕ) → m ≡ min (length l) 68 → x ≡ take m l → t ≡ replicate 68 0 → (j : ℕ) → get_or (x ++ drop m t) j 0 ≡ get_or (take 68 l) j 0
copied_front x l t m k e z j =
    dite (dec_lt 68 (length l))
    (λ h.
    let p : m ≡ 68 = k ∙ min-eq_right {n = 68} {m = length l} (omega arith) in
    let c = copied x (take 68 l) t (rw p at e) z j in
    rw p (rw (length-take-le 68 l (omega arith)) at c))
    (λ h.
    let p : m ≡ length l = k ∙ min-eq_left {n = length l} {m = 68} (omega arith) in
    rw (p, take_all 68 l (omega arith)) (copied x l t ((rw p at e) ∙ take-length l) z j))

-- What was copied of a list that has no more.
pub loaded : (l x : List ℕ) → length l ≤ 68 → ((j : ℕ) → get_or x j 0 ≡ get_or (take 68 l) j 0) → (j : ℕ) → get_or x j 0 ≡ get_or l j 0
loaded l x h e j = rw (take_all 68 l h) at (e j)
