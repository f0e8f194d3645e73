-- Sets of states written as numbers: what is in them once something is added or taken out.
use Prim.Native.Nat.{ℕ, zero, suc, ◌+◌, ◌-◌, ◌/◌, ◌^◌, ◌<◌}
use mathlib.Core.Path.{◌≡◌, sym, ap, subst, ◌∙◌}
use mathlib.Core.Logic.{◌↔◌, ◌⊎◌, inl, inr, ⊎_elim}
use mathlib.Core.Bool.{true}
use mathlib.Core.List.{List}
use native.Mathlib.Omega.{arith}
use Rattle.std.proofs.Math.Nat.{pow-succ'}
use Rattle.std.proofs.Math.Pow.{pow-lt}
use lib.Bits.{bit_and, bit_or}
use lib.Dec.{eqb}
use lib.ListN.{length, get_or, set, length-set, replicate, length-replicate}
use lib.Seq.{get_or-set_same, get_or-set_other}
use borrow.Author.Tests.{eqb-true}
use Rattle.meaning.specs.Number.{bit}
use Rattle.meaning.specs.Chain.{from, to}
use Rattle.meaning.specs.Step.{Sets}
use Rattle.theory.specs.Numbers.Bits.{nothing_in, bit_zero, bit_suc, bit_small, bit_below, in_both, in_either, in_one}
use Rattle.theory.specs.Numbers.Sum.{same, last_or_below}
use Rattle.theory.specs.Numbers.Tab.{get_d_zeros}
use Rattle.theory.specs.Stages.Weighs.{Into, state, goal, trap, Brings, Brought}
use Rattle.survey.specs.Sets.{Exactly}
use Rattle.choice.specs.Columns.{column_count, In, Among, Without, Joined, Carried, Gathered, PassedOn}

-- The bits of a complement of n bits.
bit_less : (n a i : ℕ) → a < 2 ^ n → i < n → bit (2 ^ n - 1 - a) i + bit a i ≡ 1
bit_less zero a i h l = absurd (omega arith)
bit_less (suc n) a zero h l =
    omega (arith, pow-succ' 2 n, bit_zero (2 ^ suc n - 1 - a), bit_zero a)
bit_less (suc n) a (suc i) h l =
    let half : (2 ^ suc n - 1 - a) / 2 ≡ 2 ^ n - 1 - a / 2 = omega (arith, pow-succ' 2 n) in
    rw (bit_suc (2 ^ suc n - 1 - a) i, bit_suc a i, half)
    (bit_less n (a / 2) i (omega (arith, pow-succ' 2 n)) (omega arith))

-- What is in a set of 64 states and not in another.
pub in_less : (a b i : ℕ) → a < 2 ^ 64 → b < 2 ^ 64 → (bit (bit_and a (18446744073709551615 - b)) i ≡ 1) ↔ ((bit a i ≡ 1) × (bit b i ≡ 1 → ⊥))
in_less a b i h k =
    let law = in_both a (18446744073709551615 - b) i in
    let other : bit a i ≡ 1 → bit (18446744073709551615 - b) i + bit b i ≡ 1 = λ x. bit_less 64 b i k (bit_below a 64 i h x) in (
      λ x. let w = law.0 x in (w.0, λ y. let z = other w.0 in omega (arith, z, w.1, y)),
      λ w. law.1 (w.0, let z = other w.0 in let d = w.1 in omega (arith, z, d, bit_small b i)),
    )

pub without_set : (set i : ℕ) → set < 2 ^ 64 → i < 64 → Exactly (Without set i) (bit_and set (18446744073709551615 - 2 ^ i))
without_set set i h k q =
    let law = in_less set (2 ^ i) q h (pow-lt k) in (
      λ b. let w = law.0 b in (w.0, λ e. w.1 ((in_one i q).1 e)),
      λ w. law.1 (w.0, λ b. w.1 ((in_one i q).0 b)),
    )

-- A column once s is removed.
pub passed_with : (column from s r : ℕ) → eqb (bit column s) 1 ≡ true → Exactly (Without (bit_or column from) s) r → Exactly (PassedOn column from s) r
passed_with column from s r e law q = (
  λ b.
      let w = (law q).0 b in
      record { other = w.1; weighs = ⊎_elim inl (λ (x : bit from q ≡ 1). inr (eqb-true (bit column s) 1 e, x)) ((in_either column from q).0 w.0) },
  λ w. (law q).1 ((in_either column from q).1 (⊎_elim inl (λ (x : (bit column s ≡ 1) × (bit from q ≡ 1)). inr x.1) w.weighs), w.other),
)

-- Members are added to one column.
pub joined : (columns : List ℕ) (j members : ℕ) → j < length columns → Joined columns j members (set columns j (bit_or (get_or columns j 0) members))
joined columns j members h = record { size = length-set columns j _; law = law }
  where
    new : ℕ
    new = bit_or (get_or columns j 0) members

    law : (i q : ℕ) → In (set columns j new) q i ↔ (In columns q i ⊎ ((q ≡ j) × (bit members i ≡ 1)))
    law i q =
        ⊎_elim
        (λ (e : q ≡ j).
        let a : get_or (set columns j new) q 0 ≡ new = ap (λ q. get_or (set columns j new) q 0) e ∙ get_or-set_same columns j new 0 h in
        let l = in_either (get_or columns j 0) members i in (
          λ b.
              ⊎_elim (λ (x : bit (get_or columns j 0) i ≡ 1). inl (ap (λ q. bit (get_or columns q 0) i) e ∙ x)) (λ x. inr (e, x))
              (l.0 (ap (λ z. bit z i) (sym a) ∙ b)),
          λ w.
              ap (λ z. bit z i) a
              ∙ l.1 (⊎_elim (λ (x : In columns q i). inl (ap (λ q. bit (get_or columns q 0) i) (sym e) ∙ x)) (λ (x : (q ≡ j) × (bit members i ≡ 1)). inr x.1) w),
        ))
        (λ (d : q ≡ j → ⊥).
        let a : get_or (set columns j new) q 0 ≡ get_or columns q 0 = get_or-set_other columns j q new 0 d in (
          λ b. inl (ap (λ z. bit z i) (sym a) ∙ b),
          λ w. ap (λ z. bit z i) a ∙ ⊎_elim (λ x. x) (λ (x : (q ≡ j) × (bit members i ≡ 1)). absurd (d x.0)) w,
        ))
        (same q j)

-- An edge from i to t adds its source, where that is live, to the columns that it leads into.
module _ (n goals : ℕ) (edges : List ℕ) (k : Sets) (e : ℕ) (inside : to edges e < n) where
  abbrev i : ℕ
  i = from edges e

  abbrev t : ℕ
  t = to edges e

  module _ (source good live won : ℕ) (one : Exactly (Among k.live i (2 ^ i)) source) (g : Exactly (Among k.good t source) good) (l : Exactly (Among k.live t source) live) (w : Exactly (Among goals t source) won) (small : source < 2 ^ 64) (small' : good < 2 ^ 64) where
    -- The source is a live i.
    source_is : (q : ℕ) → bit source q ≡ 1 → (i ≡ q) × (bit k.live q ≡ 1)
    source_is q b = let a = (one q).0 b in let e = (in_one i q).0 a.1 in (sym e, ap (bit k.live) e ∙ a.0)

    is_source : (q : ℕ) → i ≡ q → bit k.live q ≡ 1 → bit source q ≡ 1
    is_source q e b = (one q).1 (ap (bit k.live) e ∙ b, (in_one i q).1 (sym e))

    abbrev lost : ℕ
    lost = bit_and source (18446744073709551615 - good)

    lost_is : (q : ℕ) → (bit lost q ≡ 1) ↔ ((bit source q ≡ 1) × (bit good q ≡ 1 → ⊥))
    lost_is q = in_less source good q small small'

    brings : (q j : ℕ) → bit source q ≡ 1 → Into n goals k t j → Brings n goals edges k q j e
    brings q j b into = let a = source_is q b in record { source = a.0; live = a.1; into = into }

    pub carried : (c₀ c₁ c₂ c₃ : List ℕ) → Joined c₀ t live c₁ → Joined c₁ n won c₂ → Joined c₂ (n + 1) lost c₃
        → Carried n (λ q j. Brings n goals edges k q j e) c₀ c₃
    carried c₀ c₁ c₂ c₃ j₁ j₂ j₃ =
        record { size = j₃.size ∙ j₂.size ∙ j₁.size; law = λ q j h. (there q j, back q j) }
      where
        there : (q j : ℕ) → In c₃ j q → In c₀ j q ⊎ Brings n goals edges k q j e
        there q j b =
            ⊎_elim
            (λ (x : In c₂ j q).
            ⊎_elim
            (λ (y : In c₁ j q).
            ⊎_elim inl
            (λ (z : (j ≡ t) × (bit live q ≡ 1)). let a = (l q).0 z.1 in inr (brings q j a.1 (state z.0 a.0)))
            ((j₁.law q j).0 y))
            (λ (y : (j ≡ n) × (bit won q ≡ 1)). let a = (w q).0 y.1 in inr (brings q j a.1 (goal y.0 a.0)))
            ((j₂.law q j).0 x))
            (λ (x : (j ≡ n + 1) × (bit lost q ≡ 1)).
            let a = (lost_is q).0 x.1 in
            inr (brings q j a.0 (trap x.0 (λ b. a.1 ((g q).1 (b, a.0))))))
            ((j₃.law q j).0 b)

        into : (q j : ℕ) → bit source q ≡ 1 → Into n goals k t j → In c₃ j q
        into q j b (state e a) = (j₃.law q j).1 (inl ((j₂.law q j).1 (inl ((j₁.law q j).1 (inr (e, (l q).1 (a, b)))))))
        into q j b (goal e a) = (j₃.law q j).1 (inl ((j₂.law q j).1 (inr (e, (w q).1 (a, b)))))
        into q j b (trap e a) = (j₃.law q j).1 (inr (e, (lost_is q).1 (b, λ z. a ((g q).0 z).0)))

        back : (q j : ℕ) → In c₀ j q ⊎ Brings n goals edges k q j e → In c₃ j q
        back q j (inl b) = (j₃.law q j).1 (inl ((j₂.law q j).1 (inl ((j₁.law q j).1 (inl b)))))
        back q j (inr x) = into q j (is_source q x.source x.live) x.into

-- The columns of the first rows, gathered edge by edge.
module _ (n goals : ℕ) (edges : List ℕ) (k : Sets) where
  pub gathered_none : Gathered n (Brought n goals edges k 0) (replicate column_count 0)
  gathered_none =
      record {
        size = length-replicate {A = ℕ} column_count 0;
        law = λ i j h. (λ b. absurd (nothing_in i (ap (λ z. bit z i) (sym (get_d_zeros column_count j)) ∙ b)), λ w. absurd (omega (arith, w.1.0)));
      }

  pub gathered_more : {columns new : List ℕ} (e : ℕ) → Gathered n (Brought n goals edges k e) columns → Carried n (λ i j. Brings n goals edges k i j e) columns new
      → Gathered n (Brought n goals edges k (e + 1)) new
  gathered_more e a b =
      record {
        size = b.size ∙ a.size;
        law = λ i j h. (
          λ x.
              ⊎_elim
              (λ y. let w = (a.law i j h).0 y in (w.0, (omega (arith, w.1.0), w.1.1)))
              (λ (y : Brings n goals edges k i j e). (e, (omega arith, y)))
              ((b.law i j h).0 x),
          λ w.
              (b.law i j h).1
              (last_or_below {j = w.0} {n = e} (omega (arith, w.1.0))
              (λ (q : w.0 ≡ e). inr (subst (Brings n goals edges k i j) q w.1.1))
              (λ (l : w.0 < e). inl ((a.law i j h).1 (w.0, (l, w.1.1))))),
        );
      }
