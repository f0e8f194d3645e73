-- Damage to one block of an accepted file: what refuses the block refuses the file there; and one byte changed in a version 2 file.
use Rattle.std.specs.Prelude.{ℕ, suc, ◌+◌, ◌*◌, ◌%◌, ◌≤◌, ◌<◌, ◌≡◌, ◌⊎◌, length, set}
use Rattle.std.proofs.Common.{sym, ap, subst, ◌∙◌, inl, inr, ⊎_elim, arith, length-set, get_or-set_same, get_or-set_other}
use Rattle.meaning.specs.Block.{
  Input,
  input_length,
  byte,
  block_byte,
  block_size,
  block_at,
  version_at,
  check_at,
  checked_bytes,
  first_sum,
  second_sum,
  second_version,
  version_in,
  check_modulus,
  check_begin,
  demanded,
}
use Rattle.meaning.specs.File.{
  LengthFault,
  CheckFault,
  BlockRefused,
  FileRefused,
  Accepted,
}
use Rattle.theory.specs.Numbers.Sum.{same, below}
use Rattle.theory.specs.Files.Sums.{first_like, second_like, byte_seen}
use Rattle.theory.specs.Files.Right.{right_laid}
use Rattle.theory.specs.Files.Agree.{Agree, sum_of, sums_agree, demanded_agree, right_agree}

-- g is as long as f and has the same bytes outside block b.
pub record Elsewhere (f g : Input) (b : ℕ) : Type 0 where
  pub same_length : input_length f ≡ input_length g
  pub others : (i : ℕ) → (i < block_at b) ⊎ (block_at (suc b) ≤ i) → byte f i ≡ byte g i

module _ {f g : Input} {b : ℕ} (accepted : Accepted f) (inside : b < demanded f) (else : Elsewhere f g b) where
  pub whole : LengthFault g → ⊥
  whole w = accepted.whole (rw else.same_length w)

  agree : (a : ℕ) → (a ≡ b → ⊥) → Agree f g a
  agree a d i l h v =
      ⊎_elim (λ (k : i < block_at b). else.others i (inl k)) (λ (k : block_at b ≤ i). else.others i (inr (omega arith))) (below i (block_at b))

  version_else : (a : ℕ) → (a ≡ b → ⊥) → version_in f a ≡ version_in g a
  version_else a d =
      ⊎_elim (λ (k : a < b). else.others (version_at a) (inl (omega arith))) (λ (k : b ≤ a). else.others (version_at a) (inr (omega arith))) (below a b)

  -- What refuses the block refuses the file there: the blocks before it are right.
  pub refused_there : {n : ℕ} → BlockRefused g b n → FileRefused g n b
  refused_there {n} w =
      ⊎_elim
      (λ (z : b ≡ 0). subst (FileRefused g n) (sym z) (FileRefused.head_wrong n whole (subst (λ a. BlockRefused g a n) z w)))
      (λ (d : b ≡ 0 → ⊥).
      let head = agree 0 (λ z. d (sym z)) in
      let e = demanded_agree f g head in
      FileRefused.block_wrong n b whole (λ t. accepted.total (λ q. t (sym else.same_length ∙ q ∙ ap (λ z. block_size * z) e))) (omega arith) (omega arith)
      (λ a h.
      right_agree f g a head (agree a (λ z. omega arith)) (version_else a (λ z. omega arith)) (version_else 0 (λ z. d (sym z)))
      (accepted.blocks a (omega arith)))
      w)
      (same b 0)

  -- In a version 2 file: what the check of the damaged block sees, where the version and the check bytes are as they were.
  module _ (second : version_in f 0 ≡ second_version) where
    own : version_in f b ≡ second_version
    own = (right_laid (accepted.blocks b inside)).versioned ∙ second

    abbrev sums : (ℕ → ℕ → (ℕ → ℕ) → ℕ → ℕ) → Input → ℕ
    sums sum h = sum 251 1 (block_byte h b) checked_bytes

    by_version : (sum : ℕ → ℕ → (ℕ → ℕ) → ℕ → ℕ) (h : Input) → version_in h b ≡ second_version
        → sum_of sum h b ≡ sums sum h
    by_version sum h e = ap (λ v. sum (check_modulus v) (check_begin v) (block_byte h b) checked_bytes) e

    module _ (version : version_in g b ≡ second_version) (checks : (i : ℕ) → check_at b ≤ i → i < block_at (suc b) → byte f i ≡ byte g i) where
      pub seen : (sums first_sum f ≡ sums first_sum g → ⊥) → FileRefused g 21 b
      seen d =
          refused_there (BlockRefused.check_refused (inl (λ q.
          d (sym (by_version first_sum f own) ∙ sym (right_laid (accepted.blocks b inside)).first
          ∙ checks (check_at b) (omega arith) (omega arith) ∙ q ∙ by_version first_sum g version))))

      pub unseen : sums first_sum f ≡ sums first_sum g → sums second_sum f ≡ sums second_sum g → CheckFault g b → ⊥
      unseen a c =
          ⊎_elim
          (λ d. d (sym (checks (check_at b) (omega arith) (omega arith)) ∙ (right_laid (accepted.blocks b inside)).first
          ∙ by_version first_sum f own ∙ a ∙ sym (by_version first_sum g version)))
          (λ d. d (sym (checks (check_at b + 1) (omega arith) (omega arith)) ∙ (right_laid (accepted.blocks b inside)).second
          ∙ by_version second_sum f own ∙ c ∙ sym (by_version second_sum g version)))

-- g is f with one byte changed, byte j of block b, to another value.
pub record Changed (f g : Input) (b j : ℕ) : Type 0 where
  pub same_length : input_length f ≡ input_length g
  pub others : (i : ℕ) → (i ≡ block_at b + j → ⊥) → byte f i ≡ byte g i
  pub before : block_byte f b j < 256
  pub after : block_byte g b j < 256
  pub differs : block_byte f b j ≡ block_byte g b j → ⊥

-- So it is where a byte that is kept is set.
pub set_changed : (f : Input) (b j y : ℕ) → block_at b + j < length f.kept → block_byte f b j < 256 → y < 256 → (block_byte f b j ≡ y → ⊥)
    → Changed f (record { kept = set f.kept (block_at b + j) y; more = f.more }) b j
set_changed f b j y h low small d =
    let e = get_or-set_same f.kept (block_at b + j) y 0 h in
    record {
      same_length = ap (λ n. n + f.more) (sym (length-set f.kept (block_at b + j) y));
      others = λ i n. sym (get_or-set_other f.kept (block_at b + j) i y 0 n);
      before = low;
      after = omega arith;
      differs = λ q. d (q ∙ e);
    }

-- The two values differ by exactly 251.
abbrev pub Apart : ℕ → ℕ → Type 0
Apart x y = (x ≡ y + 251) ⊎ (y ≡ x + 251)

module _ {f g : Input} {b j : ℕ} (accepted : Accepted f) (inside : b < demanded f) (changed : Changed f g b j) where
  pub around : j < block_size → Elsewhere f g b
  around h =
      record {
        same_length = changed.same_length;
        others = λ i. ⊎_elim (λ l. changed.others i (λ e. omega arith)) (λ l. changed.others i (λ e. omega arith));
      }

  -- A byte of the check itself, in a file of either version: always 21.
  pub check_byte_refused : checked_bytes ≤ j → j < block_size → FileRefused g 21 b
  check_byte_refused l h =
      let laid = right_laid (accepted.blocks b inside) in
      let e = sums_agree f g b (λ i k. changed.others (block_at b + i) (λ z. omega arith)) in
      refused_there accepted inside (around h)
      (BlockRefused.check_refused
      (⊎_elim
      (λ (z : j ≡ checked_bytes). inl (λ q. differ (check_at b) (omega arith) (laid.first ∙ e.0 ∙ sym q)))
      (λ (n : j ≡ checked_bytes → ⊥). inr (λ q. differ (check_at b + 1) (omega arith) (laid.second ∙ e.1 ∙ sym q)))
      (same j checked_bytes)))
    where
      differ : (i : ℕ) → block_at b + j ≡ i → byte f i ≡ byte g i → ⊥
      differ i z e = changed.differs (rw z e)

  module _ (second : version_in f 0 ≡ second_version) (h : j < checked_bytes) (d : j ≡ 1 → ⊥) where
    version : version_in g b ≡ second_version
    version = sym (changed.others (version_at b) (λ e. d (omega arith))) ∙ own accepted inside (around (omega arith)) second

    checks : (i : ℕ) → check_at b ≤ i → i < block_at (suc b) → byte f i ≡ byte g i
    checks i l m = changed.others i (λ e. omega arith)

    -- Any one of the first 510 bytes, the version byte apart: 21 at that block, unless the two values differ by exactly 251.
    pub byte_refused : (Apart (block_byte f b j) (block_byte g b j) → ⊥) → FileRefused g 21 b
    byte_refused a =
        seen accepted inside (around (omega arith)) second version checks
        (λ e.
        ⊎_elim changed.differs a
        (byte_seen (block_byte f b) (block_byte g b) j (λ i n. changed.others (block_at b + i) (λ z. n (omega arith))) checked_bytes h
        changed.before changed.after e))

    -- Where they do, the check still matches.
    pub byte_unseen : Apart (block_byte f b j) (block_byte g b j) → CheckFault g b → ⊥
    byte_unseen a =
        unseen accepted inside (around (omega arith)) second version checks
        (first_like 251 1 (block_byte f b) (block_byte g b) checked_bytes like) (second_like 251 1 (block_byte f b) (block_byte g b) checked_bytes like)
      where
        like : (i : ℕ) → i < checked_bytes → block_byte f b i % 251 ≡ block_byte g b i % 251
        like i l =
            ⊎_elim
            (λ (z : i ≡ j).
            rw z
            (⊎_elim (λ (e : block_byte f b j ≡ block_byte g b j + 251). omega arith) (λ (e : block_byte g b j ≡ block_byte f b j + 251). omega arith) a))
            (λ (n : i ≡ j → ⊥). ap (λ z. z % 251) (changed.others (block_at b + i) (λ z. n (omega arith))))
            (same i j)
