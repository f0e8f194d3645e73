-- A limit's word is read run by run, and its places are those of its spelling.
use Prim.Native.Nat.{ℕ, suc, ◌+◌, ◌-◌, ◌*◌, ◌≤◌, ◌<◌}
use mathlib.Core.Path.{◌≡◌, refl, sym, ap, ap₂, subst, ◌∙◌}
use mathlib.Core.Logic.{◌⊎◌, inl, inr, ⊎_elim}
use mathlib.Core.List.{List}
use native.Mathlib.Omega.{arith}
use native.Mathlib.Nat.{eq-or-lt_of_le}
use lib.ListN.{length, get_or}
use Rattle.meaning.specs.Text.{bytes_of, read_on, IsDigit}
use Rattle.meaning.specs.Limit.{Limit, limit, no_limit, IsLimit, longest_word, DigitsIn, Stands, Marked, Spelled, after_point, spelled_limit, Says, LimitWord, nothing}
use Rattle.meaning.specs.Limit as meant
use Rattle.theory.specs.Outcomes.Determined.{meet}
use Rattle.theory.specs.Limits.Word.{end_letter, past_mark, past_point, limit_word_one}
use Rattle.limit.specs.Told.{told}
use Rattle.limit.specs.declared.Limit as code
use Rattle.std.specs.Prelude.{Some, None}
use Rattle.input.specs.Digit.{Digit}
use Rattle.input.specs.Run.{Runs, past, Capped, is, ReadRun, Middle, TensOf}
use Rattle.input.specs.declared.limit_word.Run.{Run}
use Rattle.input.proofs.ReadWord.{no_digit, digit_is, digit_small}
use Rattle.input.proofs.Capped.{capped_self, capped_few, capped_small, capped_known}

-- The run from a place on is read up to another.
pub record RunTo (word : List ℕ) (begin x end number : ℕ) : Type 0 where
  pub forward : begin ≤ end
  pub inside : end ≤ length word
  pub each : (i : ℕ) → begin ≤ i → i < end → IsDigit (get_or word i 0)
  pub value : (z : ℕ) → Capped x z → Capped number (read_on word begin z (end - begin))

nothing_read : (word : List ℕ) (begin z n : ℕ) → n ≡ 0 → read_on word begin z n ≡ z
unfolding read_on
nothing_read word begin z n e = rw e refl

read_next : (word : List ℕ) (begin z end : ℕ) → begin ≤ end
    → read_on word begin z (end + 1 - begin) ≡ read_on word begin z (end - begin) * 10 + (get_or word end 0 - 48)
unfolding read_on
read_next word begin z end h =
    let e : end + 1 - begin ≡ suc (end - begin) = omega arith in
    let q : begin + (end - begin) ≡ end = omega arith in
    ap (read_on word begin z) e ∙ ap (λ k. read_on word begin z (end - begin) * 10 + (get_or word k 0 - 48)) q

pub run_none : (word : List ℕ) (begin x : ℕ) → begin ≤ length word → RunTo word begin x begin x
run_none word begin x h =
    record {
      forward = omega arith;
      inside = h;
      each = λ i l g. absurd (omega arith);
      value = λ z c. rw (nothing_read word begin z (begin - begin) (omega arith)) c;
    }

module _ {word : List ℕ} {begin x end number : ℕ} (r : RunTo word begin x end number) where
  pub run_few : x ≤ past → number ≤ past
  run_few h = capped_few (r.value x (capped_self x h))

  -- The end of the word.
  pub run_all : end ≡ length word → ReadRun word begin x (record { number = number; end = length word })
  run_all e =
      rw (← e)
      (record {
        runs = record { forward = r.forward; inside = r.inside; each = r.each; stop = λ l. absurd (omega arith) };
        value = r.value;
      })

  -- A byte that is no digit.
  pub run_stop : Digit (get_or word end 0) None → ReadRun word begin x (record { number = number; end = end })
  run_stop g =
      record {
        runs = record { forward = r.forward; inside = r.inside; each = r.each; stop = λ l. no_digit g };
        value = r.value;
      }

  module _ {d : ℕ} (within : end < length word) (g : Digit (get_or word end 0) (Some d)) where
    pub run_small : d ≤ 9
    run_small = digit_small g

    pub run_more : {next : ℕ} → ((z : ℕ) → Capped number z → Capped next (z * 10 + d)) → RunTo word begin x (end + 1) next
    run_more push =
        record {
          forward = omega (arith, r.forward);
          inside = omega arith;
          each = λ i l h.
              ⊎_elim (λ (e : i ≡ end). rw e (digit_is g).0) (λ (k : i < end). r.each i l k) (eq-or-lt_of_le {n = i} {m = end} (omega arith));
          value = λ z c. rw (read_next word begin z end r.forward, ← (digit_is g).1) (push (read_on word begin z (end - begin)) (r.value z c));
        }

-- A run ends where the spelling's digits end: no digit stands there.
run_ends : {word : List ℕ} {begin end e : ℕ} → Runs word begin end → DigitsIn word begin e → (e < length word → IsDigit (get_or word e 0) → ⊥) → end ≡ e
run_ends {word} {begin} {end} {e} r d stop =
    meet end e
    (λ l. r.stop (omega (arith, d.inside)) (d.each end r.forward l))
    (λ l. stop (omega (arith, r.inside)) (r.each e (omega (arith, d.some)) l))

point_is : {word : List ℕ} {whole : Run} {point mark : ℕ} → ReadRun word 0 0 whole → Spelled word point mark → whole.end ≡ point
point_is w s = run_ends w.runs s.whole (past_point s)

pub no_digits : {word : List ℕ} {whole : Run} → ReadRun word 0 0 whole → whole.end ≡ 0 → LimitWord word no_limit
no_digits w e = nothing (λ m s. omega (arith, s.spelled.whole.some, point_is w s.spelled)) refl

-- The sizes that what is read has.
pub read_few : {word : List ℕ} {begin x : ℕ} {r : Run} → ReadRun word begin x r → x ≤ past → r.number ≤ past
read_few {x = x} r h = capped_few (r.value x (capped_self x h))

pub tens_most : {word : List ℕ} {mark t : ℕ} → TensOf word mark t → t ≤ past
tens_most (TensOf.none e q) = omega arith
tens_most (TensOf.said k c) = capped_few c
tens_most (TensOf.wrong n k q) = omega arith

module _ {word : List ℕ} {whole all : Run} (w : ReadRun word 0 0 whole) (between : Middle word whole all) where
  pub middle_inside : all.end ≤ length word
  middle_inside = go between
    where
      go : Middle word whole all → all.end ≤ length word
      go (Middle.none n e) = omega (arith, ap (λ (r : Run). r.end) e, w.runs.inside)
      go (Middle.more p l r) = r.runs.inside

  mark_is : {mark : ℕ} → Spelled word whole.end mark → all.end ≡ mark
  mark_is {mark} s = go between s.middle
    where
      go : Middle word whole all → (mark ≡ whole.end) ⊎ (Stands word whole.end (bytes_of ".") × DigitsIn word (whole.end + 1) mark) → all.end ≡ mark
      go (Middle.none n e) (inl h) = ap (λ (r : Run). r.end) e ∙ sym h
      go (Middle.none n e) (inr h) = absurd (n h.0)
      go (Middle.more p l r) (inl h) =
          let dot : get_or word whole.end 0 ≡ 46 = p in
          let letter : get_or word whole.end 0 ≡ 101 = rw (← h) (end_letter word mark s.ending (omega arith)) in
          absurd (omega arith)
      go (Middle.more p l r) (inr h) = run_ends r.runs h.1 (past_mark s)

  -- A word that says a limit is spelled by the places that are read.
  here : {m : Limit} → Says word m → Spelled word whole.end all.end × (m ≡ spelled_limit word whole.end all.end)
  here {m} s =
      let p = point_is w s.spelled in
      let t : Spelled word whole.end s.mark = subst (λ (k : ℕ). Spelled word k s.mark) (sym p) s.spelled in
      let q = mark_is t in
      (subst (λ (k : ℕ). Spelled word whole.end k) (sym q) t, s.is ∙ ap₂ (spelled_limit word) (sym p) (sym q))

  pub no_fraction : all.end ≡ whole.end + 1 → LimitWord word no_limit
  no_fraction e = nothing (λ m s. ⊎_elim (λ (h : all.end ≡ whole.end). omega arith) (λ h. omega (arith, h.1.some)) (here s).0.middle) refl

  digits_read : Capped all.number (read_on word (whole.end + 1) (read_on word 0 0 whole.end) (after_point whole.end all.end))
  digits_read = go between
    where
      first : Capped whole.number (read_on word 0 0 whole.end)
      first = let e : whole.end - 0 ≡ whole.end = omega arith in subst (λ (k : ℕ). Capped whole.number (read_on word 0 0 k)) e (w.value 0 (capped_self 0 (omega arith)))

      go : Middle word whole all → Capped all.number (read_on word (whole.end + 1) (read_on word 0 0 whole.end) (after_point whole.end all.end))
      go (Middle.none n e) =
          let q = ap (λ (r : Run). r.end) e in
          rw (nothing_read word (whole.end + 1) (read_on word 0 0 whole.end) (after_point whole.end all.end) (omega arith))
          (subst (λ (k : ℕ). Capped k (read_on word 0 0 whole.end)) (sym (ap (λ (r : Run). r.number) e)) first)
      go (Middle.more p l r) = r.value (read_on word 0 0 whole.end) first

  module _ {t : ℕ} (tail : TensOf word all.end t) where
    abbrev said_tens : ℕ
    said_tens = read_on word (all.end + 2) 0 (length word - (all.end + 2))

    tens_read : (length word ≡ all.end) ⊎ Marked word all.end → Capped t said_tens
    tens_read h = go tail h
      where
        go : TensOf word all.end t → (length word ≡ all.end) ⊎ Marked word all.end → Capped t said_tens
        go (TensOf.none e q) h = rw (nothing_read word (all.end + 2) 0 (length word - (all.end + 2)) (omega arith), q) (is (omega arith) refl)
        go (TensOf.said k c) h = c
        go (TensOf.wrong n k q) (inl e) = absurd (n e)
        go (TensOf.wrong n k q) (inr e) = absurd (k e)

    -- What is read is no limit, so that the word says none.
    says_none : (IsLimit (limit all.number (after_point whole.end all.end + t)) → ⊥) → LimitWord word no_limit
    says_none n = nothing (λ m s. n (read s)) refl
      where
        read : {m : Limit} → Says word m → IsLimit (limit all.number (after_point whole.end all.end + t))
        read {m} s =
            let h = here s in
            let sound : IsLimit (spelled_limit word whole.end all.end) = subst IsLimit h.1 s.sound in
            let d = capped_known digits_read (omega (arith, sound.few)) in
            let k = capped_known (tens_read h.0.ending) (omega (arith, sound.tens)) in
            rw (d, k) sound

    module _ (few : length word ≤ longest_word) (some : whole.end ≡ 0 → ⊥) (more : all.end ≡ whole.end + 1 → ⊥)
        (sound : IsLimit (limit all.number (after_point whole.end all.end + t))) where
      ending : (length word ≡ all.end) ⊎ Marked word all.end
      ending = go tail
        where
          go : TensOf word all.end t → (length word ≡ all.end) ⊎ Marked word all.end
          go (TensOf.none e q) = inl e
          go (TensOf.said k c) = inr k
          go (TensOf.wrong n k q) = absurd (omega (arith, sound.tens))

      fraction : (all.end ≡ whole.end) ⊎ (Stands word whole.end (bytes_of ".") × DigitsIn word (whole.end + 1) all.end)
      fraction = go between
        where
          go : Middle word whole all → (all.end ≡ whole.end) ⊎ (Stands word whole.end (bytes_of ".") × DigitsIn word (whole.end + 1) all.end)
          go (Middle.none n e) = inl (ap (λ (r : Run). r.end) e)
          go (Middle.more p l r) =
              inr (p, record { some = ⊎_elim (λ (e : whole.end + 1 ≡ all.end). absurd (more (sym e))) (λ l. l) (eq-or-lt_of_le r.runs.forward); inside = r.runs.inside; each = r.runs.each })

      says_limit : LimitWord word (limit all.number (after_point whole.end all.end + t))
      says_limit =
          let d = capped_small digits_read (omega (arith, sound.few)) in
          let k = capped_small (tens_read ending) (omega (arith, sound.tens)) in
          meant.said
          (record {
            point = whole.end;
            mark = all.end;
            spelled =
                record {
                  short = few;
                  whole = record { some = ⊎_elim (λ (e : 0 ≡ whole.end). absurd (some (sym e))) (λ l. l) (eq-or-lt_of_le w.runs.forward); inside = w.runs.inside; each = w.runs.each };
                  middle = fraction;
                  ending = ending;
                };
            is = ap₂ (λ (a b : ℕ). limit a (after_point whole.end all.end + b)) d k;
            sound = sound;
          })

    -- The same with what the code counts after the point.
    module _ {a : ℕ} (e : a ≡ after_point whole.end all.end) where
      pub read_none : (IsLimit (limit all.number (a + t)) → ⊥) → LimitWord word no_limit
      read_none n = says_none (λ s. n (subst (λ (k : ℕ). IsLimit (limit all.number (k + t))) (sym e) s))

      pub read_limit : length word ≤ longest_word → (whole.end ≡ 0 → ⊥) → (all.end ≡ whole.end + 1 → ⊥) → IsLimit (limit all.number (a + t))
          → LimitWord word (limit all.number (a + t))
      read_limit few some more sound =
          subst (λ (k : ℕ). LimitWord word (limit all.number (k + t))) (sym e)
          (says_limit few some more (subst (λ (k : ℕ). IsLimit (limit all.number (k + t))) e sound))

-- A word that is too long.
pub too_long : {word : List ℕ} → longest_word < length word → LimitWord word no_limit
too_long l = nothing (λ m s. omega (arith, s.spelled.short)) refl

-- One word is read as one limit.
pub limit_unique : {word : List ℕ} {r r' : code.Limit} → LimitWord word (told r) → LimitWord word (told r') → r ≡ r'
limit_unique o o' =
    let e = limit_word_one o o' in
    let digits = ap (λ (m : Limit). m.digits) e in
    let tens = ap (λ (m : Limit). m.tens) e in
    λ i. record { digits = digits i; tens = tens i }
