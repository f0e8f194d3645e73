-- A text that is read is written.
use Prim.Native.Nat.{ℕ, ◌+◌, ◌*◌, ◌≤◌, ◌<◌}
use native.Mathlib.Omega.{arith}
use mathlib.Core.Path.{◌≡◌, refl, subst}
use mathlib.Core.Logic.{⊎_elim, inl, inr}
use mathlib.Core.Bool.{Bool, false}
use mathlib.Core.List.{List}
use lib.ListN.{length, get_or, replicate, length-replicate}
use Rattle.meaning.specs.Number.{decides}
use Rattle.meaning.specs.Chain.{most_reward, edge_size}
use Rattle.meaning.specs.Refusal.{Lent}
use Rattle.meaning.specs.File.{Tables}
use Rattle.meaning.specs.Buffer.{Writing, no_writing}
use Rattle.meaning.specs.Write.{WriteOutcome}
use Rattle.meaning.specs.Reorder.{longest_file}
use Rattle.meaning.specs.ChainText.{Storable}
use Rattle.meaning.specs.Block.{Input, whole_file}
use Rattle.meaning.specs.Translate.{most_text, TextLong, MakeOutcome}
use Rattle.theory.specs.Numbers.Sum.{below}
use Rattle.theory.specs.Numbers.Tab.{get_d_zeros}
use Rattle.theory.specs.Texts.Made.{writes_made}
use Rattle.octets.specs.Input.{input}
use Rattle.chaintext.specs.Turns.{tables, held_lent, Cells}
use Rattle.chaintext.specs.Read.{ReadAs}
use Rattle.chaintext.specs.declared.turns.Held.{Held}
use Rattle.std.proofs.Common.{Ok, Err}
use Rattle.chain.specs.Refusal.{number_of}
use Rattle.chain.specs.declared.refusal.Refusal.{Refusal}

-- Tables of zeros.
zero_small : (n k b : ℕ) → 0 < b → get_or (replicate n 0) k 0 < b
zero_small n k b h = rw (get_d_zeros n k) h

zero_most : (n k b : ℕ) → get_or (replicate n 0) k 0 ≤ b
zero_most n k b = rw (get_d_zeros n k) (omega arith)

pub zeros : Cells (tables (replicate 64 0) (replicate 16384 0) (replicate 64 0) (replicate 64 0))
zeros =
    record {
      denominators_long = length-replicate {A = ℕ} 64 0;
      edges_long = length-replicate {A = ℕ} 16384 0;
      order_long = length-replicate {A = ℕ} 64 0;
      rewards_long = length-replicate {A = ℕ} 64 0;
      denominators_fit = λ i. zero_small 64 i _ (omega arith);
      order_fits = λ p. zero_small 64 p 256 (omega arith);
      rewards_fit = λ i. zero_most 64 i most_reward;
      edges_fit = λ e. record {
        source_fits = zero_small 16384 (edge_size * e) 256 (omega arith);
        target_fits = zero_small 16384 (edge_size * e + 1) 256 (omega arith);
        weight_fits = zero_small 16384 (edge_size * e + 2) _ (omega arith);
        reward_fits = zero_most 16384 (edge_size * e + 3) most_reward;
      };
    }

-- What is held, with another table that is written.
abbrev lent_for : Held → Tables → List ℕ → Lent
lent_for h t work =
    record { chain = (held_lent h t).chain; order = (held_lent h t).order; rewards = (held_lent h t).rewards; work = work; list = 0 }

storable_for : (h : Held) (t : Tables) (work : List ℕ) → Storable (held_lent h t) → Storable (lent_for h t work)
storable_for h t work s =
    record {
      shape = s.shape;
      start = s.start;
      goals = s.goals;
      denominators = s.denominators;
      order = s.order;
      rewards = s.rewards;
      sources = s.sources;
      targets = s.targets;
      weights = s.weights;
      edge_rewards = s.edge_rewards;
    }

module _ {text : List ℕ} {t : Tables} where
  pub made : {h : Held} {before after : List ℕ} {a : Writing} → ReadAs text t (Ok h) → (TextLong (whole_file text) → ⊥) → longest_file ≤ length before
      → WriteOutcome (lent_for h t before) a after → MakeOutcome (whole_file text) before a after
  made {h} {before} o few room w =
      let s = o.told.says in
      writes_made room few (lent_for h t before)
      (record { lines = s.lines; split = s.split; storable = storable_for h t before s.storable; says = s.says })
      refl
      w

  pub refused : {r : Refusal} {before : List ℕ} → ReadAs text t (Err r) → (TextLong (whole_file text) → ⊥) → longest_file ≤ length before
      → MakeOutcome (whole_file text) before (no_writing (number_of r.fault) r.place) before
  refused {r} o few room = rw o.told.0 (MakeOutcome.text_refused room few r.place o.told.1 refl refl)

-- A text with no more bytes than are read, all of which were kept.
pub short_text_lem : (text : List ℕ) → length text ≤ most_text → TextLong (whole_file text) → ⊥
short_text_lem text few (inl h) = omega arith
short_text_lem text few (inr h) = omega arith

module _ (f : Input) (r : Bool) (o : decides (TextLong f) r) where
  pub few : r ≡ false → TextLong f → ⊥
  few e = subst (decides (TextLong f)) e o

-- A text that is not too long has no more bytes than are read.
pub few_bytes : (f : Input) → (TextLong f → ⊥) → length f.kept ≤ most_text
few_bytes f few =
    ⊎_elim (λ (h : most_text < length f.kept). absurd (few (inl h))) (λ h. h) (below most_text (length f.kept))

-- What was not kept counts only where there is some.
pub all_kept : (text : List ℕ) (more : ℕ) {before after : List ℕ} {a : Writing} → (TextLong (input text more) → ⊥) → MakeOutcome (input text 0) before a after
    → MakeOutcome (input text more) before a after
all_kept text more {before} {after} {a} few o =
    let z : 0 ≡ more = ⊎_elim (λ (h : 0 < more). absurd (few (inr h))) (λ h. omega arith) (below 0 more) in
    subst (λ (m : ℕ). MakeOutcome (input text m) before a after) z o
