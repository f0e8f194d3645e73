-- The lines of a step list: how long one can be, and that one more stands behind the others.
use Prim.Native.Nat.{ℕ, ◌+◌, ◌*◌, ◌^◌, ◌≤◌, ◌<◌}
use mathlib.Core.Path.{◌≡◌, refl, sym, ap, subst, ◌∙◌}
use mathlib.Core.List.{List, [], ◌∷◌, ◌++◌, append-nil, append_assoc}
use native.Mathlib.Omega.{arith}
use lib.ListN.{length, length-append}
use Rattle.meaning.specs.Number.{tab_from}
use Rattle.meaning.specs.Chain.{most_states}
use Rattle.meaning.specs.Steps.{StepRecord}
use Rattle.meaning.specs.Report.{record_text, records_text}
use Rattle.theory.specs.Numbers.Decimal.{digits}
use Rattle.theory.specs.Numbers.Tab.{tab_more}
use Rattle.octets.specs.Written.{Written}
use Rattle.octets.proofs.Steps.{join, kept}
use Rattle.text.specs.declared.page.Page.{Page}
use Rattle.text.specs.Page.{Prints}
use Rattle.engines.specs.Trace.{record_in}
use Rattle.report.specs.Lines.{record_room}

pub record_short : (state rows columns divisor : ℕ) → state < 2 ^ 64 → rows < 2 ^ 64 → columns < 2 ^ 64 → divisor < 2 ^ 64
    → length (record_text state rows columns divisor) ≤ record_room
record_short state rows columns divisor hs hr hc hd =
    simp length-append
    (omega (
      arith,
      digits 19 state (omega arith),
      digits 19 rows (omega arith),
      digits 19 columns (omega arith),
      digits 19 divisor (omega arith),
    ))

records_more : (rs : List StepRecord) (r : StepRecord)
    → records_text (rs ++ (r ∷ [])) ≡ records_text rs ++ record_text r.state r.rows r.columns r.divisor
unfolding records_text
records_more [] r = append-nil _
records_more (x ∷ rs) r =
    let t = record_text x.state x.rows x.columns x.divisor in
    ap (λ (z : List ℕ). t ++ z) (records_more rs r) ∙ sym (append_assoc t (records_text rs) _)

-- After i lines of the records of a trace.
pub record Lined (old : Page) (numbers : List ℕ) (i : ℕ) (new : Page) : Type 0 where
  pub same : new.buffer.ghost_name ≡ old.buffer.ghost_name
  pub written : Written old.buffer.now 0 (records_text (tab_from 0 i (record_in numbers))) new.buffer.now new.at
  pub near : new.at ≤ i * record_room

module _ {old : Page} {numbers : List ℕ} where
  pub none : old.at ≡ 0 → Lined old numbers 0 old
  unfolding records_text tab_from
  none e = record { same = refl; written = record { past = e; room = omega (arith, e); bytes = rw e refl }; near = omega (arith, e) }

  pub more : {i : ℕ} {now later : Page} → Lined old numbers i now
      → i < most_states → most_states * record_room ≤ length old.buffer.now
      → let r = record_in numbers i in
      let text = record_text r.state r.rows r.columns r.divisor in Prints now text later × (length text ≤ record_room)
      → Lined old numbers (i + 1) later
  more {i} {now} {later} l few long w =
      let r = record_in numbers i in
      let same = kept l.written in
      let line = w.0.written (omega (arith, long, same, few, l.near, w.1)) in
      record {
        same = w.0.same ∙ l.same;
        written =
            subst (λ (t : List ℕ). Written old.buffer.now 0 t later.buffer.now later.at)
            (sym (ap records_text (tab_more i (record_in numbers)) ∙ records_more (tab_from 0 i (record_in numbers)) r))
            (join l.written line);
        near = omega (arith, l.near, line.past, w.1);
      }
