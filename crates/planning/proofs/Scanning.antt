-- The scan for the fewest copies, and the lines that are made of it.
use Prim.Native.Nat.{ℕ, suc, ◌+◌, ◌-◌, ◌^◌, ◌≤◌, ◌<◌}
use mathlib.Core.Path.{◌≡◌, refl, sym, ap, subst, ◌∙◌}
use mathlib.Core.Bool.{Bool, true, false}
use mathlib.Core.List.{List, ◌++◌}
use native.Mathlib.Omega.{arith}
use lib.Dec.{leb, eqb}
use borrow.Author.Tests.{leb-true, le-leb, lt-leb, lt-ltb, le-ltb, eq-eqb, ne_eqb}
use Rattle.meaning.specs.Number.{choose}
use Rattle.meaning.specs.Text.{bytes_of}
use Rattle.meaning.specs.Block.{whole_file}
use Rattle.meaning.specs.Near.{Near}
use Rattle.meaning.specs.Copies.{Plan, most_copies, Sensible, copies_lent}
use Rattle.meaning.specs.Write.{FileOf}
use Rattle.meaning.specs.Limit.{Limit, IsLimit}
use Rattle.meaning.specs.FileLimit.{Verdict, kept, broken, undecided}
use Rattle.meaning.specs.PlanTable.{Weights, with_copies, copies_line, copies_room}
use Rattle.meaning.specs.Fewest.{Verdicts, FewestReport}
use Rattle.theory.specs.Numbers.Sum.{last_or_below}
use Rattle.theory.specs.Outcomes.NearOne.{near_determined, near_outcome}
use Rattle.theory.specs.Plans.Filed.{copies_filed}
use Rattle.theory.specs.Plans.Judged.{plan_verdict, plan_verdict_one, verdicts_exist}
use Rattle.octets.specs.Written.{Written}
use Rattle.text.specs.declared.page.Page.{Page}
use Rattle.text.specs.Page.{Adds, Names}
use Rattle.report.specs.Stands.{Stands}
use Rattle.report.proofs.Refusals.{stands}
use Rattle.lines.specs.Widths.{Fits}
use Rattle.lines.proofs.Fitting as fit
use Rattle.egorstream.specs.Limits.{verdict_number, limited_as, Limits}
use Rattle.egorstream.specs.declared.limits.Limited.{Limited}
use Rattle.planning.specs.Line.{chances_of, fewest_line, open_line}
use Rattle.planning.proofs.Lining.{nothing}
use Rattle.planning.specs.Scan.{PlanJudged, Scanned, open_room}

-- The entry's verdict on a plan's file is the plan's.
pub file_judged : {j : Plan} {m : Limit} {file : List ℕ} {r : Limited} → Sensible j → IsLimit m → FileOf (copies_filed j) file
    → Limits (whole_file file) m r → PlanJudged j m r.verdict
file_judged s h f l =
    let (chance, (v, (e, o))) = plan_verdict s f h l.outcome in
    record { chance = chance; verdict = v; outcome = o; is = ap (λ (r : Limited). r.verdict) (l.is ∙ ap limited_as e) }

pub judged_with : {j j' : Plan} {m : Limit} {said : ℕ} → j ≡ j' → PlanJudged j m said → PlanJudged j' m said
judged_with {m = m} {said} e = subst (λ j. PlanJudged j m said) e

-- A broken plan moves the first that cannot be said, no other does.
pub follows_broken : (said next first : ℕ) → said ≡ 2 → next ≡ choose (eqb said 2) next first
follows_broken said next first e = rw (eq-eqb said 2 e) refl

pub follows_other : (said next first : ℕ) → (said ≡ 2 → ⊥) → first ≡ choose (eqb said 2) next first
follows_other said next first n = rw (ne_eqb said 2 n) refl

-- What is known once the verdicts below c are seen.
pub record Going (v : ℕ → Verdict) (c first : ℕ) : Type 0 where
  pub least : (k : ℕ) → 0 < k → k < c → v k ≡ kept → ⊥
  pub breaks : 1 < first → v (first - 1) ≡ broken
  pub unsaid : (k : ℕ) → first ≤ k → k < c → v k ≡ broken → ⊥

pub record Seen (x : Weights) (m : Limit) (c first : ℕ) : Type 0 where
  pub some : 0 < c
  pub most : c ≤ most_copies + 1
  pub first_some : 0 < first
  pub first_most : first ≤ c
  pub going : (a : ℕ → Near) (v : ℕ → Verdict) → Verdicts x m a v → Going v c first

numbered : {v w : Verdict} → v ≡ w → verdict_number v ≡ verdict_number w
numbered e = ap verdict_number e

module _ {v : ℕ → Verdict} {c first : ℕ} (g : Going v c first) (first_most : first ≤ c) where
  going_more : (w : Verdict) → v c ≡ w → (verdict_number w ≡ 1 → ⊥) → Going v (c + 1) (choose (eqb (verdict_number w) 2) (c + 1) first)
  going_more kept e n = absurd (n refl)
  going_more broken e n =
      record {
        least = λ k some h. last_or_below (more h) (λ (q : k ≡ c). λ z. clash (ap v q ∙ e) z) (λ (l : k < c). g.least k some l);
        breaks = λ _. let q : c + 1 - 1 ≡ c = omega arith in ap v q ∙ e;
        unsaid = λ k low h. absurd (omega arith);
      }
    where
      more : {k : ℕ} → k < c + 1 → k < suc c
      more h = omega arith

      clash : {w : Verdict} → w ≡ broken → w ≡ kept → ⊥
      clash b z = omega (arith, numbered (sym b ∙ z))
  going_more undecided e n =
      record {
        least = λ k some h. last_or_below (more h) (λ (q : k ≡ c). λ z. clash (ap v q ∙ e) z) (λ (l : k < c). g.least k some l);
        breaks = g.breaks;
        unsaid = λ k low h. last_or_below (more h) (λ (q : k ≡ c). λ z. clash' (ap v q ∙ e) z) (λ (l : k < c). g.unsaid k low l);
      }
    where
      more : {k : ℕ} → k < c + 1 → k < suc c
      more h = omega arith

      clash : {w : Verdict} → w ≡ undecided → w ≡ kept → ⊥
      clash b z = omega (arith, numbered (sym b ∙ z))

      clash' : {w : Verdict} → w ≡ undecided → w ≡ broken → ⊥
      clash' b z = omega (arith, numbered (sym b ∙ z))

module _ {x : Weights} {m : Limit} where
  pub seen_none : Seen x m 1 1
  seen_none =
      record {
        some = omega arith;
        most = omega arith;
        first_some = omega arith;
        first_most = omega arith;
        going = λ a v _. record { least = λ k some h. absurd (omega arith); breaks = λ h. absurd (omega arith); unsaid = λ k low h. absurd (omega arith) };
      }

  module _ {c first : ℕ} (s : Seen x m c first) where
    -- The verdict is that of c copies.
    same : {said : ℕ} → c ≤ most_copies → (p : PlanJudged (with_copies x c) m said) → (a : ℕ → Near) (v : ℕ → Verdict) → Verdicts x m a v
        → v c ≡ p.verdict
    same few p a v all = (plan_verdict_one (all c s.some few) p.outcome).1

    pub seen_kept : {said : ℕ} → c ≤ most_copies → PlanJudged (with_copies x c) m said → said ≡ 1 → Scanned x m c first
    seen_kept few p one =
        record {
          said = λ a v all.
              let g = s.going a v all in
              record {
                some = s.some;
                most = s.most;
                keeps = λ _. same few p a v all ∙ is_kept p.verdict (sym p.is ∙ one);
                least = g.least;
                first_some = s.first_some;
                first_most = s.first_most;
                breaks = g.breaks;
                unsaid = g.unsaid;
              };
        }
      where
        is_kept : (w : Verdict) → verdict_number w ≡ 1 → w ≡ kept
        is_kept kept e = refl
        is_kept broken e = absurd (omega arith)
        is_kept undecided e = absurd (omega arith)

    pub seen_more : {said first' : ℕ} → c ≤ most_copies → PlanJudged (with_copies x c) m said → (said ≡ 1 → ⊥)
        → first' ≡ choose (eqb said 2) (c + 1) first → Seen x m (c + 1) first'
    seen_more {said} {first'} few p n e =
        record {
          some = omega arith;
          most = omega arith;
          first_some = subst (λ z. 0 < z) (sym e) (chosen (eqb said 2) (λ z. 0 < z) (omega arith) s.first_some);
          first_most = subst (λ z. z ≤ c + 1) (sym e) (chosen (eqb said 2) (λ z. z ≤ c + 1) (omega arith) (omega (arith, s.first_most)));
          going = λ a v all.
              subst (Going v (c + 1)) (sym (e ∙ ap (λ z. choose (eqb z 2) (c + 1) first) p.is))
              (going_more (s.going a v all) s.first_most p.verdict (same few p a v all) (λ z. n (p.is ∙ z)));
        }
      where
        chosen : (b : Bool) (P : ℕ → Type 0) → P (c + 1) → P first → P (choose b (c + 1) first)
        chosen true P y z = y
        chosen false P y z = z

    pub seen_all : most_copies < c → Scanned x m c first
    seen_all h =
        record {
          said = λ a v all.
              let g = s.going a v all in
              record {
                some = s.some;
                most = s.most;
                keeps = λ few. absurd (omega arith);
                least = g.least;
                first_some = s.first_some;
                first_most = s.first_most;
                breaks = g.breaks;
                unsaid = g.unsaid;
              };
        }

-- The lines with the chances that go with the verdicts are those that are written.
line_same : {x : Weights} {m : Limit} {a : ℕ → Near} {v : ℕ → Verdict} → Verdicts x m a v → {fewest : ℕ} → 0 < fewest
    → fewest_line (chances_of x) fewest ≡ fewest_line a fewest
line_same {x} {m} {a} all {fewest} some = go (leb fewest most_copies) refl
  where
    one : (c : ℕ) → 0 < c → c ≤ most_copies → chances_of x c ≡ a c
    one c some few =
        let l = copies_lent (with_copies x c) in (near_determined l (near_outcome l).outcome (all c some few).near).0

    go : (b : Bool) → leb fewest most_copies ≡ b
        → choose b (copies_line (bytes_of "copies ") fewest (chances_of x fewest)) (copies_line (bytes_of "none ") most_copies (chances_of x most_copies))
        ≡ choose b (copies_line (bytes_of "copies ") fewest (a fewest)) (copies_line (bytes_of "none ") most_copies (a most_copies))
    go true e = ap (copies_line (bytes_of "copies ") fewest) (one fewest some (leb-true fewest most_copies e))
    go false e = ap (copies_line (bytes_of "none ") most_copies) (one most_copies (omega arith) (omega arith))

pub both_told : {x : Weights} {m : Limit} {before after : List ℕ} {fewest first next : ℕ} → Sensible (with_copies x 1) → IsLimit m
    → Scanned x m fewest first → 0 < fewest → Written before 0 (fewest_line (chances_of x) fewest ++ open_line fewest first) after next
    → Stands (FewestReport x m) before next after
both_told {x} {m} {fewest = fewest} {first} s h n some w =
    let (a, (v, all)) = verdicts_exist m s in
    stands (FewestReport.told s h a v all fewest first (n.said a v all) (ap (λ z. z ++ open_line fewest first) (line_same all some))) w

-- The two lines, by their choices.
module _ (a : ℕ → Near) (fewest : ℕ) {p q : Page} where
  pub some_kept : fewest ≤ most_copies → Fits p (copies_line (bytes_of "copies ") fewest (a fewest)) copies_room q
      → Fits p (fewest_line a fewest) copies_room q
  some_kept h f = rw (le-leb fewest most_copies h) f

  pub none_kept : most_copies < fewest → Fits p (copies_line (bytes_of "none ") most_copies (a most_copies)) 124 q
      → Fits p (fewest_line a fewest) copies_room q
  none_kept h f = rw (lt-leb fewest most_copies h) (fit.worded refl (omega arith) f)

module _ (fewest first : ℕ) {p : Page} where
  pub open_told : {q r : Page} → first < 2 ^ 64 → first < fewest → Names p (bytes_of "open ") first q → Adds q (bytes_of "\n") r
      → Fits p (open_line fewest first) open_room r
  open_told small h n s = rw (lt-ltb first fewest h) (fit.and (fit.name small n) (fit.one s))

  pub open_none : fewest ≤ first → Fits p (open_line fewest first) open_room p
  open_none h = rw (le-ltb first fewest h) (fit.worded refl (omega arith) nothing)

pub scanned_some : {x : Weights} {m : Limit} {fewest first : ℕ} → Sensible (with_copies x 1) → Scanned x m fewest first → 0 < fewest
scanned_some {m = m} s n = let (a, (v, all)) = verdicts_exist m s in (n.said a v all).some
