-- What the salvaging reader answers is one, and so are the tables afterwards; what the program prints is one text, and with nothing lost that of the
-- bounds engine.
use Rattle.std.specs.Prelude.{ℕ, zero, suc, ◌≡◌, refl, false, List, ◌++◌, eqb}
use Rattle.std.proofs.Common.{sym, ap, ap₂, subst, ◌∙◌, inl, inr, arith, ne_eqb}
use Rattle.meaning.specs.Number.{choose}
use Rattle.meaning.specs.Refusal.{plain, Refused}
use Rattle.meaning.specs.Outcome.{refused, stopped, answered, Bounds, no_bounds, BoundsFigure, BoundsOutcome}
use Rattle.meaning.specs.Left.{short_rows, LeftOutcome}
use Rattle.meaning.specs.Block.{Input, head_states, demanded}
use Rattle.meaning.specs.File.{Accepted, plain_in, Tables}
use Rattle.meaning.specs.Text.{bytes_of}
use Rattle.meaning.specs.Report.{refused_text, bounds_text, line_text}
use Rattle.meaning.specs.Salvage.{
  Opened,
  left_chain,
  left_in,
  left_tables,
  Salvage,
  no_salvage,
  verdict,
  salvage,
  SalvageOutcome,
  PlaceIn,
  lost_text,
  short_text,
  Salvaged,
}
use Rattle.theory.specs.Outcomes.Determined.{refused_one, refused_unformed}
use Rattle.theory.specs.Outcomes.Entries.{bounds_determined, left_determined}
use Rattle.theory.specs.Files.FileOne.{accepted_unrefused}
use Rattle.theory.specs.Files.ReportOne.{line}
use Rattle.theory.specs.Files.Opened.{front_file, front_one, opened_unrefused, accepted_unlost, verdicts_one, verdict_lists_one, index_one}

pub salvage_read_one : {f : Input} {before : Tables} {a a' : Salvage} {after after' : Tables} → SalvageOutcome f before a after
    → SalvageOutcome f before a' after' → (a ≡ a') × (after ≡ after')
salvage_read_one (SalvageOutcome.short s e t) (SalvageOutcome.short s' e' t') = (e ∙ sym e', t ∙ sym t')
salvage_read_one (SalvageOutcome.short s e t) (SalvageOutcome.refused s' n' p' w' e' t') = absurd (s' s)
salvage_read_one (SalvageOutcome.short s e t) (SalvageOutcome.opened s' l' h' o' e' t') = absurd (s' s)
salvage_read_one (SalvageOutcome.refused s n p w e t) (SalvageOutcome.short s' e' t') = absurd (s s')
salvage_read_one (SalvageOutcome.refused s n p w e t) (SalvageOutcome.refused s' n' p' w' e' t') =
    let o = front_one w w' in (e ∙ ap₂ no_salvage o.0 o.1 ∙ sym e', t ∙ sym t')
salvage_read_one (SalvageOutcome.refused s n p w e t) (SalvageOutcome.opened s' l' h' o' e' t') = absurd (opened_unrefused o' w)
salvage_read_one (SalvageOutcome.opened s l h o e t) (SalvageOutcome.short s' e' t') = absurd (s s')
salvage_read_one (SalvageOutcome.opened s l h o e t) (SalvageOutcome.refused s' n' p' w' e' t') = absurd (opened_unrefused o w')
salvage_read_one {f} {before} (SalvageOutcome.opened s l h o e t) (SalvageOutcome.opened s' l' h' o' e' t') =
    let q = verdict_lists_one h h' o o' in
    (e ∙ ap (salvage f) q ∙ sym e', t ∙ ap (λ z. left_tables f (verdict z) before) q ∙ sym t')

-- The verdicts as one function.
pub verdicts_same : {f : Input} {v v' : ℕ → ℕ} → Opened f v → Opened f v' → v ≡ v'
verdicts_same o o' i b = verdicts_one o o' b i

place_one : {f : Input} {v : ℕ → ℕ} {number place at at' : ℕ} → PlaceIn f v number place at → PlaceIn f v number place at' → at ≡ at'
place_one (PlaceIn.edge e h l i) (PlaceIn.edge e' h' l' i') = index_one i i'
place_one (PlaceIn.edge e h l i) (PlaceIn.other (inl h')) = absurd (omega arith)
place_one (PlaceIn.edge e h l i) (PlaceIn.other (inr h')) = absurd (omega arith)
place_one (PlaceIn.other (inl h)) (PlaceIn.edge e' h' l' i') = absurd (omega arith)
place_one (PlaceIn.other (inr h)) (PlaceIn.edge e' h' l' i') = absurd (omega arith)
place_one (PlaceIn.other h) (PlaceIn.other h') = refl

left_places_one : {f : Input} {v v' : ℕ → ℕ} {n p at n' p' at' : ℕ} → v' ≡ v → Refused short_rows (left_in f v) n p → PlaceIn f v n p at
    → Refused short_rows (left_in f v') n' p' → PlaceIn f v' n' p' at' → (n ≡ n') × (at ≡ at')
left_places_one {f} {v} {v'} {n} {p} {at} {n'} {p'} {at'} same r i r' i' =
    let o = refused_one r (subst (λ z. Refused short_rows (left_in f z) n' p') same r') in
    let j : PlaceIn f v n p at' =
    subst (λ z. PlaceIn f v z p at') (sym o.0) (subst (λ z. PlaceIn f v n' z at') (sym o.1) (subst (λ z. PlaceIn f z n' p' at') same i')) in
    (o.0, place_one i j)

-- The text is one.
pub salvage_determined : {f : Input} {t t' : List ℕ} → Salvaged f t → Salvaged f t' → t ≡ t'
salvage_determined (Salvaged.file_refused n p r e) (Salvaged.file_refused n' p' r' e') = line (front_one r r') e e'
salvage_determined (Salvaged.file_refused n p r e) (Salvaged.whole_refused n' p' a' r' e') = absurd (accepted_unrefused a' (front_file r))
salvage_determined (Salvaged.file_refused n p r e) (Salvaged.whole a' f' b' w' o' e') = absurd (accepted_unrefused a' (front_file r))
salvage_determined (Salvaged.file_refused n p r e) (Salvaged.left_refused v' o' l' n' p' q' r' i' e') = absurd (opened_unrefused o' r)
salvage_determined (Salvaged.file_refused n p r e) (Salvaged.left v' o' l' f' a' w' c' e') = absurd (opened_unrefused o' r)
salvage_determined (Salvaged.whole_refused n p a r e) (Salvaged.file_refused n' p' r' e') = absurd (accepted_unrefused a (front_file r'))
salvage_determined (Salvaged.whole_refused n p a r e) (Salvaged.whole_refused n' p' a' r' e') = line (refused_one r r') e e'
salvage_determined (Salvaged.whole_refused n p a r e) (Salvaged.whole a' f' b' w' o' e') = absurd (refused_unformed r f')
salvage_determined (Salvaged.whole_refused n p a r e) (Salvaged.left_refused v' o' l' n' p' q' r' i' e') = absurd (accepted_unlost o' a l')
salvage_determined (Salvaged.whole_refused n p a r e) (Salvaged.left v' o' l' f' a' w' c' e') = absurd (accepted_unlost o' a l')
salvage_determined (Salvaged.whole a f b w o e) (Salvaged.file_refused n' p' r' e') = absurd (accepted_unrefused a (front_file r'))
salvage_determined (Salvaged.whole a f b w o e) (Salvaged.whole_refused n' p' a' r' e') = absurd (refused_unformed r' f)
salvage_determined {f = x} (Salvaged.whole a f b w o e) (Salvaged.whole a' f' b' w' o' e') =
    e ∙ ap (λ b. line_text (bytes_of "bounds ") (bounds_text b)) (bounds_determined (plain_in x) o o').0 ∙ sym e'
salvage_determined (Salvaged.whole a f b w o e) (Salvaged.left_refused v' o' l' n' p' q' r' i' e') = absurd (accepted_unlost o' a l')
salvage_determined (Salvaged.whole a f b w o e) (Salvaged.left v' o' l' f' a' w' c' e') = absurd (accepted_unlost o' a l')
salvage_determined (Salvaged.left_refused v o l n p q r i e) (Salvaged.file_refused n' p' r' e') = absurd (opened_unrefused o r')
salvage_determined (Salvaged.left_refused v o l n p q r i e) (Salvaged.whole_refused n' p' a' r' e') = absurd (accepted_unlost o a' l)
salvage_determined (Salvaged.left_refused v o l n p q r i e) (Salvaged.whole a' f' b' w' o' e') = absurd (accepted_unlost o a' l)
salvage_determined (Salvaged.left_refused v o l n p q r i e) (Salvaged.left_refused v' o' l' n' p' q' r' i' e') =
    line (left_places_one (verdicts_same o' o) r i r' i') e e'
salvage_determined {f = x} (Salvaged.left_refused v o l n p q r i e) (Salvaged.left v' o' l' f' a' w' c' e') =
    absurd (refused_unformed (subst (λ z. Refused short_rows (left_in x z) n p) (verdicts_same o o') r) f')
salvage_determined (Salvaged.left v o l f a w c e) (Salvaged.file_refused n' p' r' e') = absurd (opened_unrefused o r')
salvage_determined (Salvaged.left v o l f a w c e) (Salvaged.whole_refused n' p' a' r' e') = absurd (accepted_unlost o a' l)
salvage_determined (Salvaged.left v o l f a w c e) (Salvaged.whole a' f' b' w' o' e') = absurd (accepted_unlost o a' l)
salvage_determined {f = x} (Salvaged.left v o l f a w c e) (Salvaged.left_refused v' o' l' n' p' q' r' i' e') =
    absurd (refused_unformed (subst (λ z. Refused short_rows (left_in x z) n' p') (verdicts_same o' o) r') f)
salvage_determined {f = x} (Salvaged.left v o l f a w c e) (Salvaged.left v' o' l' f' a' w' c' e') =
    let same : v' ≡ v = verdicts_same o' o in
    let bounds : a ≡ a' = (left_determined (left_in x v) c (subst (λ z. LeftOutcome (left_in x z) a' w') same c')).0 in
    e
    ∙ ap₂ (λ (z : ℕ → ℕ) (b : Bounds). line_text (bytes_of "bounds ") (bounds_text b) ++ lost_text z (demanded x) ++ short_text (left_chain x z) (head_states x))
    (sym same) bounds
    ∙ sym e'

-- What the bounds engine says: its line, or its refusal.
abbrev pub bounds_said : Bounds → List ℕ
bounds_said a =
    choose (eqb a.number 0) (line_text (bytes_of "bounds ") (bounds_text a)) (refused_text a.number a.place ++ bytes_of "\n")

-- With nothing lost that is printed, and nothing else.
pub whole_salvaged : {f : Input} {a : Bounds} {work : List ℕ} → Accepted f → BoundsOutcome (plain_in f) a work → Salvaged f (bounds_said a)
whole_salvaged {f} {a} {work} accepted (refused number place r e s) =
    rw e (Salvaged.whole_refused number place accepted r (said number place r))
  where
    said : (number place : ℕ) → Refused plain (plain_in f) number place
        → bounds_said (no_bounds number place) ≡ refused_text number place ++ bytes_of "\n"
    said zero place r = absurd r.applies
    said (suc number) place r = rw (ne_eqb (suc number) 0 (omega arith))
whole_salvaged accepted (stopped number place f t e s) = absurd t
whole_salvaged {f} {a} {work} accepted (answered formed t g s) =
    Salvaged.whole accepted formed a work (answered formed t g s) (said g)
  where
    said : BoundsFigure false (plain_in f) a → bounds_said a ≡ line_text (bytes_of "bounds ") (bounds_text a)
    said (BoundsFigure.won g e) = rw e refl
    said (BoundsFigure.lost g e) = rw e refl
    said (BoundsFigure.live k r v p q s t f e) = rw e refl

pub salvage_nothing_lost : {f : Input} {a : Bounds} {work t : List ℕ} → Accepted f → BoundsOutcome (plain_in f) a work → Salvaged f t → t ≡ bounds_said a
salvage_nothing_lost accepted o s = salvage_determined s (whole_salvaged accepted o)
