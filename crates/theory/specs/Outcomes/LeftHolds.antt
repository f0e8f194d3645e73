-- The bounds of what is left, from their definition alone: the chance of every chain that completes it lies between them.
use Rattle.std.specs.Prelude.{ℕ, refl, true, List}
use Rattle.std.proofs.Common.{sym, subst, inl, inr}
use Rattle.meaning.specs.Chain.{Chain, missing, End, LiveTo}
use Rattle.meaning.specs.Step.{Sets, RightTo}
use Rattle.meaning.specs.Refusal.{Lent, plain, WellFormed}
use Rattle.meaning.specs.Stop.{earns}
use Rattle.meaning.specs.Outcome.{Bounds, between, last_row, BoundsOf, BoundsFigure}
use Rattle.meaning.specs.Demand.{ChanceBetween}
use Rattle.meaning.specs.Left.{short_rows}
use Rattle.theory.specs.Chains.Fine.{Fine}
use Rattle.theory.specs.Figures.Shares.{shares_exist}
use Rattle.theory.specs.Stages.Last.{PreparedTo}
use Rattle.theory.specs.Stages.Left.{with_edges, Rejoined, to_end, left_least, left_most}
use Rattle.theory.specs.Outcomes.Formed.{unpaid, start_in}
use Rattle.theory.specs.Outcomes.Whole.{formed_prepared_to, last_whole, chance_won, chance_lost}
use Rattle.theory.specs.Outcomes.DemandThree.{below_share, above_share, known}

module _ (l : Lent) (formed : WellFormed short_rows l) where
  abbrev c : Chain
  c = l.chain

  module _ (edges rest : List ℕ) (joined : Rejoined c (missing c) edges rest) (fine : Fine (with_edges c edges)) where
    abbrev completed : Chain
    completed = with_edges c edges

    live_holds : (k : Sets) → RightTo c (End true c) k → LiveTo c (End true c) c.start → (p q s t : ℕ) → BoundsOf c (last_row true l k) p q s t
        → ChanceBetween completed (between p q s t)
    live_holds k right alive p q s t bounds =
        let ready : PreparedTo c k l.order (missing c) (End true c) = formed_prepared_to short_rows l formed refl k right in
        let whole = last_whole short_rows l formed refl k right alive in
        let free = unpaid plain l refl in
        let (d, x, share) = shares_exist fine in
        record {
          lower_lowest = bounds.0.lowest;
          upper_lowest = bounds.1.lowest;
          lower = λ u v h.
              below_share _ _ p q d (x c.start) u v whole share.whole bounds.0 (h.share d x share)
              (left_least c k l.order (missing c) (End true c) ready (λ _ z. inr z) edges rest joined fine d x share (earns plain l) free alive);
          upper = λ u v h.
              above_share _ _ s t d (x c.start) u v whole share.whole bounds.1 (h.share d x share)
              (left_most c k l.order (missing c) (End true c) ready (λ _ z. inr z) edges rest joined fine d x share (earns plain l) free alive);
        }

    pub left_holds : (a : Bounds) → BoundsFigure true l a → ChanceBetween completed a
    left_holds a (BoundsFigure.won g e) =
        subst (ChanceBetween completed) (sym e) (known fine 1 1 (chance_won completed (start_in short_rows l formed) g))
    left_holds a (BoundsFigure.lost h e) =
        subst (ChanceBetween completed) (sym e)
        (known fine 0 1
        (chance_lost completed (start_in short_rows l formed)
        (λ p. h (to_end c (missing c) (End true c) (λ _ g. inl g) (λ _ z. inr z) edges rest joined c.start p))))
    left_holds a (BoundsFigure.live k right alive p q s t bounds e) =
        subst (ChanceBetween completed) (sym e) (live_holds k right alive p q s t bounds)
