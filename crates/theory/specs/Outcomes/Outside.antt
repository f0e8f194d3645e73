-- Every D is above 0: in each engine a live state has weight outside its own loop at its turn, and a live start has at the end.
use Rattle.std.specs.Prelude.{ℕ, ◌≡◌, refl, Bool, true}
use Rattle.meaning.specs.Row.{exact, rounding}
use Rattle.meaning.specs.Refusal.{Lent, Entry, plain, paid, WellFormed}
use Rattle.meaning.specs.Stop.{earns}
use Rattle.meaning.specs.Left.{short_rows}
use Rattle.meaning.specs.Demand.{OutsideAtTurn, OutsideAtEnd}
use Rattle.theory.specs.Rows.Settle.{one_engine}
use Rattle.theory.specs.Stages.Last.{turn_loose, last_loose}
use Rattle.theory.specs.Outcomes.Formed.{unpaid}
use Rattle.theory.specs.Outcomes.Whole.{formed_prepared_to}

-- The engine that rounds earns nothing.
module _ (b : Bool) (x : Entry) (l : Lent) (formed : WellFormed x l) (ordered : x.order ≡ true)
    (free : b ≡ rounding → (i : ℕ) → earns x l i ≡ 0) where
  turn_outside : OutsideAtTurn x b l
  turn_outside k right = turn_loose l.chain k l.order _ _ (formed_prepared_to x l formed ordered k right) b (earns x l) free

  end_outside : OutsideAtEnd x b l
  end_outside k right = last_loose l.chain k l.order _ _ (formed_prepared_to x l formed ordered k right) b (earns x l) free

module _ (l : Lent) where
  -- The chance.
  pub chance_turn_outside : WellFormed plain l → OutsideAtTurn plain exact l
  chance_turn_outside formed = turn_outside exact plain l formed refl (one_engine exact refl)

  pub chance_end_outside : WellFormed plain l → OutsideAtEnd plain exact l
  chance_end_outside formed = end_outside exact plain l formed refl (one_engine exact refl)

  -- The expected reward.
  pub reward_turn_outside : WellFormed paid l → OutsideAtTurn paid exact l
  reward_turn_outside formed = turn_outside exact paid l formed refl (one_engine exact refl)

  pub reward_end_outside : WellFormed paid l → OutsideAtEnd paid exact l
  reward_end_outside formed = end_outside exact paid l formed refl (one_engine exact refl)

  -- The bounds, whose rows may be rounded.
  pub bounds_turn_outside : WellFormed plain l → OutsideAtTurn plain rounding l
  bounds_turn_outside formed = turn_outside rounding plain l formed refl (λ _. unpaid plain l refl)

  pub bounds_end_outside : WellFormed plain l → OutsideAtEnd plain rounding l
  bounds_end_outside formed = end_outside rounding plain l formed refl (λ _. unpaid plain l refl)

  -- The bounds of what is left.
  pub left_turn_outside : WellFormed short_rows l → OutsideAtTurn short_rows rounding l
  left_turn_outside formed = turn_outside rounding short_rows l formed refl (λ _. unpaid plain l refl)

  pub left_end_outside : WellFormed short_rows l → OutsideAtEnd short_rows rounding l
  left_end_outside formed = end_outside rounding short_rows l formed refl (λ _. unpaid plain l refl)
