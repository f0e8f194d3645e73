-- What is said of a table: it is there, it is one, and it is yes exactly where the table is the chance at every state.
use Rattle.std.specs.Prelude.{ℕ, ◌*◌, ◌<◌, ◌≡◌, refl, ◌↔◌, List, length}
use Rattle.std.proofs.Common.{sym, ap, ap₂, ◌∙◌, ⊎_elim, inl, arith}
use Rattle.std.proofs.Math.Decide.{dec_lt}
use Rattle.meaning.specs.Figure.{Shares, Chance}
use Rattle.meaning.specs.Refusal.{Lent, bare, OutOfRange}
use Rattle.meaning.specs.Judge.{numerator, Broken, Verdict, right, wrong, refusal, Sent, InRange, JudgeOutcome, table_length, refused, denominator_wrong, numerator_large, says_yes, says_no}
use Rattle.theory.specs.Numbers.Sum.{same, below}
use Rattle.theory.specs.Numbers.Search.{at, nowhere, ranged}
use Rattle.theory.specs.Outcomes.Formed.{formed_fine}
use Rattle.theory.specs.Outcomes.Look.{LookResult, look, out_of_range}
use Rattle.theory.specs.Outcomes.Determined.{meet, refused_one, refused_unformed}
use Rattle.theory.specs.Judging.Table.{dec_broken, shares_unbroken, unbroken_shares, ChanceAt, shares_chances, chances_shares}

-- A denominator in range is above 0.
pub range_some : {d : ℕ} → (OutOfRange d → ⊥) → 0 < d
range_some {d} h = ⊎_elim (λ (e : 0 < d). e) (λ z. absurd (h (inl (omega arith)))) (below 0 d)

-- Yes, no and a refusal are three.
pub unwrong : {i : ℕ} → right ≡ wrong i → ⊥
unwrong e = let z : ◌≡◌ {A = ℕ} 0 1 = cc in omega arith

pub unlike : {number place : ℕ} → right ≡ refusal number place → ⊥
unlike e = let z : ◌≡◌ {A = ℕ} 0 1 = cc in omega arith

pub unlike_no : {i number place : ℕ} → wrong i ≡ refusal number place → ⊥
unlike_no e = let z : ◌≡◌ {A = ℕ} 0 1 = cc in omega arith

-- One verdict for one chain and one table.
module _ {l : Lent} {d : ℕ} {table : List ℕ} where
  pub judge_one : {a a' : Verdict} → JudgeOutcome l d table a → JudgeOutcome l d table a' → a ≡ a'
  judge_one (table_length n e) (table_length n' e') = e ∙ sym e'
  judge_one (table_length n e) (refused s' k' p' r' e') = absurd (n s')
  judge_one (table_length n e) (denominator_wrong s' o' e') = absurd (n s'.size)
  judge_one (table_length n e) (numerator_large s' o' i' f' b' e') = absurd (n s'.size)
  judge_one (table_length n e) (says_yes s' g' h' e') = absurd (n s'.size)
  judge_one (table_length n e) (says_no s' g' i' f' b' e') = absurd (n s'.size)
  judge_one (refused s k p r e) (table_length n' e') = absurd (n' s)
  judge_one (refused s k p r e) (refused s' k' p' r' e') = let o = refused_one r r' in e ∙ ap₂ refusal o.0 o.1 ∙ sym e'
  judge_one (refused s k p r e) (denominator_wrong s' o' e') = absurd (refused_unformed r s'.formed)
  judge_one (refused s k p r e) (numerator_large s' o' i' f' b' e') = absurd (refused_unformed r s'.formed)
  judge_one (refused s k p r e) (says_yes s' g' h' e') = absurd (refused_unformed r s'.formed)
  judge_one (refused s k p r e) (says_no s' g' i' f' b' e') = absurd (refused_unformed r s'.formed)
  judge_one (denominator_wrong s o e) (table_length n' e') = absurd (n' s.size)
  judge_one (denominator_wrong s o e) (refused s' k' p' r' e') = absurd (refused_unformed r' s.formed)
  judge_one (denominator_wrong s o e) (denominator_wrong s' o' e') = e ∙ sym e'
  judge_one (denominator_wrong s o e) (numerator_large s' o' i' f' b' e') = absurd (o' o)
  judge_one (denominator_wrong s o e) (says_yes s' g' h' e') = absurd (g'.whole o)
  judge_one (denominator_wrong s o e) (says_no s' g' i' f' b' e') = absurd (g'.whole o)
  judge_one (numerator_large s o i f b e) (table_length n' e') = absurd (n' s.size)
  judge_one (numerator_large s o i f b e) (refused s' k' p' r' e') = absurd (refused_unformed r' s.formed)
  judge_one (numerator_large s o i f b e) (denominator_wrong s' o' e') = absurd (o o')
  judge_one (numerator_large s o i f b e) (numerator_large s' o' i' f' b' e') =
      e ∙ ap (refusal 34) (meet i i' (λ h. b' i h f) (λ h. b i' h f')) ∙ sym e'
  judge_one (numerator_large s o i f b e) (says_yes s' g' h' e') = absurd (g'.small i f)
  judge_one (numerator_large s o i f b e) (says_no s' g' i' f' b' e') = absurd (g'.small i f)
  judge_one (says_yes s g h e) (table_length n' e') = absurd (n' s.size)
  judge_one (says_yes s g h e) (refused s' k' p' r' e') = absurd (refused_unformed r' s.formed)
  judge_one (says_yes s g h e) (denominator_wrong s' o' e') = absurd (g.whole o')
  judge_one (says_yes s g h e) (numerator_large s' o' i' f' b' e') = absurd (g.small i' f')
  judge_one (says_yes s g h e) (says_yes s' g' h' e') = e ∙ sym e'
  judge_one (says_yes s g h e) (says_no s' g' i' f' b' e') = absurd (shares_unbroken h i' f'.0 f'.1)
  judge_one (says_no s g i f b e) (table_length n' e') = absurd (n' s.size)
  judge_one (says_no s g i f b e) (refused s' k' p' r' e') = absurd (refused_unformed r' s.formed)
  judge_one (says_no s g i f b e) (denominator_wrong s' o' e') = absurd (g.whole o')
  judge_one (says_no s g i f b e) (numerator_large s' o' i' f' b' e') = absurd (g.small i' f')
  judge_one (says_no s g i f b e) (says_yes s' g' h' e') = absurd (shares_unbroken h' i f.0 f.1)
  judge_one (says_no s g i f b e) (says_no s' g' i' f' b' e') = e ∙ ap wrong (meet i i' (λ h. b' i h f) (λ h. b i' h f')) ∙ sym e'

  -- A table in range is the chance at every state, or there is a least state that is broken.
  pub yes_or_broken : Sent l table → InRange l d table → (a : Verdict) × JudgeOutcome l d table a
  yes_or_broken s g =
      elim (ranged (Broken l.chain d (numerator table)) l.chain.states dec_broken) [
        | at i f b ↦ (wrong i, says_no s g i f b refl)
        | nowhere none ↦ (right, says_yes s g (unbroken_shares (range_some g.whole) (λ i h f. none i (h, f))) refl)
      ]

  -- And always one.
  pub judge_exists : (a : Verdict) × JudgeOutcome l d table a
  judge_exists = ⊎_elim sized (λ n. (refusal 1 0, table_length n refl)) (same (length table) l.chain.states)
    where
      ranging : Sent l table → (OutOfRange d → ⊥) → (a : Verdict) × JudgeOutcome l d table a
      ranging s o =
          elim (ranged (λ i. d < numerator table i) l.chain.states (λ i. dec_lt d (numerator table i))) [
            | at i f b ↦ (refusal 34 i, numerator_large s o i f b refl)
            | nowhere none ↦ yes_or_broken s (record { whole = o; small = none })
          ]

      formed : Sent l table → (a : Verdict) × JudgeOutcome l d table a
      formed s =
          elim (out_of_range d) [
            | yes o ↦ (refusal 33 0, denominator_wrong s o refl)
            | no o ↦ ranging s o
          ]

      sized : length table ≡ l.chain.states → (a : Verdict) × JudgeOutcome l d table a
      sized e =
          elim (look bare l) [
            | LookResult.refused n p r ↦ (refusal n p, refused e n p r refl)
            | LookResult.formed w ↦ formed (record { size = e; formed = w })
          ]

  -- A table that is said yes to is the chance at every state.
  pub yes_shares : {a : Verdict} → a ≡ right → JudgeOutcome l d table a → Shares l.chain d (numerator table)
  yes_shares q (table_length n e) = absurd (unlike (sym q ∙ e))
  yes_shares q (refused s k p r e) = absurd (unlike (sym q ∙ e))
  yes_shares q (denominator_wrong s w e) = absurd (unlike (sym q ∙ e))
  yes_shares q (numerator_large s w i f b e) = absurd (unlike (sym q ∙ e))
  yes_shares q (says_yes s w h e) = h
  yes_shares q (says_no s w i f b e) = absurd (unwrong (sym q ∙ e))

  -- So its fraction at the start is the chance.
  pub yes_chance : JudgeOutcome l d table right → (p q : ℕ) → Chance l.chain p q → p * d ≡ numerator table l.chain.start * q
  yes_chance o p q c = c.share d (numerator table) (yes_shares refl o)

  -- Of a table that is not refused.
  module _ (s : Sent l table) (g : InRange l d table) {a : Verdict} (o : JudgeOutcome l d table a) where
    -- Yes exactly when at every state, those that the start can't reach included, its fraction is the chance.
    pub judge_yes : (a ≡ right) ↔ ((i : ℕ) → i < l.chain.states → ChanceAt l.chain d (numerator table) i)
    judge_yes = (
      λ e. shares_chances (formed_fine bare l s.formed refl) (yes_shares e o),
      λ c. judge_one o (says_yes s g (chances_shares (formed_fine bare l s.formed refl) (range_some g.whole) c) refl),
    )
