-- What an engine comes to is one.
use Prim.Native.Nat.{ℕ}
use mathlib.Core.Path.{◌≡◌, refl, sym, ap, subst, ◌∙◌}
use mathlib.Core.Bool.{Bool, true, false}
use mathlib.Core.List.{List}
use mathlib.Core.Logic.{inl}
use Rattle.meaning.specs.Chain.{Goal, End, PathTo}
use Rattle.meaning.specs.Row.{exact}
use Rattle.meaning.specs.Step.{Sets}
use Rattle.meaning.specs.Stop.{Stopped}
use Rattle.meaning.specs.Refusal.{Lent, Entry}
use Rattle.theory.specs.Chains.Sets.{right_one}
use Rattle.theory.specs.Outcomes.Computed.{passed_unstopped}
use Rattle.theory.specs.Outcomes.Determined.{refused_one, refused_unformed}
use Rattle.theory.specs.Outcomes.DemandThree.{rounding_unstopped}
use Rattle.theory.specs.Outcomes.Entries.{stopped_one}
use Rattle.elimination.specs.Engine.{rounds, is_short}
use Rattle.elimination.specs.Entered.{pay_of, Comes, Entered}
use Rattle.elimination.specs.Run.{Ended, Read, won, lost, live, runs}
use Rattle.elimination.specs.declared.engine.Engine.{Engine}
use Rattle.elimination.specs.declared.engine.Engine.TheVariants.{Chance, Reward, Bounds, Left}
use Rattle.std.specs.Prelude.{Result, Ok, Err}
use Rattle.chain.specs.declared.refusal.Refusal.{Refusal}
use Rattle.chain.proofs.Faults.{one_refusal}
use Rattle.elimination.specs.declared.course.Ends.{Ends}

-- A goal is an end.
won_leads : (short : Bool) (l : Lent) → Goal l.chain l.chain.start → PathTo l.chain.edges (End short l.chain) l.chain.start
won_leads false l h = PathTo.here _ h
won_leads true l h = PathTo.here _ (inl h)

-- What is read off is one.
module _ (pay : ℕ → ℕ) (short b : Bool) (l : Lent) where
  read_one : {e e' : Ends} → Read pay short b l e → Read pay short b l e' → e ≡ e'
  read_one (won h q) (won h' q') = q ∙ sym q'
  read_one (won h q) (lost h' q') = absurd (h' (won_leads short l h))
  read_one (won h q) (live k' right' alive' z') = absurd (alive'.unwon h)
  read_one (lost h q) (won h' q') = absurd (h (won_leads short l h'))
  read_one (lost h q) (lost h' q') = q ∙ sym q'
  read_one (lost h q) (live k' right' alive' z') = absurd (h alive'.leads)
  read_one (live k right alive z) (won h' q') = absurd (alive.unwon h')
  read_one (live k right alive z) (lost h' q') = absurd (h' alive.leads)
  read_one {e' = e'} (live k right alive z) (live k' right' alive' z') =
      let y : Ended pay short b l k e' = subst (λ k. Ended pay short b l k e') (right_one right' right) z' in
      z.read ∙ sym y.read

-- Where something can be read off nothing stopped the engine.
pub read_unstopped : (pay : ℕ → ℕ) (l : Lent) {e : Ends} → Read pay false exact l e → (number place : ℕ) → Stopped pay exact l number place → ⊥
read_unstopped pay l (won h q) number place s = s.alive.unwon h
read_unstopped pay l (lost h q) number place s = h s.alive.leads
read_unstopped pay l (live k right alive z) number place s = passed_unstopped l k right pay exact z.passed number place s

unstopped : (g : Engine) (l : Lent) {e : Ends} {number place : ℕ} → Read (pay_of g l) (is_short g) (rounds g) l e
    → Stopped (pay_of g l) (rounds g) l number place → ⊥
unstopped Chance l z s = read_unstopped (pay_of Chance l) l z _ _ s
unstopped Reward l z s = read_unstopped (pay_of Reward l) l z _ _ s
unstopped Bounds l z s = rounding_unstopped s
unstopped Left l z s = rounding_unstopped s

module _ (g : Engine) (l : Lent) where
  runs_one : (r r' : Result Ends Refusal) → runs (pay_of g l) (is_short g) (rounds g) l r → runs (pay_of g l) (is_short g) (rounds g) l r' → r ≡ r'
  runs_one (Ok e) (Ok e') z z' = ap (λ (e : Ends). Ok e) (read_one (pay_of g l) (is_short g) (rounds g) l z z')
  runs_one (Ok e) (Err r) z s = absurd (unstopped g l z s)
  runs_one (Err r) (Ok e) s z = absurd (unstopped g l z s)
  runs_one (Err r) (Err r') s s' = let e = stopped_one _ _ _ _ s s' in ap (λ (r : Refusal). Err r) (one_refusal r r' e.0 e.1)

  comes_one : {k k' : Sets} {log log' : List ℕ} (r r' : Result Ends Refusal) → Comes g l k log r → Comes g l k' log' r' → r ≡ r'
  comes_one _ _ (Comes.missed e m) (Comes.missed e' m') = refl
  comes_one _ r' (Comes.missed e m) (Comes.ran sure z h) = absurd (sure e m)
  comes_one r _ (Comes.ran sure z h) (Comes.missed e m) = absurd (sure e m)
  comes_one r r' (Comes.ran sure z h) (Comes.ran sure' z' h') = runs_one r r' z z'

  pub entered_unique : (x : Entry) {w w' log log' : List ℕ} (r r' : Result Ends Refusal) → Entered x g l w log r → Entered x g l w' log' r' → (r ≡ r') × (w ≡ w')
  entered_unique x _ _ (Entered.refused r z s h) (Entered.refused r' z' s' h') =
      let e = refused_one z z' in (ap (λ (r : Refusal). Err r) (one_refusal r r' e.0 e.1), s ∙ sym s')
  entered_unique x _ r' (Entered.refused _ z s h) (Entered.came formed s' k right c) = absurd (refused_unformed z formed)
  entered_unique x r _ (Entered.came formed s k right c) (Entered.refused _ z s' h) = absurd (refused_unformed z formed)
  entered_unique x r r' (Entered.came formed s k right c) (Entered.came formed' s' k' right' c') = (comes_one r r' c c', s ∙ sym s')
