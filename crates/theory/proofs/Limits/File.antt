-- What is said of a chain file and a limit is one, and holds.
use Rattle.std.specs.Prelude.{ℕ, ◌≡◌, List}
use Rattle.std.proofs.Common.{sym, ap, ap₂, subst, ◌∙◌}
use Rattle.meaning.specs.Figure.{Chance}
use Rattle.meaning.specs.Refusal.{plain, WellFormed}
use Rattle.meaning.specs.Outcome.{Answer, ChanceOutcome}
use Rattle.meaning.specs.Demand.{TooLarge}
use Rattle.meaning.specs.Block.{Input}
use Rattle.meaning.specs.File.{chain_in, plain_in}
use Rattle.meaning.specs.Near.{Near, NearOutcome}
use Rattle.meaning.specs.Limit.{Limit}
use Rattle.meaning.specs.FileLimit.{Verdict, kept, broken, undecided, verdict_by, Limited, refused, judged, FileLimit, no_limit_lem, file_refused, chain_refused, asked, limit_line, LimitReport}
use Rattle.theory.specs.Outcomes.Determined.{refused_one, refused_unformed}
use Rattle.theory.specs.Outcomes.DemandTwo.{chance_is}
use Rattle.theory.specs.Outcomes.Entries.{chance_determined}
use Rattle.theory.specs.Outcomes.NearOne.{near_determined}
use Rattle.theory.specs.Files.FileOne.{file_one, accepted_unrefused}
use Rattle.theory.proofs.Limits.Verdict.{Within, Right, Straddled, verdict_kept, verdict_broken, verdict_open}

pub file_limit_one : {f : Input} {m : Limit} {a a' : Limited} → FileLimit f m a → FileLimit f m a' → a ≡ a'
file_limit_one (no_limit_lem n e) (no_limit_lem n' e') = e ∙ sym e'
file_limit_one (no_limit_lem n e) (file_refused s' _ _ r' e') = absurd (n s')
file_limit_one (no_limit_lem n e) (chain_refused s' h' _ _ r' e') = absurd (n s')
file_limit_one (no_limit_lem n e) (asked s' h' f' _ _ _ _ o' c' e') = absurd (n s')
file_limit_one (file_refused s _ _ r e) (no_limit_lem n' e') = absurd (n' s)
file_limit_one (file_refused s _ _ r e) (file_refused s' _ _ r' e') = let o = file_one r r' in e ∙ ap₂ refused o.0 o.1 ∙ sym e'
file_limit_one (file_refused s _ _ r e) (chain_refused s' h' _ _ r' e') = absurd (accepted_unrefused h' r)
file_limit_one (file_refused s _ _ r e) (asked s' h' f' _ _ _ _ o' c' e') = absurd (accepted_unrefused h' r)
file_limit_one (chain_refused s h _ _ r e) (no_limit_lem n' e') = absurd (n' s)
file_limit_one (chain_refused s h _ _ r e) (file_refused s' _ _ r' e') = absurd (accepted_unrefused h r')
file_limit_one (chain_refused s h _ _ r e) (chain_refused s' h' _ _ r' e') = let o = refused_one r r' in e ∙ ap₂ refused o.0 o.1 ∙ sym e'
file_limit_one (chain_refused s h _ _ r e) (asked s' h' f' _ _ _ _ o' c' e') = absurd (refused_unformed r f')
file_limit_one (asked s h f _ _ _ _ o c e) (no_limit_lem n' e') = absurd (n' s)
file_limit_one (asked s h f _ _ _ _ o c e) (file_refused s' _ _ r' e') = absurd (accepted_unrefused h r')
file_limit_one (asked s h f _ _ _ _ o c e) (chain_refused s' h' _ _ r' e') = absurd (refused_unformed r' f)
file_limit_one {m = m} (asked s h f x a w v o c e) (asked s' h' f' x' a' w' v' o' c' e') =
    e ∙ ap₂ (λ (x : Answer) (a : Near). judged (verdict_by m x a) a) (chance_determined _ o o').0 (near_determined _ c c').0 ∙ sym e'

-- What the program prints is one text.
pub limit_report_one : {f : Input} {m : Limit} {t t' : List ℕ} → LimitReport f m t → LimitReport f m t' → t ≡ t'
limit_report_one r r' = r.line ∙ ap limit_line (file_limit_one r.outcome r'.outcome) ∙ sym r'.line

-- What stands behind a verdict.
pub record Judged (f : Input) (m : Limit) (v : Verdict) (a : Near) : Type 0 where
  pub formed : WellFormed plain (plain_in f)
  pub exact : Answer
  pub exact_work : List ℕ
  pub chance : ChanceOutcome (plain_in f) exact exact_work
  pub work : List ℕ
  pub near : NearOutcome (plain_in f) a work
  pub is : verdict_by m exact a ≡ v

-- A refusal is no verdict.
abbrev Said : Limited → Type 0
Said (refused number place) = ⊥
Said (judged v a) = Unit {0}

verdict_of : Limited → Verdict
verdict_of (refused number place) = undecided
verdict_of (judged v a) = v

near_of : Limited → Near → Near
near_of (refused number place) a = a
near_of (judged v a) _ = a

said : {v : Verdict} {a : Near} {b : Limited} → judged v a ≡ b → Said b
said e = subst Said e tt

pub limit_judged : {f : Input} {m : Limit} {v : Verdict} {a : Near} → FileLimit f m (judged v a) → Judged f m v a
unfolding verdict_of near_of
limit_judged (no_limit_lem n e) = absurd (said e)
limit_judged (file_refused s _ _ r e) = absurd (said e)
limit_judged (chain_refused s h _ _ r e) = absurd (said e)
limit_judged {f} {m} {v} {a} (asked s h g x a' w u o c e) =
    let same : a' ≡ a = sym (ap (λ b. near_of b a) e) in
    let verdict : verdict_by m x a' ≡ v = sym (ap verdict_of e) in
    record {
      formed = g;
      exact = x;
      exact_work = w;
      chance = o;
      work = u;
      near = subst (λ (z : Near). NearOutcome (plain_in f) z u) same c;
      is = subst (λ (z : Near). verdict_by m x z ≡ v) same verdict;
    }

-- The exact answer behind it, where there is one, is the chance.
behind : {f : Input} {m : Limit} {v : Verdict} {a : Near} (j : Judged f m v a) → Right (plain_in f) j.exact
behind {f} j = chance_is (plain_in f) j.formed j.exact j.exact_work j.chance

-- Kept: the chance is at most the limit.
pub limit_kept : {f : Input} {m : Limit} {a : Near} → FileLimit f m (judged kept a) → {p q : ℕ} → Chance (chain_in f) p q → Within m p q
limit_kept {f} {m} o = let j = limit_judged o in verdict_kept (plain_in f) j.formed m j.exact (behind j) j.near j.is

-- Broken: the chance is above the limit.
pub limit_broken : {f : Input} {m : Limit} {a : Near} → FileLimit f m (judged broken a) → {p q : ℕ} → Chance (chain_in f) p q → Within m p q → ⊥
limit_broken {f} {m} o = let j = limit_judged o in verdict_broken (plain_in f) j.formed m j.exact (behind j) j.near j.is

-- Open: the exact entry refuses, and the limit lies between the printed figures.
pub limit_open : {f : Input} {m : Limit} {a : Near} → FileLimit f m (judged undecided a) → TooLarge (plain_in f) × Straddled m a
limit_open {f} {m} o = let j = limit_judged o in verdict_open (plain_in f) j.formed m j.chance j.is
