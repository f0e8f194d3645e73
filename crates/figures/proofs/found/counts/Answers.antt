use Prim.Native.Nat.{ℕ}
use mathlib.Core.Path.{refl, ap, ◌∙◌}
use Rattle.figures.proofs.found.counts.Goals as goal
use Rattle.figures.proofs.found.counts.Goals.{in-Ok, in-Err}

pub returns : goal.returns
returns c =
    elim c.match-of.branch [
      | in-Ok w ↦
          record {
            states = refl;
            edges = c.count.ensures;
            survey = _;
            outcome = w.in-Ok.ensures;
            goals = c.from.ensures ∙ ap (λ (n : ℕ × ℕ). n.0) w.goals-is;
            live = c.from-2.ensures ∙ ap (λ (n : ℕ × ℕ). n.1) w.goals-is;
          }
      | in-Err w ↦
          record {
            states = refl;
            edges = c.count.ensures;
            survey = _;
            outcome = w.in-Err.ensures;
            goals = c.from.ensures ∙ ap (λ (n : ℕ × ℕ). n.0) w.goals-is;
            live = c.from-2.ensures ∙ ap (λ (n : ℕ × ℕ). n.1) w.goals-is;
          }
    ]
