-- What is answered where the parts of a file are handed on to be asked.
use Rattle.std.specs.Prelude.{◌≤◌, ◌≡◌, Result, Err}
use Rattle.std.specs.Fn.{Mut, CalledAt}
use denote.Ref.{Bor}
use Rattle.meaning.specs.Chain.{most_states, most_edges, edge_count}
use Rattle.meaning.specs.Block.{Input}
use Rattle.meaning.specs.File.{FileRefused}
use Rattle.chain.specs.Refusal.{number_of}
use Rattle.chain.specs.declared.refusal.Refusal.{Refusal}
use Rattle.opening.specs.Book.{Holds}
use Rattle.opening.specs.declared.book.Opened.{Opened}

-- The input is accepted, and these are its chain and tables; the chain is no larger than a chain may be.
pub record Shown (f : Input) (p : Opened) : Type 0 where
  pub few_states : p.given.chain.states ≤ most_states
  pub few_edges : edge_count p.given.edges.now ≤ most_edges
  pub holds : Holds f p.given.chain p.given.denominators.now p.given.edges.now p.order.now p.rewards.now

-- A file that is refused is so, by its number and place, and nothing is asked; of one that is accepted it is answered what is answered of its parts.
pub data Asked {F T : Type 0} (g : Mut F (Bor Opened × Unit {0}) (Result T Refusal)) (f : Input) (before : F) (r : Result T Refusal) (after : F) : Type 0 where
  refused : (x : Refusal) → FileRefused f (number_of x.fault) x.place → r ≡ Err x → after ≡ before → Asked g f before r after
  asked : (p : Opened) → Shown f p → CalledAt g before p r after → Asked g f before r after
