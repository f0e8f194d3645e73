-- What an entry is lent: a chain and its tables, each as a list.
use Rattle.std.specs.Prelude.{ℕ, List}
use Rattle.meaning.specs.Refusal.{Lent}
use Rattle.chain.specs.declared.Chain.{Chain}

abbrev pub lent : Chain → List ℕ → List ℕ → List ℕ → List ℕ → List ℕ → Lent
lent c denominators edges order rewards work =
    record {
      chain = record { states = c.states; start = c.start; goals = c.goals; denominators = denominators; edges = edges };
      order = order;
      rewards = rewards;
      work = work;
      list = 0;
    }
