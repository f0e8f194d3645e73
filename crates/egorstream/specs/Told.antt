-- What the writer's face is lent and what it answers, in the words of `meaning`.
use Rattle.std.specs.Prelude.{ℕ, List}
use Rattle.meaning.specs.Refusal.{Lent}
use Rattle.meaning.specs.Buffer.{Writing}
use Rattle.egorstream.specs.declared.write.Written.{Written}

abbrev pub lent : ℕ → ℕ → ℕ → List ℕ → List ℕ → List ℕ → List ℕ → List ℕ → Lent
lent states start goals denominators edges order rewards buffer =
    record {
      chain = record { states = states; start = start; goals = goals; denominators = denominators; edges = edges };
      order = order;
      rewards = rewards;
      work = buffer;
      list = 0;
    }

abbrev pub told : Written → Writing
told w = record { number = w.number; place = w.place; written = w.length }
