-- What the face of near chances for C answers.
use Rattle.std.specs.Prelude.{◌+◌, ◌≤◌, ◌<◌, ◌^◌, ◌≡◌, Result, Ok, Err}
use Rattle.meaning.specs.Chain.{most_states, most_edges}
use Rattle.meaning.specs.Block.{Input}
use Rattle.meaning.specs.Near.{Near}
use Rattle.meaning.specs.NearText.{figure, lower_figure, upper_figure}
use Rattle.meaning.specs.FileNear.{From, FileNear}
use Rattle.near.specs.Answer.{told_near, told_miss}
use Rattle.near.specs.declared.answer.Between.{Between}
use Rattle.near.specs.declared.answer.Figures.{Figures}
use Rattle.chain.specs.declared.refusal.Refusal.{Refusal}
use Rattle.egorstream.specs.declared.nearly.Around.{Around}
use Rattle.egorstream.specs.declared.nearly.Nearness.{Nearness}

-- Twos, and a refusal's place, have room in four bytes.
abbrev pub SmallTwos : Between → Type 0
SmallTwos b = b.twos < 2 ^ 32

abbrev pub Small : Result Figures Refusal → Type 0
Small (Ok f) = SmallTwos f.chance × SmallTwos f.miss
Small (Err r) = r.place ≤ most_states + most_edges

-- The numbers of an answer, and its printed figures.
pub record Surrounds (a : Near) (s : Around) : Type 0 where
  pub lower : s.lower ≡ a.lower
  pub upper : s.upper ≡ a.upper
  pub twos : s.twos ≡ a.twos
  pub below : figure s.lower_digits s.lower_tens ≡ lower_figure a.lower a.twos
  pub above : figure s.upper_digits s.upper_tens ≡ upper_figure a.upper a.twos

-- The face tells an answer for the chance, and one for missing, whose number and place are its own.
pub record Tells (chance missing : Near) (r : Nearness) : Type 0 where
  pub number : r.number ≡ chance.number
  pub place : r.place ≡ chance.place
  pub near : Surrounds chance r.near
  pub miss : Surrounds missing r.miss

abbrev pub Replies : Result Figures Refusal → Nearness → Type 0
Replies n r = Tells (told_near n) (told_miss n) r

-- What it promises of a file.
pub record Nears (f : Input) (from : From) (r : Nearness) : Type 0 where
  pub chance : Near
  pub missing : Near
  pub outcome : FileNear f from chance missing
  pub tells : Tells chance missing r
