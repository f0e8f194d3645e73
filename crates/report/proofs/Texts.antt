-- The texts that document 01 prints, and the line of a record, are those of the definitions.
use mathlib.Core.Path.{◌≡◌, refl}
use mathlib.Core.List.{◌++◌}
use Rattle.meaning.specs.Outcome.{fraction, infinite, refusal, between}
use Rattle.meaning.specs.Text.{bytes_of, decimal, decimal_in}
use Rattle.meaning.specs.Report.{answer_text, refused_text, lines_text, record_text, face_text}

-- The address chain.
address : lines_text 7 12 1 5 (fraction 4375 4376) infinite (between 4375 4376 4375 4376)
    ≡ bytes_of "states 7\nedges 12\ngoals 1\nlive 5\nchance 4375/4376\nreward infinite\nbounds 4375/4376 4375/4376\n"
unfolding decimal decimal_in
address = refl

-- A refusal printed alone, one in its own line, and a face of the dice.
alone : refused_text 9 3 ++ bytes_of "\n" ≡ bytes_of "refused 9 at 3\n"
unfolding decimal decimal_in
alone = refl

within : bytes_of "chance " ++ answer_text (refusal 12 1) ≡ bytes_of "chance refused 12 at 1"
unfolding decimal decimal_in
within = refl

face : face_text 1 (fraction 1 6) ≡ bytes_of "face 1 1/6\n"
unfolding decimal decimal_in
face = refl

-- A record of the step list.
step : record_text 3 2 4 6 ≡ bytes_of "state 3 rows 2 columns 4 divisor 6\n"
unfolding decimal decimal_in
step = refl
