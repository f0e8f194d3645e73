-- What becomes of the answer bytes of the call.
use Rattle.std.specs.Prelude.{ℕ, ◌≡◌, List, Result, Ok, Err}
use Rattle.meaning.specs.Number.{filled}
use Rattle.meaning.specs.Call.{answer_bytes}
use Rattle.chain.specs.Refusal.{number_of}
use Rattle.chain.specs.declared.refusal.Refusal.{Refusal}
use Rattle.engines.specs.declared.answer.Bounds.{Bounds}

-- Two fractions are written, and 0 is answered; or the number by which there are none, and the bytes stay.
abbrev pub Answered : Result Bounds Refusal → List ℕ → ℕ → List ℕ → Type 0
Answered (Ok b) before returned after =
    (returned ≡ 0) × (after ≡ filled (answer_bytes b.lower.numerator b.lower.denominator b.upper.numerator b.upper.denominator) before)
Answered (Err r) before returned after = (returned ≡ number_of r.fault) × (after ≡ before)
