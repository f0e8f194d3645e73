-- What a buffer keeps of bytes that come in parts, and what is only counted.
use Rattle.std.specs.Prelude.{ℕ, ◌+◌, ◌-◌, min, List, [], ◌∷◌, ◌++◌, length, take, drop}

-- How many bytes of a part have room in a buffer from a place on.
abbrev pub fitting : List ℕ → ℕ → List ℕ → ℕ
fitting before place part = min (length part) (length before - place)

-- A buffer with the first r bytes of a part from a place on: the bytes before the place, then those, the rest as it was.
abbrev pub pasted : List ℕ → ℕ → List ℕ → ℕ → List ℕ
pasted before place part r = take place before ++ take r part ++ drop (place + r) before

-- What came so far: the buffer, how many bytes are kept at its front, and how many came after them.
pub record SoFar : Type 0 where
  pub buffer : List ℕ
  pub kept : ℕ
  pub more : ℕ

-- Nothing has come.
abbrev pub fresh : List ℕ → SoFar
fresh before = record { buffer = before; kept = 0; more = 0 }

-- One part more: those of its bytes that have room are kept behind the others, and the rest is counted.
abbrev pub taken : SoFar → List ℕ → SoFar
taken s part =
    let r = fitting s.buffer s.kept part in
    record { buffer = pasted s.buffer s.kept part r; kept = s.kept + r; more = s.more + (length part - r) }

-- Parts, one after the other.
unfoldable pub all_taken : SoFar → List (List ℕ) → SoFar
all_taken s [] = s
all_taken s (part ∷ parts) = all_taken (taken s part) parts
