-- A number that is stored byte by byte, the least byte first.
use Prim.Native.Nat.{ℕ, ◌+◌, ◌/◌, ◌%◌, ◌^◌, ◌<◌}
use mathlib.Core.Path.{◌≡◌, refl, sym, ◌∙◌}
use mathlib.Core.List.{List}
use native.Mathlib.Omega.{arith}
use lib.ListN.{length}
use Rattle.theory.specs.Numbers.Tab.{tab_length}
use Rattle.octets.specs.Written.{Room, Written, Stored, written, full, little_endian}

pub size : (width x : ℕ) → length (little_endian width x) ≡ width
size width x = tab_length 0 width (λ i. x / 256 ^ i % 256)

-- Where there is no room, nothing is.
pub not_stored : {before : List ℕ} {place : ℕ} (width x : ℕ) → length before < place + width → Stored before place (little_endian width x) before place
not_stored width x h = full (λ r. omega (arith, r, size width x)) refl refl

-- Where there is room, the number is stored.
pub stored : {before text after : List ℕ} {place next : ℕ} → Room before place text → Stored before place text after next → Written before place text after next
stored r (written w) = w
stored r (full n e p) = absurd (n r)

-- A store has one outcome.
pub stored_unique : {before text after after' : List ℕ} {place next next' : ℕ} → Stored before place text after next
    → Stored before place text after' next' → (after ≡ after') × (next ≡ next')
stored_unique (written w) (written w') = let e = w.past ∙ sym w'.past in (w.bytes ∙ rw e (sym w'.bytes), e)
stored_unique (written w) (full n e p) = absurd (n (omega (arith, w.past, w.room)))
stored_unique (full n e p) (written w) = absurd (n (omega (arith, w.past, w.room)))
stored_unique (full n e p) (full n' e' p') = (e ∙ sym e', p ∙ sym p')
