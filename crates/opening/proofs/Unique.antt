-- What is promised of an opening determines the answer, case and all, and the table's parts afterwards.
use Rattle.std.proofs.Common.{ℕ, ◌≡◌, List, Result, Err, sym, ap, ◌∙◌, arith}
use Rattle.std.specs.Fn.{Mut, CalledAt}
use denote.Ref.{Bor}
use Rattle.meaning.specs.Block.{Input}
use Rattle.theory.specs.Files.FileOne.{file_one, accepted_unrefused}
use Rattle.chain.specs.declared.refusal.Refusal.{Refusal}
use Rattle.chain.proofs.Faults.{one_refusal}
use Rattle.chainfile.specs.declared.Book.{Book}
use Rattle.chainfile.proofs.Unique.{told_one, open_unique}
use Rattle.opening.specs.Split.{split}
use Rattle.opening.specs.Opened.{OpeningOutcome, short, read}
use Rattle.opening.specs.Asked.{Shown, Asked, refused, asked}
use Rattle.opening.specs.declared.book.Opened.{Opened}

pub opening_unique : {f : Input} {before after after' : List ℕ} {r r' : Result Book Refusal} → OpeningOutcome f before r after → OpeningOutcome f before r' after'
    → (r ≡ r') × (split after ≡ split after')
opening_unique {r = r} {r'} (short h e d) (short h' e' d') = (told_one r r' (e ∙ sym e'), ap split d ∙ sym (ap split d'))
opening_unique (short h e d) (read h' o') = absurd (omega arith)
opening_unique (read h o) (short h' e' d') = absurd (omega arith)
opening_unique {f} {before} {after} {after'} {r} {r'} (read h o) (read h' o') = open_unique f (split before) (split after) (split after') r r' o o'

-- So does what is promised where a file is handed on, if what is asked has one answer to all that may be shown of the file.
pub with_unique : {F T : Type 0} (g : Mut F (Bor Opened × Unit {0}) (Result T Refusal)) {f : Input} {before after after' : F} {r r' : Result T Refusal}
    → ((p q : Opened) → Shown f p → Shown f q → CalledAt g before p r after → CalledAt g before q r' after' → (r ≡ r') × (after ≡ after'))
    → Asked g f before r after → Asked g f before r' after' → (r ≡ r') × (after ≡ after')
with_unique g one (refused x w e k) (refused y v d l) = (e ∙ ap Err (one_refusal x y (file_one w v).0 (file_one w v).1) ∙ sym d, k ∙ sym l)
with_unique g one (refused x w e k) (asked p s c) = absurd (accepted_unrefused s.holds.accepted w)
with_unique g one (asked p s c) (refused x w e k) = absurd (accepted_unrefused s.holds.accepted w)
with_unique g one (asked p s c) (asked q t d) = one p q s t c d
