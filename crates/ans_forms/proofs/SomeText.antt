-- What goes has a byte.
use Rattle.std.proofs.Common.{◌≡◌, ℕ, ◌+◌, ◌<◌, Bool, true, false, ◌&&◌, List, [], ◌∷◌, ◌++◌, length, Option}
use Rattle.std.proofs.Common.{Some, None}
use Rattle.std.proofs.Common.{refl, ap, ◌∙◌, arith, length-append}
use Rattle.std.specs.Prelude.{IsTrue, option_and_then, if◌then◌else◌}
use Rattle.std.specs.List.{list_all}
use Rattle.std.proofs.lemmas.Bool.{false≢true}
use Rattle.ans_model.specs.Sequence.TokenKind.{Keys}
use Rattle.ans_model.specs.Sequence.Reads.{SpellsToken}
use Rattle.ans_model.proofs.Reading.{token_nonempty}
use Rattle.ans_forms.specs.Pieces.{allows, behind_form}
use Rattle.ans_forms.specs.Unwanted.{FormEntry, IsOfKind, behind_going, first_form, forms, kind_or, may_go}
use Rattle.ans_forms.specs.Unwanted.{unwanted_form}
use Rattle.ans_forms.specs.declared.kinds.Before.{Before}
use Rattle.ans_forms.specs.declared.kinds.Unwanted.{Unwanted}
use Rattle.ans_forms.specs.declared.kinds.Unwanted.TheVariants as unwanted
use Rattle.ans_forms.specs.declared.pieces.FormPiece.{FormPiece}
use Rattle.ans_forms.specs.declared.pieces.FormPiece.TheVariants.{Byte}
use Rattle.ans_forms.proofs.FormEnds.{IsEnd, form_end}

-- what is there, if anything, is shorter than the bytes
abbrev IsShorter : List ℕ → Option (List ℕ) → Type 0
IsShorter bytes None = Unit {0}
IsShorter bytes (Some rest) = length rest < length bytes

shorter_by_end : (first : ℕ) (rest : List ℕ) (o : Option (List ℕ)) → IsEnd rest o → IsShorter (first ∷ rest) o
shorter_by_end first rest None h = tt
shorter_by_end first rest (Some behind) (front, e) =
    let sum : length rest ≡ length front + length behind = ap length e ∙ length-append front behind in
    omega (arith, sum)

byte_or_none : (b : Bool) (first : ℕ) (rest : List ℕ) (more : List FormPiece)
    → IsShorter (first ∷ rest) (option_and_then (behind_form more) (if b then Some rest else None))
byte_or_none true first rest more = shorter_by_end first rest (behind_form more rest) (form_end more rest)
byte_or_none false first rest more = tt

-- the pieces begin with a byte
abbrev begins_with_byte : List FormPiece → Bool
begins_with_byte (Byte only ∷ more) = true
begins_with_byte _ = false

form_shorter : (pieces : List FormPiece) (bytes : List ℕ) → IsTrue (begins_with_byte pieces)
    → IsShorter bytes (behind_form pieces bytes)
form_shorter (Byte only ∷ more) [] begins = tt
form_shorter (Byte only ∷ more) (first ∷ rest) begins = byte_or_none (allows (Byte only) first) first rest more
form_shorter [] bytes begins = absurd (false≢true begins)
form_shorter (piece ∷ more) bytes begins = absurd (false≢true begins)

abbrev FoundShorter : List ℕ → Option (Unwanted × List ℕ) → Type 0
FoundShorter bytes None = Unit {0}
FoundShorter bytes (Some form) = length form.1 < length bytes

if_going : (b : Bool) (bytes : List ℕ) (o : Option (List ℕ)) → IsShorter bytes o
    → IsShorter bytes (if b then o else None)
if_going true bytes o h = h
if_going false bytes o h = tt

found_or : (bytes : List ℕ) (kind : Unwanted) (o : Option (List ℕ)) (other : Option (Unwanted × List ℕ))
    → IsShorter bytes o → FoundShorter bytes other → FoundShorter bytes (kind_or kind o other)
found_or bytes kind None other short later = later
found_or bytes kind (Some rest) other short later = short

both : (a b : Bool) → IsTrue (a && b) → IsTrue a × IsTrue b
both true b h = (refl, h)
both false b h = absurd (false≢true h)

found_first : (before : Before) (bytes : List ℕ) (entries : List FormEntry)
    → IsTrue (list_all (λ e. begins_with_byte e.pieces) entries) → FoundShorter bytes (first_form before bytes entries)
found_first before bytes [] all = tt
found_first before bytes (e ∷ es) all =
    let (begins, later) = both (begins_with_byte e.pieces) (list_all (λ e. begins_with_byte e.pieces) es) all in
    found_or bytes e.kind (behind_going before bytes e) (first_form before bytes es)
    (if_going (may_go before e.kind) bytes (behind_form e.pieces bytes) (form_shorter e.pieces bytes begins))
    (found_first before bytes es later)

found : (before : Before) (bytes : List ℕ) → FoundShorter bytes (unwanted_form before bytes)
unfolding unwanted_form
found before bytes = found_first before bytes forms refl

by_form : (before : Before) (kind : Unwanted) (text rest : List ℕ)
    → unwanted_form before (text ++ rest) ≡ Some (kind, rest) → 0 < length text
by_form before kind text rest e =
    let short : length rest < length (text ++ rest) = rw e at (found before (text ++ rest)) in
    let sum = length-append text rest in
    omega (arith, short, sum)

by_token : (text : List ℕ) → SpellsToken Keys text → 0 < length text
by_token [] h = absurd (token_nonempty Keys [] [] h refl)
by_token (first ∷ rest) h = omega arith

pub some_text : (before : Before) (kind : Unwanted) (text rest : List ℕ) → IsOfKind before kind text rest
    → 0 < length text
some_text before unwanted.ReassignedKey text rest h = by_token text h
some_text before unwanted.Unfinished text rest h = h.1.begun
some_text before kind text rest h = by_form before kind text rest h.1
