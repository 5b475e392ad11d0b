-- What stands behind a form is an end of the bytes, and a form has a kind.
use Rattle.std.proofs.Common.{◌≡◌, ℕ, Bool, true, false, ◌&&◌, List, [], ◌∷◌, ◌++◌, take, drop, Option, Some, None}
use Rattle.std.proofs.Common.{refl, sym, ap, ◌∙◌, append_assoc}
use Rattle.std.specs.Prelude.{IsTrue, option_and_then, if◌then◌else◌}
use Rattle.std.specs.List.{list_all}
use Rattle.std.proofs.lemmas.Bool.{false≢true}
use Rattle.std.proofs.lemmas.List.{take-append-drop}
use Rattle.ans_model.specs.Sequence.Spelling.{is_mark_byte}
use Rattle.ans_forms.specs.Pieces.{allows, behind_form, behind_piece, count_front, is_digit, is_note, is_parameter}
use Rattle.ans_forms.specs.Unwanted.{FormEntry, IsOfKind, ReassignsNone, behind_going, first_form, forms, kind_or}
use Rattle.ans_forms.specs.Unwanted.{may_go}
use Rattle.ans_forms.specs.Unwanted.{unwanted_form}
use Rattle.ans_forms.specs.declared.kinds.Before.{Before}
use Rattle.ans_forms.specs.declared.kinds.Unwanted.{Unwanted}
use Rattle.ans_forms.specs.declared.kinds.Unwanted.TheVariants as unwanted
use Rattle.ans_forms.specs.declared.pieces.FormPiece.{FormPiece}
use Rattle.ans_forms.specs.declared.pieces.FormPiece.TheVariants.{Digits, Notes, Mark}
use Rattle.ans_forms.specs.declared.pieces.FormPiece.TheVariants.{Parameters}

-- ---- an end of the bytes
-- what is there, if anything, is an end of the bytes
abbrev pub IsEnd : List ℕ → Option (List ℕ) → Type 0
IsEnd bytes None = Unit {0}
IsEnd bytes (Some rest) = (front : List ℕ) × (bytes ≡ front ++ rest)

dropped : (n : ℕ) (bytes : List ℕ) → IsEnd bytes (Some (drop n bytes))
dropped n bytes = (take n bytes, sym (take-append-drop n bytes))

none_or_end : (b : Bool) (bytes rest : List ℕ) → IsEnd bytes (Some rest) → IsEnd bytes (if b then None else Some rest)
none_or_end true bytes rest h = tt
none_or_end false bytes rest h = h

end_or_none : (b : Bool) (bytes rest : List ℕ) → IsEnd bytes (Some rest) → IsEnd bytes (if b then Some rest else None)
end_or_none true bytes rest h = h
end_or_none false bytes rest h = tt

behind_first : (b : Bool) (first : ℕ) (rest : List ℕ)
    → IsEnd (first ∷ rest) (Some (if b then rest else first ∷ rest))
behind_first true first rest = (first ∷ [], refl)
behind_first false first rest = ([], refl)

piece_end : (piece : FormPiece) (bytes : List ℕ) → IsEnd bytes (behind_piece piece bytes)
piece_end Digits bytes = none_or_end _ bytes _ (dropped (count_front is_digit bytes) bytes)
piece_end Notes bytes = none_or_end _ bytes _ (dropped (count_front is_note bytes) bytes)
piece_end Mark [] = ([], refl)
piece_end Mark (first ∷ rest) = behind_first (is_mark_byte first) first rest
piece_end Parameters bytes = dropped (count_front is_parameter bytes) bytes
piece_end piece [] = tt
piece_end piece (first ∷ rest) = end_or_none (allows piece first) (first ∷ rest) rest (first ∷ [], refl)

-- an end of an end
end_of_end : (bytes front rest : List ℕ) (o : Option (List ℕ)) → bytes ≡ front ++ rest → IsEnd rest o → IsEnd bytes o
end_of_end bytes front rest None e h = tt
end_of_end bytes front rest (Some behind) e (more, is) =
    (front ++ more, e ∙ ap (λ (v : List ℕ). front ++ v) is ∙ sym (append_assoc front more behind))

then_end : (bytes : List ℕ) (more : List FormPiece) (o : Option (List ℕ)) → IsEnd bytes o
    → ((rest : List ℕ) → IsEnd rest (behind_form more rest)) → IsEnd bytes (option_and_then (behind_form more) o)
then_end bytes more None h ends = tt
then_end bytes more (Some rest) (front, e) ends = end_of_end bytes front rest (behind_form more rest) e (ends rest)

pub form_end : (pieces : List FormPiece) (bytes : List ℕ) → IsEnd bytes (behind_form pieces bytes)
form_end [] bytes = ([], refl)
form_end (piece ∷ more) bytes =
    then_end bytes more (behind_piece piece bytes) (piece_end piece bytes) (form_end more)

-- ---- the forms of the table
-- the kinds that are known by a form
abbrev pub has_form : Unwanted → Bool
has_form unwanted.ReassignedKey = false
has_form unwanted.Unfinished = false
has_form _ = true

-- what is found has such a kind, and an end of the bytes
abbrev pub IsFound : List ℕ → Option (Unwanted × List ℕ) → Type 0
IsFound bytes None = Unit {0}
IsFound bytes (Some form) = IsTrue (has_form form.0) × ((front : List ℕ) × (bytes ≡ front ++ form.1))

if_going : (b : Bool) (bytes : List ℕ) (o : Option (List ℕ)) → IsEnd bytes o → IsEnd bytes (if b then o else None)
if_going true bytes o h = h
if_going false bytes o h = tt

found_or : (bytes : List ℕ) (kind : Unwanted) (o : Option (List ℕ)) (other : Option (Unwanted × List ℕ))
    → IsTrue (has_form kind) → IsEnd bytes o → IsFound bytes other → IsFound bytes (kind_or kind o other)
found_or bytes kind None other has end later = later
found_or bytes kind (Some rest) other has end later = (has, end)

both : (a b : Bool) → IsTrue (a && b) → IsTrue a × IsTrue b
both true b h = (refl, h)
both false b h = absurd (false≢true h)

found_first : (before : Before) (bytes : List ℕ) (entries : List FormEntry)
    → IsTrue (list_all (λ e. has_form e.kind) entries) → IsFound bytes (first_form before bytes entries)
found_first before bytes [] all = tt
found_first before bytes (e ∷ es) all =
    let (has, later) = both (has_form e.kind) (list_all (λ e. has_form e.kind) es) all in
    found_or bytes e.kind (behind_going before bytes e) (first_form before bytes es) has
    (if_going (may_go before e.kind) bytes (behind_form e.pieces bytes) (form_end e.pieces bytes))
    (found_first before bytes es later)

found : (before : Before) (bytes : List ℕ) → IsFound bytes (unwanted_form before bytes)
unfolding unwanted_form
found before bytes = found_first before bytes forms refl

pub found_is : (before : Before) (bytes : List ℕ) (kind : Unwanted) (rest : List ℕ)
    → unwanted_form before bytes ≡ Some (kind, rest)
    → IsTrue (has_form kind) × ((front : List ℕ) × (bytes ≡ front ++ rest))
found_is before bytes kind rest e = rw e at (found before bytes)

-- there is none where there are no bytes
no_form_at : (shown coloured : Bool) (before : Before)
    → unwanted_form (record before { is_shown = shown; is_coloured = coloured }) [] ≡ None
unfolding unwanted_form
no_form_at true true before = refl
no_form_at true false before = refl
no_form_at false true before = refl
no_form_at false false before = refl

pub no_form_in_nothing : (before : Before) → unwanted_form before [] ≡ None
no_form_in_nothing before = no_form_at before.is_shown before.is_coloured before

-- what is found is of its kind, if no key is reassigned there
pub found_of_kind : (before : Before) (kind : Unwanted) (text rest : List ℕ) → IsTrue (has_form kind)
    → ReassignsNone (text ++ rest) → unwanted_form before (text ++ rest) ≡ Some (kind, rest)
    → IsOfKind before kind text rest
found_of_kind before unwanted.ReassignedKey text rest has none e = absurd (false≢true has)
found_of_kind before unwanted.Unfinished text rest has none e = absurd (false≢true has)
found_of_kind before kind text rest has none e = (none, e)
