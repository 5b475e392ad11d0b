-- What is kept of a part.
use Rattle.std.proofs.Common.{◌≡◌, ℕ, Bool, true, false, ◌||◌, List, [], ◌∷◌, ◌++◌, length, map, refl, ap, sym, ◌∙◌, Ok}
use Rattle.std.proofs.Common.{Err, Result}
use Rattle.std.specs.List.{list_any}
use Rattle.std.proofs.lemmas.List.{length-map}
use Rattle.std.proofs.lemmas.List.Folds.{list_any-append}
use Rattle.ans_model.specs.Sequence.Spelling.{Member}
use Rattle.ans_model.specs.Sequence.Meaning.{is_quoted, colour_number, meaning}
use Rattle.ans_model.specs.Inside.OpenPart.{Current, Fresh, InNumber, InString, AfterString, Part, member_of}
use Rattle.ans_model.specs.Inside.OpenPart.{members_of, raw_of}
use Rattle.ans_model.specs.declared.fault.Cause.{Cause}
use Rattle.ans_model.specs.declared.kind.Kind.{Kind}
use Rattle.ans_model.specs.Sequence.TokenKind.{TokenKind}
use Rattle.ans_tokens.specs.declared.unfinished.Unfinished.{Unfinished}
use Rattle.ans_tokens.specs.ScannerView.{KeptMember, KeepsCurrent, KeepsPart}
use Rattle.ans_tokens.specs.PlainSequence.{Means, plain_sequence}
use Rattle.ans_tokens.specs.Unfinished.{IsStateOf, IsWhole}
use Rattle.ans_tokens.proofs.ScannerSteps.{with_current}
use Rattle.ans_tokens.proofs.PlainSequences.{same_meaning}

or_false : (b : Bool) → (b || false) ≡ b
or_false true = refl
or_false false = refl

one_quoted : (m : Member) → list_any is_quoted (m ∷ []) ≡ is_quoted m
one_quoted m = or_false (is_quoted m)

pub quoted_after : (done : List Member) (m : Member)
    → list_any is_quoted (done ++ m ∷ []) ≡ (list_any is_quoted done || is_quoted m)
quoted_after done m =
    list_any-append is_quoted done (m ∷ []) ∙ ap (λ (b : Bool). list_any is_quoted done || b) (one_quoted m)

-- a string is among the members where one is among those that are done, or is the current one
pub quoted_all : (done : List Member) (c : Current)
    → list_any is_quoted (members_of done c) ≡ (list_any is_quoted done || is_quoted (member_of c))
quoted_all [] Fresh = refl
quoted_all [] (InNumber n) = refl
quoted_all [] (InString q text) = refl
quoted_all [] (AfterString q text) = refl
quoted_all (m ∷ done) c = quoted_after (m ∷ done) (member_of c)

-- the sequence means what the plain one means of which the same is kept
pub part_meaning : (held : Unfinished) (part : Part) (letter : ℕ) (numbers : List ℕ) (quoted : Bool)
    → IsStateOf held part → IsWhole part
    → map colour_number (members_of part.done part.current) ≡ numbers
    → (held.quoted || is_quoted (member_of part.current)) ≡ quoted
    → meaning (raw_of part letter) ≡ meaning (plain_sequence held.mark numbers quoted letter)
part_meaning held part letter numbers quoted state whole n q =
    let strings : list_any is_quoted (members_of part.done part.current) ≡ quoted =
    quoted_all part.done part.current
    ∙ ap (λ (b : Bool). b || is_quoted (member_of part.current)) state.quoted_is
    ∙ q in
    rw (← state.mark_is, ← n) (same_meaning (raw_of part letter) quoted strings whole.1)

pub means_same : (meant other : Result TokenKind Cause) (result : Result Kind Cause) → meant ≡ other
    → Means result other
    → Means result meant
means_same meant other (Ok kind) e h = e ∙ h
means_same meant other (Err cause) e h = e ∙ h

-- what is kept of a part with this of its current member
pub keeps_current : (held : Unfinished) (part : Part) (kept : KeptMember) (c : Current) → IsStateOf held part
    → KeepsCurrent kept c
    → KeepsPart held.mark held.done.items held.quoted kept (with_current part c)
keeps_current held part kept c state keeps = record {
  mark_is = state.mark_is;
  numbers_are = state.numbers_are;
  quoted_is = state.quoted_is;
  current_is = keeps;
}

pub same_count : (held : Unfinished) (part : Part) → IsStateOf held part → length part.done ≡ length held.done.items
same_count held part state = sym (length-map part.done colour_number) ∙ ap length state.numbers_are
