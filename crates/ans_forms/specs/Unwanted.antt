-- Sequences that are taken out of a drawing, by their bytes and by what comes before them.
use Rattle.std.specs.Prelude.{◌≡◌, ℕ, Bool, true, false, not, ◌||◌, IsTrue, List, [], ◌∷◌, ◌++◌, fold, length, ◌<◌}
use Rattle.std.specs.Prelude.{Option, Some, None, if◌then◌else◌, ◌&&◌, nat_le}
use Rattle.ans_model.specs.Screen.Attribute.{attribute_after_all}
use Rattle.std.specs.List.{AllZip, concat, list_all, list_any}
use Rattle.ans_model.specs.Sequence.TokenKind.{TokenKind, Glyph, Tab, Clear, EraseLine, Colours, Mode, Keys, Ask}
use Rattle.ans_model.specs.Sequence.Reads.{SpellsToken}
use Rattle.ans_model.specs.Sequence.Spelling.{IsUnfinished, is_quote}
use Rattle.ans_forms.specs.Pieces.{behind_form}
use Rattle.ans_forms.specs.declared.kinds.Before.{Before}
use Rattle.ans_forms.specs.declared.kinds.Going.{Going}
use Rattle.ans_forms.specs.declared.kinds.Unwanted.{Unwanted}
use Rattle.ans_forms.specs.declared.kinds.Unwanted.TheVariants as unwanted
use Rattle.ans_forms.specs.declared.pieces.FormPiece.{FormPiece}
use Rattle.ans_forms.specs.declared.pieces.TheConstants.{BRIGHT_BACKGROUNDS, BLINKING_CURSOR, CURSOR_SWITCH}
use Rattle.ans_forms.specs.declared.pieces.TheConstants.{BLINK_SWITCH, MODE, FONT_SELECTION, MUSIC, TRUE_COLOUR}
use Rattle.ans_forms.specs.declared.pieces.TheConstants.{STATUS_REPORT, CURSOR_REPORT, TERMINAL_REPORT}
use Rattle.ans_forms.specs.declared.pieces.TheConstants.{TERMINAL_REPORT_0}

-- ---- what comes before

-- the token prints, clears or erases
abbrev pub shows : TokenKind → Bool
shows (Glyph byte) = true
shows Tab = true
shows Clear = true
shows EraseLine = true
shows _ = false

abbrev pub is_colours : TokenKind → Bool
is_colours (Colours parameters) = true
is_colours _ = false

abbrev pub is_true_colour : Unwanted → Bool
is_true_colour unwanted.TrueColour = true
is_true_colour _ = false

-- the token prints cells; a tab prints blanks
abbrev pub prints : TokenKind → Bool
prints (Glyph byte) = true
prints Tab = true
prints _ = false

-- the attribute after the token
abbrev pub attribute_with : ℕ → TokenKind → ℕ
attribute_with attribute (Colours parameters) = attribute_after_all attribute parameters
attribute_with attribute _ = attribute

-- what the switch for bright backgrounds says at the last printed cell that has bit 7 in its attribute
abbrev pub bright_with : Before → TokenKind → Option Bool
bright_with before t = if prints t && nat_le 0x80 before.attribute then before.switch else before.bright

-- with one token more
abbrev pub before_with : Before → TokenKind → Before
before_with before t = record {
  is_shown = shows t || before.is_shown;
  is_coloured = is_colours t;
  attribute = attribute_with before.attribute t;
  switch = before.switch;
  bright = bright_with before t;
}

-- with these tokens more
abbrev pub before_after : Before → List TokenKind → Before
before_after before tokens = fold before_with before tokens

-- with a sequence of this kind that is taken out: a 24-bit colour may be followed by another
abbrev pub before_behind : Before → Unwanted → Before
before_behind before kind = record before { is_coloured = is_true_colour kind }

-- ---- what goes

-- A token that is played stays. A screen mode, a reassigned key and a report that is asked for are refused.
abbrev pub stays : TokenKind → Bool
stays Mode = false
stays Keys = false
stays Ask = false
stays _ = true

-- the bytes begin with a token that stays
pub record BeginsStaying (bytes : List ℕ) : Type 0 where
  pub token : TokenKind
  pub text : List ℕ
  pub rest : List ℕ
  pub whole : bytes ≡ text ++ rest
  pub spelled : SpellsToken token text
  pub stays : IsTrue (stays token)

-- What may be taken out here: a mode before anything shows, a 24-bit colour directly after a colour, and all others
-- anywhere.
abbrev pub may_go : Before → Unwanted → Bool
may_go before unwanted.Mode = not before.is_shown
may_go before unwanted.TrueColour = before.is_coloured
may_go before _ = true

-- a form, and what it is
pub record FormEntry : Type 0 where
  pub kind : Unwanted
  pub pieces : List FormPiece

abbrev pub form_entry : Unwanted → List FormPiece → FormEntry
form_entry kind pieces = record { kind = kind; pieces = pieces }

-- the forms, in the order in which they are looked for
abbrev pub forms : List FormEntry
forms =
    form_entry unwanted.BrightBackgrounds BRIGHT_BACKGROUNDS
    ∷ form_entry unwanted.Switch BLINKING_CURSOR
    ∷ form_entry unwanted.Switch CURSOR_SWITCH
    ∷ form_entry unwanted.Switch BLINK_SWITCH
    ∷ form_entry unwanted.Mode MODE
    ∷ form_entry unwanted.FontSelection FONT_SELECTION
    ∷ form_entry unwanted.Music MUSIC
    ∷ form_entry unwanted.TrueColour TRUE_COLOUR
    ∷ form_entry unwanted.Report STATUS_REPORT
    ∷ form_entry unwanted.Report CURSOR_REPORT
    ∷ form_entry unwanted.Report TERMINAL_REPORT
    ∷ form_entry unwanted.Report TERMINAL_REPORT_0
    ∷ []

-- what comes after the form, if it may go here and the bytes begin with it
abbrev pub behind_going : Before → List ℕ → FormEntry → Option (List ℕ)
behind_going before bytes form = if may_go before form.kind then behind_form form.pieces bytes else None

-- this kind and what comes after it, if there is some, and otherwise the other
abbrev pub kind_or : Unwanted → Option (List ℕ) → Option (Unwanted × List ℕ) → Option (Unwanted × List ℕ)
kind_or kind (Some rest) other = Some (kind, rest)
kind_or kind None other = other

-- the kind of the first of these forms that may go here and with which the bytes begin, and what comes after it
abbrev pub first_form : Before → List ℕ → List FormEntry → Option (Unwanted × List ℕ)
first_form before bytes [] = None
first_form before bytes (form ∷ more) =
    kind_or form.kind (behind_going before bytes form) (first_form before bytes more)

-- that of the first of all
unfoldable pub unwanted_form : Before → List ℕ → Option (Unwanted × List ℕ)
unwanted_form before bytes = first_form before bytes forms

-- no token that reassigns a key begins the bytes
abbrev pub ReassignsNone : List ℕ → Type 0
ReassignsNone bytes = (text rest : List ℕ) → bytes ≡ text ++ rest → ¬ SpellsToken Keys text

-- The bytes are this text, which is of the kind, and the rest. A reassigned key comes first, and is known by its token.
-- Then comes the first form that fits and may go here. An unfinished sequence comes last: it ends the bytes, it has no
-- quote, and there is no such form. So no two kinds are at one place.
abbrev pub IsOfKind : Before → Unwanted → List ℕ → List ℕ → Type 0
IsOfKind before unwanted.ReassignedKey text rest = SpellsToken Keys text
IsOfKind before unwanted.Unfinished text rest =
    (rest ≡ []) × IsUnfinished text × IsTrue (not (list_any is_quote text)) × (unwanted_form before text ≡ None)
IsOfKind before kind text rest =
    ReassignsNone (text ++ rest) × (unwanted_form before (text ++ rest) ≡ Some (kind, rest))

-- tokens with these texts, all of which stay
pub record AllStay (tokens : List TokenKind) (texts : List (List ℕ)) : Type 0 where
  pub each : AllZip SpellsToken tokens texts
  pub stay : IsTrue (list_all stays tokens)

-- After tokens that stay, and are kept, comes a text of this kind, where no token that stays begins: it goes.
pub record GoesFirst (before : Before) (bytes kept : List ℕ) (kind : Unwanted) (text rest : List ℕ) (after : Before)
    : Type 0 where
  pub tokens : List TokenKind
  pub texts : List (List ℕ)
  pub all_stay : AllStay tokens texts
  pub kept_is : kept ≡ concat texts
  pub whole : bytes ≡ kept ++ (text ++ rest)
  pub refused : ¬ BeginsStaying (text ++ rest)
  pub of_kind : IsOfKind (before_after before tokens) kind text rest
  pub after_is : after ≡ before_behind (before_after before tokens) kind

-- what goes first is of this kind, at this place and of this length, and `after` is what then comes before the rest
pub record IsNextGoing (before : Before) (bytes : List ℕ) (going : Going) (after : Before) : Type 0 where
  pub kept : List ℕ
  pub text : List ℕ
  pub rest : List ℕ
  pub first : GoesFirst before bytes kept going.kind text rest after
  pub place_is : going.place ≡ length kept
  pub length_is : going.length ≡ length text
  pub some : 0 < going.length

-- Nothing goes: the bytes are tokens that stay, up to the end or up to what is refused and may not go.
pub record NothingGoes (before : Before) (bytes : List ℕ) : Type 0 where
  pub tokens : List TokenKind
  pub texts : List (List ℕ)
  pub left : List ℕ
  pub all_stay : AllStay tokens texts
  pub whole : bytes ≡ concat texts ++ left
  pub refused : ¬ BeginsStaying left
  pub none_goes : (kind : Unwanted) (text rest : List ℕ) → left ≡ text ++ rest
      → ¬ IsOfKind (before_after before tokens) kind text rest

-- so it is, and this is what comes before the end, or before what is refused
pub record NothingMore (before : Before) (bytes : List ℕ) (end : Before) : Type 0 where
  pub nothing : NothingGoes before bytes
  pub end_is : end ≡ before_after before nothing.tokens
