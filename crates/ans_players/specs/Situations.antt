-- Where players may differ.
use Rattle.std.specs.Prelude.{◌≡◌, ℕ, ◌+◌, Bool, false, not, ◌&&◌, ◌||◌, ◌==◌, nat_lt, List, [], ◌∷◌, ◌++◌}
use Rattle.std.specs.Prelude.{fold, take, slice_get, Some, if◌then◌else◌, IsTrue}
use Rattle.std.specs.List.{list_all}
use Rattle.ans_model.specs.Sequence.TokenKind.{TokenKind, Glyph, Bell, BackSpace, Tab, Down, Forward, Clear}
use Rattle.ans_model.specs.Sequence.TokenKind.{EraseLine, Restore, Colours, Wrap}
use Rattle.ans_model.specs.Sequence.Omitted.{omits}
use Rattle.ans_model.specs.Screen.State.{Size, State}
use Rattle.ans_model.specs.Screen.StartClass.{IsStart}
use Rattle.ans_model.specs.declared.start.Start.{Start}
use Rattle.ans_players.specs.declared.difference.Difference.{Difference}
use Rattle.ans_players.specs.declared.difference.Difference.TheVariants.{ClearInColour, SavePlaceOnly, DosColours}
use Rattle.ans_players.specs.declared.difference.Difference.TheVariants.{TabPrints}
use Rattle.ans_players.specs.declared.difference.Difference.TheVariants.{LineErased, WrapOff, StopsAtEdge, PageControls}
use Rattle.ans_players.specs.declared.difference.Difference.TheVariants.{TerminalControls, OwnColours}
use Rattle.ans_players.specs.Names.{Names, is_within, are_both, paints}
use Rattle.ans_players.specs.Sync.{Stand, unsure_kinds, is_same_for_all, synced, stand_after}

-- the kind, where the test holds
abbrev pub kind_if : Bool → Difference → List Difference
kind_if test kind = if test then kind ∷ [] else []

-- a number of a colour that all players take alike
abbrev pub is_common_colour : ℕ → Bool
is_common_colour n = n == 0 || n == 1 || n == 5 || is_within 30 37 n || is_within 40 47 n

-- a printed control byte in which players of code page 437 differ too; 07h and 08h are tokens of their own
abbrev pub is_page_control : ℕ → Bool
is_page_control byte = byte == 0x00 || byte == 0x0B || byte == 0x0C

-- One that every player draws except terminals. 1Ah ends the content of a file, and 1Bh begins a sequence.
abbrev pub is_terminal_control : ℕ → Bool
is_terminal_control byte =
    is_within 0x01 0x06 byte || is_within 0x0E 0x19 byte || is_within 0x1C 0x1F byte || byte == 0x7F

-- white on black
abbrev pub is_grey : State → Bool
is_grey s = s.attribute == 0x07

-- The kinds of a token, however it is spelled and whatever the sync is. Each looks at one part of the state at most.
abbrev pub token_kinds : Size → State → TokenKind → List Difference
token_kinds z s (Glyph byte) =
    kind_if (is_page_control byte) PageControls ++ kind_if (is_terminal_control byte) TerminalControls
token_kinds z s Bell = PageControls ∷ []
token_kinds z s BackSpace = PageControls ∷ []
token_kinds z s Tab = TabPrints ∷ []
token_kinds z s (Forward n) = kind_if (not (nat_lt (s.cursor.column + n) z.width)) StopsAtEdge
token_kinds z s (Down n) = kind_if (nat_lt z.lines (s.cursor.row + n)) StopsAtEdge
token_kinds z s Clear = kind_if (not (is_grey s)) ClearInColour
token_kinds z s EraseLine = LineErased ∷ kind_if (not (is_grey s)) ClearInColour
token_kinds z s Restore = SavePlaceOnly ∷ []
token_kinds z s (Colours parameters) = kind_if (not (list_all is_common_colour parameters)) DosColours
token_kinds z s (Wrap on) = kind_if (not on) WrapOff
token_kinds z s t = []

-- a token as the content spells it
pub record Spelled : Type 0 where
  pub token : TokenKind
  pub text : List ℕ

-- each token with its text
abbrev pub spelled : List TokenKind → List (List ℕ) → List Spelled
spelled (t ∷ ts) (x ∷ xs) = record { token = t; text = x } ∷ spelled ts xs
spelled _ _ = []

-- The kinds of how a token is spelled. An omitted colour is 0 to the profile and nothing to some player, which is the
-- same where it is white on black already.
abbrev pub spelling_kinds : State → TokenKind → List ℕ → List Difference
spelling_kinds s (Colours parameters) text =
    kind_if (omits text && not (is_grey s && list_all (λ n. n == 0) parameters)) DosColours
spelling_kinds s t text = []

-- the kinds of a spelled token, whatever the sync is
abbrev pub own_kinds : Size → State → Spelled → List Difference
own_kinds z s x = token_kinds z s x.token ++ spelling_kinds s x.token x.text

-- The kind of what is printed or blanked while not both colours are named, whatever the state is.
abbrev pub name_kinds : Names → TokenKind → List Difference
name_kinds n t = kind_if (paints t && not (are_both n)) OwnColours

-- The kinds in which players with this `Stand` may differ at the token: mostly none.
abbrev pub situations : Size → Stand → Spelled → List Difference
situations z h x =
    (if is_same_for_all h.sync x.token then [] else unsure_kinds h.sync)
    ++ (own_kinds z h.state x ++ name_kinds h.names x.token)

-- all kinds that arise at the token are agreed
abbrev pub is_agreed : (Difference → Bool) → Size → Stand → Spelled → Bool
is_agreed agreed z h x = list_all agreed (situations z h x)

-- the `Stand` after a spelled token
abbrev pub stand_behind : Size → Stand → Spelled → Stand
stand_behind z h x = stand_after z h x.token

-- the `Stand` after these tokens, where players are in sync at first
abbrev pub stand_of : Size → State → List Spelled → Stand
stand_of z start xs = fold (stand_behind z) (synced start) xs

-- From every start of the class, no kinds but agreed ones arise at the tokens.
abbrev pub AreAgreed : (Difference → Bool) → Size → Start → List Spelled → Type 0
AreAgreed agreed z class xs = (s : State) (k : ℕ) (x : Spelled) → IsStart z class s → slice_get xs k ≡ Some x
    → IsTrue (is_agreed agreed z (stand_of z s (take k xs)) x)
