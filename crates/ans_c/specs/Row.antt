-- The row of a file in numbers.
use Rattle.std.specs.Prelude.{◌≡◌, ℕ, ◌+◌, ◌-◌, ◌==◌, Bool, IsTrue, IsFalse, List}
use Rattle.std.specs.Prelude.{length, take, drop, Option, Some, None, if◌then◌else◌}
use Rattle.std.specs.List.{list_any}
use Rattle.ans_model.specs.File.Record.{aspect_ratio, author_field, date_field, flags, font_field}
use Rattle.ans_model.specs.File.Record.{group_field, is_non_blink, letter_spacing, stated_lines, stated_width}
use Rattle.ans_model.specs.File.Record.{title_field, trimmed}
use Rattle.ans_model.specs.File.Refusals.{has_record}
use Rattle.ans_model.specs.Text.FaultText.{note_number}
use Rattle.ans_model.specs.declared.note.Note.{Note}
use Rattle.ans_players.specs.declared.difference.Difference.TheVariants.{WrapAtOnce, LineEnds, HomeOnClear}
use Rattle.ans_players.specs.declared.difference.Difference.TheVariants.{ClearInColour}
use Rattle.ans_players.specs.declared.difference.Difference.TheVariants.{SavePlaceOnly, DosColours, TabPrints}
use Rattle.ans_players.specs.declared.difference.Difference.TheVariants.{LineErased, WrapOff}
use Rattle.ans_players.specs.declared.difference.Difference.TheVariants.{StopsAtEdge, PageControls, TerminalControls}
use Rattle.ans_players.specs.declared.difference.Difference.TheVariants.{OwnColours}
use Rattle.ans_sauce.specs.declared.judged.Judged.TheVariants.{NoContent, Refused, Passes}
use Rattle.ans_sauce.specs.declared.parts.Parts.{Parts}
use Rattle.ans_sauce.specs.Judged.{is_pass, parts_in}
use Rattle.ans_sauce.specs.Parts.{comments_of, content_of, notes_of}
use Rattle.ans_kinds.specs.KindsUsed.{is_used}
use Rattle.ans_kinds.specs.declared.kinds.KindsUsed.{KindsUsed}
use Rattle.ans_kinds.specs.declared.players.Players.{Players}
use Rattle.ans_kinds.specs.declared.players.Players.TheVariants.{Any, InNamedColours, Agreeing}
use Rattle.ans_why.specs.Explained.{IsTrueOf, Why}
use Rattle.std.specs.Option.{option_or}
use Rattle.ans_why.specs.WhyText.{known_found}
use Rattle.ans_why.specs.declared.known_bytes.Known.{Known}
use Rattle.ans_why.specs.declared.known_bytes.Known.TheVariants as known
use Rattle.ans_why.specs.declared.why.Enough.{Enough}
use Rattle.ans_why.specs.declared.why.Pass.{Pass}
use Rattle.ans_why.specs.declared.why.Place.{Place}
use Rattle.ans_why.specs.declared.why.RecordRefusal.{RecordRefusal}
use Rattle.ans_why.specs.declared.why.Refusal.{Refusal}
use Rattle.ans_why.specs.declared.why.Reliance.{Reliance}
use Rattle.ans_why.specs.declared.why.Shown.{Shown}
use Rattle.ans_why.specs.declared.why.Shown.TheVariants.{Cursors, Cells}
use Rattle.ans_c.specs.Numbers.{NamesClass, TellsFault, number_if}
use Rattle.ans_c.specs.Told.{code_of}
use Rattle.ans_c.specs.declared.row_numbers.Blame.{Blame}
use Rattle.ans_c.specs.declared.row_numbers.Passing.{Passing}
use Rattle.ans_c.specs.declared.row_numbers.Piece.{Piece}
use Rattle.ans_c.specs.declared.row_numbers.ToldFields.{ToldFields}
use Rattle.ans_c.specs.declared.row_numbers.ToldParts.{ToldParts}
use Rattle.ans_c.specs.declared.row_numbers.ToldPlace.{ToldPlace}
use Rattle.ans_c.specs.declared.row_numbers.ToldRow.{ToldRow}

-- the numbers of the ways that a content runs into, added up
abbrev pub kinds_sum : KindsUsed → ℕ
kinds_sum used =
    number_if (is_used used WrapAtOnce) 1 + number_if (is_used used LineEnds) 2
    + number_if (is_used used HomeOnClear) 4 + number_if (is_used used ClearInColour) 8
    + number_if (is_used used SavePlaceOnly) 16 + number_if (is_used used DosColours) 32
    + number_if (is_used used TabPrints) 64 + number_if (is_used used LineErased) 128
    + number_if (is_used used WrapOff) 256 + number_if (is_used used StopsAtEdge) 512
    + number_if (is_used used PageControls) 1024 + number_if (is_used used TerminalControls) 2048
    + number_if (is_used used OwnColours) 4096

-- the note Nn is one of these
abbrev pub has_note : List Note → ℕ → Bool
has_note notes n = list_any (λ note. note_number note == n) notes

-- 2 to the power of n for each note Nn, added up
abbrev pub notes_sum : List Note → ℕ
notes_sum notes =
    number_if (has_note notes 1) 2 + number_if (has_note notes 2) 4 + number_if (has_note notes 3) 8
    + number_if (has_note notes 4) 16 + number_if (has_note notes 5) 32 + number_if (has_note notes 6) 64

-- the number of what bytes are recognised as; 0 for nothing
abbrev pub known_number : Option Known → ℕ
known_number None = 0
known_number (Some known.Music) = 1
known_number (Some known.FontSelection) = 2
known_number (Some known.TrueColour) = 3
known_number (Some known.BrightBackgrounds) = 4
known_number (Some known.CursorSwitch) = 5
known_number (Some known.DosMode) = 6
known_number (Some known.ReassignedKey) = 7
known_number (Some known.UncountedComments) = 8
known_number (Some known.OlderRecord) = 9
known_number (Some known.Arrow) = 10
known_number (Some (known.Terminal what)) = 11
known_number (Some known.AnotherDrawing) = 12
known_number (Some known.XBin) = 13
known_number (Some known.Zip) = 14
known_number (Some known.Avatar) = 15
known_number (Some known.BinaryText) = 16
known_number (Some known.PcBoard) = 17
known_number (Some known.Pipe) = 18
known_number (Some known.Wildcat) = 19

-- the ways in which players differ, and no parts of the start; or none but own colours, and the parts that have to be
-- known for the content to look the same on all players
abbrev pub TellsPlayers : Players → ℕ → ℕ → Type 0
TellsPlayers (Any class) kinds parts = (kinds ≡ 0) × NamesClass class parts
TellsPlayers (InNamedColours class times) kinds parts = (kinds ≡ 4096) × NamesClass class parts
TellsPlayers (Agreeing used) kinds parts = (kinds ≡ kinds_sum used) × (parts ≡ 0)

-- what is said of a content that passes
pub record IsPassing (said : Pass) (told : Passing) : Type 0 where
  pub needs : NamesClass said.needs told.needs
  pub players : TellsPlayers said.players told.players told.needs_on_all_players
  pub taller_screens : told.taller_screens ≡ number_if said.taller 1

-- that many bytes from this offset on
abbrev pub piece : ℕ → ℕ → Piece
piece start count = record { start = start; length = count }

-- no bytes
abbrev pub no_piece : Piece
no_piece = piece 0 0

-- a position, and none
abbrev pub told_place : Place → ToldPlace
told_place place = record { row = place.row; column = place.column }

abbrev pub no_place : ToldPlace
no_place = record { row = 0; column = 0 }

-- the positions of the two cursors, if these are shown
abbrev pub low_place : Shown → ToldPlace
low_place (Cursors low high) = told_place low
low_place (Cells low high) = no_place

abbrev pub high_place : Shown → ToldPlace
high_place (Cursors low high) = told_place high
high_place (Cells low high) = no_place

-- nothing, if there is nothing to say
abbrev pub no_passing : Passing
no_passing = record { needs = 0; players = 0; needs_on_all_players = 0; taller_screens = 0 }

abbrev pub no_blame : Blame
no_blame = record {
  fault = record { number = 0; row = 0; column = 0; offset = 0 };
  bytes = no_piece;
  low = no_place;
  high = no_place;
  known = 0;
  lines = 0;
  mends = 0;
}

abbrev pub no_parts : ToldParts
no_parts = record { content = 0; comments = no_piece; notes = 0 }

abbrev pub no_fields : ToldFields
no_fields = record {
  is_there = 0;
  flags = 0;
  ice = 0;
  spacing = 0;
  aspect = 0;
  width = 0;
  lines = 0;
  font = no_piece;
  date = no_piece;
  title = no_piece;
  author = no_piece;
  group = no_piece;
}

-- a number of lines that is enough; 0 if there is none
abbrev pub lines_or_0 : Option ℕ → ℕ
lines_or_0 (Some lines) = lines
lines_or_0 None = 0

abbrev pub enough_or_0 : Option Enough → ℕ
enough_or_0 (Some enough) = enough.lines
enough_or_0 None = 0

-- what is said of a record or a layout that is refused
pub record IsRecordBlame (said : RecordRefusal) (told : Blame) : Type 0 where
  pub fault : TellsFault told.fault said.fault
  pub bytes : told.bytes ≡ no_piece
  pub low : told.low ≡ no_place
  pub high : told.high ≡ no_place
  pub known : told.known ≡ known_number (option_or said.other (known_found said.found))
  pub lines : told.lines ≡ enough_or_0 said.enough
  pub mends : told.mends ≡ 0

-- what is said of a content that is refused from the cleared start: there is one cursor
pub record IsRefusalBlame (said : Refusal) (told : Blame) : Type 0 where
  pub fault : TellsFault told.fault said.fault
  pub bytes : told.bytes ≡ piece said.fault.offset (length said.bytes.now)
  pub low : told.low ≡ told_place said.cursor
  pub high : told.high ≡ told_place said.cursor
  pub known : told.known ≡ known_number said.known
  pub lines : told.lines ≡ lines_or_0 said.lines
  pub mends : told.mends ≡ 0

-- what is said of what a content relies on
pub record IsRelianceBlame (said : Reliance) (told : Blame) : Type 0 where
  pub fault : TellsFault told.fault said.fault
  pub bytes : told.bytes ≡ piece said.fault.offset (length said.bytes.now)
  pub low : told.low ≡ low_place said.shown
  pub high : told.high ≡ high_place said.shown
  pub known : told.known ≡ 0
  pub lines : told.lines ≡ 0
  pub mends : told.mends ≡ number_if said.mends 1

-- the same if a content may rely on nothing
abbrev pub IsBlameOfPass : Option Reliance → Blame → Type 0
IsBlameOfPass (Some reliance) told = IsRelianceBlame reliance told
IsBlameOfPass None told = told ≡ no_blame

-- the fault of a file, and what belongs to it
abbrev pub TellsBlame : Why → Blame → Type 0
TellsBlame (NoContent said) told = IsRecordBlame said told
TellsBlame (Refused parts said) told = IsRefusalBlame said told
TellsBlame (Passes parts said) told = IsBlameOfPass said.reliance told

-- what is said of a pass; nothing of any other file
abbrev pub TellsPassing : Why → Passing → Type 0
TellsPassing (Passes parts said) told = IsPassing said told
TellsPassing _ told = told ≡ no_passing

-- this piece of the file has these bytes, and as many as they are
pub record IsPieceOf (file : List ℕ) (piece : Piece) (bytes : List ℕ) : Type 0 where
  pub length_is : piece.length ≡ length bytes
  pub bytes_are : take piece.length (drop piece.start file) ≡ bytes

-- what is said of the parts of a file
pub record IsTellingParts (file : List ℕ) (parts : Parts) (told : ToldParts) : Type 0 where
  pub content : told.content ≡ length (content_of parts)
  pub comments : IsPieceOf file told.comments (comments_of parts)
  pub notes : told.notes ≡ notes_sum (notes_of parts)

abbrev pub TellsParts : List ℕ → Option Parts → ToldParts → Type 0
TellsParts file (Some parts) told = IsTellingParts file parts told
TellsParts file None told = told ≡ no_parts

-- letters of 8 or of 9 pixels, if the flags say which
abbrev pub spacing_number : ℕ → ℕ
spacing_number pair = if pair == 1 then 8 else if pair == 2 then 9 else 0

-- 1 for pixels to be stretched, 2 for square ones, if the flags say which
abbrev pub aspect_number : ℕ → ℕ
aspect_number pair = if pair == 1 then 1 else if pair == 2 then 2 else 0

-- what is said of a record: its numbers, and where its texts are in the file
pub record IsTellingFields (file sauce : List ℕ) (told : ToldFields) : Type 0 where
  pub is_there : told.is_there ≡ 1
  pub flags_are : told.flags ≡ flags sauce
  pub ice : told.ice ≡ number_if (is_non_blink sauce) 1
  pub spacing : told.spacing ≡ spacing_number (letter_spacing sauce)
  pub aspect : told.aspect ≡ aspect_number (aspect_ratio sauce)
  pub width : told.width ≡ stated_width sauce
  pub lines : told.lines ≡ stated_lines sauce
  pub font : IsPieceOf file told.font (trimmed (font_field sauce))
  pub date : IsPieceOf file told.date (trimmed (date_field sauce))
  pub title : IsPieceOf file told.title (trimmed (title_field sauce))
  pub author : IsPieceOf file told.author (trimmed (author_field sauce))
  pub group : IsPieceOf file told.group (trimmed (group_field sauce))

-- the record in the file's last 128 bytes is given, if there is one
pub record TellsFields (file : List ℕ) (told : ToldFields) : Type 0 where
  pub found : IsTrue (has_record file) → IsTellingFields file (drop (length file - 128) file) told
  pub none : IsFalse (has_record file) → told ≡ no_fields

-- What there is to say of the file, as `why` says it, and its record. The answer is that of its verdict.
pub record TellsRow (file : List ℕ) (result : ℕ) (told : ToldRow) : Type 0 where
  pub why : Why
  pub is_true : IsTrueOf file why
  pub verdict : result ≡ code_of (is_pass why)
  pub passing : TellsPassing why told.passing
  pub blame : TellsBlame why told.blame
  pub parts : TellsParts file (parts_in why) told.parts
  pub fields : TellsFields file told.fields
