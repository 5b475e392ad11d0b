-- What is said about a file is true.
use Rattle.std.specs.Prelude.{◌≡◌, ◌≢◌, ◌⊎◌, ℕ, ◌+◌, ◌≤◌, ◌↔◌, Bool, true, false, IsTrue, List, [], length, take}
use Rattle.std.specs.Prelude.{◌||◌, drop, is_some, nat_lt, Option, Some, None, IfSome, IfNone, MatchOption}
use Rattle.ans_model.specs.Bytes.{longest_file, most_lines}
use Rattle.ans_model.specs.declared.cell.Position.{Position}
use Rattle.ans_model.specs.declared.fault.Fault.{Fault}
use Rattle.ans_model.specs.declared.fault.Cause.{Cause}
use Rattle.ans_model.specs.declared.fault.Cause.TheVariants.{BrokenSequence, NumberTooLarge, TooManyParameters}
use Rattle.ans_model.specs.declared.fault.Cause.TheVariants.{EndInSequence, UnknownSequence, WrongParameters}
use Rattle.ans_model.specs.declared.fault.Cause.TheVariants.{LinesUnstated, OutsideScreen, PrintBelow, Scrolls}
use Rattle.ans_model.specs.declared.start.Start.{Start}
use Rattle.ans_model.specs.File.Layout.{content}
use Rattle.ans_model.specs.File.Record.{font_field, is_non_blink, stated_size, stated_width, trimmed}
use Rattle.ans_model.specs.Sequence.TokenKind.{TokenKind}
use Rattle.ans_model.specs.Sequence.Reads.{ReadsAs}
use Rattle.ans_model.specs.Screen.State.{Size, sized}
use Rattle.ans_model.specs.Screen.StartClass.{all_known, none_known}
use Rattle.ans_model.specs.Verdict.Needs.{IsLeast}
use Rattle.ans_sauce.specs.Parts.{content_of, record_of}
use Rattle.ans_sauce.specs.Judged.{IsJudged, IsRecordFault}
use Rattle.ans_sauce.specs.declared.judged.Judged.{Judged}
use Rattle.ans_sauce.specs.Found.{IsFound, body_in, record_in}
use Rattle.ans_sauce.specs.WithoutLines.{lacks_lines_alone}
use Rattle.ans_model.specs.Verdict.LastFault.{IsDeserved}
use Rattle.ans_pens.specs.Evidence.{ShowsCursors, ShowsNamed}
use Rattle.ans_model.specs.Screen.Beginning.{mending}
use Rattle.ans_pens.specs.Lines.{IsGoodOn, IsLeastLines, IsNeverGood}
use Rattle.ans_kinds.specs.SaidOfPlayers.{IsSaidOfPlayers}
use Rattle.ans_pens.specs.Taller.{IsTaller}
use Rattle.ans_hints.specs.Hints.{AreHints}
use Rattle.ans_hints.specs.OtherWidths.{AreOtherWidths, has_other_widths}
use Rattle.ans_hints.specs.declared.hints.Hints.{Hints}
use Rattle.ans_hints.specs.declared.other_widths.OtherWidths.{OtherWidths}
use Rattle.ans_why.specs.Blamed.{AreToBlame}
use Rattle.ans_why.specs.Known.{known_sequence}
use Rattle.ans_why.specs.OtherFiles.{known_file}
use Rattle.ans_why.specs.TextDamage.{IsDamage}
use Rattle.ans_why.specs.declared.why.Enough.{Enough}
use Rattle.ans_why.specs.declared.why.Pass.{Pass}
use Rattle.ans_why.specs.declared.why.Place.{Place}
use Rattle.ans_why.specs.declared.why.RecordRefusal.{RecordRefusal}
use Rattle.ans_why.specs.declared.why.Refusal.{Refusal}
use Rattle.ans_why.specs.declared.why.Reliance.{Reliance}
use Rattle.ans_why.specs.declared.why.Shown.{Shown}
use Rattle.ans_why.specs.declared.why.Shown.TheVariants.{Cursors, Cells}

-- the place of a position: its row and its column, counted from 1
abbrev pub place_of : Position → Place
place_of p = record { row = p.row + 1; column = p.column + 1 }

-- the places of the two cursors before the fault
pub record ShowsPlaces (z : Size) (class : Start) (content : List ℕ) (fault : Fault) (low high : Place) : Type 0 where
  pub low_position : Position
  pub high_position : Position
  pub shows : ShowsCursors z class content fault low_position high_position
  pub low_is : low ≡ place_of low_position
  pub high_is : high ≡ place_of high_position

-- the cells of F25, or for another fault the cursors before it
abbrev pub IsShown : Size → Start → List ℕ → Fault → Shown → Type 0
IsShown z class content fault (Cursors low high) =
    ShowsNamed z class content fault.cause None × ShowsPlaces z class content fault low high
IsShown z class content fault (Cells low high) = ShowsNamed z class content fault.cause (Some (low, high))

-- the hints of bytes that are read as tokens, before the bytes after them
abbrev pub AreHintsOf : Size → Bool → List ℕ → List ℕ → Hints → Type 0
AreHintsOf z flag bytes behind hints =
    (tokens : List TokenKind) (texts : List (List ℕ)) → ReadsAs bytes tokens texts
    → AreHints z flag tokens texts behind hints

-- what a content relies on that does not pass from every start
pub record IsReliance (z : Size) (file_length : ℕ) (content : List ℕ) (r : Reliance) : Type 0 where
  pub deserved : IsDeserved z none_known content r.fault
  pub bytes : AreToBlame z none_known content r.fault r.bytes.now
  pub shown : IsShown z none_known content r.fault r.shown
  pub mends : IsTrue r.mends ↔ (file_length + length mending ≤ longest_file)

-- what a record of this size shows of other widths, if that is wanted, and else none
abbrev pub AreWidths : Bool → Size → Hints → List ℕ → OtherWidths → Type 0
AreWidths true z hints content widths = AreOtherWidths z.width z.lines hints content widths
AreWidths false z hints content widths = has_other_widths widths ≡ false

-- They are wanted of a content that passes if it leaves lines empty, or if it is narrow: then columns and lines may be
-- exchanged, though it passes.
abbrev pub wants_widths : Size → Hints → Bool
wants_widths z hints = nat_lt 0 hints.empty_rows || nat_lt z.width 40

-- a content that passes from the cleared start, and its record
pub record IsPass (file_length : ℕ) (sauce content : List ℕ) (pass : Pass) : Type 0 where
  pub needs : IsLeast (stated_size sauce) content pass.needs
  pub players : IsSaidOfPlayers (stated_size sauce) content pass.players
  pub taller : IsTrue pass.taller ↔ IsTaller (stated_size sauce) pass.needs content
  pub nothing : IfNone pass.reliance (pass.needs ≡ none_known)
  pub relies : IfSome pass.reliance (λ r. (pass.needs ≢ none_known)
      × IsReliance (stated_size sauce) file_length content r)
  pub hints : AreHintsOf (stated_size sauce) (is_non_blink sauce) content [] pass.hints
  pub widths : AreWidths (wants_widths (stated_size sauce) pass.hints) (stated_size sauce) pass.hints content
      pass.widths
  pub damage : IsDamage content pass.damage

-- F19 to F21, which may go away on more lines
abbrev pub IsOfLines : Cause → Type 0
IsOfLines cause = (cause ≡ OutsideScreen) ⊎ (cause ≡ PrintBelow) ⊎ (cause ≡ Scrolls)

-- F9 to F14: the reading refuses the sequence itself
abbrev pub IsOfReading : Cause → Type 0
IsOfReading cause =
    (cause ≡ BrokenSequence) ⊎ (cause ≡ NumberTooLarge) ⊎ (cause ≡ TooManyParameters) ⊎ (cause ≡ EndInSequence)
    ⊎ (cause ≡ UnknownSequence) ⊎ (cause ≡ WrongParameters)

-- the least number of lines that is enough, for a fault that may go away on more lines; and none if none is
pub record AreLines (width : ℕ) (content : List ℕ) (cause : Cause) (lines : Option ℕ) : Type 0 where
  pub least : IfSome lines (λ n. IsOfLines cause × (n ≤ most_lines) × IsLeastLines width content n)
  pub none : IfNone lines (IsOfLines cause → (n : ℕ) → n ≤ most_lines → ¬ IsGoodOn width content n)

-- where the tokens end that hints count: after the token to blame, or before what the reading refuses
pub record EndsHints (fault : Fault) (bytes : List ℕ) (end : ℕ) : Type 0 where
  pub reading : IsOfReading fault.cause → end ≡ fault.offset
  pub token : ¬ IsOfReading fault.cause → end ≡ fault.offset + length bytes

-- the hints of the tokens up to where they end, before the bytes after them
pub record AreFrontHints (z : Size) (flag : Bool) (content : List ℕ) (fault : Fault) (bytes : List ℕ)
    (hints : Hints) : Type 0 where
  pub end : ℕ
  pub ends : EndsHints fault bytes end
  pub hints_are : AreHintsOf z flag (take end content) (drop end content) hints

-- The hints of a refused content: if this many lines are enough, those of all of it on that many.
abbrev pub AreRefusalHints : List ℕ → List ℕ → Fault → List ℕ → Option ℕ → Hints → Type 0
AreRefusalHints sauce content fault bytes lines hints = MatchOption lines
    (AreFrontHints (stated_size sauce) (is_non_blink sauce) content fault bytes hints)
    (λ n. AreHintsOf (sized (stated_width sauce) n) (is_non_blink sauce) content [] hints)

-- a content that is refused from the cleared start, and its record
pub record IsRefusal (sauce content : List ℕ) (r : Refusal) : Type 0 where
  pub deserved : IsDeserved (stated_size sauce) all_known content r.fault
  pub bytes : AreToBlame (stated_size sauce) all_known content r.fault r.bytes.now
  pub cursor : ShowsPlaces (stated_size sauce) all_known content r.fault r.cursor r.cursor
  pub lines : AreLines (stated_width sauce) content r.fault.cause r.lines
  pub known : r.known ≡ known_sequence r.fault.cause (drop r.fault.offset content)
  pub hints : AreRefusalHints sauce content r.fault r.bytes.now r.lines r.hints
  pub widths : AreWidths (is_some r.lines) (stated_size sauce) r.hints content r.widths
  pub damage : IsDamage content r.damage

-- This many lines are enough for the file, which lacks only that number: its content is good with that many, and with
-- no fewer. The hints are those of all of it on that many lines.
pub record IsEnough (file : List ℕ) (e : Enough) : Type 0 where
  pub lacks : lacks_lines_alone file ≡ true
  pub least : IsLeastLines (stated_width (record_in file)) (content (body_in file)) e.lines
  pub within : e.lines ≤ most_lines
  pub hints : AreHintsOf (sized (stated_width (record_in file)) e.lines) (is_non_blink (record_in file))
      (content (body_in file)) [] e.hints
  pub font : e.font.now ≡ trimmed (font_field (record_in file))

-- No number of lines is said for another fault, nor for a file that lacks more; and none if none is enough.
pub record IsSaidOfLines (file : List ℕ) (cause : Cause) (said : Option Enough) : Type 0 where
  pub some : IfSome said (λ e. (cause ≡ LinesUnstated) × IsEnough file e)
  pub none : IfNone said (cause ≡ LinesUnstated → lacks_lines_alone file ≡ true
      → IsNeverGood (stated_width (record_in file)) (content (body_in file)) most_lines)

-- what is said about a record or a layout that is refused is true of the file
pub record IsRecordRefusal (file : List ℕ) (said : RecordRefusal) : Type 0 where
  pub refused : IsRecordFault file said.fault
  pub found : IsFound file said.found said.fault.cause
  pub other : said.other ≡ known_file file
  pub damage : IsDamage (content file) said.damage
  pub enough : IsSaidOfLines file said.fault.cause said.enough

-- what is said about a file
abbrev pub Why : Type 0
Why = Judged RecordRefusal Refusal Pass

-- what is said about the file is true
abbrev pub IsTrueOf : List ℕ → Why → Type 0
IsTrueOf file why = IsJudged (IsRecordRefusal file) (λ parts. IsRefusal (record_of parts) (content_of parts))
    (λ parts. IsPass (length file) (record_of parts) (content_of parts)) file why
