-- The texts of faults and notes, and their numbers.
use Rattle.std.specs.Prelude.{ℕ, List, [], ◌∷◌, ◌++◌, codes, decimal}
use Rattle.ans_model.specs.declared.fault.Fault.{Fault}
use Rattle.ans_model.specs.declared.fault.Cause.{Cause}
use Rattle.ans_model.specs.declared.fault.Cause.TheVariants.{NoRecord, WrongVersion, WrongKind, CommentsMissing}
use Rattle.ans_model.specs.declared.fault.Cause.TheVariants.{LinesUnstated, WidthTooLarge, LinesTooLarge}
use Rattle.ans_model.specs.declared.fault.Cause.TheVariants.{BytesAfterEndMark, BrokenSequence, NumberTooLarge}
use Rattle.ans_model.specs.declared.fault.Cause.TheVariants.{TooManyParameters, EndInSequence, UnknownSequence}
use Rattle.ans_model.specs.declared.fault.Cause.TheVariants.{WrongParameters, KeyReassigned, ScreenMode, ReportAsked}
use Rattle.ans_model.specs.declared.fault.Cause.TheVariants.{OutsideScreen, PrintBelow, Scrolls, PrintUnknownPlace}
use Rattle.ans_model.specs.declared.fault.Cause.TheVariants.{EraseUnknownPlace, MayScroll, UnknownCell}
use Rattle.ans_model.specs.declared.note.Note.{Note}
use Rattle.ans_model.specs.declared.note.Note.TheVariants.{WidthAssumed, NoEndMark, SizeDiffers, OddDate, FlagBits}
use Rattle.ans_model.specs.declared.note.Note.TheVariants.{FlagPair}

-- a text that ends in a line feed
abbrev pub line_of : List ℕ → List ℕ
line_of text = text ++ 0x0A ∷ []

-- the text of each fault
abbrev pub fault_text : Cause → List ℕ
fault_text NoRecord = codes "F1 no SAUCE record"
fault_text WrongVersion = codes "F2 SAUCE version is not 00"
fault_text WrongKind = codes "F3 not Character/ANSi"
fault_text CommentsMissing = codes "F4 comment block missing"
fault_text LinesUnstated = codes "F5 number of lines not stated"
fault_text WidthTooLarge = codes "F6 width above 1024"
fault_text LinesTooLarge = codes "F7 lines above 8192"
fault_text BytesAfterEndMark = codes "F8 bytes after the end mark"
fault_text BrokenSequence = codes "F9 broken sequence"
fault_text NumberTooLarge = codes "F10 number above 255"
fault_text TooManyParameters = codes "F11 more than 16 parameters"
fault_text EndInSequence = codes "F12 content ends in a sequence"
fault_text UnknownSequence = codes "F13 unknown sequence"
fault_text WrongParameters = codes "F14 wrong parameters"
fault_text KeyReassigned = codes "F15 key reassigned"
fault_text ScreenMode = codes "F16 screen mode set"
fault_text ReportAsked = codes "F17 cursor report asked"
fault_text OutsideScreen = codes "F19 place outside the screen"
fault_text PrintBelow = codes "F20 print below the stated lines"
fault_text Scrolls = codes "F21 scrolls"
fault_text PrintUnknownPlace = codes "F22 print at an unknown place"
fault_text EraseUnknownPlace = codes "F23 erase at an unknown place"
fault_text MayScroll = codes "F24 may scroll"
fault_text (UnknownCell row col) = codes "F25 cell stays unknown"

-- the number of a cause: n for the fault Fn
abbrev pub cause_number : Cause → ℕ
cause_number NoRecord = 1
cause_number WrongVersion = 2
cause_number WrongKind = 3
cause_number CommentsMissing = 4
cause_number LinesUnstated = 5
cause_number WidthTooLarge = 6
cause_number LinesTooLarge = 7
cause_number BytesAfterEndMark = 8
cause_number BrokenSequence = 9
cause_number NumberTooLarge = 10
cause_number TooManyParameters = 11
cause_number EndInSequence = 12
cause_number UnknownSequence = 13
cause_number WrongParameters = 14
cause_number KeyReassigned = 15
cause_number ScreenMode = 16
cause_number ReportAsked = 17
cause_number OutsideScreen = 19
cause_number PrintBelow = 20
cause_number Scrolls = 21
cause_number PrintUnknownPlace = 22
cause_number EraseUnknownPlace = 23
cause_number MayScroll = 24
cause_number (UnknownCell row col) = 25

-- the position of an unknown cell, row and column counted from 1
abbrev pub position_text : Cause → List ℕ
position_text (UnknownCell row column) =
    codes " (row " ++ (decimal row ++ (codes ", column " ++ (decimal column ++ codes ")")))
position_text _ = []

-- the line of a fault: its offset, its text and the position of an unknown cell
abbrev pub fault_line : Fault → List ℕ
fault_line fault =
    line_of (codes "at "
    ++ (decimal fault.offset ++ (codes ": " ++ (fault_text fault.cause ++ position_text fault.cause))))

-- the text of each note
abbrev pub note_text : Note → List ℕ
note_text WidthAssumed = codes "width 0 taken as 80"
note_text NoEndMark = codes "no end mark after the content"
note_text SizeDiffers = codes "file size differs from the content"
note_text OddDate = codes "date is not eight digits"
note_text FlagBits = codes "flag bits 5 to 7 are not zero"
note_text FlagPair = codes "a flag pair is 11"

-- the number of a note: n for Nn
abbrev pub note_number : Note → ℕ
note_number WidthAssumed = 1
note_number NoEndMark = 2
note_number SizeDiffers = 3
note_number OddDate = 4
note_number FlagBits = 5
note_number FlagPair = 6

-- the line of a note
abbrev pub note_line : Note → List ℕ
note_line note = line_of (codes "note: " ++ note_text note)
