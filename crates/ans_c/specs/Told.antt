-- What a call from C says of a file.
use Rattle.std.specs.Prelude.{◌≡◌, ◌≢◌, ◌⊎◌, ℕ, ◌+◌, ◌*◌, ◌<◌, ◌≤◌, min, Bool, true, false, List, length, map, take}
use Rattle.std.specs.Prelude.{Some, Result, Ok, Err, is_ok}
use Rattle.ans_model.specs.File.Record.{stated_size}
use Rattle.ans_model.specs.File.Layout.{FileParts}
use Rattle.ans_model.specs.File.Refusals.{Accepts, record_fault}
use Rattle.ans_model.specs.Screen.State.{Size}
use Rattle.ans_model.specs.Verdict.Good.{Picture, GoodWith}
use Rattle.ans_model.specs.declared.cell.Cell.{Cell}
use Rattle.ans_model.specs.declared.fault.Fault.{Fault}
use Rattle.ans_model.specs.declared.start.Start.{Start}
use Rattle.ans_mend.specs.MendedText.{mended_text, unmended_text}
use Rattle.ans_model.specs.Screen.Beginning.{mending}
use Rattle.ans_mend.specs.declared.outcome.Mended.{Mended}
use Rattle.ans_mend.specs.declared.outcome.Unmended.{Unmended}
use Rattle.ans_redraw.specs.RedrawnText.{redrawn_text, unredrawn_text}
use Rattle.ans_redraw.specs.declared.outcome.Redrawn.{Redrawn}
use Rattle.ans_redraw.specs.declared.outcome.Unredrawn.{Unredrawn}
use Rattle.ans_model.specs.declared.mends.Mends.{Mends}
use Rattle.ans_verdict.specs.FileNeeds.{NeedsClass}
use Rattle.ans_verdict.specs.FileVerdict.{Deserves, Passes, IsRefusedFor, IsGoodFile}
use Rattle.ans_verdict.specs.LentScreen.{HasScreen}
use Rattle.ans_mend.specs.MendingRoom.{LacksScreenInTheEnd, most_put}
use Rattle.ans_redraw.specs.Redrawing.{IsReasonNot, IsRedrawn, TellsRedrawn}
use Rattle.ans_mend.specs.Mending.{TellsMended}
use Rattle.ans_c.specs.Numbers.{IsSizeOf, TellsFault, class_of}
use Rattle.ans_c.specs.declared.numbers.PictureSize.{PictureSize}
use Rattle.ans_c.specs.declared.numbers.TheConstants.{PASS, REFUSED, NO_ROOM}
use Rattle.ans_c.specs.declared.numbers.ToldFault.{ToldFault}

-- the file is accepted, and its size is given
pub record TellsSize (file : List ℕ) (told : PictureSize) : Type 0 where
  pub apart : FileParts
  pub accepts : Accepts file apart
  pub size : IsSizeOf (stated_size apart.record_bytes) told

-- the file's record or its layout has a fault, which is given
pub record TellsRecordFault (file : List ℕ) (told : ToldFault) : Type 0 where
  pub fault : Fault
  pub fault_is : record_fault file ≡ Some fault
  pub tells : TellsFault told fault

-- These begin with the glyphs and the attributes of the picture, row by row.
pub record HoldsPicture (picture : Picture) (glyphs attributes : List ℕ) : Type 0 where
  pub glyphs_are : take (length picture.cells) glyphs ≡ map (λ (c : Cell). c.byte) picture.cells
  pub attributes_are : take (length picture.cells) attributes ≡ map (λ (c : Cell). c.attribute) picture.cells

-- from every start of the class the content plays well, and shows this picture
pub record TellsPass (file : List ℕ) (start : Start) (glyphs attributes : List ℕ) : Type 0 where
  pub apart : FileParts
  pub picture : Picture
  pub passes : Passes file start apart picture
  pub holds : HoldsPicture picture glyphs attributes

-- the file is not good, and the fault that it deserves is given
pub record TellsRefusal (file : List ℕ) (start : Start) (told : ToldFault) : Type 0 where
  pub fault : Fault
  pub tells : TellsFault told fault
  pub not_good : ¬ IsGoodFile file start
  pub deserved : ((apart : FileParts) × IsRefusedFor file start apart fault) ⊎ (record_fault file ≡ Some fault)

-- the file passes for exactly the classes that know each part that these bits name, and no other bit is set
pub record TellsNeeds (file : List ℕ) (bits : ℕ) : Type 0 where
  pub apart : FileParts
  pub needs : NeedsClass file apart (class_of bits)
  pub bits_of_parts : bits < 32

-- the file is accepted, and there are fewer rows or bytes than its play needs
pub record LacksScreen (file : List ℕ) (rows bytes : ℕ) : Type 0 where
  pub apart : FileParts
  pub accepts : Accepts file apart
  pub lacks : ¬ HasScreen (stated_size apart.record_bytes) rows bytes

-- the file is accepted, and there is room for fewer glyphs or attributes than its picture has cells
pub record LacksCells (file : List ℕ) (glyphs attributes : ℕ) : Type 0 where
  pub apart : FileParts
  pub accepts : Accepts file apart
  pub lacks : min glyphs attributes < (stated_size apart.record_bytes).width * (stated_size apart.record_bytes).lines

-- the longest text that is handed over
abbrev pub longest_text : ℕ
longest_text = 65536

-- The buffer begins with the text, and its length is given. If the buffer is too small for it, only its length is
-- given; a text above the longest one has the length of one byte more.
pub record HandsOver (text : List ℕ) (code : ℕ) (room : ℕ) (result told : ℕ) (buffer : List ℕ) : Type 0 where
  pub fits : result ≢ NO_ROOM → (result ≡ code) × (told ≡ length text) × (take told buffer ≡ text)
  pub no_room : result ≡ NO_ROOM → (told ≡ min (length text) (longest_text + 1)) × (min room longest_text < length text)

-- what is answered if a file passes, or does not
abbrev pub code_of : Bool → ℕ
code_of true = PASS
code_of false = REFUSED

-- Whether the file passes and the text that is handed over are what there is to report.
pub record HandsReport (reports : Bool → List ℕ → Type 0) (room result told : ℕ) (buffer : List ℕ) : Type 0 where
  pub passed : Bool
  pub text : List ℕ
  pub reported : reports passed text
  pub handed : HandsOver text (code_of passed) room result told buffer

-- what was changed in a file that is fixed, or why it is not by what was asked for
abbrev pub mending_text : Mends → Result Mended Unmended → List ℕ
mending_text asked (Ok mended) = mended_text mended
mending_text asked (Err reason) = unmended_text asked asked reason

-- Asked for this, the file is fixed, and `new` is the fixed one; or it is not, and `new` is empty. The text says what
-- was changed, or why it is not.
pub record ReportsMending (mends : Mends) (file new : List ℕ) (is_mended : Bool) (text : List ℕ) : Type 0 where
  pub answer : Result Mended Unmended
  pub tells : TellsMended mends file answer new
  pub is_mended_is : is_mended ≡ is_ok answer
  pub text_is : text ≡ mending_text mends answer

-- There is no room in the memory for the file and for as much as may be added to it; or among that many rows
-- and bytes none for the screen that the file has in the end; or none in the array for a fixed file.
abbrev pub LacksMendingRoom : Mends → List ℕ → ℕ → ℕ → ℕ → ℕ → Type 0
LacksMendingRoom mends file rows bytes memory mended =
    (memory < length file + most_put mends file)
    ⊎ LacksScreenInTheEnd (λ z. ¬ HasScreen z rows bytes) mends file
    ⊎ (mended < length file + most_put mends file + length mending)

-- what was changed in a file that is redrawn, or why it is not
abbrev pub redrawing_text : Result Redrawn Unredrawn → List ℕ
redrawing_text (Ok redrawn) = redrawn_text redrawn
redrawing_text (Err reason) = unredrawn_text reason

-- The file is redrawn, and `new` is the redrawn one; or it is not, and `new` is empty. The text says what was changed,
-- or why it is not.
pub record ReportsRedrawing (file new : List ℕ) (is_redrawn : Bool) (text : List ℕ) : Type 0 where
  pub answer : Result Redrawn Unredrawn
  pub tells : TellsRedrawn file answer new
  pub is_redrawn_is : is_redrawn ≡ is_ok answer
  pub text_is : text ≡ redrawing_text answer

-- how many bytes the redrawn file has; 0 if there is no such file
abbrev pub whole_of : Result Redrawn Unredrawn → ℕ
whole_of (Ok redrawn) = redrawn.whole
whole_of (Err reason) = 0

-- This is the answer to redrawing the file, and this array, of that many bytes, begins with the redrawn file if it has
-- room for that.
abbrev pub HoldsRedrawn : List ℕ → ℕ → List ℕ → Result Redrawn Unredrawn → Type 0
HoldsRedrawn file room array (Ok redrawn) =
    (new : List ℕ) × IsRedrawn file redrawn new × (redrawn.whole ≤ room → take redrawn.whole array ≡ new)
HoldsRedrawn file room array (Err reason) = IsReasonNot file reason

-- the redrawn file has that many bytes, and the array fewer
pub record LacksRedrawnRoom (file : List ℕ) (size room : ℕ) : Type 0 where
  pub redrawn : Redrawn
  pub new : List ℕ
  pub is_redrawn : IsRedrawn file redrawn new
  pub size_is : size ≡ length new
  pub few : room < length new

-- what is said of a play of the content from the starts of a class
pub record TellsPlay (z : Size) (start : Start) (content : List ℕ) (result : ℕ) (glyphs attributes : List ℕ)
    (told : ToldFault) : Type 0 where
  pub pass : result ≡ PASS
      → (picture : Picture) × GoodWith z start content picture × HoldsPicture picture glyphs attributes
  pub refused : result ≡ REFUSED → (fault : Fault) × Deserves z start content fault × TellsFault told fault
  pub codes : result ≤ REFUSED
