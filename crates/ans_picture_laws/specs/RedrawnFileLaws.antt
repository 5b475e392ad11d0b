-- What is proved of a redrawn file.
use Rattle.std.specs.Prelude.{◌≡◌, ◌↔◌, ℕ, ◌≤◌, Bool, true, false, List, length}
use Rattle.std.specs.List.{filter}
use Rattle.ans_model.specs.Bytes.{longest_file}
use Rattle.ans_model.specs.File.Layout.{FileParts, content}
use Rattle.ans_model.specs.File.NoteConditions.{notes}
use Rattle.ans_model.specs.File.Record.{stated_size}
use Rattle.ans_model.specs.File.Refusals.{Accepts}
use Rattle.ans_model.specs.Screen.StartClass.{all_known, none_known}
use Rattle.ans_model.specs.Verdict.Good.{Picture, GoodWith}
use Rattle.ans_model.specs.declared.note.Note.{Note}
use Rattle.ans_model.specs.declared.note.Note.TheVariants.{NoEndMark, SizeDiffers}
use Rattle.ans_model.specs.declared.start.Start.{Start}
use Rattle.ans_players.specs.Classes.{IsLeastSame}
use Rattle.ans_players.specs.declared.difference.Difference.{Difference}
use Rattle.ans_picture_laws.specs.Drawable.{BytesAreAgreed}
use Rattle.ans_redraw.specs.Form.{form_bytes}
use Rattle.ans_sauce.specs.Fields.{with_file_size}
use Rattle.ans_redraw.specs.RedrawnFile.{redrawn_file}

-- The file is accepted so, and passes from the cleared start with this picture. There is room for what is redrawn.
pub record CanBeRedrawn (file : List ℕ) (apart : FileParts) (picture : Picture) : Type 0 where
  pub accepts : Accepts file apart
  pub good : GoodWith (stated_size apart.record_bytes) all_known (content apart.body) picture
  pub room : length (redrawn_file file picture) ≤ longest_file

-- whether a note stays: all do but those on the end mark and on the FileSize
abbrev pub note_stays : Note → Bool
note_stays NoEndMark = false
note_stays SizeDiffers = false
note_stays _ = true

-- The redrawn file is accepted with these parts. It states the same size, has the same comments, and its record is the
-- same except for the FileSize. It keeps those notes that stay. Its content is the form of the picture, and from every
-- start of every class it passes with this picture.
pub record IsRedrawnTo (file : List ℕ) (apart : FileParts) (picture : Picture) (new : FileParts) : Type 0 where
  pub accepts : Accepts (redrawn_file file picture) new
  pub size : stated_size new.record_bytes ≡ stated_size apart.record_bytes
  pub comments : new.comment_bytes ≡ apart.comment_bytes
  pub sauce : new.record_bytes ≡ with_file_size (length (form_bytes picture)) apart.record_bytes
  pub notes : notes new.body new.record_bytes ≡ filter note_stays (notes apart.body apart.record_bytes)
  pub form : content new.body ≡ form_bytes picture
  pub good : (class : Start) → GoodWith (stated_size new.record_bytes) class (content new.body) picture

-- So is each file that passes from the cleared start, where there is room.
abbrev pub RedrawnFilesPass : Type 0
RedrawnFilesPass = (file : List ℕ) (apart : FileParts) (picture : Picture) → CanBeRedrawn file apart picture
    → (new : FileParts) × IsRedrawnTo file apart picture new

-- Redrawing a redrawn file changes no byte, whichever picture it is found to show from whichever class of starts.
abbrev pub OnceIsEnough : Type 0
OnceIsEnough = (file : List ℕ) (apart new : FileParts) (class : Start) (picture again : Picture)
    → CanBeRedrawn file apart picture → IsRedrawnTo file apart picture new
    → GoodWith (stated_size new.record_bytes) class (content new.body) again
    → redrawn_file (redrawn_file file picture) again ≡ redrawn_file file picture

-- Two files that state one size show one picture exactly where their redrawn contents are the same bytes.
abbrev pub ContentTellsThePicture : Type 0
ContentTellsThePicture = (file other : List ℕ) (apart other_apart new other_new : FileParts) (p q : Picture)
    → CanBeRedrawn file apart p → CanBeRedrawn other other_apart q
    → IsRedrawnTo file apart p new → IsRedrawnTo other other_apart q other_new
    → stated_size apart.record_bytes ≡ stated_size other_apart.record_bytes
    → (content new.body ≡ content other_new.body) ↔ (p ≡ q)

-- From every start, the kinds of difference between players that arise in a redrawn content are those of the picture's
-- own bytes: it is the same from every start exactly on those players that agree in these.
abbrev pub OnlyItsBytesPart : Type 0
OnlyItsBytesPart = (agreed : Difference → Bool) (file : List ℕ) (apart new : FileParts) (picture : Picture)
    → CanBeRedrawn file apart picture → IsRedrawnTo file apart picture new
    → BytesAreAgreed agreed picture
    ↔ IsLeastSame agreed (stated_size new.record_bytes) (content new.body) none_known
