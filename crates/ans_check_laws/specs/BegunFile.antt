-- A file with the safe beginning before its content.
use Rattle.std.specs.Prelude.{◌≡◌, ℕ, ◌+◌, ◌<◌, List, length}
use Rattle.ans_model.specs.File.Layout.{FileParts, content, laid_file}
use Rattle.ans_model.specs.File.NoteConditions.{notes}
use Rattle.ans_model.specs.File.Record.{file_size, stated_size}
use Rattle.ans_model.specs.File.Refusals.{Accepts}
use Rattle.ans_model.specs.Screen.StartClass.{all_known, none_known}
use Rattle.ans_model.specs.Verdict.Good.{Picture, GoodWith}
use Rattle.ans_sauce.specs.Fields.{resized_parts}
use Rattle.ans_model.specs.Screen.Beginning.{mending}

-- the parts of a file with the safe beginning before its content, and a FileSize that counts it
abbrev pub begun_parts : FileParts → FileParts
begun_parts apart = resized_parts mending (file_size apart.record_bytes + length mending) apart

-- That file is accepted, has the same size and the same notes, and passes from every start with this picture.
pub record IsBegunFile (apart : FileParts) (picture : Picture) : Type 0 where
  pub accepts : Accepts (laid_file (begun_parts apart)) (begun_parts apart)
  pub size : stated_size (begun_parts apart).record_bytes ≡ stated_size apart.record_bytes
  pub notes : notes (begun_parts apart).body (begun_parts apart).record_bytes ≡ notes apart.body apart.record_bytes
  pub good : GoodWith (stated_size apart.record_bytes) none_known (content (begun_parts apart).body) picture

-- An accepted file that passes from the cleared start begins so, where its FileSize has room for the mending.
abbrev pub BegunFilePasses : Type 0
BegunFilePasses = (file : List ℕ) (apart : FileParts) (picture : Picture) → Accepts file apart
    → GoodWith (stated_size apart.record_bytes) all_known (content apart.body) picture
    → file_size apart.record_bytes + length mending < 4294967296 → IsBegunFile apart picture
