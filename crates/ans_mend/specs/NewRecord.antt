-- A record for a file that has none.
use Rattle.std.specs.Prelude.{ℕ, Bool, true, false, not, ◌&&◌, ◌||◌, List, [], ◌∷◌, ◌++◌, length, take, codes}
use Rattle.std.specs.Prelude.{replicate, bytes_eq, Option, None, Some, if◌then◌else◌}
use Rattle.std.specs.List.{list_all}
use Rattle.ans_model.specs.Bytes.{blank, end_mark}
use Rattle.ans_model.specs.File.Layout.{after_content, content}
use Rattle.ans_model.specs.File.Refusals.{has_record}
use Rattle.ans_model.specs.declared.fault.Cause.{Cause}
use Rattle.ans_model.specs.declared.fault.Cause.TheVariants.{NoRecord}
use Rattle.ans_model.specs.declared.fault.Fault.{Fault}
use Rattle.ans_sauce.specs.Fields.{two_bytes}
use Rattle.ans_mend.specs.Tail.{is_tail_byte}
use Rattle.ans_mend.specs.declared.outcome.GivenRecord.{GivenRecord}
use Rattle.ans_mend.specs.declared.outcome.Unmended.{Unmended}
use Rattle.ans_mend.specs.declared.outcome.Unmended.TheVariants.{Refused, TakesNoRecord}

-- SAUCE 00.5, record layout: version 00, blank texts, a date of eight zeros, FileSize 0, Character/ANSi, this width in
-- columns, and no lines, comments, flags or font
abbrev pub new_record : ℕ → List ℕ
new_record width =
    codes "SAUCE00" ++ (replicate 75 blank ++ (codes "00000000" ++ (replicate 4 0x00 ++ (0x01 ∷ 0x01 ∷ (two_bytes width
    ++ replicate 30 0x00)))))

-- a record of version 00 begins here
abbrev pub begins_sauce : List ℕ → Bool
begins_sauce bytes = bytes_eq (take 7 bytes) (codes "SAUCE00")

-- or somewhere after
abbrev pub holds_sauce : List ℕ → Bool
holds_sauce [] = false
holds_sauce (b ∷ bytes) = begins_sauce (b ∷ bytes) || holds_sauce bytes

-- There is no record at the end, `SAUCE00` is nowhere in the file, and after the content there are only end marks, zero
-- bytes and line ends.
abbrev pub takes_record : List ℕ → Bool
takes_record file = not (has_record file) && (not (holds_sauce file) && list_all is_tail_byte (after_content file))

-- the file with such a record after its content and an end mark, where it takes one
abbrev pub with_new_record : ℕ → List ℕ → List ℕ
with_new_record width file = if takes_record file then content file ++ end_mark ∷ new_record width else file

-- the record that is put, where one is
abbrev pub record_given : ℕ → List ℕ → Option GivenRecord
record_given width file =
    if takes_record file
    then Some (record { width = width; place = length (content file); cut = length (after_content file) })
    else None

-- ---- a file that takes none

abbrev pub is_no_record : Cause → Bool
is_no_record NoRecord = true
is_no_record _ = false

-- why a file is not mended whose record or layout has this fault
abbrev pub refusal_of : List ℕ → Fault → Unmended
refusal_of file fault =
    if is_no_record fault.cause && not (takes_record file) then TakesNoRecord fault else Refused fault
