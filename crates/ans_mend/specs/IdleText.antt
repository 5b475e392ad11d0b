-- What mending says of a flag that was given and did nothing.
use Rattle.std.specs.Prelude.{ℕ, Bool, true, not, ◌&&◌, ◌||◌, ◌==◌, List, [], ◌++◌, codes, Option, None, Some}
use Rattle.std.specs.Prelude.{is_some, if◌then◌else◌}
use Rattle.std.specs.List.{list_any}
use Rattle.ans_model.specs.declared.mends.Mends.{Mends}
use Rattle.ans_sauce.specs.declared.writing.Reset.{Reset}
use Rattle.ans_mend.specs.declared.outcome.Mended.{Mended}

-- a line, if the flag did nothing
abbrev pub idle_line : Bool → List ℕ → List ℕ
idle_line idle text = if idle then text else []

abbrev pub is_same : Reset → Bool
is_same number = number.was == number.is

-- no other number is stated
abbrev pub keeps_number : Option Reset → Bool
keeps_number None = true
keeps_number (Some number) = is_same number

abbrev pub idle_record : Mended → Bool
idle_record m = is_some m.asked.add_record && not (is_some m.given_record)

abbrev pub idle_columns : Mended → Bool
idle_columns m = is_some m.asked.columns && keeps_number m.width

abbrev pub idle_comments : Mended → Bool
idle_comments m = m.asked.repair_record && keeps_number m.comments && not (is_some m.older)

abbrev pub idle_crlf : Mended → Bool
idle_crlf m = m.asked.crlf && not (is_some m.edits.returns)

abbrev pub idle_take_out : Mended → Bool
idle_take_out m = m.asked.take_out && not (list_any is_some m.edits.told.kinds) && not (is_some m.edits.last_ends)

abbrev pub idle_ice : Mended → Bool
idle_ice m = m.asked.ice && m.non_blink.was

abbrev pub idle_join_rows : Mended → Bool
idle_join_rows m = m.asked.join_rows && not (is_some m.edits.row_ends)

abbrev pub idle_mixed : Mended → Bool
idle_mixed m = m.asked.mixed && not (m.asked.crlf || m.asked.join_rows)

abbrev pub idle_colours : Mended → Bool
idle_colours m = m.asked.name_colours && not (is_some m.edits.named_colours)

abbrev pub idle_lines : Mended → Bool
idle_lines m = is_some m.asked.lines && is_same m.lines

abbrev pub idle_least : Mended → Bool
idle_least m = m.asked.least_lines && not (is_some m.asked.lines) && is_same m.lines

-- what each would take
abbrev pub crlf_reason : Mends → List ℕ
crlf_reason asked =
    if asked.mixed then codes "--crlf: nothing done, no line feed lacks a return\n"
    else codes "--crlf: nothing done, it needs line feeds and no return (--mixed: those without one)\n"

abbrev pub rows_reason : Mends → List ℕ
rows_reason asked =
    if asked.mixed then codes "--join-rows: nothing done, no full row has a line end\n"
    else codes "--join-rows: nothing done, it needs two full rows, each with a line end (--mixed: those with one)\n"

-- a line for each flag that was given and did nothing, in the order of the changes
abbrev pub idle_text : Mended → List ℕ
idle_text m =
    idle_line (idle_record m) (codes "--add-record: nothing done, the file has a record\n")
    ++ (idle_line (idle_columns m) (codes "--columns: nothing done, the record states them\n")
    ++ (idle_line (idle_comments m) (codes "--record: nothing done, no comments to count and no older record to remove\n")
    ++ (idle_line (idle_crlf m) (crlf_reason m.asked)
    ++ (idle_line (idle_take_out m) (codes "--take-out: nothing done, nothing of that kind is refused\n")
    ++ (idle_line (idle_ice m) (codes "--ice: nothing done, the flag is set\n")
    ++ (idle_line (idle_join_rows m) (rows_reason m.asked)
    ++ (idle_line (idle_mixed m) (codes "--mixed: nothing done, it is for --crlf and --join-rows\n")
    ++ (idle_line (idle_colours m) (codes "--name-colours: nothing done, no colour lacks a name\n")
    ++ (idle_line (idle_lines m) (codes "--lines: nothing done, the drawing passes with those that are stated\n")
    ++ idle_line (idle_least m)
    (codes "--least-lines: nothing done, the drawing passes with those that are stated\n"))))))))))
