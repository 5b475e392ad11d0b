-- How a file is mended, and why it is not.
use Rattle.std.specs.Prelude.{◌≡◌, ◌⊎◌, ℕ, ◌+◌, ◌-◌, ◌<◌, ◌≤◌, Bool, true, false, ◌&&◌, ◌||◌, ◌==◌, IsTrue, List, []}
use Rattle.std.specs.Prelude.{◌++◌, length, Option, None, Some, is_some, unwrap_or, option_and_then, ◌↔◌}
use Rattle.std.specs.Prelude.{⊤, IfErr, IfOk, MatchBool, MatchOption, Result, Ok, Err, if◌then◌else◌}
use Rattle.std.specs.List.{list_any}
use Rattle.ans_model.specs.Bytes.{longest_file, most_lines}
use Rattle.ans_model.specs.File.Layout.{FileParts, content, is_end_mark}
use Rattle.ans_model.specs.File.Record.{file_size, is_non_blink, stated_lines, stated_size, stated_width}
use Rattle.ans_model.specs.File.Refusals.{Accepts, has_record}
use Rattle.ans_model.specs.Screen.State.{Size, sized}
use Rattle.ans_kinds.specs.SaidOfPlayers.{IsSameWhereCleared}
use Rattle.ans_model.specs.Screen.StartClass.{all_known, none_known}
use Rattle.ans_model.specs.Verdict.Good.{Picture, GoodWith, IsGood}
use Rattle.ans_model.specs.declared.fault.Fault.{Fault}
use Rattle.ans_model.specs.Sequence.TokenKind.{TokenKind}
use Rattle.ans_model.specs.Sequence.Reads.{Reads}
use Rattle.ans_players.specs.Situations.{spelled}
use Rattle.ans_sauce.specs.Found.{record_in}
use Rattle.ans_sauce.specs.Judged.{IsRecordFault}
use Rattle.ans_hints.specs.Hints.{are_torn}
use Rattle.ans_hints.specs.OtherWidths.{AreOtherWidths, has_other_widths}
use Rattle.ans_hints.specs.declared.other_widths.OtherWidths.{OtherWidths}
use Rattle.ans_pens.specs.Lines.{IsLeastLines, IsNeverGood}
use Rattle.ans_model.specs.Screen.Beginning.{mending}
use Rattle.ans_sauce.specs.Fields.{with_file_size}
use Rattle.ans_sauce.specs.declared.writing.Reset.{Reset}
use Rattle.ans_hints.specs.declared.hints.Hints.{Hints}
use Rattle.ans_pens.specs.declared.times.Times.{Times}
use Rattle.ans_why.specs.Explained.{AreHintsOf}
use Rattle.ans_mend.specs.Columns.{columns_set, with_columns}
use Rattle.ans_mend.specs.EndMark.{end_mark_put, with_end_mark}
use Rattle.ans_sauce.specs.Contents.{content_in}
use Rattle.ans_sauce.specs.Fields.{with_lines, with_non_blink, with_record}
use Rattle.ans_mend.specs.LastEnds.{HasFewerEnds, times_at}
use Rattle.ans_mend.specs.LineEnds.{ArePut, with_line_ends}
use Rattle.ans_mend.specs.FullRows.{HasFullRows}
use Rattle.ans_mend.specs.NamedColours.{HasNamedColours, begins_unnamed}
use Rattle.ans_mend.specs.NewRecord.{record_given, refusal_of, takes_record, with_new_record}
use Rattle.ans_mend.specs.OlderRecord.{older_gone, without_older}
use Rattle.ans_mend.specs.Recounted.{comments_set, recounted}
use Rattle.std.specs.Option.{option_map_or}
use Rattle.ans_mend.specs.Tail.{IsTailCut}
use Rattle.ans_mend.specs.TakingOut.{AreTakenOut, nothing_told}
use Rattle.ans_mend.specs.declared.outcome.Edits.{Edits}
use Rattle.ans_mend.specs.declared.outcome.GivenRecord.{GivenRecord}
use Rattle.ans_mend.specs.declared.outcome.MendError.{MendError}
use Rattle.ans_mend.specs.declared.outcome.MendError.TheVariants.{Memory, NotMended}
use Rattle.ans_mend.specs.declared.outcome.Mended.{Mended}
use Rattle.ans_mend.specs.declared.taking_out.Told.{Told}
use Rattle.ans_mend.specs.declared.outcome.Unmended.{Unmended}
use Rattle.ans_mend.specs.declared.outcome.Unmended.TheVariants.{Refused, Torn, NoLines, TooLong}
use Rattle.ans_model.specs.declared.mends.Mends.{Mends}
use Rattle.ans_verdict.specs.FileVerdict.{Deserves}

-- its record and its layout are accepted
abbrev pub IsRead : List ℕ → Type 0
IsRead file = (apart : FileParts) × Accepts file apart

-- and it is not too long
abbrev pub IsSound : List ℕ → Type 0
IsSound file = IsRead file × (length file ≤ longest_file)

-- ---- the file of which the tail was cut

-- a record is asked for, and the file takes it
abbrev pub gives_record : Mends → List ℕ → Bool
gives_record mends cut = is_some mends.add_record && takes_record cut

-- the file with a record of the width that is asked for, where it takes one
abbrev pub record_added : Mends → List ℕ → List ℕ
record_added mends cut = option_map_or (λ width. with_new_record width cut) mends.add_record cut

-- the file whose record, its own or the one that is added, states the width that is asked for
abbrev pub widened : Mends → List ℕ → List ℕ
widened mends file = option_map_or (λ width. with_columns width file) mends.columns file

-- and counts the comments that are there, and has no older record before it, if it is to be repaired
abbrev pub repaired : Mends → List ℕ → List ℕ
repaired mends file = if mends.repair_record then without_older (recounted file) else file

abbrev pub recorded : Mends → List ℕ → List ℕ
recorded mends cut = repaired mends (widened mends (record_added mends cut))

-- how many comments were counted, and are, where the record is to be repaired
abbrev pub comments_put : Mends → List ℕ → Option Reset
comments_put mends cut =
    if mends.repair_record then comments_set (widened mends (record_added mends cut)) else None

-- the older record that is taken out there
abbrev pub older_put : Mends → List ℕ → Option Times
older_put mends cut =
    if mends.repair_record then older_gone (recounted (widened mends (record_added mends cut))) else None

-- the width that was stated and the one that is, where one is asked for
abbrev pub width_set : Mends → List ℕ → Option Reset
width_set mends cut = option_and_then (λ width. columns_set width (record_added mends cut)) mends.columns

-- the record that is put, where one is
abbrev pub record_put : Mends → List ℕ → Option GivenRecord
record_put mends cut = option_and_then (λ width. record_given width cut) mends.add_record

-- where a record is given, the least number of lines is asked for too
abbrev pub asked_for : Mends → List ℕ → Mends
asked_for mends cut = record mends { least_lines = mends.least_lines || gives_record mends cut }

-- a number of lines is asked for
abbrev pub asks_for_lines : Mends → Bool
asks_for_lines mends = is_some mends.lines || mends.least_lines

-- the record states no lines, and a number is asked for
abbrev pub lacks_lines : Mends → List ℕ → Bool
lacks_lines mends file = has_record file && (stated_lines (record_in file) == 0 && asks_for_lines mends)

-- on how many lines it is played until that is settled: on the number that is given, or on the most
abbrev pub first_lines : Mends → ℕ
first_lines mends = unwrap_or mends.lines most_lines

-- the file that states them, where it lacks lines
abbrev pub opened : Mends → List ℕ → List ℕ
opened mends file =
    if lacks_lines mends file then with_record (with_lines (first_lines mends) (record_in file)) file else file

-- with a return before each line feed that needs one, where that is asked for and wanted
abbrev pub returned : Mends → List ℕ → List ℕ
returned mends file = if mends.crlf then with_line_ends mends.mixed file else file

-- the returns that were put into it are reported
abbrev pub TellsReturns : Mends → List ℕ → Option Times → Type 0
TellsReturns mends file times = MatchBool mends.crlf (ArePut mends.mixed file times) (times ≡ None)

-- the sequences that go are taken out and reported, if that is asked for
abbrev pub AreSequencesTaken : Mends → List ℕ → List ℕ → Told → Type 0
AreSequencesTaken mends file taken told =
    MatchBool mends.take_out (AreTakenOut file taken told) ((taken ≡ file) × (told ≡ nothing_told))

-- the file with the non-blink flag of its record set, if that is asked for
abbrev pub iced : Mends → List ℕ → List ℕ
iced mends file =
    if mends.ice && has_record file then with_record (with_non_blink true (record_in file)) file else file

-- both: the flag that is asked for counts, whatever a switch says that was taken out
abbrev pub AreSequencesOut : Mends → List ℕ → List ℕ → Told → Type 0
AreSequencesOut mends file out told = (taken : List ℕ) × AreSequencesTaken mends file taken told
    × (out ≡ iced mends taken)

-- the line ends after full rows are taken out and reported, if that is asked for; the number of lines does not matter
abbrev pub AreRowsJoined : Mends → Size → List ℕ → List ℕ → Option Times → Type 0
AreRowsJoined mends z file joined times =
    MatchBool mends.join_rows (HasFullRows mends.mixed (sized z.width most_lines) file joined times)
    ((joined ≡ file) × (times ≡ None))

-- As few line ends at the very end are taken out, and reported, as must go for the content to pass from the cleared
-- start, if sequences are to be taken out.
abbrev pub AreLastEndsGone : Mends → Size → List ℕ → List ℕ → Option Times → Type 0
AreLastEndsGone mends z file new times =
    MatchBool mends.take_out (HasFewerEnds z file new times) ((new ≡ file) × (times ≡ None))

-- the colours are named and reported, if that is asked for
abbrev pub AreNamed : Mends → List ℕ → List ℕ → Option Times → Type 0
AreNamed mends file new times =
    MatchBool mends.name_colours (HasNamedColours file new times) ((new ≡ file) × (times ≡ None))

-- The file with its content changed as it is asked for, on a screen of this size, and what is reported of that. With
-- its returns it is not too long.
pub record IsEdited (mends : Mends) (z : Size) (file edited : List ℕ) (edits : Edits) : Type 0 where
  pub returns : TellsReturns mends file edits.returns
  pub fits : length (returned mends file) ≤ longest_file
  pub out : List ℕ
  pub sequences : AreSequencesOut mends (returned mends file) out edits.told
  pub joined : List ℕ
  pub rows : AreRowsJoined mends z out joined edits.row_ends
  pub ended : List ℕ
  pub ends : AreLastEndsGone mends z joined ended edits.last_ends
  pub named : AreNamed mends ended edited edits.named_colours

-- the same on the screen that its record states
abbrev pub IsEditedAsStated : Mends → List ℕ → List ℕ → Edits → Type 0
IsEditedAsStated mends file edited edits = IsEdited mends (stated_size (record_in file)) file edited edits

-- ---- the lines, by the record and the content of what is left

-- how many lines the record states; none, if their number is still to be settled
abbrev pub lines_before : Bool → List ℕ → ℕ
lines_before lacks sauce = if lacks then 0 else stated_lines sauce

-- The hints of the whole content on this many lines say that its rows are broken, or it and the record show another
-- width; or neither.
abbrev pub TellsTorn : Bool → Bool → List ℕ → List ℕ → ℕ → Type 0
TellsTorn torn lacks sauce content lines = (hints : Hints)
    × AreHintsOf (sized (stated_width sauce) lines) (is_non_blink sauce) content [] hints × (widths : OtherWidths)
    × AreOtherWidths (stated_width sauce) (lines_before lacks sauce) hints content widths
    × ((are_torn hints || has_other_widths widths) ≡ torn)

-- the least number of lines with which the content passes from the cleared start, up to the most, and whether its rows
-- are broken on them
abbrev pub HasLeast : Bool → Bool → List ℕ → List ℕ → ℕ → Type 0
HasLeast torn lacks sauce content lines = (lines ≤ most_lines) × IsLeastLines (stated_width sauce) content lines
    × TellsTorn torn lacks sauce content lines

-- the least number is asked for, and no other
abbrev pub AsksForLeast : Mends → Type 0
AsksForLeast mends = (mends.lines ≡ None) × IsTrue mends.least_lines

-- The number that is asked for: the one that is given; else the least one, if the rows are not broken.
abbrev pub IsAskedNumber : Mends → Bool → List ℕ → List ℕ → ℕ → Type 0
IsAskedNumber mends lacks sauce content lines =
    (mends.lines ≡ Some lines) ⊎ (AsksForLeast mends × HasLeast false lacks sauce content lines)

-- the least number is asked for, and there is none
abbrev pub HasNoNumber : Mends → List ℕ → List ℕ → Type 0
HasNoNumber mends sauce content = AsksForLeast mends × IsNeverGood (stated_width sauce) content most_lines

-- the content passes from the cleared start on the lines that the record states
abbrev pub PassesAsStated : List ℕ → List ℕ → Type 0
PassesAsStated sauce content = IsGood (stated_size sauce) all_known content

-- The record states some lines, and is left as it is: the content passes with them, or no number is asked for, or none
-- would do.
abbrev pub KeepsLines : Mends → Bool → List ℕ → List ℕ → Type 0
KeepsLines mends lacks sauce content = (lacks ≡ false)
    × (PassesAsStated sauce content ⊎ (asks_for_lines mends ≡ false) ⊎ HasNoNumber mends sauce content)

-- none are stated, or the content does not pass with those that are
abbrev pub WantsLines : Bool → List ℕ → List ℕ → Type 0
WantsLines lacks sauce content = (lacks ≡ true) ⊎ (¬ PassesAsStated sauce content)

-- others are wanted, and the number that is asked for is this one
abbrev pub TakesLines : Mends → Bool → List ℕ → List ℕ → ℕ → Type 0
TakesLines mends lacks sauce content lines =
    WantsLines lacks sauce content × IsAskedNumber mends lacks sauce content lines

-- the file with these lines, where some are taken
abbrev pub lined : Option ℕ → List ℕ → List ℕ
lined None file = file
lined (Some lines) file = with_record (with_lines lines (record_in file)) file

-- this many lines are taken, or none, and those that are stated stay
abbrev pub AreLinesFor : Mends → Bool → List ℕ → Option ℕ → Type 0
AreLinesFor mends lacks file lines = MatchOption lines (KeepsLines mends lacks (record_in file) (content_in file))
    (TakesLines mends lacks (record_in file) (content_in file))

-- The file with its content changed, its lines settled, and with an end mark after its content, and what is reported of
-- that. After each step the file was not too long, and could be read.
pub record IsSettled (asked : Mends) (based : List ℕ) (edits : Edits) (mark : Option ℕ) (settled : List ℕ)
    : Type 0 where
  pub opened_read : IsRead (opened asked based)
  pub edited : List ℕ
  pub is_edited : IsEditedAsStated asked (opened asked based) edited edits
  pub edited_sound : IsSound edited
  pub lines : Option ℕ
  pub are_lines : AreLinesFor asked (lacks_lines asked based) edited lines
  pub settled_is : settled ≡ with_end_mark (lined lines edited)
  pub mark_is : mark ≡ end_mark_put (lined lines edited)

-- ---- the file that is written

-- names of colours are asked for, and something is printed or cleared before a sequence that could have them
abbrev pub BeginsUnnamed : Mends → List ℕ → Type 0
BeginsUnnamed mends content = IsTrue mends.name_colours × (tokens : List TokenKind) × (reads : Reads content tokens)
    × IsTrue (begins_unnamed (spelled tokens reads.0))

-- From some start something arises that does not from the cleared one: a fault, or a kind of difference between
-- players. Or names of colours are needed from the beginning on.
abbrev pub WantsMending : Mends → Size → List ℕ → Type 0
WantsMending mends z content = (¬ IsSameWhereCleared z content) ⊎ BeginsUnnamed mends content

-- the bytes before those of the draft
abbrev pub front_bytes : Bool → List ℕ
front_bytes front = if front then mending else []

-- one where the stated FileSize was one more than the content's length, as some programs count the end mark
abbrev pub end_mark_counted : List ℕ → ℕ
end_mark_counted file = if file_size (record_in file) == length (content_in file) + 1 then 1 else 0

-- The bytes that are put before it and those of the draft are a file that passes from every start, and shows what the
-- changed content shows from the cleared one. Its record is that of the file except for what is asked for, the lines
-- and the FileSize, which fits. On the way no file was too long, and each was read.
pub record IsMended (mends : Mends) (file : List ℕ) (mended : Mended) (draft : List ℕ) : Type 0 where
  pub cut : List ℕ
  pub is_cut : IsTailCut file cut
  pub asked : Mends
  pub asked_is : asked ≡ asked_for mends cut
  pub based : List ℕ
  pub based_is : based ≡ recorded mends cut
  pub based_fits : length based ≤ longest_file
  pub settled : List ℕ
  pub steps : IsSettled asked based mended.edits mended.end_mark settled
  pub settled_sound : IsSound settled
  pub draft_is : draft ≡ with_record (with_file_size mended.file_size.is (record_in settled)) settled
  pub apart : FileParts
  pub accepts : Accepts (front_bytes mended.front ++ draft) apart
  pub content_is : content apart.body ≡ front_bytes mended.front ++ content_in settled
  pub room : length (front_bytes mended.front ++ draft) ≤ longest_file
  pub fits : mended.file_size.is ≡ length (content apart.body) + end_mark_counted (opened asked based)
  pub ended : IsTrue (list_any is_end_mark apart.body)
  pub picture : Picture
  pub from_cleared : GoodWith (stated_size apart.record_bytes) all_known (content_in settled) picture
  pub from_every : GoodWith (stated_size apart.record_bytes) none_known (content apart.body) picture
  pub front : IsTrue mended.front ↔ WantsMending asked (stated_size apart.record_bytes) (content_in settled)
  pub flags : mended.asked ≡ mends
  pub tail : mended.tail ≡ times_at (length file - length cut) (length cut)
  pub given_record : mended.given_record ≡ record_put mends cut
  pub width : mended.width ≡ width_set mends cut
  pub comments : mended.comments ≡ comments_put mends cut
  pub older : mended.older ≡ older_put mends cut
  pub flag_was : mended.non_blink.was ≡ is_non_blink (record_in (opened asked based))
  pub flag_is : mended.non_blink.is ≡ is_non_blink (record_in settled)
  pub lines_were : mended.lines.was ≡ stated_lines (record_in based)
  pub lines_are : mended.lines.is ≡ stated_lines (record_in settled)
  pub size_was : mended.file_size.was ≡ file_size (record_in (opened asked based))

-- ---- why there is none

-- the rows are broken on the least number; or no lines are stated, and no number does
abbrev pub IsWithoutNumber : Bool → List ℕ → List ℕ → Unmended → Type 0
IsWithoutNumber lacks sauce content Torn = (lines : ℕ) × HasLeast true lacks sauce content lines
IsWithoutNumber lacks sauce content NoLines = (lacks ≡ true) × IsNeverGood (stated_width sauce) content most_lines
IsWithoutNumber lacks sauce content _ = ⊥

-- the number of lines is why: others than those that are stated are wanted, the least number is asked for, and there is
-- none to take
abbrev pub IsReasonOfLines : Mends → Bool → List ℕ → List ℕ → Unmended → Type 0
IsReasonOfLines mends lacks sauce content reason =
    WantsLines lacks sauce content × AsksForLeast mends × IsWithoutNumber lacks sauce content reason

-- The file has this fault: its record has, or its content from the cleared start.
abbrev pub IsFaulty : List ℕ → Fault → Type 0
IsFaulty file fault =
    IsRecordFault file fault ⊎ Deserves (stated_size (record_in file)) all_known (content_in file) fault

-- its record or its layout has the fault for which it is refused
abbrev pub HasRecordFault : List ℕ → Unmended → Type 0
HasRecordFault file reason = (fault : Fault) × (reason ≡ refusal_of file fault) × IsRecordFault file fault

-- Of the file with its content changed: it is too long, or has a fault of its own, or the number of lines is why.
abbrev pub IsReasonOfEdited : Mends → Bool → List ℕ → Unmended → Type 0
IsReasonOfEdited mends lacks file reason =
    ((reason ≡ TooLong) × (longest_file < length file)) ⊎ HasRecordFault file reason
    ⊎ IsReasonOfLines mends lacks (record_in file) (content_in file) reason

-- With all done that was asked for, the content does not pass; or there is no room for it, or it passes and there is
-- none for the mending that it needs.
abbrev pub IsReasonOfContent : Mends → List ℕ → Unmended → Type 0
IsReasonOfContent mends settled (Refused fault) = IsFaulty settled fault
IsReasonOfContent mends settled TooLong =
    (longest_file < length settled) ⊎ ((longest_file < length settled + length mending)
    × WantsMending mends (stated_size (record_in settled)) (content_in settled)
    × PassesAsStated (record_in settled) (content_in settled))
IsReasonOfContent mends settled _ = ⊥

-- The file is read; and what is true of a file whose content is changed is true of one to which this one may come.
abbrev pub HasEdited : Mends → List ℕ → (List ℕ → Type 0) → Type 0
HasEdited asked based holds = IsRead (opened asked based) × (edited : List ℕ) × (edits : Edits)
    × IsEditedAsStated asked (opened asked based) edited edits × holds edited

-- and so it is with a settled file
abbrev pub HasSettled : Mends → List ℕ → (List ℕ → Type 0) → Type 0
HasSettled asked based holds = (settled : List ℕ) × (edits : Edits) × (mark : Option ℕ)
    × IsSettled asked based edits mark settled × holds settled

-- The file, with a record if one was given, is too long, or it is with its returns.
abbrev pub IsTooLongFor : Mends → List ℕ → Unmended → Type 0
IsTooLongFor asked based reason = (reason ≡ TooLong)
    × ((longest_file < length based) ⊎ (longest_file < length (returned asked (opened asked based))))

-- The reason is true of the file with a record, where one was given, for what is then asked for.
abbrev pub IsReasonFor : Mends → List ℕ → Unmended → Type 0
IsReasonFor asked based reason = IsTooLongFor asked based reason ⊎ HasRecordFault (opened asked based) reason
    ⊎ HasEdited asked based (λ edited. IsReasonOfEdited asked (lacks_lines asked based) edited reason)
    ⊎ HasSettled asked based (λ settled. IsReasonOfContent asked settled reason)

-- the reason is true of the file
abbrev pub IsReason : Mends → List ℕ → Unmended → Type 0
IsReason mends file reason = (cut : List ℕ) × IsTailCut file cut
    × IsReasonFor (asked_for mends cut) (recorded mends cut) reason

-- what holds of the reason, where the error has one
abbrev pub IfNotMended : MendError → (Unmended → Type 0) → Type 0
IfNotMended Memory holds = ⊤
IfNotMended (NotMended reason) holds = holds reason

-- ---- what is reported

-- the mended file, by what came of mending and the draft; or nothing
abbrev pub mended_bytes : Result Mended Unmended → List ℕ → List ℕ
mended_bytes (Ok mended) draft = front_bytes mended.front ++ draft
mended_bytes (Err reason) draft = []

-- What is reported of a file that was to be mended: what was changed of it, and the text is the mended file; or there
-- is no text, for this reason.
abbrev pub TellsMended : Mends → List ℕ → Result Mended Unmended → List ℕ → Type 0
TellsMended mends file answer text = (draft : List ℕ) × IfOk answer (λ mended. IsMended mends file mended draft)
    × IfErr answer (IsReason mends file) × (text ≡ mended_bytes answer draft)
