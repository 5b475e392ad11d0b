-- What is written of a file is clean.
use Rattle.std.proofs.Common.{◌≡◌, inl, inr, ℕ, zero, suc, ◌+◌, ◌≤◌, Bool, true, false, refl, subst, arith, List, []}
use Rattle.std.proofs.Common.{◌∷◌, length, map, drop, codes, Option, Some, None, All}
use Rattle.std.specs.Prelude.{◌&&◌, flat_map, IfSome, Ok, Err}
use Rattle.std.proofs.lemmas.List.{length-take}
use Rattle.std.proofs.lemmas.List.Elements.{All-head, All-tail, All-map, All-weaker}
use Rattle.ans_model.specs.declared.cell.Cell.{Cell}
use Rattle.ans_model.specs.declared.fault.Fault.{Fault}
use Rattle.ans_model.specs.declared.start.Start.{Start}
use Rattle.ans_model.specs.Bytes.{IsByte}
use Rattle.ans_model.specs.File.Layout.{FileParts, content}
use Rattle.ans_model.specs.File.Record.{number, field, title_field, comment_count, trimmed, is_non_blink}
use Rattle.ans_model.specs.Screen.State.{IsByteCell}
use Rattle.ans_model.specs.Sequence.TokenKind.{TokenKind, PrintsByte, Wrap}
use Rattle.ans_model.specs.Text.RecordText.{comment_lines, record_text}
use Rattle.ans_model.specs.Text.ReportText.{Heading, Passed, rows_of, picture_line, cell_digits, cells_line}
use Rattle.ans_model.specs.Text.ReportText.{report_text}
use Rattle.ans_model.specs.Text.TokensText.{token_name, token_lines, fault_end, TokensText}
use Rattle.ans_model.specs.Verdict.Good.{Picture}
use Rattle.ans_model.proofs.Reading.{reads_bytes}
use Rattle.ans_options.specs.declared.command.Command.{Command}
use Rattle.ans_options.specs.declared.command.Command.TheVariants.{Why, Check, Show, Sauce, Tokens}
use Rattle.ans_options.specs.declared.command.Form.{Form}
use Rattle.ans_options.specs.declared.command.Form.TheVariants.{Terminal, Vga, Page}
use Rattle.ans_options.specs.declared.command.Options.{Options}
use Rattle.ans_report.specs.Message.{message_line}
use Rattle.ans_check.specs.CommandText.{Reports, ReportsBy, ReportsCheck, ReportsNeeds}
use Rattle.ans_report.specs.RecordReports.{ReportsRecordFault}
use Rattle.ans_check.specs.CommandText.{ReportsShow, ReportsTokens, heading}
use Rattle.ans_report.specs.RecordReports.{ReportsSauce}
use Rattle.ans_check.specs.Ending.{ending_message}
use Rattle.ans_check.specs.declared.errors.RunError.{RunError}
use Rattle.ans_check.specs.declared.errors.RunError.TheVariants as error
use Rattle.ans_options.specs.Mistakes.{mistake_text}
use Rattle.ans_options.specs.declared.mistakes.Mistake.{Mistake}
use Rattle.ans_options.specs.declared.mistakes.Mistake.TheVariants as mistake
use Rattle.ans_save.specs.Reasons as save
use Rattle.ans_save.specs.declared.save_error.SaveError.{SaveError}
use Rattle.ans_save.specs.declared.save_error.SaveError.TheVariants as saving
use Rattle.ans_check.specs.declared.exit_status.Ending.{Ending}
use Rattle.ans_check.specs.declared.exit_status.Ending.TheVariants as ended
use Rattle.ans_check.specs.declared.exit_status.Ending.TheVariants.{Run, UnreadableWords, UnopenedFile}
use Rattle.ans_check.specs.Run.{run_error_text}
use Rattle.ans_table.specs.Unopened as unopened
use Rattle.ans_table.specs.declared.unopened.Unopened.TheVariants.{Missing, Folder}
use Rattle.ans_check_laws.specs.CleanTexts.{IsCleanText, IsColouredText, is_for_terminal}
use Rattle.ans_check_laws.proofs.CleanLines.{OfBytes, clean_lines, parts_are_bytes}
use Rattle.ans_check_laws.proofs.CleanTold.{told_clean}
use Rattle.ans_check_laws.proofs.CleanPictures.{coloured_where_clean, page_clean, terminal_coloured}
use Rattle.ans_check_laws.proofs.CleanPieces.{clean_option, AreBytes, bytes_drop, bytes_take, clean_append, clean_nil}
use Rattle.ans_check_laws.proofs.CleanPieces.{clean_pieces, of_each, of_rows, plain_text}

-- ---- pictures

picture_line_clean : (row : List Cell) → All IsByteCell row → IsCleanText (picture_line row)
picture_line_clean row h =
    let of_bytes : AreBytes (map (λ c. c.byte) row) = record {
      each = All-map IsByte (λ (c : Cell). c.byte) row
          (All-weaker IsByteCell (λ c. IsByte c.byte) (λ c both. both.0) row h);
    } in
    search clean_pieces

digits_clean : (c : Cell) → IsByteCell c → IsCleanText (cell_digits c)
digits_clean c (byte, attribute) = search clean_pieces

cells_line_clean : (row : List Cell) → All IsByteCell row → IsCleanText (cells_line row)
cells_line_clean row h =
    let digits = of_each IsCleanText clean_nil clean_append IsByteCell cell_digits row h digits_clean in
    search clean_pieces

-- a line for each row
rows_clean : (line : List Cell → List ℕ) → ((row : List Cell) → All IsByteCell row → IsCleanText (line row))
    → (picture : Picture) → All IsByteCell picture.cells → IsCleanText (flat_map line (rows_of picture))
rows_clean line each picture h =
    of_rows IsCleanText clean_nil clean_append line each picture.size.width picture.size.lines picture.cells h

pass_clean : (heading : Heading) (picture : Picture) (with_cells : Bool) → All IsByteCell picture.cells
    → IsCleanText (report_text heading (Passed picture with_cells))
pass_clean heading picture with_cells h =
    let lines = rows_clean picture_line picture_line_clean picture h in
    let cells = rows_clean cells_line cells_line_clean picture h in
    search clean_lines depth 20

-- ---- records

comment_lines_clean : (i n : ℕ) (bytes : List ℕ) → AreBytes bytes → IsCleanText (comment_lines i n bytes)
comment_lines_clean i zero bytes h = clean_nil
comment_lines_clean i (suc n) bytes h =
    let more = comment_lines_clean (i + 1) n bytes h in
    search clean_lines depth 20

-- a number of one byte is a byte
one_byte : (bytes : List ℕ) → length bytes ≤ 1 → All IsByte bytes → IsByte (number bytes)
one_byte [] l h = omega arith
one_byte (b ∷ []) l h = omega (arith, All-head IsByte b [] h)
one_byte (a ∷ b ∷ bytes) l h = absurd (omega (arith, l))

record_clean : (apart : FileParts) → OfBytes apart → IsCleanText (record_text apart)
record_clean apart h =
    let sauce = apart.record_bytes in
    let bytes : AreBytes sauce = h.sauce in
    let flagged = one_byte (field 105 1 sauce) (omega (arith, length-take 1 (drop 105 sauce)))
    (bytes_take 1 (drop 105 sauce) (bytes_drop 105 sauce bytes)).each in
    let comments = comment_lines_clean 0 (comment_count sauce) apart.comment_bytes h.comments in
    search clean_lines depth 40

-- ---- tokens

token_name_clean : (token : TokenKind) → PrintsByte token → IsCleanText (token_name token)
token_name_clean (Wrap true) h = search clean_pieces
token_name_clean (Wrap false) h = search clean_pieces
token_name_clean token h = search clean_pieces depth 20

token_lines_clean : (start : ℕ) (tokens : List TokenKind) (texts : List (List ℕ)) → All PrintsByte tokens
    → IsCleanText (token_lines start tokens texts)
token_lines_clean start [] texts h = clean_nil
token_lines_clean start (t ∷ tokens) [] h = clean_nil
token_lines_clean start (t ∷ tokens) (text ∷ texts) h =
    let name = token_name_clean t (All-head PrintsByte t tokens h) in
    let more = token_lines_clean (start + length text) tokens texts (All-tail PrintsByte t tokens h) in
    search clean_pieces depth 20

tokens_clean : (bytes : List ℕ) (fault : Option Fault) (text : List ℕ) → TokensText bytes fault text → IsCleanText text
tokens_clean bytes fault text h =
    let lines = token_lines_clean 0 h.tokens h.texts (reads_bytes h.front h.tokens (h.texts, h.reads)) in
    rw h.text_is (search (clean_option fault_end, clean_lines) depth 20)

-- ---- each command

record_fault_clean : (file text : List ℕ) → ReportsRecordFault file text → IsCleanText text
record_fault_clean file text h = rw h.text_is (search clean_lines depth 20)

check_clean : (file : List ℕ) (start : Start) (cells passed : Bool) (text : List ℕ)
    → ReportsCheck file start cells passed text → IsCleanText text
check_clean file start cells true text h =
    rw h.text_is (pass_clean (heading h.apart (Some start)) h.picture cells h.passes.good.shows.is_picture.bytes)
check_clean file start cells false text (not_good, inl h) = rw h.text_is (search clean_lines depth 20)
check_clean file start cells false text (not_good, inr h) = record_fault_clean file text h

sauce_clean : (file : List ℕ) (passed : Bool) (text : List ℕ) → AreBytes file → ReportsSauce file passed text
    → IsCleanText text
sauce_clean file true text bytes h =
    rw h.text_is (record_clean h.apart (parts_are_bytes file h.apart h.accepts bytes))
sauce_clean file false text bytes h = record_fault_clean file text h

tokens_report_clean : (file : List ℕ) (passed : Bool) (text : List ℕ) → ReportsTokens file passed text
    → IsCleanText text
tokens_report_clean file true text h = tokens_clean (content h.apart.body) None text h.text_is
tokens_report_clean file false text (inl (fault, h)) = tokens_clean (content h.apart.body) (Some fault) text h.text_is
tokens_report_clean file false text (inr h) = record_fault_clean file text h

needs_clean : (file : List ℕ) (passed : Bool) (text : List ℕ) → ReportsNeeds file passed text → IsCleanText text
needs_clean file true text h = rw h.text_is (search clean_lines depth 20)
needs_clean file false text (not_good, inl h) = rw h.text_is (search clean_lines depth 20)
needs_clean file false text (not_good, inr h) = record_fault_clean file text h

-- a picture as a page, and any refusal
show_clean : (file : List ℕ) (start : Start) (form : Form) (passed : Bool) (text : List ℕ) → AreBytes file
    → ReportsShow file start form passed text → (is_for_terminal (Show form) && passed) ≡ false → IsCleanText text
show_clean file start Page true text bytes h other =
    let sauce = (parts_are_bytes file h.apart h.passes.accepts bytes).sauce in
    rw h.text_is (page_clean (is_non_blink h.apart.record_bytes) (trimmed (title_field h.apart.record_bytes)) h.picture
    (search clean_pieces) h.passes.good.shows.is_picture.bytes)
show_clean file start Terminal true text bytes h other = cc
show_clean file start Vga true text bytes h other = cc
show_clean file start form false text bytes h other = check_clean file start false false text h

-- any picture, and any refusal
show_coloured : (file : List ℕ) (start : Start) (form : Form) (passed : Bool) (text : List ℕ) → AreBytes file
    → ReportsShow file start form passed text → IsColouredText text
show_coloured file start Terminal true text bytes h =
    rw h.text_is (terminal_coloured false (is_non_blink h.apart.record_bytes) h.picture
    h.passes.good.shows.is_picture.bytes)
show_coloured file start Vga true text bytes h =
    rw h.text_is (terminal_coloured true (is_non_blink h.apart.record_bytes) h.picture
    h.passes.good.shows.is_picture.bytes)
show_coloured file start form passed text bytes h =
    coloured_where_clean text (show_clean file start form passed text bytes h refl)

clean_by : (command : Command) (start : Start) (cells : Bool) (file text : List ℕ) (passed : Bool) → AreBytes file
    → ReportsBy command start cells file passed text → (is_for_terminal command && passed) ≡ false → IsCleanText text
clean_by Why start cells file text passed bytes h other =
    rw h.told.text_is (told_clean [] clean_nil file h.said h.told.fix bytes h.told.is_true)
clean_by Check start cells file text passed bytes h other = check_clean file start cells passed text h
clean_by (Show form) start cells file text passed bytes h other = show_clean file start form passed text bytes h other
clean_by Sauce start cells file text passed bytes h other = sauce_clean file passed text bytes h
clean_by Tokens start cells file text passed bytes h other = tokens_report_clean file passed text h
clean_by command start cells file text passed bytes h other = needs_clean file passed text h

pub reports_clean : (options : Options) (file text : List ℕ) (passed : Bool) → All IsByte file
    → Reports options file passed text → (is_for_terminal options.command && passed) ≡ false → IsCleanText text
reports_clean options file text passed bytes h other =
    clean_by options.command options.start options.cells file text passed (record { each = bytes }) h other

coloured_by : (command : Command) (start : Start) (cells : Bool) (file text : List ℕ) (passed : Bool) → AreBytes file
    → ReportsBy command start cells file passed text → IsColouredText text
coloured_by (Show form) start cells file text passed bytes h = show_coloured file start form passed text bytes h
coloured_by command start cells file text passed bytes h =
    coloured_where_clean text (clean_by command start cells file text passed bytes h refl)

pub reports_coloured : (options : Options) (file text : List ℕ) (passed : Bool) → All IsByte file
    → Reports options file passed text → IsColouredText text
reports_coloured options file text passed bytes h =
    coloured_by options.command options.start options.cells file text passed (record { each = bytes }) h

-- ---- what is said where there is no answer

error_text_clean : (e : RunError) → IsCleanText (run_error_text e)
error_text_clean error.Read = plain_text (run_error_text error.Read) refl
error_text_clean e = plain_text (run_error_text e) refl

mistake_clean : (m : Mistake) → IsCleanText (mistake_text m)
mistake_clean mistake.SuggestedWithChanges = plain_text (mistake_text mistake.SuggestedWithChanges) refl
mistake_clean mistake.OutputWithInPlace = plain_text (mistake_text mistake.OutputWithInPlace) refl
mistake_clean mistake.EmptyOutput = plain_text (mistake_text mistake.EmptyOutput) refl
mistake_clean mistake.InPlaceOfInput = plain_text (mistake_text mistake.InPlaceOfInput) refl
mistake_clean mistake.InputAmong = plain_text (mistake_text mistake.InputAmong) refl
mistake_clean mistake.FolderOfInput = plain_text (mistake_text mistake.FolderOfInput) refl
mistake_clean mistake.SeveralToOne = plain_text (mistake_text mistake.SeveralToOne) refl
mistake_clean mistake.SeveralToOutput = plain_text (mistake_text mistake.SeveralToOutput) refl

pub save_error_clean : (e : SaveError) → IsCleanText (save.error_text e)
save_error_clean saving.NoName = plain_text (save.error_text saving.NoName) refl
save_error_clean (saving.Unopened why) = plain_text (codes "cannot open the file") refl
save_error_clean saving.IsInput = plain_text (save.error_text saving.IsInput) refl
save_error_clean saving.WrittenBefore = plain_text (save.error_text saving.WrittenBefore) refl
save_error_clean saving.NotWritable = plain_text (save.error_text saving.NotWritable) refl
save_error_clean (saving.Unwritten why) = plain_text (codes "cannot write the file") refl
save_error_clean saving.Memory = plain_text (save.error_text saving.Memory) refl

pub message_clean : (ending : Ending) → IfSome (ending_message ending) IsCleanText
message_clean (Run (Ok passed)) = tt
message_clean (Run (Err error)) = error_text_clean error
message_clean UnreadableWords = plain_text (codes "cannot read the command line") refl
message_clean (UnopenedFile Missing) = plain_text (unopened.plain_text Missing) refl
message_clean (UnopenedFile Folder) = plain_text (unopened.plain_text Folder) refl
message_clean (UnopenedFile reason) = plain_text (unopened.plain_text reason) refl
message_clean ended.NamedInput =
    plain_text (codes "table takes no '-': without FILE it reads file names from standard input") refl
message_clean ended.InputAmong =
    plain_text (codes "'-' is standard input, and cannot be one of several files") refl
message_clean ended.MayPassCleared =
    plain_text (codes "it may pass on a cleared screen: see anscheck why") refl
message_clean ended.UnreadNames = plain_text (codes "cannot read the names") refl
message_clean (ended.Mistaken m) = mistake_clean m
message_clean ended.ToTerminal =
    plain_text (codes "standard output is a terminal: give -o FILE, or pipe it") refl
message_clean (ended.Unsaved e) = save_error_clean e
message_clean ending = tt

pub messages_clean : (ending : Ending) (text : List ℕ) → ending_message ending ≡ Some text
    → IsCleanText (message_line text)
messages_clean ending text e =
    let clean : IsCleanText text = subst (λ (o : Option (List ℕ)). IfSome o IsCleanText) e (message_clean ending) in
    search clean_pieces
