-- The table of many files.
use Rattle.std.specs.Prelude.{◌≡◌, ◌⊎◌, ℕ, Bool, true, false, List, [], Option, None, Result, Ok, Err, option_map}
use Rattle.std.specs.Prelude.{vec_items}
use Rattle.ans_model.specs.Text.FaultText.{line_of}
use Rattle.std.specs.declared.io.ErrorKind.{ErrorKind}
use Rattle.clap.specs.Words.{Text}
use Rattle.ans_options.specs.declared.command.TableForm.{TableForm}
use Rattle.ans_options.specs.declared.command.TableForm.TheVariants.{Headed, Bare, Json}
use Rattle.ans_table.specs.declared.counts.Counts.{Counts}
use Rattle.ans_table.specs.declared.counts.Outcome.{Outcome}
use Rattle.ans_table.specs.declared.finding.Unread.TheVariants as why
use Rattle.ans_table.specs.declared.finding.Unread.{Unread}
use Rattle.ans_table.specs.Findings.{Finding, IsFindingOf, outcome_of}
use Rattle.ans_table.specs.JsonRow.{json_text}
use Rattle.ans_table.specs.RowText.{header_line, pictured_header_line, pictured_row_line, row_line}
use Rattle.ans_write.specs.declared.tried.Tried.{Tried}
use Rattle.ans_check.specs.FileRows.{Given, MayEndRows, TellsNamed, WritesRows}
use Rattle.ans_check.specs.Further.{IsFixIn, IsSumIn}
use Rattle.ans_check.specs.Listing.{WritesListed}
use Rattle.ans_check.specs.declared.errors.RunError.{RunError}
use Rattle.ans_check.specs.declared.listing.Listed.{Listed}
use Rattle.ans_check.specs.declared.rows.Row.{Row}
use Rattle.ans_options.specs.declared.command.TableChoice.{TableChoice}

-- the flags of a row, with a blank between them
abbrev pub fix_of : Row → Option (List ℕ)
fix_of row = option_map vec_items row.fix

-- the digits of a row's checksum
abbrev pub digits_of : Row → Option (List ℕ)
digits_of row = row.digits

-- the row of a file that was not read
abbrev pub unread_row : Unread → Row
unread_row reason = record { finding = Err reason; fix = None; digits = None }

-- what a row says of a file that was read, if there was memory for it
pub record IsRowOf (choice : TableChoice) (file : List ℕ) (row : Row) : Type 0 where
  pub found : Finding
  pub finding_is : row.finding ≡ Ok found
  pub finding : IsFindingOf file found
  pub fix : IsFixIn choice.form file found (fix_of row)
  pub digits : IsSumIn choice.pictures file (digits_of row)

-- what a row says of a file, of which this was read
abbrev pub IsRowFor : TableChoice → Given → Row → Type 0
IsRowFor choice (Ok file) row = IsRowOf choice file row ⊎ (row ≡ unread_row why.Memory)
IsRowFor choice (Err reason) row = row ≡ unread_row reason

-- What may end such a table: a failed write, or want of memory for the text of a JSON object.
abbrev pub MayEndTable : TableChoice → RunError → Type 0
MayEndTable choice = MayEndRows (choice.form ≡ Json)

-- a row of columns, with a last one for the checksum if that is asked for
abbrev pub columns_text : Bool → Text → Row → List ℕ
columns_text true name row = pictured_row_line name row.finding (digits_of row)
columns_text false name row = row_line name row.finding

-- a row in a form: columns, or a JSON object
abbrev pub row_in : TableForm → Bool → Text → Row → List ℕ
row_in Headed pictures name row = columns_text pictures name row
row_in Bare pictures name row = columns_text pictures name row
row_in Json pictures name row = line_of (json_text name row.finding (fix_of row) (digits_of row))

-- the line of the columns' names, with that of the checksums if they are asked for
abbrev pub names_line : Bool → List ℕ
names_line true = pictured_header_line
names_line false = header_line

-- the same if the form asks for it
abbrev pub header : TableForm → Bool → List ℕ
header Headed pictures = names_line pictures
header Bare pictures = []
header Json pictures = []

-- the outcome and the text are those of what the row says of the file
pub record TellsRow (choice : TableChoice) (name : Text) (given : Given) (outcome : Outcome) (text : List ℕ)
    : Type 0 where
  pub row : Row
  pub is_row : IsRowFor choice given row
  pub outcome_is : outcome ≡ outcome_of row.finding
  pub text_is : text ≡ row_in choice.form choice.pictures name row

-- The table of these files was written, or a prefix of it.
abbrev pub WritesTable : {R W : Type 0} → (W → Option (List ℕ)) → (R → Option (List ℕ)) → (Text → R → Type 0)
    → (Text → ErrorKind → Type 0) → TableChoice → List Text → Tried W → Tried W → Result Counts RunError → Type 0
WritesTable contents remaining is_file fails choice names output output_after result =
    WritesRows contents (TellsNamed remaining is_file fails (TellsRow choice)) (header choice.form choice.pictures) names
    output output_after result

-- the same of the files whose names an input gives
abbrev pub WritesListedTable : {R W : Type 0} → (W → Option (List ℕ)) → (R → Option (List ℕ)) → (Text → R → Type 0)
    → (Text → ErrorKind → Type 0) → TableChoice → Tried R → Tried R → Tried W → Tried W → Result Listed RunError
    → Type 0
WritesListedTable contents remaining is_file fails choice reader reader_after output output_after result =
    WritesListed contents remaining (TellsNamed remaining is_file fails (TellsRow choice))
    (header choice.form choice.pictures) reader reader_after output output_after result
