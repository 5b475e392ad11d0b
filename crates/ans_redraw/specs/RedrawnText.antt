-- What redrawing says: what was changed, or why there is none.
use Rattle.std.specs.Prelude.{ℕ, List, ◌++◌, codes, decimal}
use Rattle.ans_model.specs.Text.FaultText.{fault_line}
use Rattle.ans_report.specs.Changes.{end_mark_line, reset_line}
use Rattle.ans_sauce.specs.declared.writing.Reset.{Reset}
use Rattle.ans_redraw.specs.declared.outcome.Redrawn.{Redrawn}
use Rattle.ans_redraw.specs.declared.outcome.Unredrawn.{Unredrawn}
use Rattle.ans_redraw.specs.declared.outcome.Unredrawn.TheVariants as unredrawn

-- how long the content is and was; printed even if both are as long, since its bytes may differ
abbrev pub length_line : Reset → List ℕ
length_line length =
    codes "content length " ++ (decimal length.is ++ (codes ", was " ++ (decimal length.was ++ codes "\n")))

-- what was changed, in its order in the file
abbrev pub redrawn_text : Redrawn → List ℕ
redrawn_text redrawn =
    length_line redrawn.content
    ++ (end_mark_line redrawn.end_mark ++ reset_line (codes "file size ") redrawn.file_size)

-- the line of the fault, or how long the file would be; and what may help
abbrev pub unredrawn_text : Unredrawn → List ℕ
unredrawn_text (unredrawn.Refused fault) =
    fault_line fault ++ codes "see anscheck why; fix the drawing with mend, then redraw it\n"
unredrawn_text (unredrawn.TooLong whole) =
    codes "the redrawn file would have " ++ (decimal whole
    ++ codes " bytes, and the limit is 16777216\nfewer cells, end marks or changes of colour make it shorter\n")
