-- The lines on other widths.
use Rattle.std.specs.Prelude.{ℕ, ◌==◌, Bool, true, false, List, [], ◌++◌, codes, decimal, Option, None, Some}
use Rattle.std.specs.Prelude.{if◌then◌else◌}
use Rattle.std.specs.List.{flat_map}
use Rattle.ans_model.specs.Screen.State.{Size}
use Rattle.ans_hints.specs.declared.other_widths.OtherWidths.{OtherWidths}
use Rattle.ans_why.specs.HintsText.{hint_line}

abbrev pub lines_words : ℕ → List ℕ
lines_words lines =
    if lines == 1 then codes " stated line comes out: --columns " else codes " stated lines come out: --columns "

-- the stated lines come out with this width
abbrev pub fitting_line : ℕ → Option ℕ → List ℕ
fitting_line lines None = []
fitting_line lines (Some width) =
    hint_line (codes "with "
    ++ (decimal width ++ (codes " columns the " ++ (decimal lines ++ (lines_words lines ++ decimal width)))))

abbrev pub fitting_lines : ℕ → List (Option ℕ) → List ℕ
fitting_lines lines widths = flat_map (fitting_line lines) widths

-- the record of this size has columns and lines exchanged
abbrev pub exchanged_line : Size → Bool → List ℕ
exchanged_line z false = []
exchanged_line z true =
    hint_line (codes "columns and lines may be exchanged in the record: --columns "
    ++ (decimal z.lines ++ (codes " --lines " ++ decimal z.width)))

abbrev pub widths_lines : Size → OtherWidths → List ℕ
widths_lines z widths = fitting_lines z.lines widths.fitting ++ exchanged_line z widths.exchanged
