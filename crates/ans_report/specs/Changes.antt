-- What was changed in a file that is written again.
use Rattle.std.specs.Prelude.{ℕ, ◌==◌, List, [], ◌++◌, codes, decimal, Option, None, Some, if◌then◌else◌}
use Rattle.ans_sauce.specs.declared.writing.Reset.{Reset}

-- a number of the record that was corrected: what it is and was
abbrev pub reset_line : List ℕ → Reset → List ℕ
reset_line what number =
    if number.was == number.is then []
    else what ++ (decimal number.is ++ (codes ", was " ++ (decimal number.was ++ codes "\n")))

-- the end mark that was added, and its offset
abbrev pub end_mark_line : Option ℕ → List ℕ
end_mark_line None = []
end_mark_line (Some at) = codes "added an end mark at " ++ (decimal at ++ codes "\n")
