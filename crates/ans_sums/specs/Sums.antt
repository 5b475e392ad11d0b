-- The checksum of a picture.
use Rattle.std.specs.Prelude.{ℕ, List, ◌++◌, codes}
use Rattle.ans_model.specs.Text.FaultText.{line_of}
use Rattle.ans_model.specs.Text.ReportText.{size_text}
use Rattle.ans_model.specs.Verdict.Good.{Picture}
use Rattle.ans_redraw.specs.Form.{form_bytes}
use Rattle.ans_sums.specs.declared.sum.Sum.{Sum}

-- `size: COLUMNS x LINES`, as the reports have it
abbrev pub size_line : Picture → List ℕ
size_line picture = line_of (codes "size: " ++ size_text picture.size)

-- what is summed: the size, and the redrawn content
abbrev pub summed_bytes : Picture → List ℕ
summed_bytes picture = size_line picture ++ form_bytes picture

-- the 32 bytes of a sum
abbrev pub sum_bytes : Sum → List ℕ
sum_bytes sum = sum.bytes
