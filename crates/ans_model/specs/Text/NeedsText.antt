-- The text of what a content needs.
use Rattle.std.specs.Prelude.{ℕ, List, ◌++◌, codes, ◌||◌, if◌then◌else◌}
use Rattle.ans_model.specs.declared.start.Start.{Start}
use Rattle.ans_model.specs.Text.FaultText.{line_of}
use Rattle.ans_model.specs.Text.ReportText.{Heading, heading_text}
use Rattle.ans_model.specs.Text.Words.{part_names, words_text}

-- the parts that have to be known, or that it is none
abbrev pub needed_parts : Start → List ℕ
needed_parts s =
    if s.screen || s.cursor || s.saved || s.colours || s.wrap then words_text (part_names s)
    else codes "nothing"

-- the content needs the parts that this class knows
abbrev pub needs_text : Heading → Start → List ℕ
needs_text h class = heading_text h ++ line_of (codes "needs: " ++ needed_parts class)
