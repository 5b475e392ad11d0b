-- What is said of a file before its verdict or its needs.
use Rattle.std.specs.Prelude.{length, Option}
use Rattle.ans_model.specs.declared.start.Start.{Start}
use Rattle.ans_model.specs.Text.ReportText.{Heading}
use Rattle.ans_sauce.specs.declared.parts.Parts.{Parts}
use Rattle.ans_sauce.specs.Parts.{content_of, size_of, notes_of}

-- what is said of these parts, and the class of starts where one is named
abbrev pub heading_of : Parts → Option Start → Heading
heading_of parts start = record {
  size = size_of parts;
  start = start;
  content_length = length (content_of parts);
  notes = notes_of parts;
}
