-- What is said of words that contradict themselves.
use Rattle.std.specs.Prelude.{List, codes, ℕ}
use Rattle.ans_options.specs.declared.mistakes.Mistake.{Mistake}
use Rattle.ans_options.specs.declared.mistakes.Mistake.TheVariants as mistake

-- what is said of a mistake, after `anscheck: `
abbrev pub mistake_text : Mistake → List ℕ
mistake_text mistake.SuggestedWithChanges = codes "mend --suggested takes no flag that asks for a change"
mistake_text mistake.OutputWithInPlace = codes "-o and -i contradict each other: give one of them"
mistake_text mistake.EmptyOutput = codes "-o needs the name of a file, or of a folder and a slash"
mistake_text mistake.InPlaceOfInput = codes "-i needs a FILE: standard input cannot be written over"
mistake_text mistake.InputAmong = codes "'-' is standard input, and cannot be one of several files"
mistake_text mistake.FolderOfInput = codes "-o FOLDER/ needs a FILE: standard input has no name to write under"
mistake_text mistake.SeveralToOne = codes "-o of several files needs a folder, whose name ends in a slash"
mistake_text mistake.SeveralToOutput =
    codes "several files need -o FOLDER/, -i or -n"
