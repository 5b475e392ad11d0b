-- The last words of a command that writes a fixed file.
use Rattle.std.specs.Prelude.{ℕ, List, [], ◌++◌, Option, None, Some, codes, string_bytes, if◌then◌else◌}
use Rattle.clap.specs.Words.{Text}
use Rattle.ans_save.specs.Names.{fixed_name}
use Rattle.ans_table.specs.ShellWord.{can_be_typed, shell_word}
use Rattle.ans_check.specs.declared.last_words.LastWords.{LastWords}
use Rattle.ans_check.specs.declared.last_words.LastWords.TheVariants as words

-- where the fixed file goes, and the file
abbrev pub names_words : Text → Text → List ℕ
names_words fixed file = codes " -o " ++ (shell_word fixed ++ (codes " " ++ shell_word file))

-- words for names that cannot be typed
abbrev pub stand_ins : List ℕ
stand_ins = codes " -o FIXED FILE"

-- the words for the file of this name; there are none for standard input
abbrev pub last_words : Option Text → List ℕ
last_words None = []
last_words (Some name) = if can_be_typed name then names_words (fixed_name name) name else stand_ins

-- what is put of them
abbrev pub words_text : LastWords → List ℕ
words_text words.Unnamed = []
words_text words.StandIns = stand_ins
words_text (words.Names fixed file) = names_words (string_bytes fixed) file.now
