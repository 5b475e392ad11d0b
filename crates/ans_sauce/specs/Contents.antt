-- The content of a file with a record, and the file with another one.
use Rattle.std.specs.Prelude.{ℕ, List, ◌++◌, length, drop}
use Rattle.ans_model.specs.File.Layout.{content}
use Rattle.ans_sauce.specs.Found.{body_in}

-- what comes before the first end mark of the body
abbrev pub content_in : List ℕ → List ℕ
content_in file = content (body_in file)

-- the file with these bytes in the place of its content
abbrev pub with_content : List ℕ → List ℕ → List ℕ
with_content bytes file = bytes ++ drop (length (content_in file)) file
