-- Line feeds that go straight down, since no return comes before them.
use Rattle.std.specs.Prelude.{◌≡◌, ℕ, ◌+◌, Bool, true, false, not, ◌&&◌, ◌||◌, ◌==◌, List, [], ◌∷◌, ◌++◌, if◌then◌else◌}
use Rattle.std.specs.Prelude.{Option, None, Some}
use Rattle.std.specs.Prelude.{is_some, MatchOption}
use Rattle.std.specs.List.{count_by, list_any}
use Rattle.ans_model.specs.File.Refusals.{has_record}
use Rattle.ans_pens.specs.declared.times.Times.{Times}
use Rattle.ans_sauce.specs.Contents.{content_in, with_content}

abbrev pub is_line_feed : ℕ → Bool
is_line_feed b = b == 0x0A

abbrev pub is_return : ℕ → Bool
is_return b = b == 0x0D

-- the byte is a line feed, and the one before it is no return
abbrev pub needs_return : ℕ → ℕ → Bool
needs_return last b = is_line_feed b && not (is_return last)

-- a byte, and a return before it if it needs one after this byte
abbrev pub byte_returned : ℕ → ℕ → List ℕ
byte_returned last b = if needs_return last b then 0x0D ∷ b ∷ [] else b ∷ []

-- bytes after this one, with a return before each line feed that needs one
abbrev pub with_returns : ℕ → List ℕ → List ℕ
with_returns last [] = []
with_returns last (b ∷ bytes) = byte_returned last b ++ with_returns b bytes

-- how many line feeds there are
abbrev pub line_feeds : List ℕ → ℕ
line_feeds bytes = count_by is_line_feed bytes

-- how many of them need a return, in bytes after this one
abbrev pub bare_feeds : ℕ → List ℕ → ℕ
bare_feeds last [] = 0
bare_feeds last (b ∷ bytes) = (if needs_return last b then 1 else 0) + bare_feeds b bytes

-- the place of the first of them, where the first byte is at this offset
abbrev pub first_bare : ℕ → ℕ → List ℕ → Option ℕ
first_bare last offset [] = None
first_bare last offset (b ∷ bytes) = if needs_return last b then Some offset else first_bare b (offset + 1) bytes

-- some line feed needs a return, and there is no return, or some have one and that is to be mended too
abbrev pub wants_returns : Bool → List ℕ → Bool
wants_returns mixed bytes = (mixed || not (list_any is_return bytes)) && is_some (first_bare 0 0 bytes)

-- how many returns are put, and before which byte the first one is, where they are wanted
abbrev pub AreReturns : Bool → List ℕ → Option Times → Type 0
AreReturns mixed bytes times = MatchOption times (wants_returns mixed bytes ≡ false)
    (λ t. (wants_returns mixed bytes ≡ true) × (t.count ≡ bare_feeds 0 bytes) × (first_bare 0 0 bytes ≡ Some t.first))

-- the file with a return before each line feed of its content that needs one, if they are wanted
abbrev pub with_line_ends : Bool → List ℕ → List ℕ
with_line_ends mixed file = if has_record file && wants_returns mixed (content_in file)
    then with_content (with_returns 0 (content_in file)) file else file

-- what was put into the file
abbrev pub ArePut : Bool → List ℕ → Option Times → Type 0
ArePut mixed file times =
    MatchOption times (with_line_ends mixed file ≡ file) (λ t. AreReturns mixed (content_in file) (Some t))
