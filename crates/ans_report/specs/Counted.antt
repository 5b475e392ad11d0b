-- How many there are of a thing, and how often it comes.
use Rattle.std.specs.Prelude.{ℕ, ◌==◌, List, [], ◌++◌, codes, decimal, if◌then◌else◌}

-- that many of a thing, such as `1 byte` and `2 bytes`
abbrev pub counted_text : ℕ → List ℕ → List ℕ
counted_text count thing = decimal count ++ (codes " " ++ (thing ++ (if count == 1 then [] else codes "s")))

-- how many times, and where first
abbrev pub times_text : ℕ → ℕ → List ℕ
times_text count first =
    if count == 1 then codes "once, at " ++ decimal first
    else decimal count ++ (codes " times, first at " ++ decimal first)
