-- Fields of a record that are set (SAUCE 00.5, record layout).
use Rattle.std.specs.Prelude.{ℕ, ◌+◌, ◌-◌, ◌/◌, ◌%◌, Bool, List, [], ◌∷◌, ◌++◌, if◌then◌else◌, length, take, drop}
use Rattle.ans_model.specs.File.Layout.{FileParts, file_parts}
use Rattle.ans_model.specs.File.Record.{flags}
use Rattle.ans_sauce.specs.Found.{front_in}

-- these bytes in the place of as many, from the offset on
abbrev pub overwritten : ℕ → List ℕ → List ℕ → List ℕ
overwritten offset bytes file = take offset file ++ (bytes ++ drop (offset + length bytes) file)

-- a number of two bytes, the least first
abbrev pub two_bytes : ℕ → List ℕ
two_bytes n = n % 256 ∷ n / 256 % 256 ∷ []

-- a number of four bytes, the least first
abbrev pub four_bytes : ℕ → List ℕ
four_bytes n = n % 256 ∷ n / 256 % 256 ∷ n / 65536 % 256 ∷ n / 16777216 % 256 ∷ []

-- FileSize
abbrev pub with_file_size : ℕ → List ℕ → List ℕ
with_file_size n record_bytes = overwritten 90 (four_bytes n) record_bytes

-- TInfo2, the number of lines
abbrev pub with_lines : ℕ → List ℕ → List ℕ
with_lines n record_bytes = overwritten 98 (two_bytes n) record_bytes

-- TFlags, with the non-blink flag, bit 0, set or cleared
abbrev pub with_non_blink : Bool → List ℕ → List ℕ
with_non_blink on record_bytes =
    overwritten 105 ((flags record_bytes - flags record_bytes % 2 + (if on then 1 else 0)) ∷ []) record_bytes

-- the file with another record
abbrev pub with_record : List ℕ → List ℕ → List ℕ
with_record record_bytes file = front_in file ++ record_bytes

-- the parts of a file with these bytes before its content, and with this FileSize
abbrev pub resized_parts : List ℕ → ℕ → FileParts → FileParts
resized_parts front n apart =
    file_parts (front ++ apart.body) apart.comment_bytes (with_file_size n apart.record_bytes)
