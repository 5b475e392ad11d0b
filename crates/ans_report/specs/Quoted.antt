-- Bytes of a file as a text quotes them.
use Rattle.std.specs.Prelude.{ℕ, ◌==◌, nat_lt, List, [], ◌∷◌, ◌++◌, length, take, codes, if◌then◌else◌}
use Rattle.std.specs.List.{flat_map}
use Rattle.ans_model.specs.Text.Characters.{shown_bytes}

-- a control byte of ANSI.SYS and a blank by their names, 00h by its number, and another byte by its character
abbrev pub quoted_byte : ℕ → List ℕ
quoted_byte byte =
    if byte == 0x00 then codes "<00>"
    else if byte == 0x07 then codes "<BEL>"
    else if byte == 0x08 then codes "<BS>"
    else if byte == 0x09 then codes "<TAB>"
    else if byte == 0x0A then codes "<LF>"
    else if byte == 0x0D then codes "<CR>"
    else if byte == 0x1B then codes "<ESC>"
    else if byte == 0x20 then codes "<SP>"
    else shown_bytes (byte ∷ [])

-- at most 32 bytes
abbrev pub quoted : List ℕ → List ℕ
quoted bytes = flat_map quoted_byte (take 32 bytes) ++ (if nat_lt 32 (length bytes) then codes " .." else [])
