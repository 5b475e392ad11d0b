-- What a record shows.
use Rattle.std.specs.Prelude.{List, ℕ}
use Rattle.ans_sauce.specs.declared.«record».Record.{Record}

-- the 128 bytes of the record
abbrev pub sauce_bytes : Record → List ℕ
sauce_bytes sauce = sauce.bytes.now
