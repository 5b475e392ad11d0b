-- Texts that are shown as they are: a terminal that reads UTF-8 finds no control character in them but line feeds.
use Rattle.std.specs.Prelude.{◌≡◌, ◌⊎◌, ◌||◌, ◌&&◌, ◌==◌, ℕ, ◌<◌, ◌≤◌, nat_le, nat_lt, Bool, true, false, All}
use Rattle.std.specs.Prelude.{List, [], ◌∷◌, ◌++◌, flat_map, encode_utf8_all}
use Rattle.std.specs.List.{list_all}
use Rattle.std.specs.Str.{all_scalars}
use Rattle.ans_model.specs.Bytes.{escape, semicolon}
use Rattle.ans_options.specs.declared.command.Command.{Command}
use Rattle.ans_options.specs.declared.command.Command.TheVariants.{Show}
use Rattle.ans_options.specs.declared.command.Form.TheVariants.{Terminal, Vga}

-- Unicode's control characters: C0, DEL and C1
abbrev pub IsControl : ℕ → Type 0
IsControl c = (c < 0x20) ⊎ ((0x7F ≤ c) × (c < 0xA0))

-- the character is no control character, or is a line feed
abbrev pub IsCleanCharacter : ℕ → Type 0
IsCleanCharacter c = IsControl c → c ≡ 0x0A

-- The text is UTF-8, of clean characters.
pub record IsCleanText (text : List ℕ) : Type 0 where
  pub characters : List ℕ
  pub are_characters : all_scalars characters ≡ true
  pub spelled : encode_utf8_all characters ≡ text
  pub clean : All IsCleanCharacter characters

-- The text is UTF-8, and none of its characters is a control character, not even a line feed.
pub record HasNoControls (text : List ℕ) : Type 0 where
  pub characters : List ℕ
  pub are_characters : all_scalars characters ≡ true
  pub spelled : encode_utf8_all characters ≡ text
  pub none : All (λ c. ¬ IsControl c) characters

-- a byte of C0, or DEL
abbrev pub IsControlByte : ℕ → Type 0
IsControlByte b = (b < 0x20) ⊎ (b ≡ 0x7F)

-- The byte is neither of C0 nor DEL, or is a line feed. A terminal that reads UTF-8 takes no other byte for a command,
-- since UTF-8 spells C1 in two bytes. One that reads each byte by itself, in eight bits, takes 80h to 9Fh for C1 too,
-- where 9Bh is CSI; these bytes do occur in a clean text, as parts of its characters.
abbrev pub IsCleanByte : ℕ → Type 0
IsCleanByte b = IsControlByte b → b ≡ 0x0A

-- The text is one line: of its bytes before the line feed that ends it none is of C0 or DEL.
pub record IsOneLine (text : List ℕ) : Type 0 where
  pub line : List ℕ
  pub whole : text ≡ line ++ 0x0A ∷ []
  pub none : All (λ b. ¬ IsControlByte b) line

-- whether a byte is a digit or a semicolon
abbrev pub is_parameter_byte : ℕ → Bool
is_parameter_byte b = (nat_le 0x30 b && nat_lt b 0x3A) || b == semicolon

-- The text is a sequence that sets colours: ESC, `[`, digits and semicolons, `m`.
pub record IsColourSequence (text : List ℕ) : Type 0 where
  pub parameters : List ℕ
  pub are_parameters : list_all is_parameter_byte parameters ≡ true
  pub whole : text ≡ escape ∷ 0x5B ∷ (parameters ++ 0x6D ∷ [])

-- The text is pieces, each of which is clean or a sequence that sets colours.
pub record IsColouredText (text : List ℕ) : Type 0 where
  pub pieces : List (List ℕ)
  pub whole : text ≡ flat_map (λ piece. piece) pieces
  pub each : All (λ piece. IsCleanText piece ⊎ IsColourSequence piece) pieces

-- whether the command writes pictures for a terminal, with sequences
abbrev pub is_for_terminal : Command → Bool
is_for_terminal (Show Terminal) = true
is_for_terminal (Show Vga) = true
is_for_terminal _ = false
