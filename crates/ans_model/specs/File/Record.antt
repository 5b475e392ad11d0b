-- The fields of a SAUCE record (SAUCE 00.5, record layout).
use Rattle.std.specs.Prelude.{ℕ, ◌+◌, ◌-◌, ◌*◌, ◌/◌, ◌%◌, Bool, ◌||◌, ◌==◌, List, [], ◌∷◌, length, take, drop}
use Rattle.std.specs.Prelude.{if◌then◌else◌}
use Rattle.std.specs.List.{suffix_len}
use Rattle.ans_model.specs.Bytes.{blank}
use Rattle.ans_model.specs.Screen.State.{Size, sized}

-- a number of several bytes, the least first: the sum of the bytes times 1, 256, and so on
abbrev pub number : List ℕ → ℕ
number [] = 0
number (b ∷ bs) = b + 256 * number bs

-- the bytes of a field, by its offset in the record and its length
abbrev pub field : ℕ → ℕ → List ℕ → List ℕ
field offset size record_bytes = take size (drop offset record_bytes)

-- Version
abbrev pub version_field : List ℕ → List ℕ
version_field = field 5 2

-- Title
abbrev pub title_field : List ℕ → List ℕ
title_field = field 7 35

-- Author
abbrev pub author_field : List ℕ → List ℕ
author_field = field 42 20

-- Group
abbrev pub group_field : List ℕ → List ℕ
group_field = field 62 20

-- CCYYMMDD
abbrev pub date_field : List ℕ → List ℕ
date_field = field 82 8

-- FileSize
abbrev pub file_size : List ℕ → ℕ
file_size record_bytes = number (field 90 4 record_bytes)

-- DataType
abbrev pub data_type : List ℕ → ℕ
data_type record_bytes = number (field 94 1 record_bytes)

-- FileType
abbrev pub file_type : List ℕ → ℕ
file_type record_bytes = number (field 95 1 record_bytes)

-- TInfo1 to TInfo4
abbrev pub tinfo : ℕ → List ℕ → ℕ
tinfo i record_bytes = number (field (94 + 2 * i) 2 record_bytes)

-- Comments: how many lines the comment block has
abbrev pub comment_count : List ℕ → ℕ
comment_count record_bytes = number (field 104 1 record_bytes)

-- TFlags, for this type the ANSiFlags
abbrev pub flags : List ℕ → ℕ
flags record_bytes = number (field 105 1 record_bytes)

-- bit 0 of the flags, non-blink: bit 7 of an attribute is a bright background, and no blink
abbrev pub is_non_blink : List ℕ → Bool
is_non_blink record_bytes = flags record_bytes % 2 == 1

-- bits 1 and 2 of the flags, the letter spacing
abbrev pub letter_spacing : List ℕ → ℕ
letter_spacing record_bytes = flags record_bytes / 2 % 4

-- bits 3 and 4 of the flags, the aspect ratio
abbrev pub aspect_ratio : List ℕ → ℕ
aspect_ratio record_bytes = flags record_bytes / 8 % 4

-- TInfoS, for this type the font's name
abbrev pub font_field : List ℕ → List ℕ
font_field = field 106 22

-- Character/ANSi, TInfo1: the width. 0 stands for 80 (profile).
abbrev pub stated_width : List ℕ → ℕ
stated_width record_bytes = if tinfo 1 record_bytes == 0 then 80 else tinfo 1 record_bytes

-- Character/ANSi, TInfo2: the number of lines
abbrev pub stated_lines : List ℕ → ℕ
stated_lines record_bytes = tinfo 2 record_bytes

-- the stated size of the screen
abbrev pub stated_size : List ℕ → Size
stated_size record_bytes = sized (stated_width record_bytes) (stated_lines record_bytes)

-- what a text is filled up with: blanks and zero bytes
abbrev pub is_padding : ℕ → Bool
is_padding b = b == blank || b == 0x00

-- a text without its trailing blanks and zero bytes
abbrev pub trimmed : List ℕ → List ℕ
trimmed text = take (length text - suffix_len is_padding text) text

-- the i-th comment, counted from 0
abbrev pub comment : List ℕ → ℕ → List ℕ
comment comment_bytes i = trimmed (take 64 (drop (64 * i) comment_bytes))
