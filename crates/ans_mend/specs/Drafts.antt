-- A file that is changed in place.
use Rattle.std.specs.Prelude.{ℕ, ◌+◌, List, ◌∷◌, ◌++◌, length, take, drop}

-- a file, and how many bytes more there is room for
pub record DraftView : Type 0 where
  pub file : List ℕ
  pub room : ℕ

abbrev pub draft_of : List ℕ → ℕ → DraftView
draft_of file room = record { file = file; room = room }

-- how many bytes there are in all
abbrev pub memory_of : DraftView → ℕ
memory_of draft = length draft.file + draft.room

-- this byte at the offset, before what is there
abbrev pub with_byte : ℕ → ℕ → List ℕ → List ℕ
with_byte offset byte file = take offset file ++ byte ∷ drop offset file
