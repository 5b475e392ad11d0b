-- The paths of what is in a folder, and which files are taken by their names.
use Rattle.std.specs.Prelude.{ℕ, ◌-◌, Bool, true, false, List, ◌++◌, nat_eq, length, drop, codes, if◌then◌else◌, map}
use Rattle.std.specs.Prelude.{string_bytes}
use Rattle.std.specs.List.{ends_with}
use Rattle.std.specs.Char.{to_ascii_lowercase}
use Rattle.std.specs.Str.{bytes_eq}
use Rattle.ans_folders.specs.declared.entry.Entry.{Entry}
use Rattle.ans_folders.specs.declared.entry.Kind.{Kind}
use Rattle.ans_folders.specs.declared.entry.Kind.TheVariants as kind
use Rattle.ans_folders.specs.declared.entry.Unread.TheVariants.{NameNotText}
use Rattle.ans_folders.specs.declared.taken.Taken.{Taken}
use Rattle.ans_folders.specs.declared.taken.Taken.TheVariants.{Drawings, Every}

-- the bytes of a name or a path
abbrev pub Text : Type 0
Text = List ℕ

-- the path of what has this name in the folder of this path
abbrev pub path_in : Text → Text → Text
path_in folder name = folder ++ (if ends_with nat_eq folder (codes "/") then name else (codes "/" ++ name))

-- ---- places

abbrev pub is_folder : Kind → Bool
is_folder kind.Folder = true
is_folder _ = false

-- a path, and what is there
pub record Place : Type 0 where
  pub path : Text
  pub kind : Kind

-- the path of an entry, or that of its folder if the entry's name is not known
abbrev pub entry_path : Text → Text → Kind → Text
entry_path folder name (kind.Unread NameNotText) = folder
entry_path folder name _ = path_in folder name

-- the place of an entry of the folder of this path
abbrev pub place_in : Text → Entry → Place
place_in folder entry = record { path = entry_path folder (string_bytes entry.name) entry.kind; kind = entry.kind }

-- ---- names

-- whether the name ends in `.ans`, in capitals or not
abbrev pub is_drawing : Text → Bool
is_drawing name = bytes_eq (map to_ascii_lowercase (drop (length name - 4) name)) (codes ".ans")

-- whether a file of this name is taken
abbrev pub is_taken : Taken → Text → Bool
is_taken Drawings name = is_drawing name
is_taken Every name = true
