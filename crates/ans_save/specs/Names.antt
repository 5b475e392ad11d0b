-- The parts of a file's name, and the names that are made of them.
use Rattle.std.specs.Prelude.{ℕ, List, [], ◌∷◌, ◌++◌, Option, Some, None, codes, decimal}
use Rattle.std.specs.Path.{slash, dot, rsplit_once}

-- the bytes of a name
abbrev pub Name : Type 0
Name = List ℕ

-- what is before the last slash, and that slash; nothing if there is no slash
abbrev pub front_of_split : Option (Name × Name) → Name
front_of_split None = []
front_of_split (Some split) = split.0 ++ slash ∷ []

-- the folder that a name begins with, and its slash
abbrev pub folder_of : Name → Name
folder_of name = front_of_split (rsplit_once slash name)

-- what is after the last slash, or all of the name
abbrev pub last_of_split : Name → Option (Name × Name) → Name
last_of_split name None = name
last_of_split name (Some split) = split.1

-- the last component of a name
abbrev pub last_component : Name → Name
last_component name = last_of_split name (rsplit_once slash name)

-- the name of an input in a folder, which ends in a slash
abbrev pub name_in : Name → Name → Name
name_in folder input = folder ++ last_component input

-- `-fixed` before the last dot, or at the end
abbrev pub fixed_at_split : Name → Option (Name × Name) → Name
fixed_at_split last None = last ++ codes "-fixed"
fixed_at_split last (Some split) = split.0 ++ (codes "-fixed." ++ split.1)

-- the name with `-fixed` before the last dot of its last component, or at the end
abbrev pub fixed_name : Name → Name
fixed_name name = let last = last_component name in folder_of name ++ fixed_at_split last (rsplit_once dot last)

-- the names that a file beside a target may have: in the same folder, by number
abbrev pub beside_name : Name → ℕ → Name
beside_name target number = folder_of target ++ (codes ".anscheck-" ++ decimal number)
