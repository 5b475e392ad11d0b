-- What a walk has still to visit.
use Rattle.std.specs.Prelude.{List, map, reverse, string_bytes}
use Rattle.ans_folders.specs.Paths.{Place}
use Rattle.ans_folders.specs.declared.walking.Pending.{Pending}

-- the place of what is still to be visited
abbrev pub place_of : Pending → Place
place_of pending = record { path = string_bytes pending.path; kind = pending.kind }

-- the places that are still to be visited, of which the last in the vector comes first
abbrev pub pending_places : List Pending → List Place
pending_places pending = map place_of (reverse pending)
