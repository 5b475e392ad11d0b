-- What a walk finds, in which order, and what of it a visitor was handed.
use Rattle.std.specs.Prelude.{◌≡◌, false, List, [], ◌∷◌, ◌++◌, Result, Ok, Err, map, string_bytes}
use Rattle.std.specs.Prelude.{if◌then◌else◌}
use Rattle.std.specs.Ordering.{nat_cmp}
use Rattle.std.specs.Cmp.Lexicographic.{slice_cmp}
use Rattle.std.specs.List.Sorted.{IsPermutation, IsSortedByKey}
use Rattle.std.specs.declared.io.ErrorKind.{ErrorKind}
use Rattle.ans_folders.specs.Paths.{Place, Text, is_folder, is_taken, place_in}
use Rattle.ans_folders.specs.declared.entry.Entry.{Entry}
use Rattle.ans_folders.specs.declared.entry.Kind.{Kind}
use Rattle.ans_folders.specs.declared.entry.Kind.TheVariants as kind
use Rattle.ans_folders.specs.declared.entry.Unread.{Unread}
use Rattle.ans_folders.specs.declared.entry.Unread.TheVariants.{Failed}
use Rattle.ans_folders.specs.declared.taken.Taken.{Taken}
use Rattle.ans_folders.specs.declared.walking.Ended.{Ended}
use Rattle.ans_folders.specs.declared.walking.Ended.TheVariants.{Stopped, Memory}

-- ---- what is found

-- what a visitor is handed: a file, a file that is passed over, what cannot be read
pub data Found : Type 0 where
  File : Text → Found
  Passed : Text → Found
  Unreadable : Text → Unread → Found

-- what is found at a place that is no folder
abbrev pub found_of : Taken → Text → Kind → List Found
found_of taken path kind.File = (if is_taken taken path then File path else Passed path) ∷ []
found_of taken path (kind.Unread why) = Unreadable path why ∷ []
found_of taken path _ = []

abbrev pub found_at : Taken → Place → List Found
found_at taken place = found_of taken place.path place.kind

-- the folder of this path
abbrev pub folder_at : Text → Place
folder_at path = record { path = path; kind = kind.Folder }

-- the same entries in the order of their names, by bytes
pub record IsInOrder (entries sorted : List Entry) : Type 0 where
  pub same : IsPermutation entries sorted
  pub order : IsSortedByKey (λ (entry : Entry). string_bytes entry.name) (slice_cmp nat_cmp) sorted

-- Going over the first places in their order finds these, before it comes to the last places. A folder's entries come
-- in its place, in the order of their names.
pub data Finds (lists : Text → List Entry → Type 0) (fails : Text → ErrorKind → Type 0) (taken : Taken)
    : List Place → List Found → List Place → Type 0 where
  nothing : {places : List Place} → Finds lists fails taken places [] places
  at_place : {place : Place} {more later : List Place} {rest : List Found} → is_folder place.kind ≡ false
      → Finds lists fails taken more rest later
      → Finds lists fails taken (place ∷ more) (found_at taken place ++ rest) later
  in_folder : {path : Text} {entries sorted : List Entry} {more later : List Place} {rest : List Found}
      → lists path entries → IsInOrder entries sorted
      → Finds lists fails taken (map (place_in path) sorted ++ more) rest later
      → Finds lists fails taken (folder_at path ∷ more) rest later
  unlisted : {path : Text} {reason : ErrorKind} {more later : List Place} {rest : List Found} → fails path reason
      → Finds lists fails taken more rest later
      → Finds lists fails taken (folder_at path ∷ more) (Unreadable path (Failed reason) ∷ rest) later

-- ---- what a visitor was handed

module _ {V S : Type 0} (takes : V → Found → V → Type 0) (stops : V → Found → S → V → Type 0) where
  -- Handed these one after the other, the first visitor becomes the second, and goes on.
  abbrev pub Takes : List Found → V → V → Type 0
  Takes [] visitor after = visitor ≡ after
  Takes (found ∷ more) visitor after = (next : V) × takes visitor found next × Takes more next after

  -- Handed the last of these, the visitor stops.
  pub record StopsAt (found : List Found) (visitor after : V) (why : S) : Type 0 where
    pub before : List Found
    pub last : Found
    pub all : found ≡ before ++ last ∷ []
    pub there : V
    pub goes_on : Takes before visitor there
    pub stopped : stops there last why after

  -- Handed these, the visitor goes on or stops.
  abbrev pub Hands : List Found → V → V → Result (Unit {0}) S → Type 0
  Hands found visitor after (Ok u) = Takes found visitor after
  Hands found visitor after (Err why) = StopsAt found visitor after why

-- ---- a walk

-- how a walk goes on after the visitor was handed something
abbrev pub after_handing : {S : Type 0} → Result (Unit {0}) S → Result (Unit {0}) (Ended S)
after_handing (Ok u) = Ok u
after_handing (Err why) = Err (Stopped why)

-- A walk over the first places came to an end: before the last places, with all that is found handed to the visitor;
-- or somewhere before, when the visitor stopped at what it was handed last, or memory ran out.
module _ {V S : Type 0} (lists : Text → List Entry → Type 0) (fails : Text → ErrorKind → Type 0)
    (takes : V → Found → V → Type 0) (stops : V → Found → S → V → Type 0) (taken : Taken) where
  abbrev pub Walked : List Place → List Place → V → V → Result (Unit {0}) (Ended S) → Type 0
  Walked places later visitor after (Ok u) =
      (found : List Found) × Finds lists fails taken places found later × Takes takes stops found visitor after
  Walked places later visitor after (Err (Stopped why)) =
      (found : List Found) × (rest : List Place) × Finds lists fails taken places found rest
      × StopsAt takes stops found visitor after why
  Walked places later visitor after (Err Memory) =
      (found : List Found) × (rest : List Place) × Finds lists fails taken places found rest
      × Takes takes stops found visitor after
