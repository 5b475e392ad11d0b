-- What is asked of a disk that changes it, and what comes of it.
use Rattle.std.specs.Prelude.{◌≡◌, ◌⊎◌, ℕ, List, [], ◌∷◌, Option, Some, None, Result, Ok, Err}
use Rattle.std.specs.IoError.{error_kind}
use Rattle.std.specs.declared.io.Error.{Error}
use Rattle.std.specs.declared.io.ErrorKind.{ErrorKind}
use Rattle.ans_save.specs.Names.{Name}

-- what a disk is asked to do; a write, permissions and a sync are of the file that was made last
pub data Deed : Type 0 where
  MakeFolder : (name : Name) → Deed
  Make : (name : Name) (permissions : ℕ) → Deed
  Write : (bytes : List ℕ) → Deed
  Permit : (permissions : ℕ) → Deed
  Sync : Deed
  Rename : (from to : Name) → Deed
  Remove : (name : Name) → Deed

-- the fault by which a call failed, if it did
abbrev pub fault_of : {T : Type 0} → Result T Error → Option ErrorKind
fault_of (Ok value) = None
fault_of (Err error) = Some (error_kind error)

-- Of a disk, which deed with which fault takes it from where to where. The rest of this file is about all disks.
module _ {D : Type 0} (did : D → Deed → Option ErrorKind → D → Type 0) where
  -- The deeds are done in order, up to the first that fails and with that. The fault is its, and none if all are done.
  abbrev pub Follows : D → List Deed → Option ErrorKind → D → Type 0
  Follows old [] None new = new ≡ old
  Follows old [] (Some kind) new = ⊥
  Follows old (deed ∷ rest) None new = (next : D) × did old deed None next × Follows next rest None new
  Follows old (deed ∷ rest) (Some kind) new =
      did old deed (Some kind) new ⊎ ((next : D) × did old deed None next × Follows next rest (Some kind) new)
