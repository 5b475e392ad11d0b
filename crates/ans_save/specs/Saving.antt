-- What is known in a run, and what is done for a file of it.
use Rattle.std.specs.Prelude.{◌≡◌, ◌⊎◌, ℕ, List, [], ◌∷◌, ◌++◌, Option, Some, None}
use Rattle.std.specs.declared.io.ErrorKind.{ErrorKind}
use Rattle.ans_save.specs.Names.{Name}
use Rattle.ans_save.specs.Deeds.{Deed, Follows}
use Rattle.ans_save.specs.Deeds.Deed.{MakeFolder}
use Rattle.ans_save.specs.Places.{is_in_place, refusal_of, target_named}
use Rattle.ans_save.specs.Reasons.{unopened_of, unwritable_of, unwritten_of}
use Rattle.ans_save.specs.Replacing.{GivesUp, Replaces}
use Rattle.ans_save.specs.declared.disk.Found.{Found}
use Rattle.ans_save.specs.declared.disk.Identity.{Identity}
use Rattle.ans_save.specs.declared.replacing.Permissions.{Permissions}
use Rattle.ans_save.specs.declared.replacing.Permissions.TheVariants.{New, Kept}
use Rattle.ans_save.specs.declared.replacing.Work.{Work}
use Rattle.ans_save.specs.declared.save_error.Reason.TheVariants.{Missing}
use Rattle.ans_save.specs.declared.save_error.SaveError.{SaveError}
use Rattle.ans_save.specs.declared.save_error.SaveError.TheVariants.{NoName, Unopened, Memory}
use Rattle.ans_save.specs.declared.saves.Saves.{Saves}
use Rattle.ans_save.specs.declared.saving.Saving.{Saving}
use Rattle.ans_save.specs.declared.saving.Saving.TheVariants.{InPlace, File, Folder}

-- which files the inputs of a run are
abbrev pub inputs_of : Saves → List Identity
inputs_of saves = saves.inputs.items

-- which files were written in a run
abbrev pub written_of : Saves → List Identity
written_of saves = saves.written.items

-- why what is found under a target is not to be replaced in a run
abbrev pub refusal_in : Saves → Saving → Found → Option SaveError
refusal_in saves saving found = refusal_of (is_in_place saving) (inputs_of saves) (written_of saves) found

-- the folder of the target is made if it is one that is given
abbrev pub folders : Saving → List Deed
folders InPlace = []
folders (File name) = []
folders (Folder folder) = MakeFolder folder.now ∷ []

-- the permissions of a new file for standard input: to read and to write for all
abbrev pub plain_permissions : ℕ
plain_permissions = 0o666

module _ {D : Type 0} (sees : D → Name → Option Found → Type 0) (fails : D → Name → ErrorKind → Type 0) where
  -- what a look finds under the name of an input is added to what was known; if it finds nothing, or fails, nothing is
  abbrev pub Adds : D → List Identity → Name → List Identity → Type 0
  Adds disk before name after =
      ((found : Found) × sees disk name (Some found) × (after ≡ before ++ found.identity ∷ []))
      ⊎ ((sees disk name None ⊎ ((kind : ErrorKind) × fails disk name kind)) × (after ≡ before))

  -- the same of several inputs, in order
  abbrev pub Knows : D → List Identity → List Name → List Identity → Type 0
  Knows disk before [] after = after ≡ before
  Knows disk before (name ∷ names) after =
      (between : List Identity) × Adds disk before name between × Knows disk between names after

  -- the permissions of a new file: its input's
  abbrev pub IsNewMode : D → Option Name → ℕ → Type 0
  IsNewMode disk None bits = bits ≡ plain_permissions
  IsNewMode disk (Some input) bits = (found : Found) × sees disk input (Some found) × (bits ≡ found.permissions)

  -- why a new file has no permissions: its input cannot be looked at, or is not there
  abbrev pub IsModeless : D → Option Name → SaveError → Type 0
  IsModeless disk None error = ⊥
  IsModeless disk (Some input) error =
      ((kind : ErrorKind) × fails disk input kind × (error ≡ unopened_of kind))
      ⊎ (sees disk input None × (error ≡ Unopened Missing))

module _ {D : Type 0} (leads : D → Name → Name → Type 0) (sees : D → Name → Option Found → Type 0)
    (fails : D → Name → ErrorKind → Type 0) (opens : D → Name → Type 0) where
  -- Of what was found under a target, that it may be replaced, and the permissions of the file that replaces it: its
  -- own. If nothing was found, those of a new file.
  abbrev pub IsMode : D → Saves → Saving → Option Name → Name → Option Found → Permissions → Type 0
  IsMode disk saves saving input target None (New bits) = IsNewMode sees fails disk input bits
  IsMode disk saves saving input target None (Kept bits) = ⊥
  IsMode disk saves saving input target (Some found) (New bits) = ⊥
  IsMode disk saves saving input target (Some found) (Kept bits) =
      (refusal_in saves saving found ≡ None) × opens disk target × (bits ≡ found.permissions)

  -- a target may be replaced, or is a new file, and is to have these permissions
  pub record IsReady (disk : D) (saves : Saves) (saving : Saving) (input : Option Name) (target : Name)
      (permissions : Permissions) : Type 0 where
    pub found : Option Found
    pub seen : sees disk target found
    pub mode : IsMode disk saves saving input target found permissions

  -- why a target is not to be replaced, and is no new file
  pub data IsRefused (disk : D) (saves : Saves) (saving : Saving) (input : Option Name) (target : Name)
      (error : SaveError) : Type 0 where
    LookFails : (kind : ErrorKind) (failed : fails disk target kind) (by : error ≡ unopened_of kind)
        → IsRefused disk saves saving input target error
    NotToReplace : (found : Found) (seen : sees disk target (Some found))
        (by : refusal_in saves saving found ≡ Some error) → IsRefused disk saves saving input target error
    Closed : (found : Found) (seen : sees disk target (Some found)) (kind : ErrorKind)
        (failed : fails disk target kind) (by : error ≡ unwritable_of kind)
        → IsRefused disk saves saving input target error
    Modeless : (seen : sees disk target None) (by : IsModeless sees fails disk input error)
        → IsRefused disk saves saving input target error

  -- what is written to a name goes to this file, with these permissions
  pub record IsAim (disk : D) (saves : Saves) (saving : Saving) (input : Option Name) (named target : Name)
      (permissions : Permissions) : Type 0 where
    pub led : leads disk named target
    pub ready : IsReady disk saves saving input target permissions

  -- why nothing is written to a name: it leads nowhere, or to a target that is refused
  abbrev pub IsAimless : D → Saves → Saving → Option Name → Name → SaveError → Type 0
  IsAimless disk saves saving input named error =
      ((kind : ErrorKind) × fails disk named kind × (error ≡ unopened_of kind))
      ⊎ ((target : Name) × leads disk named target × IsRefused disk saves saving input target error)

module _ {D : Type 0} (did : D → Deed → Option ErrorKind → D → Type 0) (leads : D → Name → Name → Type 0)
    (sees : D → Name → Option Found → Type 0) (fails : D → Name → ErrorKind → Type 0) (opens : D → Name → Type 0) where
  -- The folder was made, the target may be replaced, and a new file of the bytes replaced it, flushed before if in
  -- place. The run knows the file as written.
  pub record IsSaved (identifies : D → Name → Identity → Type 0) (old new : D) (saves saves_after : Saves)
      (saving : Saving) (input : Option Name) (bytes : List ℕ) : Type 0 where
    pub name : Name
    pub opened : D
    pub target : Name
    pub work : Work
    pub file : Identity
    pub named : target_named saving input ≡ Some name
    pub folder : Follows did old (folders saving) None opened
    pub aim : IsAim leads sees fails opens opened saves saving input name target work.permissions
    pub whole : work.bytes.now ≡ bytes
    pub synced : work.syncs ≡ is_in_place saving
    pub replaced : Replaces did identifies target work opened new file
    pub noted : written_of saves_after ≡ written_of saves ++ file ∷ []

  -- how far it came, and why no further
  pub data IsUnsaved (old new : D) (saves : Saves) (saving : Saving) (input : Option Name) (bytes : List ℕ)
      (error : SaveError) : Type 0 where
    Unnamed : (none : target_named saving input ≡ None) (by : error ≡ NoName) (same : new ≡ old)
        → IsUnsaved old new saves saving input bytes error
    OutOfMemory : (by : error ≡ Memory) (same : new ≡ old) → IsUnsaved old new saves saving input bytes error
    NoRoom : (folder : Follows did old (folders saving) None new) (by : error ≡ Memory)
        → IsUnsaved old new saves saving input bytes error
    NoFolder : (kind : ErrorKind) (folder : Follows did old (folders saving) (Some kind) new)
        (by : error ≡ unwritten_of kind) → IsUnsaved old new saves saving input bytes error
    Refused : (name : Name) (named : target_named saving input ≡ Some name)
        (folder : Follows did old (folders saving) None new)
        (by : IsAimless leads sees fails opens new saves saving input name error)
        → IsUnsaved old new saves saving input bytes error
    GaveUp : (name : Name) (opened : D) (target : Name) (work : Work) (named : target_named saving input ≡ Some name)
        (folder : Follows did old (folders saving) None opened)
        (aim : IsAim leads sees fails opens opened saves saving input name target work.permissions)
        (whole : work.bytes.now ≡ bytes) (synced : work.syncs ≡ is_in_place saving)
        (kept : GivesUp did target work opened new error)
        → IsUnsaved old new saves saving input bytes error
