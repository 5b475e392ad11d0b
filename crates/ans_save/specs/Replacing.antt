-- What is done to replace a file: a new one is written beside it, and takes its name.
use Rattle.std.specs.Prelude.{◌≡◌, ◌⊎◌, ℕ, zero, suc, Bool, true, false, List, [], ◌∷◌, ◌++◌, Option, Some, None}
use Rattle.std.specs.declared.io.ErrorKind.{ErrorKind}
use Rattle.std.specs.declared.io.ErrorKind.TheVariants.{AlreadyExists}
use Rattle.ans_save.specs.Names.{Name, beside_name}
use Rattle.ans_save.specs.Deeds.{Deed, Follows}
use Rattle.ans_save.specs.Deeds.Deed.{Make, Write, Permit, Sync, Rename, Remove}
use Rattle.ans_save.specs.Reasons.{unwritten_of}
use Rattle.ans_save.specs.declared.disk.Identity.{Identity}
use Rattle.ans_save.specs.declared.replacing.Permissions.{Permissions}
use Rattle.ans_save.specs.declared.replacing.Permissions.TheVariants.{New, Kept}
use Rattle.ans_save.specs.declared.replacing.Work.{Work}
use Rattle.ans_save.specs.declared.save_error.Reason.TheVariants.{Taken}
use Rattle.ans_save.specs.declared.save_error.SaveError.{SaveError}
use Rattle.ans_save.specs.declared.save_error.SaveError.TheVariants.{Unwritten, Memory}

-- the permissions that a file is made with
abbrev pub permissions_of : Permissions → ℕ
permissions_of (New bits) = bits
permissions_of (Kept bits) = bits

-- the permissions of the file that is replaced are given to the new one
abbrev pub permits : Permissions → List Deed
permits (New bits) = []
permits (Kept bits) = Permit bits ∷ []

-- the new file is flushed to the disk, if that is wanted
abbrev pub syncs : Bool → List Deed
syncs true = Sync ∷ []
syncs false = []

-- what is done with a new file: it takes all the bytes, and the target's name at last
abbrev pub work_of : (name target : Name) → Work → List Deed
work_of name target work =
    Write work.bytes.now ∷ (permits work.permissions ++ (syncs work.syncs ++ Rename name target ∷ []))

-- how many names are tried
abbrev pub most_tries : ℕ
most_tries = 100

module _ {D : Type 0} (did : D → Deed → Option ErrorKind → D → Type 0) where
  -- the first names beside a target were tried in turn, as many as that number, and each was taken
  abbrev pub TriesTaken : Name → ℕ → ℕ → D → D → Type 0
  TriesTaken target permissions zero old new = new ≡ old
  TriesTaken target permissions (suc number) old new =
      (last : D) × TriesTaken target permissions number old last
      × did last (Make (beside_name target number) permissions) (Some AlreadyExists) new

  -- a new file was made beside a target, under the first name that was not taken
  pub record MakesBeside (identifies : D → Name → Identity → Type 0) (target : Name) (permissions : ℕ) (old new : D)
      (name : Name) (file : Identity) : Type 0 where
    pub number : ℕ
    pub tried : D
    pub taken : TriesTaken target permissions number old tried
    pub named : name ≡ beside_name target number
    pub made : did tried (Make name permissions) None new
    pub identified : identifies new name file

  -- why no more names were tried: there was no memory for a name, or all were taken
  abbrev pub EndsTries : ℕ → SaveError → Type 0
  EndsTries number error = (error ≡ Memory) ⊎ ((number ≡ most_tries) × (error ≡ Unwritten Taken))

  -- no new file was made
  pub record NotMade (target : Name) (permissions : ℕ) (old new : D) (error : SaveError) : Type 0 where
    pub number : ℕ
    pub tried : D
    pub taken : TriesTaken target permissions number old tried
    pub failed : ((new ≡ tried) × EndsTries number error)
        ⊎ ((kind : ErrorKind) × did tried (Make (beside_name target number) permissions) (Some kind) new
        × (error ≡ unwritten_of kind))

  -- A new file was made beside the target, took all the bytes, and took the target's name by the last deed of all.
  pub record Replaces (identifies : D → Name → Identity → Type 0) (target : Name) (work : Work) (old new : D)
      (file : Identity) : Type 0 where
    pub name : Name
    pub made : D
    pub makes : MakesBeside identifies target (permissions_of work.permissions) old made name file
    pub does : Follows did made (work_of name target work) None new

  -- A new file was made, a deed of its work failed, and then it was asked to be removed. So it was not renamed, which
  -- is the last of its work.
  pub record TakesBack (target : Name) (work : Work) (old new : D) (error : SaveError) : Type 0 where
    pub number : ℕ
    pub tried : D
    pub made : D
    pub last : D
    pub kind : ErrorKind
    pub removed : Option ErrorKind
    pub taken : TriesTaken target (permissions_of work.permissions) number old tried
    pub makes : did tried (Make (beside_name target number) (permissions_of work.permissions)) None made
    pub fails : Follows did made (work_of (beside_name target number) target work) (Some kind) last
    pub removes : did last (Remove (beside_name target number)) removed new
    pub by : error ≡ unwritten_of kind

  -- the target was not replaced
  abbrev pub GivesUp : Name → Work → D → D → SaveError → Type 0
  GivesUp target work old new error =
      NotMade target (permissions_of work.permissions) old new error ⊎ TakesBack target work old new error
