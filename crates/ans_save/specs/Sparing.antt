-- What calls leave under all names but that of a new file: they give no file another's name.
use Rattle.std.specs.Prelude.{◌≡◌, ◌⊎◌, ℕ, Bool, true, false, List, [], ◌∷◌, Option, Some, None}
use Rattle.std.specs.declared.io.ErrorKind.{ErrorKind}
use Rattle.ans_save.specs.Names.{Name}
use Rattle.ans_save.specs.Deeds.{Deed}
use Rattle.ans_save.specs.Deeds.Deed.{MakeFolder, Make, Write, Permit, Sync, Rename, Remove}

-- a call: what was asked, and the fault by which it failed, if it did
abbrev pub Call : Type 0
Call = Deed × Option ErrorKind

-- whether a deed neither makes a file nor gives one another name nor removes one
abbrev pub is_harmless : Deed → Bool
is_harmless (MakeFolder name) = true
is_harmless (Make name permissions) = false
is_harmless (Write bytes) = true
is_harmless (Permit permissions) = true
is_harmless Sync = true
is_harmless (Rename from to) = false
is_harmless (Remove name) = false

-- whether a call did no such thing: it was of another kind, or failed
abbrev pub is_quiet : Deed → Option ErrorKind → Bool
is_quiet deed None = is_harmless deed
is_quiet deed (Some kind) = true

module _ {D : Type 0} (did : D → Deed → Option ErrorKind → D → Type 0) where
  -- these calls were made, in order, and each was quiet
  abbrev pub Calls : D → List Call → D → Type 0
  Calls old [] new = new ≡ old
  Calls old (call ∷ calls) new =
      (next : D) × did old call.0 call.1 next × (is_quiet call.0 call.1 ≡ true) × Calls next calls new

  -- no call but quiet ones
  abbrev pub Quietly : D → D → Type 0
  Quietly old new = (calls : List Call) × Calls old calls new

  -- one file was made, no file got another name, and the last call of all asked to remove that file
  pub record Cleans (old new : D) : Type 0 where
    pub name : Name
    pub permissions : ℕ
    pub before : D
    pub made : D
    pub last : D
    pub fault : Option ErrorKind
    pub quiet_before : Quietly old before
    pub makes : did before (Make name permissions) None made
    pub quiet_after : Quietly made last
    pub removes : did last (Remove name) fault new

  -- No file got another name, and none was made or removed but one that was made and then asked to be removed.
  abbrev pub Spares : D → D → Type 0
  Spares old new = Quietly old new ⊎ Cleans old new
