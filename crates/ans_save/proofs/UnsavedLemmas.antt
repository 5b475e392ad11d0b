-- How far a saving came, from what its steps did.
use Rattle.std.specs.Prelude.{◌≡◌, ℕ, List, Option, Some, None}
use Rattle.std.specs.declared.io.ErrorKind.{ErrorKind}
use Rattle.ans_save.specs.Names.{Name}
use Rattle.ans_save.specs.Deeds.{Deed, Follows}
use Rattle.ans_save.specs.Places.{is_in_place, target_named}
use Rattle.ans_save.specs.Reasons.{unwritten_of}
use Rattle.ans_save.specs.Replacing.{GivesUp}
use Rattle.ans_save.specs.Saving.{IsAim, IsAimless, IsUnsaved, folders}
use Rattle.ans_save.specs.Saving.IsUnsaved.{NoFolder, Refused, GaveUp}
use Rattle.ans_save.specs.declared.disk.Found.{Found}
use Rattle.ans_save.specs.declared.replacing.Work.{Work}
use Rattle.ans_save.specs.declared.save_error.SaveError.{SaveError}
use Rattle.ans_save.specs.declared.saves.Saves.{Saves}
use Rattle.ans_save.specs.declared.saving.Saving.{Saving}

module _ {D : Type 0} (did : D → Deed → Option ErrorKind → D → Type 0) (leads : D → Name → Name → Type 0)
    (sees : D → Name → Option Found → Type 0) (fails : D → Name → ErrorKind → Type 0) (opens : D → Name → Type 0)
    (old : D) (saves : Saves) (saving : Saving) (input : Option Name)
    (bytes : List ℕ) (name : Name) (named : target_named saving input ≡ Some name) where
  -- the folder was not made
  pub no_folder : (new : D) (error : SaveError) (kind : ErrorKind) → Follows did old (folders saving) (Some kind) new
      → error ≡ unwritten_of kind
      → IsUnsaved did leads sees fails opens old new saves saving input bytes error
  no_folder new error kind folder by = NoFolder kind folder by

  -- nothing is to be written there
  pub refused : (new : D) (error : SaveError) → Follows did old (folders saving) None new
      → IsAimless leads sees fails opens new saves saving input name error
      → IsUnsaved did leads sees fails opens old new saves saving input bytes error
  refused new error folder by = Refused name named folder by

  -- the target was not replaced
  pub gave_up : (opened new : D) (error : SaveError) (target : Name) (work : Work)
      → Follows did old (folders saving) None opened
      → IsAim leads sees fails opens opened saves saving input name target work.permissions
      → work.bytes.now ≡ bytes → work.syncs ≡ is_in_place saving → GivesUp did target work opened new error
      → IsUnsaved did leads sees fails opens old new saves saving input bytes error
  gave_up opened new error target work folder aim whole synced kept =
      GaveUp name opened target work named folder aim whole synced kept
