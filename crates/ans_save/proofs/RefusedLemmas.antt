-- Why a target is not to be replaced, from what the looks said.
use Rattle.std.specs.Prelude.{◌≡◌, Option, Some, Result, Ok, Err, IsErrAnd, IfErr}
use Rattle.std.proofs.Common.{inr, subst, sym}
use Rattle.std.specs.declared.io.ErrorKind.{ErrorKind}
use Rattle.ans_save.specs.Names.{Name}
use Rattle.ans_save.specs.Reasons.{unopened_of, unwritable_of}
use Rattle.ans_save.specs.Saving.{IsAimless, IsRefused, refusal_in}
use Rattle.ans_save.specs.Saving.IsRefused.{Closed, LookFails, NotToReplace}
use Rattle.ans_save.specs.declared.disk.Found.{Found}
use Rattle.ans_save.specs.declared.save_error.SaveError.{SaveError}
use Rattle.ans_save.specs.declared.saves.Saves.{Saves}
use Rattle.ans_save.specs.declared.saving.Saving.{Saving}

module _ {D : Type 0} (leads : D → Name → Name → Type 0) (sees : D → Name → Option Found → Type 0)
    (fails : D → Name → ErrorKind → Type 0) (opens : D → Name → Type 0) (disk : D) (saves : Saves) (saving : Saving)
    (input : Option Name) where
  -- a look at it failed
  pub look_fails : (target : Name) (error : SaveError)
      → ((kind : ErrorKind) × fails disk target kind × (error ≡ unopened_of kind))
      → IsRefused leads sees fails opens disk saves saving input target error
  look_fails target error h = LookFails h.0 h.1 h.2

  -- what was found is not to be replaced
  pub not_to_replace : (target : Name) (error : SaveError) (found : Found) → sees disk target (Some found)
      → refusal_in saves saving found ≡ Some error
      → IsRefused leads sees fails opens disk saves saving input target error
  not_to_replace target error found seen by = NotToReplace found seen by

  -- it did not open
  pub does_not_open : (target : Name) (error : SaveError) (found : Found) (kind : ErrorKind)
      → sees disk target (Some found) → fails disk target kind → error ≡ unwritable_of kind
      → IsRefused leads sees fails opens disk saves saving input target error
  does_not_open target error found kind seen failed by = Closed found seen kind failed by

  -- it leads to a target that is refused
  pub refused_target : (named target : Name) (error : SaveError) → leads disk named target
      → IsRefused leads sees fails opens disk saves saving input target error
      → IsAimless leads sees fails opens disk saves saving input named error
  refused_target named target error led refused = inr (target, led, refused)

-- what is true of an error is true of what it comes to
pub if_err : {T E : Type 0} (r : Result T E) (error : E) (P : E → Type 0) → IsErrAnd r (λ e. e ≡ error) → P error
    → IfErr r P
if_err (Ok value) error P h p = tt
if_err (Err e) error P h p = subst P (sym h) p
