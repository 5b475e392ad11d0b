-- A saving that came to an error spares all files.
use Rattle.std.specs.Prelude.{◌≡◌, ℕ, zero, suc, Bool, true, false, List, [], ◌∷◌, ◌++◌, Option, Some, None}
use Rattle.std.specs.Prelude.{Result, Ok, Err, IfErr, OnErr}
use Rattle.std.proofs.Common.{refl, subst, inl, inr, ⊎_elim}
use Rattle.std.specs.declared.io.ErrorKind.{ErrorKind}
use Rattle.std.specs.declared.io.ErrorKind.TheVariants.{AlreadyExists}
use Rattle.ans_save.specs.Names.{Name, beside_name}
use Rattle.ans_save.specs.Deeds.{Deed, Follows}
use Rattle.ans_save.specs.Deeds.Deed.{MakeFolder, Make, Write, Permit, Sync, Rename}
use Rattle.ans_save.specs.Replacing.{NotMade, TakesBack, TriesTaken, permissions_of, permits, syncs}
use Rattle.ans_save.specs.Saving.{IsUnsaved, folders}
use Rattle.ans_save.specs.Saving.IsUnsaved.{Unnamed, OutOfMemory, NoRoom, NoFolder, Refused, GaveUp}
use Rattle.ans_save.specs.Sparing.{Call, Calls, Cleans, Quietly, Spares, is_harmless, is_quiet}
use Rattle.ans_save.specs.declared.disk.Found.{Found}
use Rattle.ans_save.specs.declared.replacing.Permissions.{Permissions}
use Rattle.ans_save.specs.declared.replacing.Permissions.TheVariants.{New, Kept}
use Rattle.ans_save.specs.declared.replacing.Work.{Work}
use Rattle.ans_save.specs.declared.save_error.SaveError.{SaveError}
use Rattle.ans_save.specs.declared.saves.Saves.{Saves}
use Rattle.ans_save.specs.declared.saving.Saving.{Saving}
use Rattle.ans_save.specs.declared.saving.Saving.TheVariants.{InPlace, File, Folder}

-- deeds that are all harmless
AllHarmless : List Deed → Type 0
AllHarmless [] = Unit {0}
AllHarmless (deed ∷ deeds) = (is_harmless deed ≡ true) × AllHarmless deeds

module _ {D : Type 0} (did : D → Deed → Option ErrorKind → D → Type 0) where
  -- no call at all
  quiet_none : (old new : D) → new ≡ old → Quietly did old new
  quiet_none old new same = ([], same)

  -- one quiet call, and then others
  quiet_step : (old next new : D) (deed : Deed) (fault : Option ErrorKind) → did old deed fault next
      → is_quiet deed fault ≡ true → Quietly did next new → Quietly did old new
  quiet_step old next new deed fault done quiet later = ((deed, fault) ∷ later.0, (next, done, quiet, later.1))

  -- one quiet call
  quiet_one : (old new : D) (deed : Deed) (fault : Option ErrorKind) → did old deed fault new
      → is_quiet deed fault ≡ true → Quietly did old new
  quiet_one old new deed fault done quiet = quiet_step old new new deed fault done quiet ([], refl)

  -- quiet calls after quiet calls
  calls_then : (old mid new : D) (first later : List Call) → Calls did old first mid → Calls did mid later new
      → Calls did old (first ++ later) new
  calls_then old mid new [] later same h = subst (λ d. Calls did d later new) same h
  calls_then old mid new (call ∷ first) later done h =
      (done.0, done.1, done.2, calls_then done.0 mid new first later done.3 h)

  quiet_then : (old mid new : D) → Quietly did old mid → Quietly did mid new → Quietly did old new
  quiet_then old mid new first later = (first.0 ++ later.0, calls_then old mid new first.0 later.0 first.1 later.1)

  -- names that were taken
  quiet_tries : (target : Name) (permissions number : ℕ) (old new : D)
      → TriesTaken did target permissions number old new → Quietly did old new
  quiet_tries target permissions zero old new same = quiet_none old new same
  quiet_tries target permissions (suc number) old new tries =
      quiet_then old tries.0 new (quiet_tries target permissions number old tries.0 tries.1)
      (quiet_one tries.0 new (Make (beside_name target number) permissions) (Some AlreadyExists) tries.2 refl)

  -- harmless deeds and a last one, of which one failed
  quiet_failure : (first : List Deed) (last : Deed) (old new : D) (kind : ErrorKind) → AllHarmless first
      → Follows did old (first ++ last ∷ []) (Some kind) new → Quietly did old new
  unfolding AllHarmless
  quiet_failure [] last old new kind harmless (inl failed) = quiet_one old new last (Some kind) failed refl
  quiet_failure [] last old new kind harmless (inr later) = absurd later.2
  quiet_failure (deed ∷ first) last old new kind harmless (inl failed) =
      quiet_one old new deed (Some kind) failed refl
  quiet_failure (deed ∷ first) last old new kind harmless (inr later) =
      quiet_step old later.0 new deed None later.1 harmless.0
      (quiet_failure first last later.0 new kind harmless.1 later.2)

  -- the work on a new file, of which a deed failed
  quiet_work : (name target : Name) (bytes : List ℕ) (permissions : Permissions) (wanted : Bool) (old new : D)
      (kind : ErrorKind)
      → Follows did old (Write bytes ∷ (permits permissions ++ (syncs wanted ++ Rename name target ∷ [])))
      (Some kind) new
      → Quietly did old new
  unfolding AllHarmless
  quiet_work name target bytes (New bits) false old new kind h =
      quiet_failure (Write bytes ∷ []) (Rename name target) old new kind (refl, tt) h
  quiet_work name target bytes (New bits) true old new kind h =
      quiet_failure (Write bytes ∷ Sync ∷ []) (Rename name target) old new kind (refl, (refl, tt)) h
  quiet_work name target bytes (Kept bits) false old new kind h =
      quiet_failure (Write bytes ∷ Permit bits ∷ []) (Rename name target) old new kind (refl, (refl, tt)) h
  quiet_work name target bytes (Kept bits) true old new kind h =
      quiet_failure (Write bytes ∷ Permit bits ∷ Sync ∷ []) (Rename name target) old new kind
      (refl, (refl, (refl, tt))) h

  -- the folder was made, if one was to be
  quiet_folder : (saving : Saving) (old new : D) → Follows did old (folders saving) None new → Quietly did old new
  quiet_folder InPlace old new same = quiet_none old new same
  quiet_folder (File name) old new same = quiet_none old new same
  quiet_folder (Folder folder) old new h =
      quiet_step old h.0 new (MakeFolder folder.now) None h.1 refl (quiet_none h.0 new h.2)

  -- the folder was not made
  quiet_no_folder : (saving : Saving) (old new : D) (kind : ErrorKind)
      → Follows did old (folders saving) (Some kind) new → Quietly did old new
  quiet_no_folder InPlace old new kind h = absurd h
  quiet_no_folder (File name) old new kind h = absurd h
  quiet_no_folder (Folder folder) old new kind (inl failed) =
      quiet_one old new (MakeFolder folder.now) (Some kind) failed refl
  quiet_no_folder (Folder folder) old new kind (inr later) = absurd later.2

  -- no new file was made
  quiet_unmade : (target : Name) (permissions : ℕ) (old new : D) (error : SaveError)
      → NotMade did target permissions old new error → Quietly did old new
  quiet_unmade target permissions old new error h =
      quiet_then old h.tried new (quiet_tries target permissions h.number old h.tried h.taken)
      (⊎_elim (λ none. quiet_none h.tried new none.0)
      (λ failed. quiet_one h.tried new (Make (beside_name target h.number) permissions) (Some failed.0) failed.1 refl)
      h.failed)

  -- a new file was made, and its work failed
  cleans_up : (target : Name) (work : Work) (old opened new : D) (error : SaveError) → Quietly did old opened
      → TakesBack did target work opened new error → Cleans did old new
  cleans_up target work old opened new error quiet h = record {
    name = beside_name target h.number;
    permissions = permissions_of work.permissions;
    before = h.tried;
    made = h.made;
    last = h.last;
    fault = h.removed;
    quiet_before = quiet_then old opened h.tried quiet
        (quiet_tries target (permissions_of work.permissions) h.number opened h.tried h.taken);
    makes = h.makes;
    quiet_after = quiet_work (beside_name target h.number) target work.bytes.now work.permissions work.syncs h.made
        h.last h.kind h.fails;
    removes = h.removes;
  }

module _ {D : Type 0} (did : D → Deed → Option ErrorKind → D → Type 0) (leads : D → Name → Name → Type 0)
    (sees : D → Name → Option Found → Type 0) (fails : D → Name → ErrorKind → Type 0) (opens : D → Name → Type 0) where
  -- whatever the error
  pub unsaved_spares : (old new : D) (saves : Saves) (saving : Saving) (input : Option Name) (bytes : List ℕ)
      (error : SaveError) → IsUnsaved did leads sees fails opens old new saves saving input bytes error
      → Spares did old new
  unsaved_spares old new saves saving input bytes error (Unnamed none by same) = inl (quiet_none did old new same)
  unsaved_spares old new saves saving input bytes error (OutOfMemory by same) = inl (quiet_none did old new same)
  unsaved_spares old new saves saving input bytes error (NoRoom folder by) =
      inl (quiet_folder did saving old new folder)
  unsaved_spares old new saves saving input bytes error (NoFolder kind folder by) =
      inl (quiet_no_folder did saving old new kind folder)
  unsaved_spares old new saves saving input bytes error (Refused name named folder by) =
      inl (quiet_folder did saving old new folder)
  unsaved_spares old new saves saving input bytes error
      (GaveUp name opened target work named folder aim whole synced kept) =
      let quiet = quiet_folder did saving old opened folder in
      ⊎_elim
      (λ unmade. inl (quiet_then did old opened new quiet
      (quiet_unmade did target (permissions_of work.permissions) opened new error unmade)))
      (λ back. inr (cleans_up did target work old opened new error quiet back)) kept

  -- the same of what came, if it is an error
  pub error_spares : {T : Type 0} (r : Result T SaveError) (old new : D) (saves : Saves) (saving : Saving)
      (input : Option Name) (bytes : List ℕ)
      → IfErr r (IsUnsaved did leads sees fails opens old new saves saving input bytes) → OnErr r (Spares did old new)
  error_spares (Ok value) old new saves saving input bytes h = tt
  error_spares (Err error) old new saves saving input bytes h =
      unsaved_spares old new saves saving input bytes error h

  -- nothing was done but that the folder was made, if one was to be
  pub folder_spares : {T : Type 0} (r : Result T SaveError) (old new : D) (saving : Saving)
      → Follows did old (folders saving) None new → OnErr r (Spares did old new)
  folder_spares (Ok value) old new saving h = tt
  folder_spares (Err error) old new saving h = inl (quiet_folder did saving old new h)
