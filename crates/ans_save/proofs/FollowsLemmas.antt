-- Deeds that are done after others.
use Rattle.std.specs.Prelude.{List, [], ◌∷◌, ◌++◌, Option, Some, None}
use Rattle.std.proofs.Common.{refl, subst, inl, inr}
use Rattle.std.specs.declared.io.ErrorKind.{ErrorKind}
use Rattle.ans_save.specs.Names.{Name}
use Rattle.ans_save.specs.Deeds.{Deed, Follows}
use Rattle.ans_save.specs.Deeds.Deed.{Write, Rename}
use Rattle.ans_save.specs.Replacing.{permits, syncs, work_of}
use Rattle.ans_save.specs.declared.replacing.Work.{Work}

module _ {D : Type 0} (did : D → Deed → Option ErrorKind → D → Type 0) where
  -- deeds that are all done, and then others
  pub follows_then : (old mid new : D) (first rest : List Deed) (fault : Option ErrorKind)
      → Follows did old first None mid → Follows did mid rest fault new → Follows did old (first ++ rest) fault new
  follows_then old mid new [] rest fault same h = subst (λ d. Follows did d rest fault new) same h
  follows_then old mid new (deed ∷ first) rest None done h =
      (done.0, done.1, follows_then done.0 mid new first rest None done.2 h)
  follows_then old mid new (deed ∷ first) rest (Some kind) done h =
      inr (done.0, done.1, follows_then done.0 mid new first rest (Some kind) done.2 h)

  -- deeds of which one fails, and no others
  pub follows_no_more : (old new : D) (first rest : List Deed) (kind : ErrorKind)
      → Follows did old first (Some kind) new → Follows did old (first ++ rest) (Some kind) new
  follows_no_more old new [] rest kind h = absurd h
  follows_no_more old new (deed ∷ first) rest kind (inl failed) = inl failed
  follows_no_more old new (deed ∷ first) rest kind (inr later) =
      inr (later.0, later.1, follows_no_more later.0 new first rest kind later.2)

  -- one deed
  pub follows_one : (old new : D) (deed : Deed) (fault : Option ErrorKind)
      → did old deed fault new → Follows did old (deed ∷ []) fault new
  follows_one old new deed None h = (new, h, refl)
  follows_one old new deed (Some kind) h = inl h

  -- one deed that is done, and then others
  pub follows_after : (old mid new : D) (deed : Deed) (rest : List Deed) (fault : Option ErrorKind)
      → did old deed None mid → Follows did mid rest fault new → Follows did old (deed ∷ rest) fault new
  follows_after old mid new deed rest None h later = (mid, h, later)
  follows_after old mid new deed rest (Some kind) h later = inr (mid, h, later)

  -- all the work up to the last deed is done
  pub follows_work : (old written permitted synced new : D) (name target : Name) (work : Work)
      (fault : Option ErrorKind)
      → did old (Write work.bytes.now) None written
      → Follows did written (permits work.permissions) None permitted
      → Follows did permitted (syncs work.syncs) None synced
      → did synced (Rename name target) fault new → Follows did old (work_of name target work) fault new
  follows_work old written permitted synced new name target work fault writes gives puts renames =
      follows_after old written new _ _ fault writes
      (follows_then written permitted new _ _ fault gives
      (follows_then permitted synced new _ _ fault puts (follows_one synced new _ fault renames)))
