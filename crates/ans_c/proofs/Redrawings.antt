-- A file that is redrawn in an array.
use Rattle.std.proofs.Common.{◌≡◌, ◌∙◌, ℕ, ◌≤◌, List, take, Result, Ok, Err, IfOk, IfErr, ap, refl, subst, sym}
use Rattle.ans_model.specs.Screen.StartClass.{all_known}
use Rattle.ans_model.specs.Verdict.Good.{Picture, GoodWith}
use Rattle.ans_sauce.specs.declared.parts.Parts.{Parts}
use Rattle.ans_sauce.specs.Parts.{content_of, size_of}
use Rattle.ans_sauce.specs.Split.{IsSplit}
use Rattle.ans_redraw.specs.RedrawnFile.{IsRedrawnWith, IsTooLong, redrawn_file}
use Rattle.ans_redraw.specs.declared.outcome.Redrawn.{Redrawn}
use Rattle.ans_redraw.specs.declared.outcome.Unredrawn.{Unredrawn}
use Rattle.ans_redraw.specs.Redrawing.{IsReasonNot, IsRedrawn, TellsRedrawn}
use Rattle.ans_verdict.proofs.VerdictLemmas.{passes}
use Rattle.ans_c.specs.Told.{HoldsRedrawn, whole_of}

-- where the array has room, its front is what there is to tell
pub tells_redrawn : (file : List ℕ) (room : ℕ) (array : List ℕ) (answer : Result Redrawn Unredrawn) (size : ℕ)
    → size ≡ whole_of answer → HoldsRedrawn file room array answer → size ≤ room
    → TellsRedrawn file answer (take size array)
tells_redrawn file room array (Ok redrawn) size whole (new, is_redrawn, held) fits =
    let front = ap (λ (n : ℕ). take n array) whole ∙ held (subst (λ (n : ℕ). n ≤ room) whole fits) in
    subst (IsRedrawn file redrawn) (sym front) is_redrawn
tells_redrawn file room array (Err reason) size none is_reason fits =
    (is_reason, ap (λ (n : ℕ). take n array) none)

module _ (file : List ℕ) (parts : Parts) (picture : Picture) (split : IsSplit file parts)
    (good : GoodWith (size_of parts) all_known (content_of parts) picture) where
  -- what comes of redrawing it with the picture of its parts
  pub held_with : (room : ℕ) (array : List ℕ) (answer : Result Redrawn Unredrawn)
      → IfOk answer (IsRedrawnWith file picture) → IfErr answer (IsTooLong file picture)
      → IfOk answer (λ redrawn. redrawn.whole ≤ room → take redrawn.whole array ≡ redrawn_file file picture)
      → HoldsRedrawn file room array answer
  held_with room array (Ok redrawn) changes none held =
      let r = passes file all_known parts split picture good in (
        redrawn_file file picture,
        record {
          apart = r.0;
          picture = picture;
          passes = r.2;
          changes = changes;
          new_is = refl;
        },
        held,
      )
  held_with room array (Err reason) none long held =
      let r = passes file all_known parts split picture good in
      subst (IsReasonNot file) (sym long.reason_is) (record {
        apart = r.0;
        picture = picture;
        passes = r.2;
        long = subst (IsTooLong file picture) long.reason_is long;
      })
