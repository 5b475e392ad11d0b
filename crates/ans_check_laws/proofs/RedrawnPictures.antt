-- What a file that is redrawn passes with.
use Rattle.std.proofs.Common.{◌≡◌, ℕ, ◌≤◌, List, length, sym, ap, subst, ◌∙◌}
use Rattle.std.specs.Prelude.{◌↔◌}
use Rattle.std.specs.List.{filter}
use Rattle.ans_model.specs.Bytes.{longest_file}
use Rattle.ans_model.specs.File.Layout.{FileParts, content}
use Rattle.ans_model.specs.File.NoteConditions.{notes}
use Rattle.ans_model.specs.File.Record.{stated_size}
use Rattle.ans_model.specs.File.Refusals.{Accepts}
use Rattle.ans_model.specs.Screen.StartClass.{all_known}
use Rattle.ans_model.specs.Verdict.Good.{Picture}
use Rattle.ans_model.specs.declared.start.Start.{Start}
use Rattle.ans_sauce.proofs.LaidParts.{laid_body}
use Rattle.ans_sauce.specs.Contents.{content_in}
use Rattle.ans_picture_laws.specs.RedrawnFileLaws.{CanBeRedrawn, IsRedrawnTo, note_stays}
use Rattle.ans_redraw.specs.RedrawnFile.{redrawn_file}
use Rattle.ans_redraw.specs.declared.outcome.Redrawn.{Redrawn}
use Rattle.ans_picture_laws.proofs.RedrawnContents.{content_tells_the_picture}
use Rattle.ans_picture_laws.proofs.RedrawnFiles.{redrawn_files_pass}
use Rattle.ans_verdict.specs.FileVerdict.{Passes}
use Rattle.ans_redraw.specs.Redrawing.{IsRedrawn}
use Rattle.ans_check_laws.proofs.OnePicture.{same_picture}

-- The file passes with this picture and has room for its form, and the new file is the redrawn one.
pub record IsNew (file : List ℕ) (apart : FileParts) (picture : Picture) (new : List ℕ) : Type 0 where
  pub can : CanBeRedrawn file apart picture
  pub new_is : new ≡ redrawn_file file picture

-- a file passes with one picture, so it is redrawn with that
pub is_new : (file new : List ℕ) (apart : FileParts) (picture : Picture) (redrawn : Redrawn)
    → Passes file all_known apart picture → IsRedrawn file redrawn new → IsNew file apart picture new
is_new file new apart picture redrawn passes h =
    let same : h.picture ≡ picture =
    (same_picture file all_known h.apart apart h.picture picture h.passes passes).1 in
    record {
      can = record {
        accepts = passes.accepts;
        good = passes.good;
        room = subst (λ (v : Picture). length (redrawn_file file v) ≤ longest_file) same h.changes.room;
      };
      new_is = h.new_is ∙ ap (redrawn_file file) same;
    }

module _ (file : List ℕ) (apart : FileParts) (picture : Picture) (new : List ℕ) (h : IsNew file apart picture new) where
  -- its parts
  pub new_parts : (new_apart : FileParts) × IsRedrawnTo file apart picture new_apart
  new_parts = redrawn_files_pass file apart picture h.can

  pub new_accepts : Accepts new new_parts.0
  new_accepts = subst (λ (v : List ℕ). Accepts v new_parts.0) (sym h.new_is) new_parts.1.accepts

  pub new_passes : (class : Start) → Passes new class new_parts.0 picture
  new_passes class = record { accepts = new_accepts; good = new_parts.1.good class }

  pub new_content : content_in new ≡ content new_parts.0.body
  new_content = ap content (laid_body new new_parts.0 new_accepts.laid)

pub redrawing_keeps : (file new : List ℕ) (apart : FileParts) (picture : Picture) (redrawn : Redrawn)
    → Passes file all_known apart picture → IsRedrawn file redrawn new
    → (new_apart : FileParts) × ((class : Start) → Passes new class new_apart picture)
    × (stated_size new_apart.record_bytes ≡ stated_size apart.record_bytes)
    × (new_apart.comment_bytes ≡ apart.comment_bytes)
    × (notes new_apart.body new_apart.record_bytes ≡ filter note_stays (notes apart.body apart.record_bytes))
redrawing_keeps file new apart picture redrawn passes h =
    let its : IsNew file apart picture new = is_new file new apart picture redrawn passes h in
    let to : (new_apart : FileParts) × IsRedrawnTo file apart picture new_apart =
    new_parts file apart picture new its in
    (to.0, new_passes file apart picture new its, to.1.size, to.1.comments, to.1.notes)

-- of one size, files show one picture exactly where their redrawn contents are the same
pub contents_tell : (file other new other_new : List ℕ) (apart other_apart : FileParts) (p q : Picture)
    (redrawn other_redrawn : Redrawn) → Passes file all_known apart p → Passes other all_known other_apart q
    → stated_size apart.record_bytes ≡ stated_size other_apart.record_bytes → IsRedrawn file redrawn new
    → IsRedrawn other other_redrawn other_new → (content_in new ≡ content_in other_new) ↔ (p ≡ q)
contents_tell file other new other_new apart other_apart p q redrawn other_redrawn passes other_passes size h k =
    let its : IsNew file apart p new = is_new file new apart p redrawn passes h in
    let others : IsNew other other_apart q other_new =
    is_new other other_new other_apart q other_redrawn other_passes k in
    let to = new_parts file apart p new its in
    let other_to = new_parts other other_apart q other_new others in
    let told = content_tells_the_picture file other apart other_apart to.0 other_to.0 p q its.can others.can to.1
    other_to.1 size in
    let is : content_in new ≡ content to.0.body = new_content file apart p new its in
    let other_is : content_in other_new ≡ content other_to.0.body = new_content other other_apart q other_new others in
    (λ same. told.0 (sym is ∙ same ∙ other_is), λ same. is ∙ told.1 same ∙ sym other_is)
