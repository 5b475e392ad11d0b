-- A file that is redrawn again stays as it is.
use Rattle.std.proofs.Common.{◌≡◌, ℕ, List, ◌++◌, length, sym, ap, ap₂, ◌∙◌}
use Rattle.std.proofs.Common.{append_assoc, subst}
use Rattle.ans_model.specs.File.Layout.{FileParts, comment_block}
use Rattle.ans_model.specs.File.Record.{comment_count, stated_size}
use Rattle.ans_model.specs.Screen.State.{Size}
use Rattle.ans_model.specs.Verdict.Good.{Picture, GoodWith}
use Rattle.ans_sauce.specs.Found.{body_in, record_in}
use Rattle.ans_sauce.proofs.LaidParts.{laid_record}
use Rattle.ans_sauce.specs.Fields.{with_file_size}
use Rattle.ans_sauce.proofs.ResizedFiles.{resized_again}
use Rattle.ans_picture_laws.specs.Drawable.{IsDrawable}
use Rattle.ans_redraw.specs.Form.{form_bytes}
use Rattle.ans_picture_laws.proofs.Redrawn.{form_is_kept}
use Rattle.ans_picture_laws.specs.RedrawnFileLaws.{CanBeRedrawn, IsRedrawnTo, OnceIsEnough}
use Rattle.ans_redraw.specs.RedrawnFile.{block_in, marked_end, redrawn_file}
use Rattle.ans_picture_laws.proofs.EndMarks.{marked_ends}
use Rattle.ans_redraw.proofs.NewFiles.{block_is, its_body}
use Rattle.ans_picture_laws.proofs.RedrawnFiles.{its_accepts, its_drawable, its_ends, its_mark, its_whole, parts}

-- it can be drawn at the size that the redrawn file states
pub drawable_there : (file : List ℕ) (apart new : FileParts) (picture : Picture) → CanBeRedrawn file apart picture
    → IsRedrawnTo file apart picture new → IsDrawable (stated_size new.record_bytes) picture
drawable_there file apart new picture h k =
    subst (λ (v : Size). IsDrawable v picture) (sym k.size) (its_drawable file apart picture h)

-- with one form it is redrawn to itself
module _ (file : List ℕ) (apart : FileParts) (picture : Picture) (h : CanBeRedrawn file apart picture)
    (again : Picture) (same : form_bytes again ≡ form_bytes picture) where
  abbrev form : List ℕ
  form = form_bytes picture

  abbrev n : ℕ
  n = length form

  abbrev redrawn : List ℕ
  redrawn = redrawn_file file picture

  abbrev own : FileParts
  own = parts file apart picture h

  abbrev sauce : List ℕ
  sauce = own.record_bytes

  abbrev block : List ℕ
  block = comment_block (comment_count sauce) own.comment_bytes

  ends_stay : marked_end (body_in redrawn) ≡ marked_end apart.body
  ends_stay =
      ap marked_end (its_body redrawn own (its_accepts file apart picture h).laid)
      ∙ marked_ends own.body (its_mark file apart picture h) ∙ its_ends file apart picture h

  size_stays : with_file_size n (record_in redrawn) ≡ sauce
  size_stays =
      ap (with_file_size n) (laid_record redrawn own (its_accepts file apart picture h).laid)
      ∙ resized_again n n apart.record_bytes h.accepts.laid.size

  pub same_file : redrawn_file redrawn again ≡ redrawn
  same_file =
      let ends : List ℕ = marked_end apart.body in
      ap (λ (v : List ℕ). v ++ (marked_end (body_in redrawn)
      ++ (block_in redrawn ++ with_file_size (length v) (record_in redrawn)))) same
      ∙ ap₂ (λ (v w : List ℕ). form ++ (v ++ (block_in redrawn ++ w))) ends_stay size_stays
      ∙ ap (λ (v : List ℕ). form ++ (ends ++ (v ++ sauce)))
      (block_is redrawn own (its_accepts file apart picture h).laid)
      ∙ sym (append_assoc form ends (block ++ sauce)) ∙ sym (its_whole file apart picture h)

pub once_is_enough : OnceIsEnough
once_is_enough file apart new class picture again h k good =
    same_file file apart picture h again
    (form_is_kept (stated_size new.record_bytes) class picture again (drawable_there file apart new picture h k)
    (subst (λ (bytes : List ℕ). GoodWith (stated_size new.record_bytes) class bytes again) k.form good))
