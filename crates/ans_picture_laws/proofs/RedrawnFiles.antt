-- A redrawn file is accepted, and passes from every start with the same picture.
use Rattle.std.proofs.Common.{◌≡◌, ℕ, ◌+◌, ◌*◌, ◌≤◌, ◌<◌, Bool, true, false, List, ◌++◌, length, drop, refl, sym}
use Rattle.std.proofs.Common.{ap, ap₂, ◌∙◌, arith, append_assoc, subst, subst₂}
use Rattle.std.proofs.lemmas.List.{append-nil, length-append}
use Rattle.std.proofs.lemmas.List.Folds.{list_any-append}
use Rattle.std.proofs.Math.Seq.{drop-append_seam}
use Rattle.std.specs.Prelude.{◌||◌}
use Rattle.std.specs.List.{list_all, list_any}
use Rattle.ans_model.specs.Bytes.{longest_file}
use Rattle.ans_model.specs.File.Layout.{FileParts, after_content, comment_block, content, file_parts, is_end_mark}
use Rattle.ans_model.specs.File.Layout.{laid_file}
use Rattle.ans_model.specs.File.Record.{comment_count, file_size, stated_size}
use Rattle.ans_model.specs.File.Refusals.{Accepts}
use Rattle.ans_model.specs.Screen.StartClass.{all_known}
use Rattle.ans_model.specs.Screen.State.{Size}
use Rattle.ans_model.specs.Verdict.Good.{Picture, GoodWith}
use Rattle.ans_sauce.specs.Found.{body_in, record_in}
use Rattle.ans_sauce.proofs.LaidParts.{laid_record}
use Rattle.ans_sauce.specs.Fields.{resized_parts, with_file_size}
use Rattle.ans_sauce.proofs.ResizedFiles.{resized_accepted, resized_content, resized_date, resized_file_size}
use Rattle.ans_sauce.proofs.ResizedFiles.{resized_flags, resized_size, resized_width}
use Rattle.ans_picture_laws.specs.Drawable.{IsDrawable}
use Rattle.ans_redraw.specs.Form.{form_bytes}
use Rattle.ans_picture_laws.proofs.FormLaws.{form_has_no_end_mark, form_is_good}
use Rattle.ans_picture_laws.proofs.PrintedPictures.{good_pictures_are_drawable}
use Rattle.ans_picture_laws.specs.RedrawnFileLaws.{CanBeRedrawn, IsRedrawnTo, RedrawnFilesPass}
use Rattle.ans_redraw.specs.RedrawnFile.{block_in, marked_end, redrawn_file}
use Rattle.ans_sauce.proofs.ContentLemmas.{content_unmarked}
use Rattle.ans_picture_laws.proofs.EndMarks.{ends_are_clean, ends_begin, ends_follow, ends_have_one}
use Rattle.ans_picture_laws.proofs.KeptNotes.{notes_stay}
use Rattle.ans_redraw.proofs.NewFiles.{block_is, its_body}

marked_any : (marked any : Bool) → any ≡ true → (marked || any) ≡ true
marked_any true any is = refl
marked_any false any is = is

-- a content is as long as its file at most
fits : (form behind whole : ℕ) → whole ≡ form + behind → whole ≤ longest_file → form < 4294967296
fits form behind whole sum room = omega (arith, sum, room)

same_count : (lines count other : ℕ) → lines ≡ 64 * count → lines ≡ 64 * other → count ≡ other
same_count lines count other is too = omega (arith, is, too)

module _ (file : List ℕ) (apart : FileParts) (picture : Picture) (h : CanBeRedrawn file apart picture) where
  abbrev z : Size
  z = stated_size apart.record_bytes

  abbrev form : List ℕ
  form = form_bytes picture

  abbrev n : ℕ
  n = length form

  -- its picture can be drawn
  pub its_drawable : IsDrawable z picture
  its_drawable =
      good_pictures_are_drawable z all_known (content apart.body) picture h.good (content_unmarked apart.body)

  unmarked : list_any is_end_mark form ≡ false
  unmarked = form_has_no_end_mark z picture its_drawable

  -- the end marks, the comments and the record
  abbrev rest : FileParts
  rest = file_parts (marked_end apart.body) apart.comment_bytes apart.record_bytes

  rest_accepted : Accepts (laid_file rest) rest
  rest_accepted =
      let a = h.accepts in
      record {
        laid = record { size = a.laid.size; id = a.laid.id; comments = a.laid.comments; whole = refl };
        version_00 = a.version_00;
        character = a.character;
        ansi = a.ansi;
        lines_stated = a.lines_stated;
        width_in_limit = a.width_in_limit;
        lines_in_limit = a.lines_in_limit;
        clean_end = ap (list_all is_end_mark) (ends_follow apart.body) ∙ ends_are_clean apart.body a.clean_end;
      }

  -- the redrawn file's parts
  abbrev pub parts : FileParts
  parts = resized_parts form n rest

  parts_accepted : Accepts (laid_file parts) parts
  parts_accepted = resized_accepted form unmarked n (laid_file rest) rest rest_accepted

  pub its_content : content parts.body ≡ form
  its_content =
      resized_content form unmarked n (laid_file rest) rest rest_accepted
      ∙ ap (λ (v : List ℕ). form ++ v) (ends_begin apart.body) ∙ append-nil form

  -- behind the content its end marks stand
  pub its_ends : after_content parts.body ≡ marked_end apart.body
  its_ends =
      ap (λ (v : List ℕ). drop (length v) parts.body) its_content ∙ drop-append_seam form (marked_end apart.body)

  pub its_mark : list_any is_end_mark parts.body ≡ true
  its_mark =
      list_any-append is_end_mark form (marked_end apart.body)
      ∙ marked_any (list_any is_end_mark form) (list_any is_end_mark (marked_end apart.body))
      (ends_have_one apart.body)

  -- and so many comments as were there
  its_count : comment_count parts.record_bytes ≡ comment_count apart.record_bytes
  its_count =
      same_count (length apart.comment_bytes) (comment_count parts.record_bytes) (comment_count apart.record_bytes)
      parts_accepted.laid.comments h.accepts.laid.comments

  pub its_whole : redrawn_file file picture ≡ laid_file parts
  its_whole =
      let block : List ℕ = comment_block (comment_count apart.record_bytes) apart.comment_bytes in
      let sauce : List ℕ = parts.record_bytes in
      let ends : List ℕ = marked_end apart.body in
      ap (λ (v : List ℕ). form ++ (marked_end v ++ (block_in file ++ with_file_size n (record_in file))))
      (its_body file apart h.accepts.laid)
      ∙ ap₂ (λ (v w : List ℕ). form ++ (ends ++ (v ++ with_file_size n w))) (block_is file apart h.accepts.laid)
      (laid_record file apart h.accepts.laid)
      ∙ ap (λ (v : ℕ). form ++ (ends ++ (comment_block v apart.comment_bytes ++ sauce))) (sym its_count)
      ∙ sym (append_assoc form ends (comment_block (comment_count sauce) apart.comment_bytes ++ sauce))

  pub its_accepts : Accepts (redrawn_file file picture) parts
  its_accepts = subst (λ (v : List ℕ). Accepts v parts) (sym its_whole) parts_accepted

  its_size : stated_size parts.record_bytes ≡ z
  its_size = resized_size form unmarked n (laid_file rest) rest rest_accepted

  its_file_size : file_size parts.record_bytes ≡ n
  its_file_size =
      let behind : List ℕ = marked_end (body_in file) ++ (block_in file ++ with_file_size n (record_in file)) in
      resized_file_size form unmarked n (laid_file rest) rest rest_accepted
      (fits n (length behind) (length (redrawn_file file picture)) (length-append form behind) h.room)

  pub its_parts : IsRedrawnTo file apart picture parts
  its_parts = record {
    accepts = its_accepts;
    size = its_size;
    comments = refl;
    sauce = refl;
    notes = notes_stay apart parts (record {
      width = resized_width form unmarked n (laid_file rest) rest rest_accepted;
      date = resized_date form unmarked n (laid_file rest) rest rest_accepted;
      bits = resized_flags form unmarked n (laid_file rest) rest rest_accepted;
      marked = its_mark;
      counted = its_file_size ∙ ap length (sym its_content);
    });
    form = its_content;
    good = λ class. subst₂ (λ (v : Size) (bytes : List ℕ). GoodWith v class bytes picture) (sym its_size)
        (sym its_content) (form_is_good z class picture its_drawable);
  }

pub redrawn_files_pass : RedrawnFilesPass
redrawn_files_pass file apart picture h = (parts file apart picture h, its_parts file apart picture h)
