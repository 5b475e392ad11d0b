use Rattle.std.proofs.Common.{◌≡◌, ◌+◌, ◌≤◌, ◌==◌, ℕ, List, length, arith, ap, ◌∙◌, None, Some, refl}
use Rattle.std.specs.Prelude.{if◌then◌else◌}
use Rattle.std.specs.List.{list_any}
use Rattle.ans_model.specs.Bytes.{longest_file}
use Rattle.ans_model.specs.File.Layout.{is_end_mark}
use Rattle.ans_sauce.specs.Found.{body_in}
use Rattle.ans_redraw.specs.Form.{form_bytes}
use Rattle.ans_redraw.specs.RedrawnFile.{redrawn_file}
use Rattle.ans_redraw.specs.declared.outcome.Unredrawn.TheVariants.{TooLong}
use Rattle.ans_redraw.proofs.NewFiles.{IsWholeOf, content_was, form_exact, long_counted, mark_put, missing}
use Rattle.ans_redraw.proofs.NewFiles.{size_was, pieces_behind, short_exact, total, whole_counted, whole_exact}
use Rattle.ans_redraw.proofs.new_file.redrawn_with.Goals as goal

pub returns-then-whole-gt-MAX_FILE-clause-too_long : goal.returns-then-whole-gt-MAX_FILE-clause-too_long
returns-then-whole-gt-MAX_FILE-clause-too_long g c =
    let file = c.args.file.now in
    let p = c.args.picture.now in
    let split = c.requires.split in
    let mark = c.missing_mark-mark.result.now in
    let behind = c.behind_content-behind.result.now in
    let rest : ℕ = length mark + length behind + 128 in
    let n : ℕ = length (form_bytes p) in
    let sum : n + rest ≡ length (redrawn_file file p) =
    pieces_behind n (length mark) (length behind)
    ∙ total file split.apart split.accepts.laid p n mark behind refl c.behind_content-behind.ensures
    c.missing_mark-mark.ensures in
    let counted =
    whole_counted n c.form_length-form.result rest c.saturating_add-whole.result (length (redrawn_file file p))
    (record { form_is = c.form_length-form.ensures; whole_is = c.saturating_add-whole.ensures }) sum in
    record {
      reason_is = ap TooLong counted;
      long = long_counted c.saturating_add-whole.result (length (redrawn_file file p)) counted
          c.if-whole-gt-MAX_FILE.true;
    }

pub returns-clause-redrawn : goal.returns-clause-redrawn
returns-clause-redrawn g c =
    let file = c.args.file.now in
    let p = c.args.picture.now in
    let split = c.requires.split in
    let laid = split.accepts.laid in
    let mark = c.missing_mark-mark.result.now in
    let behind = c.behind_content-behind.result.now in
    let rest : ℕ = length mark + length behind + 128 in
    let n : ℕ = length (form_bytes p) in
    let sum : n + rest ≡ length (redrawn_file file p) =
    pieces_behind n (length mark) (length behind)
    ∙ total file split.apart laid p n mark behind refl c.behind_content-behind.ensures c.missing_mark-mark.ensures in
    let counts : IsWholeOf n c.form_length-form.result rest c.saturating_add-whole.result =
    record { form_is = c.form_length-form.ensures; whole_is = c.saturating_add-whole.ensures } in
    let le : c.saturating_add-whole.result ≤ longest_file = omega (arith, c.if-whole-gt-MAX_FILE.false) in
    let form = form_exact n c.form_length-form.result rest c.saturating_add-whole.result counts le in
    let whole =
    whole_exact n c.form_length-form.result rest c.saturating_add-whole.result (length (redrawn_file file p)) counts
    sum le in
    record {
      told = record {
        length_was = content_was file split.apart laid c.content.result.now (c.content.ensures ∙ split.shows.content);
        length_is = form;
        end_mark = c.place_of_mark.ensures
            ∙ ap (λ (m : List ℕ). if length m == 0 then None else Some c.form_length-form.result)
            (c.missing_mark-mark.ensures ∙ ap missing c.behind_content-behind.ensures)
            ∙ mark_put file split.apart laid c.form_length-form.result
            ∙ ap (λ (k : ℕ). if list_any is_end_mark (body_in file) then None else Some k) form;
        size_was = size_was file split.apart laid c.file_size.result _ c.file_size.ensures
            (c.sauce.ensures ∙ split.shows.sauce);
        size_is = form;
        whole = whole;
      };
      room = short_exact c.saturating_add-whole.result (length (redrawn_file file p)) whole le;
    }
