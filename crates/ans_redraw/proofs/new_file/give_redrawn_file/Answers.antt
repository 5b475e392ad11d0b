use Rattle.std.proofs.Common.{◌≡◌, ◌∙◌, ◌++◌, ℕ, List, length, drop, ap, ap₂, sym}
use Rattle.ans_sauce.specs.Contents.{content_in}
use Rattle.ans_sauce.specs.Fields.{with_file_size}
use Rattle.ans_sauce.specs.Found.{front_in, record_in}
use Rattle.ans_sauce.proofs.LaidParts.{laid_record}
use Rattle.ans_redraw.specs.Form.{form_bytes}
use Rattle.ans_redraw.proofs.NewFiles.{missing, whole_is}
use Rattle.ans_redraw.proofs.RowsGiven.{takes_same}
use Rattle.ans_redraw.proofs.new_file.give_redrawn_file.Goals as goal

pub returns : goal.returns
returns g c =
    let split = c.requires.split in
    let file = c.args.file.now in
    let form = form_bytes c.args.picture.now in
    let mark = c.missing_mark.result.now in
    let behind = c.behind_content-behind.result.now in
    let its_record = c.with_file_size.result in
    let behind_is = c.behind_content-behind.ensures in
    let record_is : its_record ≡ with_file_size (length form) (record_in file) =
    c.with_file_size.ensures
    ∙ ap₂ with_file_size c.requires.size
    (c.sauce.ensures ∙ split.shows.sauce ∙ sym (laid_record file split.apart split.accepts.laid)) in
    let rest : mark ++ (behind ++ its_record) ≡ missing (drop (length (content_in file)) (front_in file))
    ++ (drop (length (content_in file)) (front_in file) ++ with_file_size (length form) (record_in file)) =
    ap₂ (λ (v w : List ℕ). v ++ w) (c.missing_mark.ensures ∙ ap missing behind_is)
    (ap₂ (λ (v w : List ℕ). v ++ w) behind_is record_is) in
    takes_same g.S.Sink.takes
    (ap (λ (v : List ℕ). form ++ v) rest ∙ sym (whole_is file split.apart split.accepts.laid c.args.picture.now))
    (g.met.S.Sink.both _ _ _ form (mark ++ (behind ++ its_record)) c.give_form.ensures
    (g.met.S.Sink.both _ _ _ mark (behind ++ its_record) c.take.ensures
    (g.met.S.Sink.both _ _ _ behind its_record c.take-2.ensures c.take-3.ensures)))
