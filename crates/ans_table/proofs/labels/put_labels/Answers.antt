use Rattle.std.proofs.Common.{◌≡◌, ◌-◌, take, length, drop, sym}
use Rattle.std.proofs.lemmas.List.{take_rest}
use Rattle.ans_write.proofs.PutsLemmas.{Puts-same, Puts-then}
use Rattle.ans_table.proofs.LabelLemmas.{labels_text_is}
use Rattle.ans_table.proofs.labels.put_labels.Goals as goal

pub returns : goal.returns
returns g c =
    let notes = c.args.notes.now in
    let later : take (length notes - 1) (drop 1 notes) ≡ drop 1 notes = take_rest notes 1 in
    Puts-same (sym (labels_text_is notes _ c.in-len1-up.len_at_least))
    (Puts-then c.put_label.ensures (rw later at c.put_later_labels.ensures))
