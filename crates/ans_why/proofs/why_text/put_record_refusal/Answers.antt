use Rattle.std.proofs.Common.{◌∙◌, ap}
use Rattle.ans_write.proofs.PutsLemmas.{Puts-same, Puts-then}
use Rattle.ans_why.specs.OtherFiles.{first_known}
use Rattle.ans_why.specs.WhyText.{known_line}
use Rattle.ans_why.proofs.why_text.put_record_refusal.Goals as goal

pub returns : goal.returns
returns g c =
    let known = c.first_known.ensures ∙ ap (first_known c.args.said.now.other) c.known_found.ensures in
    Puts-then c.put_fault_lines.ensures
    (Puts-then c.put_found.ensures
    (Puts-then (Puts-same (ap known_line known) c.put_known_line.ensures)
    (Puts-then c.put_file_damage.ensures c.put_enough.ensures)))
