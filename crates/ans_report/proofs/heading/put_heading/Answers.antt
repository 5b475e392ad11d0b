use Rattle.std.proofs.Common.{rules, ◌≡◌}
use Rattle.ans_sauce.specs.Parts.{notes_of}
use Rattle.ans_write.proofs.PutsLemmas.{Puts-then}
use Rattle.ans_report.proofs.heading.put_heading.Goals as goal

pub returns : goal.returns
returns g c =
    let notes : c.as_slice.result.now ≡ notes_of c.args.parts.now = search rules in
    Puts-then c.put_size_line.ensures (Puts-then c.put_start_line.ensures
    (Puts-then (rw c.content.ensures at c.put_length_line.ensures) (rw notes at c.put_notes.ensures)))
