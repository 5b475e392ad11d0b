use Rattle.std.proofs.Common.{ap, ◌∙◌}
use Rattle.std.specs.List.{flat_map}
use Rattle.ans_model.specs.Text.FaultText.{note_line}
use Rattle.ans_write.proofs.PutsLemmas.{Puts-same, Puts-then}
use Rattle.ans_why.proofs.why_text.put_heading.Goals as goal

pub returns : goal.returns
returns g c =
    Puts-then c.put_size_line.ensures
    (Puts-same (ap (λ notes. flat_map note_line notes) (c.as_slice.ensures.value ∙ c.notes.ensures))
    c.put_notes.ensures)
