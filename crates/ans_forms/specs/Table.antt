-- The table of the program. Only private contracts cite it.
use Rattle.ans_forms.specs.Unwanted.{FormEntry}
use Rattle.ans_forms.specs.declared.table.SequenceForm.{SequenceForm}

-- an entry of it
abbrev pub entry_of : SequenceForm → FormEntry
entry_of form = record { kind = form.kind; pieces = form.pieces.now }
