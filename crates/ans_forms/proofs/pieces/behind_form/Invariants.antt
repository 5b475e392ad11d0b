use Rattle.std.proofs.Common.{◌≡◌, drop}
use Rattle.ans_forms.specs.Pieces.{behind_form}
use Rattle.ans_forms.proofs.pieces.behind_form.Given as goal

abbrev pub invariant-loop-piece : goal.invariant-loop-piece
invariant-loop-piece l = behind_form l.pieces l.fn.bytes ≡ behind_form (drop l.piece-index l.pieces) l.rest
