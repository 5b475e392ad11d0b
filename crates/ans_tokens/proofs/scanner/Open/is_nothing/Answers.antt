use Rattle.std.proofs.Common.{◌≡◌, [], ◌∷◌}
use Rattle.ans_model.specs.Bytes.{escape}
use Rattle.ans_model.proofs.AfterPart.{part_unfinished}
use Rattle.ans_tokens.proofs.OpenLemmas.{escape_unfinished}
use Rattle.ans_tokens.proofs.scanner.Open.is_nothing.Goals as goal

pub returns-in-Escape : goal.returns-in-Escape
returns-in-Escape c y held =
    let escaped : y ≡ escape ∷ [] = rw c.in-Escape.is at held in
    rw escaped escape_unfinished

pub returns-in-Sequence : goal.returns-in-Sequence
returns-in-Sequence c y held =
    let part = rw c.in-Sequence.is at held in
    part_unfinished part.0 y part.2
