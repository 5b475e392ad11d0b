use Rattle.ans_check_laws.proofs.CleanPieces.{glyph_no_control, shown_has_no_controls}
use Rattle.ans_check_laws.proofs.text_laws.bytes_are_shown_clean.Goals as goal

pub returns-clause-characters : goal.returns-clause-characters
returns-clause-characters c = glyph_no_control

pub returns-clause-texts : goal.returns-clause-texts
returns-clause-texts c = shown_has_no_controls
