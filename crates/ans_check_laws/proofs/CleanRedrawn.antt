-- What redrawing says is clean.
use Rattle.ans_report.specs.Changes.{end_mark_line}
use Rattle.ans_redraw.specs.RedrawnText.{redrawn_text, unredrawn_text}
use Rattle.ans_redraw.specs.declared.outcome.Redrawn.{Redrawn}
use Rattle.ans_redraw.specs.declared.outcome.Unredrawn.{Unredrawn}
use Rattle.ans_redraw.specs.declared.outcome.Unredrawn.TheVariants as unredrawn
use Rattle.ans_check_laws.specs.CleanTexts.{IsCleanText}
use Rattle.ans_check_laws.proofs.CleanLines.{clean_lines}
use Rattle.ans_check_laws.proofs.CleanPieces.{clean_option}

pub redrawn_clean : (redrawn : Redrawn) → IsCleanText (redrawn_text redrawn)
redrawn_clean redrawn = search (clean_option end_mark_line, clean_lines) depth 20

pub unredrawn_clean : (reason : Unredrawn) → IsCleanText (unredrawn_text reason)
unredrawn_clean (unredrawn.Refused fault) = search clean_lines depth 20
unredrawn_clean (unredrawn.TooLong whole) = search clean_lines depth 20
