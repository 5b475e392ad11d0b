use Rattle.ans_tokens.proofs.Scanning.{scanned, scanned_read, scanned_only, scanned_ends, scanned_refused}
use Rattle.ans_tokens.proofs.laws.bytes_give_their_tokens.Goals as goal

pub returns-clause-read : goal.returns-clause-read
returns-clause-read c old new bytes tokens empty takes =
    scanned_read old.offset bytes new tokens (scanned old new bytes tokens empty takes)

pub returns-clause-only : goal.returns-clause-only
returns-clause-only c old new bytes tokens kinds empty takes =
    scanned_only old.offset bytes new tokens kinds (scanned old new bytes tokens empty takes)

pub returns-clause-no_end_in_sequence : goal.returns-clause-no_end_in_sequence
returns-clause-no_end_in_sequence c old new bytes tokens kinds fault empty takes =
    scanned_ends old.offset bytes new tokens kinds fault (scanned old new bytes tokens empty takes)

pub returns-clause-no_refusal : goal.returns-clause-no_refusal
returns-clause-no_refusal c old new bytes rest byte tokens kinds fault empty takes =
    scanned_refused old.offset bytes rest byte new tokens kinds fault (scanned old new bytes tokens empty takes)
