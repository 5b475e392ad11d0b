use Rattle.ans_picture_laws.proofs.LongestRuns as longest
use Rattle.ans_picture_laws.proofs.show_laws.runs_are_longest.Goals as goal

pub returns : goal.returns
returns c = record { cells = longest.runs_are_the_row; longest = longest.runs_are_longest }
