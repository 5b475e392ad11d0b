use Rattle.std.proofs.Common.{◌≡◌, ◌++◌, drop}
use Rattle.ans_model.specs.Text.Words.{texts_of}
use Rattle.ans_check.specs.Fates.{files_among}
use Rattle.ans_check.proofs.fates.files_among.Given as goal

abbrev pub invariant-loop-name : goal.invariant-loop-name
invariant-loop-name l =
    texts_of l.files.items ++ files_among (texts_of (drop l.name-index l.names)) ≡ files_among (texts_of l.names)
