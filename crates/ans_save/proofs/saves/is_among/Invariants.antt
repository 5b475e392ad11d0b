use Rattle.std.proofs.Common.{◌≡◌, drop}
use Rattle.ans_save.specs.Places.{is_among}
use Rattle.ans_save.proofs.saves.is_among.Given as goal

abbrev pub invariant-loop-other : goal.invariant-loop-other
invariant-loop-other l = is_among (drop l.other-index l.files) l.file ≡ is_among l.files l.file
