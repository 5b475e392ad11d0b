use Rattle.std.proofs.Common.{sym, ◌∙◌}
use Rattle.ans_folders.proofs.WalkLemmas.{hands_file, hands_passed, hands_unreadable}
use Rattle.ans_folders.proofs.walking.Pending.hand.Goals as goal

pub returns-in-File : goal.returns-in-File
returns-in-File g c =
    hands_file _ _ _ _ _ _ _ _ _ c.in-File.is c.as_str-path.ensures.value (sym c.takes.ensures ∙ c.if-takes.true)
    c.file.ensures.takes c.file.ensures.stops

pub returns-in-File-2 : goal.returns-in-File-2
returns-in-File-2 g c =
    hands_passed _ _ _ _ _ _ _ _ _ c.in-File-2.is c.as_str-path.ensures.value (sym c.takes.ensures ∙ c.if-takes.false)
    c.passed.ensures.takes c.passed.ensures.stops

pub returns-in-Unread : goal.returns-in-Unread
returns-in-Unread g c =
    hands_unreadable _ _ _ _ _ _ _ _ _ _ c.in-Unread.is c.as_str-path.ensures.value c.unreadable.ensures.takes
    c.unreadable.ensures.stops
