use Rattle.std.proofs.Common.{ap, ◌∙◌}
use Rattle.std.specs.Str.{is_utf8}
use Rattle.ans_hints.proofs.TextTests.{front_copied}
use Rattle.ans_hints.proofs.conditions.front_is_utf8.Goals as goal

pub returns : goal.returns
returns c =
    c.is_utf8.ensures
    ∙ ap is_utf8 (front_copied c.args.first c.args.count c.min-more.result c.args.rest.now c.copy_from_slice.new.self _
    c.requires.some c.min-more.ensures c.copy_from_slice.ensures.after)
