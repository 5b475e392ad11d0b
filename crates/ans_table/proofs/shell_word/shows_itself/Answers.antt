use Rattle.std.proofs.Common.{◌∙◌}
use Rattle.std.proofs.lemmas.List.{drop-drop, take_rest}
use Rattle.ans_table.proofs.shell_word.shows_itself.Goals as goal

pub loop-i-preserved : goal.loop-i-preserved
loop-i-preserved c =
    let name = c.args.name.now in
    c.loop-i.invariant
    ∙ (rw (take_rest name c.loop-i.i, drop-drop 1 c.loop-i.i name) at c.in-Some.ensures.some)
