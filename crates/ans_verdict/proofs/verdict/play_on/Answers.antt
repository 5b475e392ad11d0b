use Rattle.std.proofs.Common.{◌∙◌, ap₂, arith}
use Rattle.ans_model.specs.Screen.State.{sized}
use Rattle.ans_model.specs.Verdict.Good.{GoodWith}
use Rattle.ans_verdict.specs.FileVerdict.{Deserves}
use Rattle.ans_verdict.proofs.VerdictLemmas.{ok_of_parts, err_of_parts}
use Rattle.ans_verdict.proofs.verdict.play_on.Goals as goal

pub returns-clause-good : goal.returns-clause-good
returns-clause-good g c =
    ok_of_parts c.play_content.result GoodWith
    (c.on.ensures.new.size ∙ ap₂ sized c.requires.width (omega (arith, c.requires.rows)))
    c.on.ensures.new.start c.content.ensures c.play_content.ensures.good

pub returns-clause-refused : goal.returns-clause-refused
returns-clause-refused g c =
    err_of_parts c.play_content.result Deserves
    (c.on.ensures.new.size ∙ ap₂ sized c.requires.width (omega (arith, c.requires.rows)))
    c.on.ensures.new.start c.content.ensures c.play_content.ensures.refused
