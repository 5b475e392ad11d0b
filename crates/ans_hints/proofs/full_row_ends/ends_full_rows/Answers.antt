use Rattle.std.proofs.Common.{subst, sym, ◌∙◌, true≢false}
use Rattle.ans_model.specs.Screen.State.{Size}
use Rattle.ans_hints.specs.FullRowEnds.{EndsFullRows}
use Rattle.ans_hints.proofs.FullRowsEnded.{ended, read_whole}
use Rattle.ans_hints.proofs.full_row_ends.ends_full_rows.Goals as goal

pub walk-requires-clause-begins : goal.walk-requires-clause-begins
walk-requires-clause-begins c = c.begun-rows.ensures.walked c.args.content.now

pub returns-then-is_read-clause-ended : goal.returns-then-is_read-clause-ended
returns-then-is_read-clause-ended c is =
    let h = ended c.args.content.now c.begun-rows.result c.walk.new.walker c.walk.result c.walk.ensures
    (sym c.unwrap_or-is_read.ensures ∙ c.if-is_read.true) (sym c.are_all_ended.ensures ∙ is) in
    (h.0, h.1, subst (λ (z : Size). EndsFullRows z c.args.content.now h.0 h.1) c.begun-rows.ensures.size h.2)

pub returns-then-is_read-clause-other : goal.returns-then-is_read-clause-other
returns-then-is_read-clause-other c is tokens texts rows =
    let w = read_whole c.args.content.now c.begun-rows.result c.walk.new.walker c.walk.result tokens texts
    c.walk.ensures
    (subst (λ (z : Size). EndsFullRows z c.args.content.now tokens texts) (sym c.begun-rows.ensures.size) rows) in
    true≢false (sym w.1 ∙ (sym c.are_all_ended.ensures ∙ is))

pub returns-else-is_read-clause-other : goal.returns-else-is_read-clause-other
returns-else-is_read-clause-other c is tokens texts rows =
    let w = read_whole c.args.content.now c.begun-rows.result c.walk.new.walker c.walk.result tokens texts
    c.walk.ensures
    (subst (λ (z : Size). EndsFullRows z c.args.content.now tokens texts) (sym c.begun-rows.ensures.size) rows) in
    true≢false (sym w.0 ∙ (sym c.unwrap_or-is_read.ensures ∙ is))
