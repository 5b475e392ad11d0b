use Rattle.std.proofs.Common.{ap, sym, ◌∙◌, Some}
use Rattle.ans_model.specs.declared.fault.Fault.{Fault}
use Rattle.ans_sauce.proofs.Splitting.{block_missing}
use Rattle.ans_sauce.proofs.layout.cut_front.Goals as goal

pub returns-in_default-clause-err : goal.returns-in_default-clause-err
returns-in_default-clause-err c =
    block_missing c.comment_count.result c.args.front.now c.args.sauce.now.bytes.now
    (sym c.is_version_00.ensures ∙ c.if-not-is_version_00.false)
    (sym c.is_character_ansi.ensures ∙ c.if-not-is_character_ansi.false)
    c.comment_count.ensures (sym c.in_default.ensures.found)
    ∙ ap (λ (v : Fault). Some v) (sym c.fault-in_default.ensures)
