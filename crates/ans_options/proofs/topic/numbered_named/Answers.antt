use Rattle.std.proofs.Common.{sym, ◌∙◌, map}
use Rattle.std.specs.Str.{str_eq_ignore_ascii_case}
use Rattle.ans_model.specs.declared.fault.Cause.TheVariants.{NoRecord}
use Rattle.ans_model.specs.declared.fault.TheConstants.Cause as cause
use Rattle.ans_model.specs.declared.note.TheConstants.Note as note
use Rattle.ans_options.specs.Topics.{topic_name}
use Rattle.ans_options.specs.declared.topic.Topic.TheVariants as topic
use Rattle.ans_options.proofs.TopicLemmas.{found_behind, found_here}
use Rattle.ans_options.proofs.topic.numbered_named.Goals as goal

pub returns-then-is_named : goal.returns-then-is_named
returns-then-is_named c =
    found_here (λ t. str_eq_ignore_ascii_case c.args.name.now (topic_name t)) topic.Fault cause.EACH
    (map topic.Note note.EACH) c.loop-cause.cause-index NoRecord _ c.loop-cause-test.true c.loop-cause.invariant
    (rw c.number.ensures at (sym c.is_named.ensures ∙ c.if-is_named.true))

pub loop-cause-preserved : goal.loop-cause-preserved
loop-cause-preserved c =
    found_behind (λ t. str_eq_ignore_ascii_case c.args.name.now (topic_name t)) topic.Fault cause.EACH
    (map topic.Note note.EACH) c.loop-cause.cause-index NoRecord _ c.loop-cause-test.true c.loop-cause.invariant
    (rw c.number.ensures at (sym c.is_named.ensures ∙ c.if-is_named.false))
