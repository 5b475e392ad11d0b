use Rattle.std.proofs.Common.{◌≡◌, ◌++◌, drop}
use Rattle.std.specs.Prelude.{find, map}
use Rattle.std.specs.Str.{str_eq_ignore_ascii_case}
use Rattle.ans_model.specs.declared.fault.TheConstants.Cause as cause
use Rattle.ans_model.specs.declared.note.TheConstants.Note as note
use Rattle.ans_options.specs.Topics.{numbered_named, topic_name}
use Rattle.ans_options.specs.declared.topic.Topic.TheVariants as topic
use Rattle.ans_options.proofs.topic.numbered_named.Given as goal

abbrev pub invariant-loop-cause : goal.invariant-loop-cause
invariant-loop-cause l =
    find (λ t. str_eq_ignore_ascii_case l.name (topic_name t))
    (map topic.Fault (drop l.cause-index cause.EACH) ++ map topic.Note note.EACH) ≡ numbered_named l.name

abbrev pub invariant-loop-note : goal.invariant-loop-note
invariant-loop-note l =
    find (λ t. str_eq_ignore_ascii_case l.name (topic_name t)) (map topic.Note (drop l.note-index note.EACH))
    ≡ numbered_named l.name
