use Rattle.std.proofs.Common.{rules, sym, ap, ◌∙◌}
use Rattle.std.specs.Prelude.{not}
use Rattle.ans_write.specs.Puts.{device_of}
use Rattle.ans_check.specs.Said.{said_text}
use Rattle.ans_check.specs.Naming.{unnamed}
use Rattle.ans_check.proofs.AnswerLemmas.{put_out, said, said_nothing, said_something, says_as}
use Rattle.ans_check.proofs.answering.say.Goals as goal

pub returns-then-says_nothing : goal.returns-then-says_nothing
returns-then-says_nothing g c =
    said g.E.Write.contents c.args.errors.now c.args.errors.now c.args.naming.now c.args.ending c.requires
    (said_nothing g.E.Write.contents c.args.errors.now (said_text c.args.naming.now c.args.ending)
    (ap not (says_as c.args.naming.now unnamed c.args.ending) ∙ sym c.if-says_nothing.ensures))

pub returns : goal.returns
returns g c =
    let told = put_out c.args.errors.now c.finish.result c.new-out.ensures.unchanged c.new-out.ensures.empty
    c.put_said.ensures c.finish.ensures.handed c.finish.ensures.device c.finish.ensures.empty in
    let done = said g.E.Write.contents c.args.errors.now (device_of c.finish.new.self) c.args.naming.now c.args.ending
    c.requires
    (said_something g.E.Write.contents c.args.errors.now (device_of c.finish.new.self)
    (said_text c.args.naming.now c.args.ending)
    (ap not (says_as c.args.naming.now unnamed c.args.ending) ∙ sym c.if-says_nothing.ensures) told) in
    search (rules, done)
