use Rattle.std.proofs.Common.{◌≡◌, rules, true, false}
use Rattle.ans_write.specs.Tried.{has_failed}
use Rattle.ans_check.proofs.ServedLemmas.{flushed, still_works, unflushed}
use Rattle.ans_check.proofs.task.serve_task.Goals as goal

pub flush-requires : goal.flush-requires
flush-requires g c = record {
  works = still_works g.R.Read.remaining g.W.Write.contents (g.T.Task.tells c.args.task.now) c.args.reader.now
      c.run_task.new.reader c.args.writer.now c.run_task.new.writer c.in_ok-answer.answer c.in_ok-answer.ensures;
}

pub returns-in-Ok : goal.returns-in-Ok
returns-in-Ok g c =
    let works : has_failed c.flush.new.self ≡ false = search rules in
    flushed g.R.Read.remaining g.W.Write.contents (g.T.Task.tells c.args.task.now) c.args.reader.now
    c.run_task.new.reader c.args.writer.now c.run_task.new.writer c.flush.new.self c.in_ok-answer.answer
    c.in_ok-answer.ensures c.flush.ensures.bytes works

pub returns-in-Err : goal.returns-in-Err
returns-in-Err g c =
    let failed : has_failed c.flush.new.self ≡ true = search rules in
    unflushed g.R.Read.remaining g.W.Write.contents (g.T.Task.tells c.args.task.now) c.args.reader.now
    c.run_task.new.reader c.args.writer.now c.run_task.new.writer c.flush.new.self c.in_ok-answer.answer
    c.in_ok-answer.ensures c.flush.ensures.bytes failed
