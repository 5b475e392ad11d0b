use Rattle.std.proofs.Common.{rules, ◌≡◌, true, false, Ok, Err, subst, sym}
use Rattle.ans_write.specs.Puts.{device_failed, device_of}
use Rattle.ans_write.proofs.PutsLemmas.{WritesText-finished}
use Rattle.ans_check.specs.Served.{ServesAs}
use Rattle.ans_check.specs.declared.errors.RunError.TheVariants.{Write}
use Rattle.ans_check.proofs.ReportedLemmas.{finished_fails, finished_works, served_in_part, served_whole, works_before}
use Rattle.ans_check.proofs.task.run_task.Goals as goal

pub returns-in-Ok-finish : goal.returns-in-Ok-finish
returns-in-Ok-finish g c =
    let put = c.in-Ok.ensures in
    let tells = g.T.Task.tells c.args.task.now in
    let file = c.in_ok-file.file.items in
    let written = WritesText-finished c.args.writer.now c.finish.result c.new-out.ensures.unchanged
    c.new-out.ensures.empty put.puts c.finish.ensures.handed c.finish.ensures.device c.finish.ensures.empty in
    let works : device_failed c.finish.new.self ≡ false =
    finished_works _ c.finish.result _ c.finish.ensures.device c.in-Ok-finish.is in
    let before : device_failed c.put.new.out ≡ false =
    works_before _ _ (λ failed. (c.finish.ensures.handed.stays_failed failed).0) works in
    let served =
    served_whole g.R.Read.remaining g.W.Write.contents tells c.args.reader.now
    c.read_all.new.r c.args.writer.now (device_of c.finish.new.self) file c.in_ok-file.file
    c.in_ok-file.ensures.whole c.in_ok-file.ensures.device c.in_ok-file.ensures.too_long
    c.in_ok-file.ensures.calls c.in-Ok.answer put.text
    (subst (λ answer. tells file answer put.text) (sym (put.answers before)) put.right)
    (rw c.in-Ok-finish.is at written) works in
    let same : device_of c.finish.new.self ≡ _ = search rules in
    subst (λ w. ServesAs g.R.Read.remaining g.W.Write.contents tells c.args.reader.now
    c.read_all.new.r c.args.writer.now w (Ok c.in-Ok.answer)) same served

pub returns-in-Err : goal.returns-in-Err
returns-in-Err g c =
    let put = c.in-Ok.ensures in
    let tells = g.T.Task.tells c.args.task.now in
    let written = WritesText-finished c.args.writer.now c.finish.result c.new-out.ensures.unchanged
    c.new-out.ensures.empty put.puts c.finish.ensures.handed c.finish.ensures.device c.finish.ensures.empty in
    let failed : device_failed c.finish.new.self ≡ true =
    finished_fails _ c.finish.result _ c.finish.ensures.device c.in-Err.is in
    let served =
    served_in_part g.R.Read.remaining g.W.Write.contents tells c.args.reader.now
    c.read_all.new.r c.args.writer.now (device_of c.finish.new.self) c.in_ok-file.file.items c.in_ok-file.file
    c.in_ok-file.ensures.whole c.in_ok-file.ensures.device c.in_ok-file.ensures.too_long
    c.in_ok-file.ensures.calls put.told put.text put.right (rw c.in-Err.is at written) failed in
    let same : device_of c.finish.new.self ≡ _ = search rules in
    subst (λ w. ServesAs g.R.Read.remaining g.W.Write.contents tells c.args.reader.now
    c.read_all.new.r c.args.writer.now w (Err Write)) same served
