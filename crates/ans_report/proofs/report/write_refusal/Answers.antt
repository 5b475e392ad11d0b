use Rattle.std.proofs.Common.{rules}
use Rattle.ans_write.proofs.PutsLemmas.{WritesText-finished}
use Rattle.ans_report.proofs.report.write_refusal.Goals as goal

pub returns-clause-bytes : goal.returns-clause-bytes
returns-clause-bytes g c =
    let written = WritesText-finished c.args.w.now c.finish.result c.new-out.ensures.unchanged c.new-out.ensures.empty
    c.put_refusal.ensures c.finish.ensures.handed c.finish.ensures.device c.finish.ensures.empty in
    search (rules, written)
