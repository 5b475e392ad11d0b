use Rattle.std.proofs.Common.{rules, ◌<◌, length}
use Rattle.ans_write.proofs.PutsLemmas.{Puts-same, Puts-then}
use Rattle.ans_why.proofs.WhyLines.{blamed_text_is}
use Rattle.ans_why.proofs.why_text.put_blamed.Goals as goal

pub returns : goal.returns
returns g c =
    let some : 0 < length c.args.bytes.now = search rules in
    Puts-same (blamed_text_is c.args.bytes.now some) (Puts-then c.put.ensures c.put_quoted.ensures)
