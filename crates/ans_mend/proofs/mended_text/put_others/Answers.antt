use Rattle.std.proofs.Common.{rules, ◌<◌}
use Rattle.ans_write.proofs.PutsLemmas.{Puts-same, Puts-then}
use Rattle.ans_mend.proofs.MendedTexts.{others_more}
use Rattle.ans_mend.proofs.mended_text.put_others.Goals as goal

pub returns : goal.returns
returns g c =
    let more : 1 < c.args.count = search rules in
    Puts-same (others_more c.args.count more)
    (Puts-then c.put.ensures (Puts-then c.put_decimal.ensures c.put-2.ensures))
