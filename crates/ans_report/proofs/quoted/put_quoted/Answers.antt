use Rattle.std.proofs.Common.{sym, arith}
use Rattle.std.proofs.lemmas.List.{length-take-le}
use Rattle.ans_write.proofs.PutsLemmas.{Puts-same, Puts-then}
use Rattle.ans_report.proofs.QuotedTexts.{quoted_long, quoted_short}
use Rattle.ans_report.proofs.quoted.put_quoted.Goals as goal

pub slice_bounds-put_quoted_bytes-end : goal.slice_bounds-put_quoted_bytes-end
slice_bounds-put_quoted_bytes-end g c =
    sym (length-take-le 32 c.args.bytes.now (omega (arith, c.if-bytes-gt-QUOTED.true)))

pub returns-then-bytes-gt-QUOTED : goal.returns-then-bytes-gt-QUOTED
returns-then-bytes-gt-QUOTED g c =
    Puts-same (quoted_long c.args.bytes.now c.if-bytes-gt-QUOTED.true)
    (Puts-then c.put_quoted_bytes.ensures c.put.ensures)

pub returns : goal.returns
returns g c = Puts-same (quoted_short c.args.bytes.now c.if-bytes-gt-QUOTED.false) c.put_quoted_bytes-2.ensures
