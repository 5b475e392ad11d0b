use Rattle.ans_write.proofs.PutsLemmas.{Puts-same, Puts-then}
use Rattle.ans_why.proofs.WhyLines.{found_version}
use Rattle.ans_why.proofs.why_text.put_version_found.Goals as goal

pub returns : goal.returns
returns g c =
    Puts-same (found_version c.args.version.now)
    (Puts-then c.put.ensures (Puts-then c.put_characters.ensures c.put-2.ensures))
