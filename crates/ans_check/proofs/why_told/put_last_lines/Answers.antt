use Rattle.std.proofs.Common.{ap, sym}
use Rattle.ans_write.proofs.PutsLemmas.{Puts-same}
use Rattle.ans_check.specs.LastWords.{words_text}
use Rattle.ans_check.specs.WhyTold.{last_lines}
use Rattle.ans_check.proofs.why_told.put_last_lines.Goals as goal

pub returns-in-Refused : goal.returns-in-Refused
returns-in-Refused g c =
    Puts-same (sym (ap (λ why. last_lines (words_text c.args.words.now) why c.args.fix.now) c.in-Refused.is))
    c.put_refused_lines-in-Refused.ensures
