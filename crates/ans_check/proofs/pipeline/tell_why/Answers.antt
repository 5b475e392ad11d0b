use Rattle.std.proofs.Common.{ap, option_map}
use Rattle.ans_check.specs.LastWords.{last_words}
use Rattle.ans_check.specs.WhyTold.{told_text}
use Rattle.ans_write.proofs.PutsLemmas.{Puts-same}
use Rattle.ans_check.proofs.ReportLemmas.{why_reported}
use Rattle.ans_check.proofs.ReportedLemmas.{is_put}
use Rattle.ans_check.proofs.pipeline.tell_why.Goals as goal

pub returns : goal.returns
returns g c =
    let why = c.in_ok-why.why in
    let name = option_map (λ n. n.now) c.args.name in
    let fix = c.in_ok-fix.fix in
    is_put c.is_pass.result (told_text (last_words name) why fix)
    (why_reported name c.args.file.now why fix c.is_pass.result c.in_ok-why.ensures.why c.in_ok-fix.ensures
    c.is_pass.ensures)
    (Puts-same (ap (λ last. told_text last why fix) c.in_ok-words.ensures) c.put_told.ensures)
