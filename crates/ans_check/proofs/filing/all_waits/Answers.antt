use Rattle.std.proofs.Common.{◌∙◌, ap, length, nat_le, refl, sym}
use Rattle.ans_write.specs.Puts.{outbox_size}
use Rattle.ans_check.proofs.FilesLemmas.{too_long, waits_whole}
use Rattle.ans_check.proofs.filing.all_waits.Goals as goal

pub returns-then-has_failed-clause-fits : goal.returns-then-has_failed-clause-fits
returns-then-has_failed-clause-fits c begun text none works puts =
    sym (too_long begun c.args.held.now text none puts works (sym c.has_failed.ensures ∙ c.if-has_failed.true))

pub returns-clause-fits : goal.returns-clause-fits
returns-clause-fits c begun text none works puts =
    let whole = waits_whole begun c.args.held.now text none puts (λ w. refl)
    (sym c.has_failed.ensures ∙ c.if-has_failed.false) in
    ap (λ v. nat_le (length v) outbox_size) (c.waiting.ensures ∙ whole)

pub returns-clause-whole : goal.returns-clause-whole
returns-clause-whole c begun text none puts fits =
    waits_whole begun c.args.held.now text none puts (λ w. refl) (sym c.has_failed.ensures ∙ c.if-has_failed.false)
