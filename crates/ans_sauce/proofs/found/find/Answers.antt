use Rattle.std.proofs.Common.{◌≡◌, subst, sym}
use Rattle.ans_model.specs.declared.fault.Cause.{Cause}
use Rattle.ans_model.specs.declared.fault.Cause.TheVariants.{BytesAfterEndMark}
use Rattle.ans_sauce.specs.Found.{IsFound}
use Rattle.ans_sauce.proofs.FoundLemmas.{bytes_after}
use Rattle.ans_sauce.proofs.found.find.Goals as goal

pub returns-in_default-cause : goal.returns-in_default-cause
returns-in_default-cause c =
    let file = c.args.file.now in
    let other = c.in_default-cause in
    let cause : c.args.fault.cause ≡ BytesAfterEndMark =
    bytes_after file c.args.fault c.in-Some.ensures.cut.found c.requires other.not-WrongVersion other.not-WrongKind
    other.not-CommentsMissing other.not-LinesUnstated other.not-WidthTooLarge other.not-LinesTooLarge in
    subst (λ (v : Cause). IsFound file c.found_after.result v) (sym cause)
    (c.found_after.ensures file (c.after_end_mark.ensures file c.in-Some.ensures.cut))
