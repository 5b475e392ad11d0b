use Rattle.ans_mend.proofs.MendLemmas.{kept_of}
use Rattle.ans_mend.specs.Mending.{PassesAsStated}
use Rattle.ans_sauce.specs.Parts.{content_of, record_of}
use Rattle.ans_mend.proofs.lines.wants_lines.Goals as goal

pub returns-else-lacks-clause-kept : goal.returns-else-lacks-clause-kept
returns-else-lacks-clause-kept c is = (
  c.if-lacks.false,
  kept_of c.is_good.result (PassesAsStated (record_of c.args.parts.now) (content_of c.args.parts.now))
      (rw (c.size.ensures, c.content.ensures) at c.is_good.ensures) is,
)
