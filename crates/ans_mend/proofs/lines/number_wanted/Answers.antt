use Rattle.std.proofs.Common.{◌∙◌, sym}
use Rattle.ans_sauce.specs.Parts.{content_of, record_of}
use Rattle.ans_mend.specs.Mending.{AsksForLeast, WantsLines}
use Rattle.ans_mend.proofs.MendLemmas.{least_asked, least_taken, least_reason}
use Rattle.ans_mend.proofs.lines.number_wanted.Goals as goal

pub returns-clause-taken : goal.returns-clause-taken
returns-clause-taken c =
    let sauce = record_of c.args.parts.now in
    let content = content_of c.args.parts.now in
    let wanted : WantsLines c.args.lacks sauce content = c.wants_lines.ensures.wanted c.if-not-wants_lines.false in
    let asks : AsksForLeast c.args.mends.now =
    least_asked c.args.mends.now (sym c.asks_for_lines.ensures ∙ c.if-not-asks_for_lines.false)
    (sym c.is_some.ensures ∙ c.if-is_some.false) in
    least_taken c.args.mends.now c.args.lacks sauce content wanted asks c.least_wanted.result
    c.least_wanted.ensures.least

pub returns-clause-reason : goal.returns-clause-reason
returns-clause-reason c =
    let sauce = record_of c.args.parts.now in
    let content = content_of c.args.parts.now in
    let wanted : WantsLines c.args.lacks sauce content = c.wants_lines.ensures.wanted c.if-not-wants_lines.false in
    let asks : AsksForLeast c.args.mends.now =
    least_asked c.args.mends.now (sym c.asks_for_lines.ensures ∙ c.if-not-asks_for_lines.false)
    (sym c.is_some.ensures ∙ c.if-is_some.false) in
    least_reason c.args.mends.now c.args.lacks sauce content wanted asks c.least_wanted.result
    c.least_wanted.ensures.reason
