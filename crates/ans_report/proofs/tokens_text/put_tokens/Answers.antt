use Rattle.std.proofs.Common.{rules, refl}
use Rattle.ans_report.proofs.GlyphsPut.{ones_ready}
use Rattle.ans_report.proofs.TokensPut.{all_are_bytes, tokens_walked, tokens_refused, same_outbox}
use Rattle.ans_report.proofs.tokens_text.put_tokens.Goals as goal

pub returns-in-Ok : goal.returns-in-Ok
returns-in-Ok g c =
    let small = all_are_bytes c.args.content.now (λ k. (c.type_inv.content k).fits) in
    let walked = tokens_walked g.W.Write.contents c.args.content.now _ c.walk.new.walker small c.in-Ok.field-0
    c.in-Ok.ensures in
    let same = same_outbox g.W.Write.contents c.args.content.now _ c.walk.new.walker c.walk.result c.walk.ensures in
    search (rules, walked, same)

pub returns-in-Err : goal.returns-in-Err
returns-in-Err g c =
    let refused = tokens_refused g.W.Write.contents c.args.content.now _ c.walk.new.walker c.in-Err.fault _
    c.in-Err.ensures c.put_fault_line.ensures in
    let same = same_outbox g.W.Write.contents c.args.content.now _ c.walk.new.walker c.walk.result c.walk.ensures in
    search (rules, refused, same)

pub walk-requires-clause-ready : goal.walk-requires-clause-ready
walk-requires-clause-ready g c = ones_ready _ 0 refl c.new.ensures
