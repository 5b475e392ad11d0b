use Rattle.std.proofs.Common.{rules, ◌≡◌, [], false}
use Rattle.ans_write.specs.Puts.{device_failed}
use Rattle.ans_report.proofs.TokensFinished.{tokens_written, tokens_begun, IfErr-always}
use Rattle.ans_report.proofs.tokens_text.write_tokens.Goals as goal

pub returns-in_err-finish-clause-prefix : goal.returns-in_err-finish-clause-prefix
returns-in_err-finish-clause-prefix g c =
    let (fault, text, is_text, begun) =
    tokens_begun c.args.w.now c.args.content.now c.put_tokens-fault.result c.new-out.ensures.unchanged
    c.new-out.ensures.empty c.put_tokens-fault.ensures
    c.finish.ensures.handed in
    IfErr-always c.from_residual.result (fault, text, is_text, search (rules, begun))

pub returns-clause-text : goal.returns-clause-text
returns-clause-text g c =
    let works : device_failed c.finish.new.self ≡ false = search rules in
    let empty : c.finish.new.self.waiting.items ≡ [] = search rules in
    let (text, is_text, appended) =
    tokens_written c.args.w.now c.args.content.now c.put_tokens-fault.result c.new-out.ensures.unchanged
    c.new-out.ensures.empty c.put_tokens-fault.ensures
    c.finish.ensures.handed works empty in
    (text, is_text, search (rules, appended))
