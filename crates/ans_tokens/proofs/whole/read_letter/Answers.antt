use Rattle.std.proofs.Common.{sym, ◌∙◌, arith}
use Rattle.ans_tokens.proofs.OmittedMembers.{bare_front, bare_omits}
use Rattle.ans_tokens.proofs.whole.read_letter.Goals as goal

pub returns-in-27-clause-front : goal.returns-in-27-clause-front
returns-in-27-clause-front c =
    bare_front c.args.bytes.now c.in-27.len_at_least (omega arith) (omega arith)
    (sym c.is_ascii_alphabetic.ensures.value ∙ c.if-is_ascii_alphabetic.true)

pub returns-in-27-clause-omits : goal.returns-in-27-clause-omits
returns-in-27-clause-omits c is =
    sym (bare_omits c.args.bytes.now c.in-27.len_at_least (omega arith) (omega arith)
    (sym c.is_ascii_alphabetic.ensures.value ∙ c.if-is_ascii_alphabetic.true) is)
