use Rattle.std.proofs.lemmas.Result.{err_from_is_err_and}
use Rattle.ans_tokens.proofs.TakenSoFar.{refused_there}
use Rattle.ans_tokens.proofs.handing.token_by_bytes.Goals as goal

pub returns-in_err-token-clause-fault : goal.returns-in_err-token-clause-fault
returns-in_err-token-clause-fault c =
    let p = err_from_is_err_and c.from_residual.result c.from_residual.ensures.1 in
    rw (p.1, p.2) (refused_there c.args.offset c.args.bytes.now c.loop-byte.byte-index c.loop-byte-test.true
    c.loop-byte.scanner c.loop-byte.invariant c.in_err-token.field-0.0
    (c.in_err-token.ensures.fault c.loop-byte.invariant.unrefused))
