use Rattle.std.proofs.Common.{arith}
use Rattle.ans_sauce.proofs.FoundLemmas.{last_identifier}
use Rattle.ans_sauce.proofs.found.last_identifier.Goals as goal

pub returns : goal.returns
returns c =
    let ends = c.in_ok-end.ensures in
    last_identifier c.args.bytes.now c.in_ok-end.end (omega (arith, ends.0, ends.1)) c.rfind.result c.rfind.ensures
