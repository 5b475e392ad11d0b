use Rattle.std.proofs.Common.{◌≡◌, rules}
use Rattle.std.specs.Prelude.{Err}
use Rattle.ans_play.proofs.Feeding.{byte_in_front, front_first}
use Rattle.ans_play.proofs.play.Play.advance_slow.Goals as goal

pub returns-in_err-slow_byte-clause-stopped : goal.returns-in_err-slow_byte-clause-stopped
returns-in_err-slow_byte-clause-stopped g c =
    let same : c.from_residual.result ≡ Err c.in_err-slow_byte.field-0.0 = search rules in
    rw same (front_first c.args.self.now c.slow_byte.new.self c.args.bytes.now c.in_err-slow_byte.field-0.0
    c.requires.some c.in_err-slow_byte.ensures.stopped)

pub returns-clause-played : goal.returns-clause-played
returns-clause-played g c =
    byte_in_front c.args.self.now c.slow_byte.new.self c.args.bytes.now c.requires.some c.in_ok-slow_byte.ensures.played
