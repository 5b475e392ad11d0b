use Rattle.std.proofs.Common.{◌≡◌, ap, rules}
use Rattle.std.specs.Prelude.{Err}
use Rattle.ans_play.specs.PlayView.{PlayView}
use Rattle.ans_play.proofs.Feeding.{byte_refused, byte_goes_on, byte_plays, byte_first}
use Rattle.ans_play.proofs.play.Play.slow_byte.Goals as goal

pub returns-in_err-byte-clause-stopped : goal.returns-in_err-byte-clause-stopped
returns-in_err-byte-clause-stopped g c =
    let same : c.from_residual.result ≡ Err c.in_err-byte.field-0.0 = search rules in
    rw same (
      ap (λ (p : PlayView). p.size) c.self.view_is,
      byte_refused (ap (λ (p : PlayView). p.scanner) c.self.view_is) c.in_err-byte.ensures.fault,
    )

pub returns-in-None-clause-played : goal.returns-in-None-clause-played
returns-in-None-clause-played g c =
    byte_goes_on (ap (λ (p : PlayView). p.scanner) c.self.view_is)
    (ap (λ (p : PlayView). record p { scanner = c.byte.new.self }) c.self.view_is)
    (rw c.in-None.is at c.in_ok-byte.ensures.unfinished) c.in_ok-byte.ensures.taken c.in_ok-byte.ensures.accepted

pub returns-in-Some-clause-played : goal.returns-in-Some-clause-played
returns-in-Some-clause-played g c =
    byte_plays (ap (λ (p : PlayView). p.scanner) c.self.view_is) _
    (ap (λ (p : PlayView). record p { scanner = c.byte.new.self }) c.self.view_is)
    (rw c.in-Some.is at c.in_ok-byte.ensures.token) c.step.result c.step.ensures
    c.in_ok-byte.ensures.taken c.in_ok-byte.ensures.accepted

pub returns-in-Some-clause-stopped : goal.returns-in-Some-clause-stopped
returns-in-Some-clause-stopped g c =
    byte_first (ap (λ (p : PlayView). p.scanner) c.self.view_is) _
    (ap (λ (p : PlayView). record p { scanner = c.byte.new.self }) c.self.view_is)
    (rw c.in-Some.is at c.in_ok-byte.ensures.token) c.step.result c.step.ensures
