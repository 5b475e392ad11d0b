use Rattle.std.proofs.Common.{◌≡◌, ◌+◌, arith}
use Rattle.std.proofs.lemmas.Result.{err_from_is_err_and}
use Rattle.ans_tokens.specs.Handed.{Hands, StandsAt}
use Rattle.ans_tokens.proofs.WalkSteps.{fault_left}
use Rattle.ans_tokens.proofs.walker.walk.Given.{Over}
use Rattle.ans_tokens.proofs.walker.walk.Goals as goal
use Rattle.ans_tokens.proofs.walker.walk.Goals.{Joined-content-at, in-27+in-Some, in_default, in-32-to-255}
use Rattle.ans_tokens.proofs.walker.walk.Goals.{in-27+in-None+in_ok-token-in-None+in-Some-2}

pub returns-in_err-token-in-None : goal.returns-in_err-token-in-None
returns-in_err-token-in-None g c =
    let p = err_from_is_err_and c.from_residual.result c.from_residual.ensures.1 in
    let stays : c.hand_sequence.new.walker ≡ c.loop-at.walker = rw c.in-None.is at c.hand_sequence.ensures.stays in
    rw (p.1, p.2, stays) (fault_left g.W.Walker.walked c.args.content.now c.args.end c.args.walker.now c.requires.end
    c.loop-at.at c.loop-at.walker c.loop-at.invariant.so_far c.loop-at.invariant.within
    c.in_err-token-in-None.field-0.0 c.in_err-token-in-None.ensures.fault)

-- what was handed on
handed : (g : Over) (c : Joined-content-at g) → Hands g.W.Walker.walked g.W.Walker.ready
    (record { content = c.args.content; end = c.args.end; at = c.loop-at.at }) c.loop-at.walker
    c.match-content-at.walker c.match-content-at.length
handed g c = elim c.match-content-at.branch [
  | in-27+in-Some w ↦ rw (w.walker-is, w.length-is) (rw w.in-Some.is at w.hand_sequence.ensures.handed)
  | in-27+in-None+in_ok-token-in-None+in-Some-2 w ↦
      let stays : w.hand_sequence.new.walker ≡ c.loop-at.walker = rw w.in-None.is at w.hand_sequence.ensures.stays in
      rw (w.walker-is, w.length-is) (rw stays at w.hand_token.ensures)
  | in_default w ↦ rw (w.walker-is, w.length-is) w.hand_low.ensures
  | in-32-to-255 w ↦ rw (w.walker-is, w.length-is) w.hand_glyphs.ensures
]

stands : (g : Over) (c : Joined-content-at g) → StandsAt g.W.Walker.walked g.W.Walker.ready c.args.content.now
    c.args.end c.args.walker.now (c.loop-at.at + c.match-content-at.length.length) c.match-content-at.walker
    c.match-content-at.length.goes_on
stands g c = (handed g c).over c.args.walker.now c.loop-at.invariant.so_far

pub overflow_add-at : goal.overflow_add-at
overflow_add-at g c =
    let h = stands g (goal.at.overflow_add-at g c).Joined-content-at in
    omega (arith, h.within, c.requires.end, c.requires.length)

pub returns-then-not-goes_on : goal.returns-then-not-goes_on
returns-then-not-goes_on g c =
    let h = stands g (goal.at.returns-then-not-goes_on g c).Joined-content-at in
    (_, rw c.if-not-goes_on.true at h.so_far)

pub loop-at-smaller : goal.loop-at-smaller
loop-at-smaller g c =
    let h = handed g (goal.at.loop-at-smaller g c).Joined-content-at in
    omega (arith, h.some, c.loop-at-test.true)

pub loop-at-preserved : goal.loop-at-preserved
loop-at-preserved g c =
    rw c.if-not-goes_on.false at (stands g (goal.at.loop-at-preserved g c).Joined-content-at)
