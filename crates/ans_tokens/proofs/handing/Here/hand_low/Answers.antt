use Rattle.std.proofs.Common.{◌∙◌, arith}
use Rattle.ans_tokens.proofs.ComingNext.{byte_front}
use Rattle.ans_tokens.proofs.handing.Here.hand_low.Goals as goal

pub hand-requires-clause-front : goal.hand-requires-clause-front
hand-requires-clause-front g c =
    byte_front c.args.self.now c.requires.place c.requires.some 0x0D (c.requires.byte ∙ c.in-13.is) (omega arith)
    (λ e. cc)

pub hand-requires-in-10-clause-front : goal.hand-requires-in-10-clause-front
hand-requires-in-10-clause-front g c =
    byte_front c.args.self.now c.requires.place c.requires.some 0x0A (c.requires.byte ∙ c.in-10.is) (omega arith)
    (λ e. cc)

pub hand-requires-in_default-clause-front : goal.hand-requires-in_default-clause-front
hand-requires-in_default-clause-front g c =
    rw c.kind_of_byte.ensures (byte_front c.args.self.now c.requires.place c.requires.some c.args.byte c.requires.byte
    (omega (arith, c.ranges.byte.fits)) c.requires.outside)
