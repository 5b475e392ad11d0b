use Rattle.ans_model.specs.Inside.ShownKind.{shown_kind}
use Rattle.ans_model.specs.declared.mark.Mark.TheVariants.{Unmarked}
use Rattle.ans_tokens.specs.Handed.{bytes_left}
use Rattle.ans_tokens.proofs.WholeSequences.{means_token}
use Rattle.ans_tokens.proofs.handing.Here.hand_meant.Goals as goal

pub hand-requires-clause-front : goal.hand-requires-clause-front
hand-requires-clause-front g c =
    means_token Unmarked c.args.numbers.now (bytes_left c.args.self.now) c.args.letter.byte c.args.letter.end
    (shown_kind c.args.kind) c.requires.front c.requires.meant
