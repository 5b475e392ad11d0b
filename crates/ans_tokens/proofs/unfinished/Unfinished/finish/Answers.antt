use Rattle.std.proofs.Common.{◌≡◌, ◌||◌, refl, sym}
use Rattle.ans_model.specs.Sequence.Meaning.{is_quoted, meaning}
use Rattle.ans_model.specs.Inside.OpenPart.{member_of, raw_of}
use Rattle.ans_tokens.proofs.PartLemmas.{part_meaning, means_same}
use Rattle.ans_tokens.proofs.unfinished.Unfinished.finish.Goals as goal
use Rattle.ans_tokens.proofs.unfinished.Unfinished.finish.Goals.{then-self, else-self}

pub returns : goal.returns
returns c part state whole =
    let quoted : (c.args.self.now.quoted || is_quoted (member_of part.current)) ≡ c.if-self.quoted =
    elim c.if-self.branch [
      | then-self w ↦ rw (w.quoted-is, w.if-self.true) refl
      | else-self w ↦ rw (w.quoted-is, w.if-self.false) (sym (w.is_string-quoted.ensures part.current state.current_is))
    ] in
    let numbers = sym (c.take_numbers-numbers.ensures part state) in
    means_same (meaning (raw_of part c.args.letter)) _ c.kind_meant.result
    (part_meaning c.args.self.now part c.args.letter _ _ state whole numbers quoted) c.kind_meant.ensures
