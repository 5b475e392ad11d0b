use Rattle.std.proofs.Common.{◌≡◌, ap, ◌∙◌, List, ℕ, map, take, arith}
use Rattle.ans_model.specs.Sequence.Meaning.{colours}
use Rattle.ans_model.specs.Sequence.Omitted.{omits}
use Rattle.ans_model.specs.Sequence.Spelling.{Number}
use Rattle.ans_model.specs.Sequence.TokenKind.{Colours}
use Rattle.ans_tokens.specs.Handed.{bytes_left}
use Rattle.ans_tokens.proofs.ComingNext.{colours_front}
use Rattle.ans_tokens.proofs.PlainSequences.{colours_of_none, colours_of_some}
use Rattle.ans_tokens.proofs.WalkSteps.{part_of, walks_one}
use Rattle.ans_tokens.proofs.handing.Here.hand_colours.Given.{Over}
use Rattle.ans_tokens.proofs.handing.Here.hand_colours.Goals as goal
use Rattle.ans_tokens.proofs.handing.Here.hand_colours.Goals.{then-is_empty, else-is_empty, After-colours-goes_on}

-- the numbers that are handed on
numbers_are : (g : Over) (c : After-colours-goes_on g)
    → colours (map Number c.args.numbers.now.items) ≡ Colours c.if-is_empty.numbers.items
numbers_are g c =
    let numbers = c.args.numbers.now.items in
    elim c.if-is_empty.branch [
      | then-is_empty w ↦ rw (w.numbers-is, w.push.ensures.items)
          (colours_of_none numbers (grind (arith, c.is_empty.ensures, w.if-is_empty.true)))
      | else-is_empty w ↦ rw w.numbers-is
          (colours_of_some numbers (grind (arith, c.is_empty.ensures, w.if-is_empty.false)))
    ]

pub returns : goal.returns
returns g c =
    let here = c.args.self.now in
    let place = c.requires.place in
    let letter = c.args.letter in
    let front = colours_front (bytes_left here) c.args.numbers.now.items c.deref.result.now letter.end
    (rw c.requires.colours at c.requires.front) (rw c.deref.ensures.0 (numbers_are g c)) in
    record {
      some = front.nonempty;
      over = λ first before.
          walks_one g.W.Walker.walked here.content.now here.end first place.end here.at c.args.walker.now before
          place.within (Colours c.deref.result.now) letter.end front
          g.W.Walker.ready c.colours-goes_on.new.self c.colours-goes_on.result c.colours-goes_on.ensures.ready
          (λ n over. c.colours-goes_on.ensures.walked first before.front _ (record {
            each = n.each;
            whole = n.whole;
            spelled = n.spelled;
            starts = n.starts;
            long = n.long;
            omits_is = c.requires.omits ∙ ap (λ (v : List ℕ). omits (take letter.end v))
                (part_of here.content.now here.at here.end place.within);
          }) over);
    }
