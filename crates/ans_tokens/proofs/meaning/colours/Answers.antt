use Rattle.std.proofs.Common.{refl, arith}
use Rattle.ans_tokens.proofs.PlainSequences.{colours_of_none, colours_of_some}
use Rattle.ans_tokens.proofs.meaning.colours.Goals as goal
use Rattle.ans_tokens.proofs.meaning.colours.Goals.{then-is_empty, else-is_empty}

pub returns : goal.returns
returns c =
    let numbers = c.args.numbers.items in
    elim c.if-is_empty.branch [
      | then-is_empty w ↦
          let none = colours_of_none numbers (grind (arith, c.is_empty.ensures, w.if-is_empty.true)) in
          rw (w.numbers-is, w.push.ensures.items, none) refl
      | else-is_empty w ↦
          let some = colours_of_some numbers (grind (arith, c.is_empty.ensures, w.if-is_empty.false)) in
          rw (w.numbers-is, some) refl
    ]
