use Rattle.ans_kinds.specs.NamesShown.{shown_names}
use Rattle.ans_mend.specs.NamedColours.{missing_numbers}
use Rattle.ans_mend.proofs.NamedParts.{left_between, left_whole, named_parts}
use Rattle.ans_mend.proofs.naming.naming_of.Goals as goal
use Rattle.ans_mend.proofs.naming.naming_of.Goals.{in-Between, in_default}

pub returns-clause-text : goal.returns-clause-text
returns-clause-text c =
    let text = c.args.text.now in
    let zero = c.length_through-zero.result in
    let way = c.way_of-way.result in
    named_parts text (missing_numbers (shown_names c.args.named)) c.text_put.result.now c.args.count zero
    c.match-way.rest way c.length_through-zero.ensures.length c.length_through-zero.ensures.text
    c.way_of-way.ensures c.text_put.ensures
    (elim c.match-way.branch [
      | in-Between w ↦ left_between text zero c.match-way.rest way w.in-Between.is w.rest-is
      | in_default w ↦ left_whole text zero c.match-way.rest way w.in_default.not-Between w.rest-is
    ])
