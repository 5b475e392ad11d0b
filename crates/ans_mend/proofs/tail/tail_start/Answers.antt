use Rattle.std.proofs.Common.{List, ℕ, sym, ap, ◌∙◌}
use Rattle.std.proofs.lemmas.List.{take_rest}
use Rattle.ans_mend.specs.Tail.{ends_in_tail}
use Rattle.ans_mend.proofs.LastRecord.{no_tail, nothing_last}
use Rattle.ans_mend.proofs.tail.tail_start.Goals as goal

pub returns-in_default-clause-none : goal.returns-in_default-clause-none
returns-in_default-clause-none c =
    let file : List ℕ = c.args.file.now in
    let place : ℕ = c.in-Some.place in
    no_tail file place c.in-Some.ensures
    (sym (ap ends_in_tail (take_rest file place)) ∙ sym c.ends_in_tail.ensures ∙ c.if-ends_in_tail.false)

pub returns-in_default-2-clause-none : goal.returns-in_default-2-clause-none
returns-in_default-2-clause-none c = nothing_last c.args.file.now c.in_default.ensures
