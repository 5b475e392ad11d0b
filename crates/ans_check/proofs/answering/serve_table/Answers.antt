use Rattle.std.proofs.Common.{◌≤◌, arith, length, map, string_bytes}
use Rattle.std.proofs.lemmas.List.{length-map}
use Rattle.ans_check.proofs.AnswerLemmas.{ends_by_input, ends_by_names}
use Rattle.ans_check.proofs.answering.serve_table.Goals as goal

pub returns-then-is_empty-clause-ends : goal.returns-then-is_empty-clause-ends
returns-then-is_empty-clause-ends g c =
    let names = c.args.names.now in
    let mapped = length-map names string_bytes in
    let none : length names ≤ 0 = grind (arith, c.is_empty.ensures, c.if-is_empty.true) in
    ends_by_input _ _ _ _ _ _ (map string_bytes names) _ _ _ (omega (arith, none, mapped)) c.serve_input.ensures.ends

pub returns-clause-ends : goal.returns-clause-ends
returns-clause-ends g c =
    let names = c.args.names.now in
    let mapped = length-map names string_bytes in
    let some : 1 ≤ length names = grind (arith, c.is_empty.ensures, c.if-is_empty.false) in
    ends_by_names _ _ _ _ _ _ (map string_bytes names) _ _ _ (omega (arith, some, mapped)) c.serve_names.ensures.ends
