use Rattle.std.proofs.Common.{arith, map, string_bytes}
use Rattle.std.proofs.lemmas.List.{length-map}
use Rattle.ans_model.specs.Text.Words.{texts_of}
use Rattle.ans_check.proofs.AnswerLemmas.{why_of_one, why_of_several}
use Rattle.ans_check.proofs.answering.serve_why.Goals as goal

pub returns-then-names-gt1-clause-ends : goal.returns-then-names-gt1-clause-ends
returns-then-names-gt1-clause-ends g c =
    let mapped = length-map c.args.names.now string_bytes in
    why_of_several g.I.Reader.Read.remaining g.W.Write.contents (g.I.Inputs.is_file c.args.inputs)
    (g.I.Inputs.is_standard c.args.inputs) (g.I.Inputs.fails c.args.inputs) (texts_of c.args.words.now)
    (map string_bytes c.args.names.now) _ _ _ (omega (arith, c.if-names-gt1.true, mapped)) c.serve_whys.ensures.ends

pub returns-clause-ends : goal.returns-clause-ends
returns-clause-ends g c =
    let mapped = length-map c.args.names.now string_bytes in
    why_of_one g.I.Reader.Read.remaining g.W.Write.contents (g.I.Inputs.is_file c.args.inputs)
    (g.I.Inputs.is_standard c.args.inputs) (g.I.Inputs.fails c.args.inputs) (texts_of c.args.words.now)
    (map string_bytes c.args.names.now) _ _ _ _ (omega (arith, c.if-names-gt1.false, mapped)) c.first_of-name.ensures
    (rw c.file_called.ensures at c.serve_one.ensures.ends)
