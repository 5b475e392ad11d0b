use Rattle.std.proofs.Common.{Some, subst, sym}
use Rattle.ans_check.specs.Said.{IsNamed}
use Rattle.ans_check.proofs.FilesLemmas.{given_input}
use Rattle.ans_check.proofs.filing.given_by.Goals as goal

pub returns-clause-given : goal.returns-clause-given
returns-clause-given g c =
    let is_file = g.I.Inputs.is_file c.args.inputs in
    let is_standard = g.I.Inputs.is_standard c.args.inputs in
    given_input g.I.Reader.Read.remaining is_file is_standard (g.I.Inputs.fails c.args.inputs) c.args.name.now
    c.new-reader.result c.read_all.new.r c.read_all.result
    (subst (IsNamed is_file is_standard (Some c.args.name.now)) (sym c.new-reader.ensures.inner) c.in-Ok.ensures.some)
    c.new-reader.ensures.calls c.read_all.ensures.whole c.read_all.ensures.reading c.read_all.ensures.device
    c.read_all.ensures.too_long
