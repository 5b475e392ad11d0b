use Rattle.std.proofs.Common.{subst, sym}
use Rattle.ans_check.proofs.answering.serve_input.Goals as goal

pub returns-clause-ends : goal.returns-clause-ends
returns-clause-ends g c = record {
  reader = c.new-reader.result;
  reader_after = c.table_listed.new.reader;
  input = subst (g.I.Inputs.is_standard c.args.inputs) (sym c.new-reader.ensures.inner) c.standard.ensures;
  unread = c.new-reader.ensures.calls;
  result = c.table_listed.result;
  table = c.table_listed.ensures.table;
  ends = c.end_of_listing.ensures;
}
