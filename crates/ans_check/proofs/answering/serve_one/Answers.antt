use Rattle.std.proofs.Common.{subst, sym, inl}
use Rattle.std.specs.Prelude.{ℕ, List, option_map}
use Rattle.std.specs.Borrow.{Bor}
use Rattle.ans_check.specs.Said.{IsNamed}
use Rattle.ans_check.proofs.answering.serve_one.Goals as goal

pub returns-clause-ends : goal.returns-clause-ends
returns-clause-ends g c = inl (record {
  reader = c.new-reader.result;
  reader_after = c.serve_task.new.reader;
  input = subst (IsNamed (g.I.Inputs.is_file c.args.inputs) (g.I.Inputs.is_standard c.args.inputs)
      (option_map (λ (n : Bor (List ℕ)). n.now) c.args.name)) (sym c.new-reader.ensures.inner) c.in-Ok.ensures.some;
  unread = c.new-reader.ensures.calls;
  answer = c.serve_task.result;
  serves = c.serve_task.ensures;
  ends = c.ending.ensures;
})
