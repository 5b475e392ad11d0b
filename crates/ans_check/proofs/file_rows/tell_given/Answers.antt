use Rattle.std.proofs.Common.{inl, refl}
use Rattle.ans_check.proofs.RowsLemmas.{out_in_part, out_of_memory, out_whole}
use Rattle.ans_check.proofs.file_rows.tell_given.Goals as goal

pub returns-in_default : goal.returns-in_default
returns-in_default g c = record {
  outcome = c.in_default.ensures.outcome;
  text = c.in_default.ensures.text;
  told = c.in_default.ensures.told;
  row = out_of_memory c.args.out.now c.put.new.out c.requires.ready c.in_default.ensures.puts.0
      c.in_default.ensures.puts.1;
  is = tt;
}

pub returns-in-Ok-hand_on : goal.returns-in-Ok-hand_on
returns-in-Ok-hand_on g c = record {
  outcome = c.in-Ok.ensures.outcome;
  text = c.in-Ok.ensures.text;
  told = c.in-Ok.ensures.told;
  row = out_whole c.args.out.now c.put.new.out c.hand_on.new.self c.hand_on.result c.requires.ready
      c.in-Ok.ensures.puts c.hand_on.ensures.handed c.hand_on.ensures.device c.hand_on.ensures.empty _ _
      c.in-Ok-hand_on.is;
  is = c.in-Ok.ensures.is;
}

pub returns-in-Err : goal.returns-in-Err
returns-in-Err g c = record {
  outcome = c.in-Ok.ensures.outcome;
  text = c.in-Ok.ensures.text;
  told = c.in-Ok.ensures.told;
  row = out_in_part c.args.out.now c.put.new.out c.hand_on.new.self c.hand_on.result c.requires.ready
      c.in-Ok.ensures.puts c.hand_on.ensures.handed c.hand_on.ensures.device c.hand_on.ensures.empty _ c.in-Err.is
      (inl refl);
  is = tt;
}
