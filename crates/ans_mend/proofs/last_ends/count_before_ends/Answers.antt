use Rattle.std.proofs.Common.{◌-◌, inl, inr, drop, arith}
use Rattle.std.proofs.lemmas.Bool.{cases_Bool}
use Rattle.std.specs.List.{list_all}
use Rattle.ans_mend.specs.LastEnds.{is_line_end}
use Rattle.ans_mend.proofs.FrontsPass.{end_from}
use Rattle.ans_mend.proofs.last_ends.count_before_ends.Goals as goal

pub returns-else-is_line_end-clause-others : goal.returns-else-is_line_end-clause-others
returns-else-is_line_end-clause-others c count lt =
    elim (cases_Bool (list_all is_line_end (drop count c.args.bytes.now))) [
      | inl all ↦
          let end = end_from c.args.bytes.now count (c.ends.count - 1) all (omega (arith, lt)) (omega (arith, lt)) in
          absurd (cc (end, c.is_line_end.ensures, c.if-is_line_end.false))
      | inr not_all ↦ not_all
    ]
