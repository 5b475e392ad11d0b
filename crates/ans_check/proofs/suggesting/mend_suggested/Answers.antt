use Rattle.std.proofs.Common.{Result, ap}
use Rattle.ans_fix.specs.declared.without_help.Unhelped.{Unhelped}
use Rattle.ans_mend.specs.declared.outcome.Mended.{Mended}
use Rattle.ans_check.specs.declared.suggesting.Suggested.{Suggested}
use Rattle.ans_check.proofs.suggesting.mend_suggested.Goals as goal

pub returns : goal.returns
returns g c =
    let mends = c.in_ok-mends.mends in
    let put = c.in_ok-came.ensures in
    let suggested : Result Mended Unhelped → Suggested = λ came. record { mends = mends; came = came } in
    record {
      told = suggested put.told;
      text = put.text;
      right = record { flags = c.in_ok-mends.ensures; told = put.right };
      puts = put.puts;
      answers = λ works. ap suggested (put.answers works);
    }
