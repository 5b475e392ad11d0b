use Rattle.std.proofs.Common.{◌∙◌, ap}
use Rattle.ans_check.specs.CommandText.{is_passed}
use Rattle.ans_check.proofs.ReportLemmas.{passed_by}
use Rattle.ans_check.proofs.pipeline.tell_verdict.Goals as goal

pub returns : goal.returns
returns g c =
    let put = c.in_ok-checked.ensures in
    record {
      told = is_passed put.told;
      text = put.text;
      right = passed_by c.args.file.now c.args.start c.args.cells put.told put.text put.right;
      puts = put.puts;
      answers = λ works. c.is_pass.ensures ∙ ap is_passed (put.answers works);
    }
