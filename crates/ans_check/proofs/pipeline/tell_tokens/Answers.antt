use Rattle.std.proofs.Common.{false, not, inr}
use Rattle.std.specs.Prelude.{is_some}
use Rattle.ans_model.specs.Text.ReportText.{refusal_text}
use Rattle.ans_check.proofs.ReportLemmas.{none_told, record_reported, some_by_none, tokens_reported}
use Rattle.ans_check.proofs.ReportedLemmas.{is_put}
use Rattle.ans_check.proofs.pipeline.tell_tokens.Goals as goal

pub returns-in-Ok : goal.returns-in-Ok
returns-in-Ok g c =
    let told = c.put_tokens.ensures in
    record {
      told = not (is_some told.fault);
      text = told.text;
      right = tokens_reported c.args.file.now c.in-Ok.parts c.content.result.now told.fault
          (not (is_some told.fault)) told.text c.in-Ok.ensures.ok c.content.ensures told.is_text
          (some_by_none told.fault);
      puts = told.puts;
      answers = λ works. none_told c.put_tokens.result told.fault c.is_none.result c.is_none.ensures
          (told.told_is works);
    }

pub returns-in-Err : goal.returns-in-Err
returns-in-Err g c =
    is_put false (refusal_text c.in-Err.fault)
    (inr (record_reported c.args.file.now c.in-Err.fault c.in-Err.ensures.err)) c.put_refusal.ensures
