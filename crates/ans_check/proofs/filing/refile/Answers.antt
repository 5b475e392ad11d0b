use Rattle.std.proofs.Common.{◌≡◌, ◌∙◌}
use Rattle.ans_check.proofs.filing.refile.Goals as goal

pub returns-clause-redone : goal.returns-clause-redone
returns-clause-redone g c =
    let same : c.as_slice-2.result.now ≡ c.args.file.items =
    c.as_slice-2.ensures.value ∙ c.in_ok-old.ensures ∙ c.as_slice.ensures.value in
    record {
      text = c.in_ok-redone.redone.bytes.items;
      ending = c.in_ok-redone.redone.ending;
      done = c.in_ok-redone.ensures;
      kept = rw same at c.keep_if_done.ensures.kept;
    }
