use Rattle.std.proofs.Common.{rules, ◌≡◌}
use Rattle.ans_model.specs.Screen.StartClass.{none_known}
use Rattle.ans_model.specs.Text.Words.{part_names, texts_of}
use Rattle.ans_write.proofs.PutsLemmas.{Puts-same}
use Rattle.ans_report.proofs.StartNames.{some_needed}
use Rattle.ans_report.proofs.needs_text.put_needed_parts.Goals as goal

pub returns : goal.returns
returns g c =
    let some : c.args.class ≡ none_known → ⊥ = search rules in
    let names : texts_of c.as_slice.result.now ≡ part_names c.args.class = search rules in
    Puts-same (some_needed c.args.class some) (rw names at c.put_words.ensures)
