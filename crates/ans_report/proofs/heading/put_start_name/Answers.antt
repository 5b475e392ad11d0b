use Rattle.std.proofs.Common.{rules, ◌≡◌}
use Rattle.ans_model.specs.Screen.StartClass.{none_known, all_known}
use Rattle.ans_model.specs.Text.Words.{part_names, texts_of}
use Rattle.ans_write.proofs.PutsLemmas.{Puts-same, Puts-then}
use Rattle.ans_report.proofs.StartNames.{name_of_parts}
use Rattle.ans_report.proofs.heading.put_start_name.Goals as goal

pub returns : goal.returns
returns g c =
    let some : c.args.start ≡ none_known → ⊥ = search rules in
    let missing : c.args.start ≡ all_known → ⊥ = search rules in
    let names : texts_of c.as_slice.result.now ≡ part_names c.args.start = search rules in
    Puts-same (name_of_parts c.args.start some missing) (Puts-then c.put-2.ensures (rw names at c.put_words.ensures))
