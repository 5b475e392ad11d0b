use Rattle.std.proofs.Common.{◌∙◌, ◌≡◌, [], None, Option, List, Some, ap, codes, sym}
use Rattle.std.specs.Prelude.{unwrap_or}
use Rattle.clap.specs.Words.{Text, all_of, found_of, rows_of}
use Rattle.clap.proofs.WalkLemmas.{raw_values-rows}
use Rattle.ans_model.specs.Text.Words.{texts_of}
use Rattle.ans_options.proofs.command_line.files_of.Goals as goal

pub returns-in_default-clause-ok : goal.returns-in_default-clause-ok
returns-in_default-clause-ok c =
    let f = found_of c.args.matches.now in
    let none : all_of (codes "files") (rows_of f) ≡ None =
    sym (raw_values-rows f (codes "files")) ∙ sym c.in_default.ensures in
    rw c.new.ensures.items (sym (ap (λ (o : Option (List Text)). unwrap_or o []) none))

pub returns-in-Ok-clause-ok : goal.returns-in-Ok-clause-ok
returns-in-Ok-clause-ok c =
    let f = found_of c.args.matches.now in
    let some : all_of (codes "files") (rows_of f) ≡ Some (texts_of c.in-Some.texts.now) =
    sym (raw_values-rows f (codes "files")) ∙ sym c.in-Some.ensures in
    c.in-Ok.ensures ∙ sym (ap (λ (o : Option (List Text)). unwrap_or o []) some)
