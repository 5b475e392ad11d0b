use Rattle.std.proofs.Common.{ap, ◌∙◌, length, sym}
use Rattle.ans_sauce.proofs.LaidParts.{laid_body}
use Rattle.ans_model.specs.File.Layout.{content}
use Rattle.ans_redraw.proofs.NewFiles.{behind_there}
use Rattle.ans_redraw.proofs.new_file.behind_content.Goals as goal

pub returns : goal.returns
returns c =
    let split = c.requires in
    let count = ap length (c.content.ensures ∙ split.shows.content
    ∙ sym (ap content (laid_body c.args.file.now split.apart split.accepts.laid))) in
    behind_there c.args.file.now split.apart split.accepts.laid _ count
