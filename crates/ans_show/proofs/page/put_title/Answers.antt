use Rattle.std.proofs.Common.{rules, ◌≡◌, ◌<◌, length, ap, sym, ◌∙◌}
use Rattle.std.proofs.lemmas.List.{nil_from_length}
use Rattle.ans_write.proofs.PutsLemmas.{Puts-same}
use Rattle.ans_show.specs.PageText.{page_title}
use Rattle.ans_show.proofs.Pieces.{page_characters, title_of_some}
use Rattle.ans_show.proofs.page.put_title.Goals as goal

pub returns-then-is_empty : goal.returns-then-is_empty
returns-then-is_empty g c =
    let none : length c.args.title.now ≡ 0 = search rules in
    Puts-same (sym (ap page_title (nil_from_length c.args.title.now none))) c.put.ensures

pub returns-else-is_empty : goal.returns-else-is_empty
returns-else-is_empty g c =
    let some : 0 < length c.args.title.now = search rules in
    Puts-same (page_characters c.args.tables.now.markup c.requires c.args.title.now
    ∙ title_of_some c.args.title.now some) c.put_characters.ensures
