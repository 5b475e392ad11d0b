use Rattle.std.proofs.Common.{ap}
use Rattle.std.specs.List.{flat_map}
use Rattle.ans_model.specs.Text.ReportText.{rows_of}
use Rattle.ans_write.proofs.PutsLemmas.{Puts-same, Puts-then}
use Rattle.ans_show.specs.declared.markup.Markup.{Markup}
use Rattle.ans_show.specs.Markups.{line_in}
use Rattle.ans_show.specs.PageText.{page_start, page_style, page_end}
use Rattle.ans_show.proofs.page.put_page.Goals as goal

pub returns : goal.returns
unfolding page_start page_style page_end
returns g c =
    let rows = Puts-same (ap (λ (f : Markup). flat_map (line_in f) (rows_of c.args.picture.now)) c.new-tables.ensures)
    c.put_rows.ensures in
    Puts-then c.put.ensures (Puts-then c.put_title.ensures (Puts-then c.put-2.ensures (Puts-then rows c.put-3.ensures)))
