use Rattle.std.proofs.Common.{rules, ◌≡◌, true, sym}
use Rattle.ans_write.proofs.PutsLemmas.{Puts-same, Puts-then}
use Rattle.ans_why.specs.Fonts.{font_name, has_other_code_page}
use Rattle.ans_why.proofs.HintLines.{font_line_is}
use Rattle.ans_why.proofs.hints_text.put_font_line.Goals as goal

pub returns-then-has_other_code_page : goal.returns-then-has_other_code_page
returns-then-has_other_code_page g c =
    let other : has_other_code_page (font_name c.args.field.now) ≡ true = search rules in
    Puts-same (font_line_is c.args.field.now other)
    (Puts-then c.put.ensures (Puts-then (rw (sym c.font_name-name.ensures) c.put_characters.ensures)
    c.put-then-has_other_code_page.ensures))
