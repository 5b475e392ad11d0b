use Rattle.std.proofs.Common.{◌≡◌, ℕ, List, [], ◌∷◌, ◌++◌, take, ap, ◌∙◌}
use Rattle.ans_model.specs.Text.Characters.{shown_bytes}
use Rattle.ans_play.specs.Shown.{cells_of_row}
use Rattle.ans_report.specs.Rows.{line_text}
use Rattle.ans_write.proofs.PutsLemmas.{Puts-same, Puts-then}
use Rattle.ans_report.proofs.picture_text.put_row.Goals as goal
use Rattle.ans_report.proofs.picture_text.put_row.Goals.{in-Characters, in-Digits}

pub returns-clause-puts : goal.returns-clause-puts
returns-clause-puts g c =
    let end_line : List ℕ → List ℕ = λ v. v ++ 0x0A ∷ [] in
    let line : end_line (take c.match-shown.end c.match-shown.text)
    ≡ line_text c.args.shown (cells_of_row c.args.picture.now c.args.row) =
    elim c.match-shown.branch [
      | in-Characters w ↦ rw (w.end-is, w.text-is, w.in-Characters.is)
          (ap end_line (w.write_characters-end.ensures.text ∙ ap shown_bytes c.copy_glyphs.ensures))
      | in-Digits w ↦ rw (w.end-is, w.text-is, w.in-Digits.is) (ap end_line w.write_digits-end.ensures.text)
    ] in
    Puts-same line (Puts-then c.put.ensures c.put-2.ensures)
