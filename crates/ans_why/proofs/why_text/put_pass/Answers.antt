use Rattle.std.proofs.Common.{rules, ◌≡◌, ◌∙◌, ap, ap₂}
use Rattle.ans_sauce.specs.Parts.{content_of}
use Rattle.ans_write.proofs.PutsLemmas.{Puts-same, Puts-then}
use Rattle.ans_why.specs.HintsText.{pass_hints_text}
use Rattle.ans_why.specs.OtherFiles.{known_file}
use Rattle.ans_why.specs.WhyText.{font_of, known_line, verdict_words}
use Rattle.ans_why.proofs.why_text.put_pass.Goals as goal

pub returns : goal.returns
returns g c =
    let verdict : c.verdict_words.result.now ≡ verdict_words c.args.pass.now.needs = search rules in
    let font : c.font.result.now ≡ font_of c.args.parts.now = search rules in
    let known : c.known_file.result ≡ known_file (content_of c.args.parts.now) =
    c.known_file.ensures ∙ ap known_file c.content.ensures in
    Puts-then (rw verdict at c.put_named_line.ensures)
    (Puts-then (Puts-same (ap known_line known) c.put_known_line.ensures)
    (Puts-then (Puts-then (Puts-then c.put.ensures c.put_needed_parts.ensures) c.put-2.ensures)
    (Puts-then c.put_reliance.ensures
    (Puts-then c.put_players.ensures
    (Puts-then c.put_taller_line.ensures
    (Puts-then c.put_damage.ensures
    (Puts-then (Puts-same (ap₂ pass_hints_text c.hints_beside.ensures font) c.put_pass_hints.ensures)
    (rw c.size.ensures at c.put_widths.ensures))))))))
