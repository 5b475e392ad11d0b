use Rattle.std.proofs.Common.{rules, ◌≡◌, ◌∙◌, ℕ, ap, ap₂}
use Rattle.ans_sauce.specs.Parts.{content_of, size_of}
use Rattle.ans_write.proofs.PutsLemmas.{Puts-same, Puts-then}
use Rattle.ans_why.specs.HintsText.{hints_text}
use Rattle.ans_why.specs.OtherFiles.{first_known, known_file}
use Rattle.ans_why.specs.WhyText.{font_of, hints_beside, known_line, looks_torn, told_hints}
use Rattle.ans_why.proofs.why_text.put_refused.Goals as goal

pub returns : goal.returns
returns g c =
    let font : c.font.result.now ≡ font_of c.args.parts.now = search rules in
    let of_file : c.known_file.result ≡ known_file (content_of c.args.parts.now) =
    c.known_file.ensures ∙ ap known_file c.content.ensures in
    let known = c.first_known.ensures ∙ ap (first_known c.args.refusal.now.known) of_file in
    let refusal = c.args.refusal.now in
    let lines : c.lines.result ≡ (size_of c.args.parts.now).lines = search rules in
    let lines-2 : c.lines-2.result ≡ (size_of c.args.parts.now).lines = search rules in
    let hints =
    c.hints_beside.ensures
    ∙ ap (hints_beside refusal.damage) (c.told_hints.ensures ∙ ap (λ (n : ℕ). told_hints n refusal) lines) in
    let torn : c.looks_torn.result ≡ looks_torn (size_of c.args.parts.now).lines refusal =
    c.looks_torn.ensures ∙ ap (λ (n : ℕ). looks_torn n refusal) lines-2 in
    Puts-then c.put_fault_lines.ensures
    (Puts-then (Puts-same (ap known_line known) c.put_known_line.ensures)
    (Puts-then c.put_place_line.ensures
    (Puts-then c.put_damage.ensures
    (Puts-then (Puts-same (ap₂ hints_text hints font) c.put_hints.ensures)
    (Puts-then (rw c.size-size.ensures at c.put_widths.ensures) (rw torn at c.put_lines_line.ensures))))))
