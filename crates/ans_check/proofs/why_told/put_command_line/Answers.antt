use Rattle.std.proofs.Common.{◌≡◌, ◌∙◌, ◌++◌, ℕ, List, ap, append_assoc, sym}
use Rattle.std.specs.Prelude.{codes}
use Rattle.ans_fix.specs.FlagsText.{flags_text}
use Rattle.ans_model.specs.Text.RecordText.{named_line}
use Rattle.ans_write.proofs.PutsLemmas.{Puts-same, Puts-then}
use Rattle.ans_check.specs.LastWords.{words_text}
use Rattle.ans_check.specs.WhyTold.{command_line}
use Rattle.ans_check.proofs.why_told.put_command_line.Goals as goal

line_is : (flags last : List ℕ) → codes "fix: anscheck mend" ++ (flags ++ (last ++ codes "\n"))
    ≡ named_line (codes "fix") (codes "anscheck mend" ++ (flags ++ last))
line_is flags last = simp append_assoc

pub returns-in-Some : goal.returns-in-Some
returns-in-Some g c =
    let last = words_text c.args.words.now in
    Puts-same (line_is (flags_text c.in-Some.mends) last ∙ sym (ap (command_line last) c.in-Some.is))
    (Puts-then c.put.ensures
    (Puts-then c.put_flags.ensures (Puts-then c.put-in-Some.ensures c.put-in-Some-2.ensures)))
