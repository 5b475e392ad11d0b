use Rattle.std.proofs.Common.{◌≡◌, true, rules, sym, ◌∙◌}
use Rattle.ans_write.proofs.PutsLemmas.{Puts-then}
use Rattle.ans_mend.specs.MendedText.{has_lines}
use Rattle.ans_mend.proofs.helping.put_place_help.Goals as goal

pub returns : goal.returns
returns g c =
    let some : has_lines c.args.offers.now ≡ true = sym c.has_lines.ensures ∙ search rules in
    rw some (Puts-then c.put-2.ensures (Puts-then c.put_lines_offered.ensures c.put-3.ensures))
