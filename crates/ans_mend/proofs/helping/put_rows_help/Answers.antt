use Rattle.std.proofs.Common.{◌≡◌, false, ◌∙◌, ap, sym}
use Rattle.std.specs.Prelude.{◌==◌}
use Rattle.std.proofs.lemmas.Bool.{ne_eqb}
use Rattle.ans_write.proofs.PutsLemmas.{Puts-then}
use Rattle.ans_mend.specs.MendedText.{rows_offers}
use Rattle.ans_mend.proofs.helping.put_rows_help.Goals as goal

pub returns : goal.returns
returns g c =
    let some : (rows_offers c.args.offers.now == 0) ≡ false =
    ap (λ n. n == 0) (sym c.count-count.ensures) ∙ ne_eqb c.count-count.result 0 c.if-count-eq0.false in
    rw some (Puts-then c.put-2.ensures
    (Puts-then c.put_offered.ensures
    (Puts-then c.put_offered-2.ensures
    (Puts-then c.put_offered-3.ensures
    (Puts-then c.put_offered-4.ensures
    (Puts-then c.put_lines_offered.ensures
    (rw (c.after_offers.ensures, c.count-count.ensures) at c.put-3.ensures)))))))
