use Rattle.std.proofs.Common.{◌∙◌, ap, sym}
use Rattle.std.specs.List.{flat_map}
use Rattle.std.proofs.lemmas.List.Folds.{flat_map-map}
use Rattle.ans_model.specs.MendFlags.{row_of_flag}
use Rattle.ans_write.proofs.PutsLemmas.{Puts-same, Puts-then}
use Rattle.ans_fix.specs.FlagsText.{flag_text}
use Rattle.ans_fix.proofs.flags_text.put_flags.Goals as goal

pub returns : goal.returns
returns g c =
    let text = flag_text c.args.mends.now in
    Puts-then (Puts-same (sym (flat_map-map text row_of_flag c.mend_flags.result.now)
    ∙ ap (flat_map text) c.mend_flags.ensures) c.put_each.ensures)
    (Puts-then c.put_number.ensures (Puts-then c.put_number-2.ensures c.put_number-3.ensures))
