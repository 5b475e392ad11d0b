use Rattle.std.proofs.Common.{rules, ◌≡◌}
use Rattle.ans_model.specs.Text.Words.{texts_of}
use Rattle.ans_kinds.specs.KindsUsed.{words_used}
use Rattle.ans_write.proofs.PutsLemmas.{Puts-then}
use Rattle.ans_why.proofs.players_text.put_agreeing.Goals as goal

pub returns : goal.returns
returns g c =
    let words : texts_of c.as_slice.result.now ≡ words_used c.args.used.now = search rules in
    Puts-then (Puts-then (Puts-then c.put.ensures (rw words at c.put_words.ensures)) c.put-2.ensures)
    c.put_kind_lines.ensures
