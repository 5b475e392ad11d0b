use Rattle.std.proofs.Common.{◌≡◌, ◌++◌, ◌/◌, ◌%◌, [], ◌∷◌, ℕ, List, ap, sym, ◌∙◌, arith, codes, replicate, refl}
use Rattle.std.specs.Prelude.{decimal}
use Rattle.ans_model.specs.Bytes.{escape, bracket}
use Rattle.ans_redraw.specs.Form.{down, texts}
use Rattle.ans_redraw.proofs.RowEnds.{most_down, downward_more}
use Rattle.ans_redraw.proofs.RowsGiven.{takes_same}
use Rattle.ans_redraw.proofs.WayTexts.{one_more}
use Rattle.ans_redraw.proofs.ends.give_downward.Goals as goal

pub loop-move-preserved : goal.loop-move-preserved
loop-move-preserved g c =
    let so_far = texts (replicate c.loop-move._move (down 255)) in
    takes_same g.S.Sink.takes
    (ap (λ (v : List ℕ). so_far ++ v) (sym most_down) ∙ sym (one_more c.loop-move._move (down 255)))
    (g.met.S.Sink.both _ _ _ so_far (escape ∷ codes "[255B") c.loop-move.invariant c.take.ensures)

pub returns-then-rows-ne0 : goal.returns-then-rows-ne0
returns-then-rows-ne0 g c =
    let n = c.args.rows in
    let skipped = texts (replicate (n / 255) (down 255)) in
    let all : c.loop-move._move ≡ n / 255 = omega arith in
    takes_same g.S.Sink.takes (downward_more n (n % 255) refl c.if-rows-ne0.true)
    (g.met.S.Sink.both _ _ _ skipped (escape ∷ bracket ∷ (decimal (n % 255) ++ 0x42 ∷ []))
    (takes_same g.S.Sink.takes (ap (λ (k : ℕ). texts (replicate k (down 255))) all) c.loop-move.invariant)
    c.give_move.ensures)
