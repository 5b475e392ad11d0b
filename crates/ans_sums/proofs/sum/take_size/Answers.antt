use Rattle.std.proofs.Common.{◌∷◌, [], ℕ, List, codes, decimal, subst}
use Rattle.ans_sums.proofs.SizeLines.{pieces}
use Rattle.ans_sums.proofs.sum.take_size.Goals as goal

pub returns : goal.returns
returns g c =
    let takes = g.S.Sink.takes in
    let size = c.args.picture.now.size in
    let W : ℕ → Type 0 = λ n. takes c.take.new.self c.take_decimal.new.sink (decimal n) in
    let L : ℕ → Type 0 = λ n. takes c.take-2.new.self c.take_decimal-2.new.sink (decimal n) in
    let width = subst W c.width.ensures.width c.take_decimal.ensures in
    let lines = subst L c.lines.ensures.lines c.take_decimal-2.ensures in
    let P : List ℕ → Type 0 = λ line. takes c.args.sink.now c.take-3.new.self line in
    subst P (pieces (decimal size.width) (decimal size.lines))
    (g.met.S.Sink.both _ _ _ (codes "size: ") _ c.take.ensures
    (g.met.S.Sink.both _ _ _ (decimal size.width) _ width
    (g.met.S.Sink.both _ _ _ (codes " x ") _ c.take-2.ensures
    (g.met.S.Sink.both _ _ _ (decimal size.lines) (0x0A ∷ []) lines c.take-3.ensures))))
