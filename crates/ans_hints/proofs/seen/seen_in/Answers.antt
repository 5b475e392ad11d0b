use Rattle.std.proofs.Common.{◌≡◌, ◌-◌, ◌≤◌, ◌∙◌, ap, arith, drop, length, take}
use Rattle.std.proofs.lemmas.List.{length-drop, length-take-le}
use Rattle.ans_pens.specs.Counted.{so_many}
use Rattle.ans_hints.specs.Walks.{seen_at}
use Rattle.ans_hints.proofs.SeenPieces.{piece_counted}
use Rattle.ans_hints.proofs.seen.seen_in.Goals as goal

pub loop-at-preserved : goal.loop-at-preserved
loop-at-preserved c =
    let run = c.args.run.now in
    let at = c.loop-at.at in
    let end = c.min-end.result in
    let room : at ≤ end = omega (arith, c.min-end.ensures, c.loop-at-test.true) in
    let long : length (take (end - at) (drop at run)) ≡ end - at =
    length-take-le (end - at) (drop at run) (omega (arith, c.min-end.ensures, length-drop at run)) in
    record {
      within = omega (arith, c.min-end.ensures);
      counted = piece_counted run at end c.loop-at.seen c.from-seen.result room c.loop-at.invariant.counted
          (c.from-seen.ensures ∙ c.seen_in_piece.ensures.count
          ∙ ap (so_many (seen_at (take (end - at) (drop at run)))) long)
          (omega (arith, c.from-seen.ensures, c.seen_in_piece.ensures.within, long));
    }
