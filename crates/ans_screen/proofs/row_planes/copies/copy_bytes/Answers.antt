use Rattle.std.proofs.Common.{rules, ◌≡◌, ap, ◌∙◌, length, replicate, arith}
use Rattle.ans_screen.specs.HalfCells.{byte_of}
use Rattle.ans_screen.proofs.RowReads.{held_copied}
use Rattle.ans_screen.proofs.row_planes.copies.copy_bytes.Goals as goal

pub returns : goal.returns
returns o c =
    let filled : c.fill.new.self ≡ replicate (length c.args.copied.now) c.byte.result = search rules in
    held_copied (o.P.RowPlanes.planes_of c.args.grid.now) (byte_of c.args.which) c.args.row c.held_row-held.result
    c.held_row-held.ensures c.requires.row
    c.args.copied.now _ _ _ _ (c.byte.ensures ∙ ap (byte_of c.args.which) c.frame.ensures.blank)
    c.row_start-start.ensures.start c.requires.width filled
    (omega (arith, c.copy_held.auto.copied)) (λ k lt. c.copy_held.ensures k (omega (arith, lt)))
