use Rattle.std.proofs.Common.{rules, ◌≡◌, ◌+◌, ◌≤◌, ℕ, length, replicate, get_or, List, arith, ap, sym, ◌∙◌}
use Rattle.std.proofs.lemmas.List.{length-take-le}
use Rattle.ans_screen.specs.RowCells.{state_of}
use Rattle.ans_screen.proofs.RowReads.{mixed_copied, known_byte_is}
use Rattle.ans_screen.proofs.Zeros.{over_zeros}
use Rattle.ans_screen.proofs.row_planes.copies.copy_held.Goals as goal

pub returns-then-held : goal.returns-then-held
returns-then-held o c = λ k lt.
    let g = o.P.RowPlanes.planes_of c.args.grid.now in
    let first = c.args.held.first in
    let copied = c.copy_from_slice.ensures.after in
    let filled : c.fill.new.self ≡ replicate (length c.args.copied.now) 0 = search rules in
    let state = c.requires.held.inside (first + k) (omega arith) (omega arith) ∙ ap state_of c.if-held.true in
    let at = over_zeros c.copy_from_slice.new.self c.fill.new.self _ _ k (ap length copied) filled
    ∙ (ap (λ (xs : List ℕ). get_or xs k 0) copied ∙ c.shown_bytes-shown.ensures.each k (omega arith)) in
    at ∙ sym (known_byte_is g c.args.which (first + k) state (omega (arith, at, c.type_inv.copied k)))

pub returns-else-held : goal.returns-else-held
returns-else-held o c = λ k lt.
    let g = o.P.RowPlanes.planes_of c.args.grid.now in
    let first = c.args.held.first in
    let count = c.min-count.result in
    let filled : c.fill.new.self ≡ replicate (length c.args.copied.now) 0 = search rules in
    let state = c.requires.held.inside (first + k) (omega arith) (omega arith) ∙ ap state_of c.if-held.false in
    let within : count ≤ length c.fill.new.self =
    omega (arith, c.min-count.ensures, c.shown_bytes-shown.ensures.within, c.fill.auto.self, c.requires.all) in
    let part = length-take-le count c.fill.new.self within in
    let long : length c.copy_known.new.copied ≡ count = omega (arith, c.copy_known.auto.copied, part) in
    over_zeros c.copy_known.new.copied c.fill.new.self count _ k long filled
    ∙ mixed_copied g c.args.which c.shown_bytes-shown.result.now c.known_bytes-known.result.now c.copy_known.new.copied
    first c.args.held.end count k c.shown_bytes-shown.ensures c.known_bytes-known.ensures state c.min-count.ensures
    (omega arith) long (λ j below. c.copy_known.ensures j (omega (arith, part)))
