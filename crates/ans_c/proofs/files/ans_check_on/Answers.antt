use Rattle.std.proofs.Common.{◌<◌, ◌*◌, ◌⊎◌, length, inl, inr}
use Rattle.ans_c.specs.Numbers.{class_of}
use Rattle.ans_c.proofs.Room.{enough_cells, fewer_cells, no_room_for}
use Rattle.ans_c.proofs.Verdicts.{cells_lacking, pass_told, record_told, refusal_told, screen_lacking}
use Rattle.ans_c.proofs.files.ans_check_on.Goals as goal
use Rattle.ans_c.proofs.files.ans_check_on.Goals.{then-glyphs-cells-via-then-glyphs-cells}
use Rattle.ans_c.proofs.files.ans_check_on.Goals.{then-glyphs-cells-via-else-glyphs-cells+then-attributes-cells}

pub returns-in-Err-clause-refused : goal.returns-in-Err-clause-refused
returns-in-Err-clause-refused c = λ _.
    record_told c.args.file.now (class_of c.args.known) c.in-Err.found c.told.result c.in-Err.ensures.err c.told.ensures

pub returns-then-glyphs-cells-clause-no_room : goal.returns-then-glyphs-cells-clause-no_room
returns-then-glyphs-cells-clause-no_room c = λ _.
    let w = c.width-width.result in
    let l = c.lines-lines.result in
    let glyphs = length c.args.glyphs.now in
    let attributes = length c.args.attributes.now in
    let few : (glyphs < w * l) ⊎ (attributes < w * l) =
    elim c.then-glyphs-cells.branch [
      | then-glyphs-cells-via-then-glyphs-cells v ↦ inl v.if-glyphs-cells.true
      | then-glyphs-cells-via-else-glyphs-cells+then-attributes-cells v ↦ inr v.if-attributes-cells.true
    ] in
    inr (cells_lacking c.args.file.now c.in-Ok.parts glyphs attributes c.in-Ok.ensures.ok
    (fewer_cells w l glyphs attributes c.width-width.ensures.width c.lines-lines.ensures.lines few))

pub tell_play-requires-clause-glyphs : goal.tell_play-requires-clause-glyphs
tell_play-requires-clause-glyphs c =
    enough_cells c.width-width.result c.lines-lines.result (length c.args.glyphs.now) c.width-width.ensures.width
    c.lines-lines.ensures.lines c.if-glyphs-cells.false

pub tell_play-requires-clause-attributes : goal.tell_play-requires-clause-attributes
tell_play-requires-clause-attributes c =
    enough_cells c.width-width.result c.lines-lines.result (length c.args.attributes.now) c.width-width.ensures.width
    c.lines-lines.ensures.lines c.if-attributes-cells.false

pub returns-in-Some-clause-pass : goal.returns-in-Some-clause-pass
returns-in-Some-clause-pass c = λ is.
    let told = c.tell_play.ensures.pass is in
    rw c.class_of.ensures at (pass_told c.args.file.now c.class_of.result c.in-Ok.parts told.0 c.tell_play.new.glyphs
    c.tell_play.new.attributes c.in-Ok.ensures.ok told.1 told.2)

pub returns-in-Some-clause-refused : goal.returns-in-Some-clause-refused
returns-in-Some-clause-refused c = λ is.
    let told = c.tell_play.ensures.refused is in
    rw c.class_of.ensures at (refusal_told c.args.file.now c.class_of.result c.in-Ok.parts told.0 c.tell_play.new.fault
    c.in-Ok.ensures.ok told.1 told.2)

pub returns-in-None-clause-no_room : goal.returns-in-None-clause-no_room
returns-in-None-clause-no_room c = λ _.
    let rows = length c.args.rows.now in
    let bytes = length c.args.bytes.now in
    inl (screen_lacking c.args.file.now c.in-Ok.parts rows bytes c.in-Ok.ensures.ok
    (no_room_for c.width-width.result c.lines-lines.result rows bytes c.width-width.ensures.width
    c.lines-lines.ensures.lines (λ room. absurd (let some = c.in-None.ensures.room.1 room in cc))))
