use Rattle.std.proofs.Common.{◌≡◌, ◌+◌, ◌++◌, Bool, ℕ, ap, sym, ◌∙◌, arith}
use Rattle.std.specs.Prelude.{nat_lt}
use Rattle.std.specs.Simd.Lanes.{zip2}
use Rattle.ans_model.specs.Screen.State.{cell}
use Rattle.ans_play.specs.Shown.{cells_of_row}
use Rattle.ans_redraw.specs.Form.{opens_below, row_drawn, attribute_after_row, before_row, drawn, after_row, pen, texts}
use Rattle.ans_redraw.proofs.RowsGiven.{attribute_given, attributes_long, bytes_long, opens_is, row_given, row_zipped}
use Rattle.ans_redraw.proofs.RowsGiven.{takes_same}
use Rattle.ans_redraw.proofs.form.give_row.Goals as goal

pub returns-clause-takes : goal.returns-clause-takes
returns-clause-takes g c =
    let p = c.args.picture.now in
    let i = c.args.row in
    let f = c.args.follows in
    let a = c.args.attribute in
    let bytes = c.copy_glyphs.new.bytes in
    let attributes = c.copy_attributes.new.attributes in
    let row = cells_of_row p i in
    let is : zip2 cell bytes attributes ≡ row =
    row_zipped p i bytes attributes c.copy_glyphs.ensures c.copy_attributes.ensures in
    let opens = c.opens_below-opens.result in
    let whole = c.width-width.ensures.whole in
    let wide = sym c.width-width.ensures.width in
    let opened : opens ≡ opens_below f (nat_lt (i + 1) p.size.lines) row =
    opens_is p i bytes attributes c.width-width.result f (nat_lt (i + 1) c.lines.result) opens is
    (bytes_long p i bytes whole c.requires.row c.copy_glyphs.ensures ∙ wide)
    (attributes_long p i attributes whole c.requires.row c.copy_attributes.ensures ∙ wide)
    (omega (arith, c.width-width.ensures.limits)) c.opens_below-opens.ensures
    ∙ ap (λ (n : ℕ). opens_below f (nat_lt (i + 1) n) row) c.lines.ensures.lines in
    let before = c.give_before-before in
    let after = c.give_cells-after in
    takes_same g.S.Sink.takes
    (row_given opens f i a before.result after.result row (zip2 cell bytes attributes) before.ensures.attribute is
    after.ensures.attribute ∙ ap (λ (o : Bool). texts (row_drawn o f i a row)) opened)
    (g.met.S.Sink.both _ _ _ (texts (before_row opens a))
    (texts (drawn (pen before.result 0) (zip2 cell bytes attributes)) ++ texts (after_row opens f i after.result))
    before.ensures.takes
    (g.met.S.Sink.both _ _ _ (texts (drawn (pen before.result 0) (zip2 cell bytes attributes)))
    (texts (after_row opens f i after.result)) after.ensures.takes c.give_after.ensures.takes))

pub returns-clause-attribute : goal.returns-clause-attribute
returns-clause-attribute g c =
    let p = c.args.picture.now in
    let i = c.args.row in
    let f = c.args.follows in
    let a = c.args.attribute in
    let bytes = c.copy_glyphs.new.bytes in
    let attributes = c.copy_attributes.new.attributes in
    let row = cells_of_row p i in
    let is : zip2 cell bytes attributes ≡ row =
    row_zipped p i bytes attributes c.copy_glyphs.ensures c.copy_attributes.ensures in
    let opens = c.opens_below-opens.result in
    let whole = c.width-width.ensures.whole in
    let wide = sym c.width-width.ensures.width in
    let opened : opens ≡ opens_below f (nat_lt (i + 1) p.size.lines) row =
    opens_is p i bytes attributes c.width-width.result f (nat_lt (i + 1) c.lines.result) opens is
    (bytes_long p i bytes whole c.requires.row c.copy_glyphs.ensures ∙ wide)
    (attributes_long p i attributes whole c.requires.row c.copy_attributes.ensures ∙ wide)
    (omega (arith, c.width-width.ensures.limits)) c.opens_below-opens.ensures
    ∙ ap (λ (n : ℕ). opens_below f (nat_lt (i + 1) n) row) c.lines.ensures.lines in
    let before = c.give_before-before in
    let after = c.give_cells-after in
    c.give_after.ensures.attribute
    ∙ attribute_given opens f a before.result after.result row (zip2 cell bytes attributes) before.ensures.attribute is
    after.ensures.attribute
    ∙ ap (λ (o : Bool). attribute_after_row o f a row) opened
