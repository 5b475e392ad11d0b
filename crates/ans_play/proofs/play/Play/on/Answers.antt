use Rattle.std.proofs.Common.{◌≡◌, ◌-◌, ap, ◌∙◌, replicate, arith, ℕ}
use Rattle.ans_model.specs.Screen.State.{IsSize, sized}
use Rattle.ans_play.proofs.NewPlayer.{in_size, played_at_start, fits_at_start}
use Rattle.ans_play.proofs.play.Play.on.Goals as goal

pub invariant_of-result-2 : goal.invariant_of-result-2
invariant_of-result-2 g c =
    let size = in_size c.new-size.result (g.G.Screen.width_of c.args.grid) (g.G.Screen.rows_of c.args.grid)
    c.width.result c.rows.result c.new-size.ensures c.width.ensures c.rows.ensures c.requires.some_lines in
    fits_at_start c.new-size.result c.args.start c.new.result (g.G.Screen.cells_of c.clear.new.self)
    c.cell_at_start.result c.of_start.result c.of_start-2.result c.attribute_at_start.result c.of_start-3.result
    c.cell_at_start.ensures c.of_start.ensures.on_screen c.of_start-2.ensures.on_screen c.attribute_at_start.ensures
    (c.clear.ensures.cells ∙ ap (λ (n : ℕ). replicate n c.cell_at_start.result) size)

pub returns : goal.returns
returns g c =
    let size = in_size c.new-size.result (g.G.Screen.width_of c.args.grid) (g.G.Screen.rows_of c.args.grid)
    c.width.result c.rows.result c.new-size.ensures c.width.ensures c.rows.ensures c.requires.some_lines in
    let fits : IsSize c.new-size.result = rw (c.new-size.ensures, c.width.ensures, c.rows.ensures) record {
      some_columns = c.requires.some_columns;
      some_lines = omega arith;
    } in
    let played = played_at_start c.new-size.result c.args.start (g.G.Screen.cells_of c.clear.new.self)
    c.cell_at_start.result c.of_start.result c.of_start-2.result c.attribute_at_start.result c.of_start-3.result
    fits c.cell_at_start.ensures c.of_start.ensures.of_start c.of_start-2.ensures.of_start
    c.attribute_at_start.ensures c.of_start-3.ensures
    (c.clear.ensures.cells ∙ ap (λ (n : ℕ). replicate n c.cell_at_start.result) size) in
    let same : c.new-size.result
    ≡ sized (g.G.Screen.width_of c.args.grid) (g.G.Screen.rows_of c.args.grid - 1) =
    rw (← c.width.ensures, ← c.rows.ensures) c.new-size.ensures in
    record {
      size = same;
      played = rw (← same, c.new.ensures) played;
    }
