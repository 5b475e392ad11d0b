use Rattle.std.proofs.Common.{◌≡◌, ℕ, ◌+◌, ◌*◌, ◌++◌, List, [], ◌∷◌, length, map, take, set, get_or}
use Rattle.std.proofs.Common.{arith, ap, sym, refl, ◌∙◌}
use Rattle.std.proofs.lemmas.List.{take_more, map-append, length-map, length-take-le}
use Rattle.ans_screen.specs.GridEdits.{written, printed_run}
use Rattle.ans_screen.specs.HalfCells.{printed_cell}
use Rattle.ans_screen.specs.declared.cell.HalfCell.{HalfCell}
use Rattle.ans_screen.proofs.Places.{row_end, written_none, written_more}
use Rattle.ans_screen.proofs.grid.Grid.write_run.Goals as goal

pub loop-i-init : goal.loop-i-init
loop-i-init g c = record {
  cells = sym (written_none (g.Self.Grid.cells_of c.args.self.now) (c.args.row * c.width.result + c.args.column));
  width = refl;
  rows = refl;
}

pub put-requires : goal.put-requires
put-requires g c =
    let w = g.Self.Grid.width_of c.args.self.now in
    let before = c.loop-i.invariant in
    let whole = rw (before.width, before.rows) at (g.met.Self.Grid.whole c.loop-i.self) in
    let start : c.args.row * c.width.result ≡ c.args.row * w = ap (λ (n : ℕ). c.args.row * n) c.width.ensures in
    omega (
      arith,
      whole,
      row_end w c.args.row (g.Self.Grid.rows_of c.args.self.now) c.requires.row,
      start,
      c.requires.column,
    )

pub loop-i-preserved : goal.loop-i-preserved
loop-i-preserved g c =
    let cells = g.Self.Grid.cells_of c.args.self.now in
    let w = g.Self.Grid.width_of c.args.self.now in
    let i = c.loop-i.i in
    let bytes = c.args.bytes.now in
    let from = c.args.row * c.width.result + c.args.column in
    let start : c.args.row * c.width.result ≡ c.args.row * w = ap (λ (n : ℕ). c.args.row * n) c.width.ensures in
    let run = printed_run c.args.attr (take i bytes) in
    let count : length (take i bytes) ≡ i = length-take-le i bytes (omega (arith, c.requires.count)) in
    let long : length run ≡ i = length-map (take i bytes) (printed_cell c.args.attr) ∙ count in
    let next : printed_run c.args.attr (take (i + 1) bytes)
    ≡ run ++ printed_cell c.args.attr (get_or bytes i 0) ∷ [] =
    ap (map (printed_cell c.args.attr)) (take_more bytes i 0 (omega (arith, c.requires.count)))
    ∙ map-append (printed_cell c.args.attr) (take i bytes) (get_or bytes i 0 ∷ []) in
    record {
      cells = c.put.ensures.cells
          ∙ (ap (λ (zs : List HalfCell). set zs (from + i) (printed_cell c.args.attr (get_or bytes i 0)))
          c.loop-i.invariant.cells
          ∙ (written_more cells from i run (printed_cell c.args.attr (get_or bytes i 0)) long
          (omega (
            arith,
            g.met.Self.Grid.whole c.args.self.now,
            row_end w c.args.row (g.Self.Grid.rows_of c.args.self.now) c.requires.row,
            start,
            c.requires.column,
          ))
          ∙ ap (λ (ys : List HalfCell). written cells from ys) (sym next)));
      width = c.put.ensures.width ∙ c.loop-i.invariant.width;
      rows = c.put.ensures.rows ∙ c.loop-i.invariant.rows;
    }

pub returns-clause-cells : goal.returns-clause-cells
returns-clause-cells g c =
    let cells = g.Self.Grid.cells_of c.args.self.now in
    let all : c.loop-i.i ≡ c.args.count = omega arith in
    c.loop-i.invariant.cells
    ∙ (ap (λ (n : ℕ). written cells (c.args.row * n + c.args.column)
    (printed_run c.args.attr (take c.loop-i.i c.args.bytes.now))) c.width.ensures
    ∙ ap (λ (n : ℕ). written cells (c.args.row * g.Self.Grid.width_of c.args.self.now + c.args.column)
    (printed_run c.args.attr (take n c.args.bytes.now))) all)
