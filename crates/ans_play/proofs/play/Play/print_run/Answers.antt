use Rattle.std.proofs.Common.{arith, ◌≡◌}
use Rattle.ans_play.proofs.GlyphRuns.{is_run, longest_run}
use Rattle.ans_play.proofs.WholeTokens.{plays_no_tokens}
use Rattle.ans_play.proofs.play.Play.print_run.Goals as goal

pub brush_glyphs-requires : goal.brush_glyphs-requires
brush_glyphs-requires g c =
    let run = is_run c.brush-brush.ensures.on c.brush-brush.ensures.same
    c.columns_before_last-columns.ensures (omega (arith, c.min.ensures)) c.count_glyphs-count.ensures
    c.if-count-gt0.true in
    record {
      on = c.brush-brush.ensures.on;
      above = λ some. run.above;
      columns = λ some. run.columns;
      within = run.within;
      glyphs = run.glyphs;
    }

pub returns-then-count-gt0-clause-printed : goal.returns-then-count-gt0-clause-printed
returns-then-count-gt0-clause-printed g c =
    let run = is_run c.brush-brush.ensures.on c.brush-brush.ensures.same
    c.columns_before_last-columns.ensures (omega (arith, c.min.ensures)) c.count_glyphs-count.ensures
    c.if-count-gt0.true in
    rw c.lay.ensures (rw run.same at c.brush_glyphs.ensures.played)

pub returns-then-count-gt0-clause-longest : goal.returns-then-count-gt0-clause-longest
returns-then-count-gt0-clause-longest g c =
    longest_run _ c.columns_before_last-columns.ensures c.min.ensures c.count_glyphs-count.ensures

pub returns-else-count-gt0-clause-longest : goal.returns-else-count-gt0-clause-longest
returns-else-count-gt0-clause-longest g c =
    longest_run _ c.columns_before_last-columns.ensures c.min.ensures c.count_glyphs-count.ensures

pub returns-else-count-gt0-clause-printed : goal.returns-else-count-gt0-clause-printed
returns-else-count-gt0-clause-printed g c =
    let none : c.count_glyphs-count.result ≡ 0 = omega arith in
    rw none (plays_no_tokens c.args.self.now)
