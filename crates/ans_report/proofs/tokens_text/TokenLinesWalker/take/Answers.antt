use Rattle.std.proofs.Common.{true≢false, arith, ◌∙◌}
use Rattle.ans_write.proofs.PutsLemmas.{Puts-same, Puts-then}
use Rattle.ans_report.proofs.GlyphsPut.{lines_past, later_ready, one_line_more, run_put}
use Rattle.ans_report.proofs.tokens_text.TokenLinesWalker.take.Goals as goal

pub returns-clause-walked : goal.returns-clause-walked
returns-clause-walked g c first front behind next h = record {
  same_outbox = c.loop-byte.invariant.same ∙ h.same_outbox;
  puts = Puts-same (lines_past front c.args.offset c.args.run.now behind next)
      (Puts-then h.puts
      (run_put c.args.offset c.args.run.now _ _ (omega (arith, c.loop-byte-test.false)) c.loop-byte.invariant.puts));
  stops = λ stopped. absurd (true≢false stopped);
}

pub loop-byte-preserved : goal.loop-byte-preserved
loop-byte-preserved g c =
    let h = c.loop-byte.invariant in
    record {
      at_is = omega (arith, h.at_is);
      ready = later_ready (omega arith) c.put_glyph.ensures.ready;
      same = h.same;
      puts = one_line_more c.args.offset c.args.run.now c.loop-byte.at c.loop-byte.byte-index c.loop-byte-test.true
          h.puts c.put_glyph.ensures.puts;
    }
