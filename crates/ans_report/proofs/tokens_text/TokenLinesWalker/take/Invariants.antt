use Rattle.std.proofs.Common.{◌≡◌, ◌+◌, drop}
use Rattle.ans_report.specs.GlyphLines.{AreReady}
use Rattle.ans_report.proofs.GlyphsPut.{PutsWithRest}
use Rattle.ans_report.proofs.tokens_text.TokenLinesWalker.take.Given as goal

abbrev pub invariant-loop-byte : goal.invariant-loop-byte
invariant-loop-byte g l = record {
  at_is : l.at ≡ l.fn.offset + l.byte-index;
  ready : AreReady l.self.tens l.at;
  same : l.self.out.ghost_name ≡ l.fn.self.out.ghost_name;
  puts : PutsWithRest g.W.Write.contents l.fn.self.out.now l.fn.offset l.run l.self.out.now l.at
      (drop l.byte-index l.run);
}
