use Rattle.std.proofs.Common.{sym, ◌∙◌, arith}
use Rattle.std.proofs.lemmas.Bool.{not-false}
use Rattle.ans_report.proofs.GlyphsPut.{later_ready}
use Rattle.ans_report.proofs.TokensPut.{puts_line}
use Rattle.ans_report.proofs.tokens_text.TokenLinesWalker.token.Goals as goal

pub returns-clause-ready : goal.returns-clause-ready
returns-clause-ready g c = later_ready (omega arith) c.put_token.ensures.ready

pub returns-clause-walked : goal.returns-clause-walked
returns-clause-walked g c first front text next h = record {
  same_outbox = h.same_outbox;
  puts = puts_line front c.args.token.now text c.args._behind.now next h.puts c.put_token.ensures.puts;
  stops = λ stopped. sym c.has_failed.ensures ∙ not-false c.has_failed.result stopped;
}
