use Rattle.std.proofs.Common.{◌≡◌, List, ℕ, take, drop, true, false, ap, ◌∙◌, sym}
use Rattle.std.proofs.lemmas.List.{take_at, drop_at}
use Rattle.ans_model.specs.Screen.State.{at}
use Rattle.ans_model.proofs.Reading.{reads_bytes}
use Rattle.ans_pens.specs.Evidence.{begins_with_tab}
use Rattle.ans_pens.specs.CellPlays.{AreKept}
use Rattle.ans_pens.proofs.BeforeFault.{IsBefore, stands_before, shows_before_token, shows_before_blank}
use Rattle.ans_pens.proofs.evidence.cursors_before.Goals.{then-begins_with_tab, else-begins_with_tab}
use Rattle.ans_pens.proofs.evidence.cursors_before.Goals as goal

pub returns-clause-shows : goal.returns-clause-shows
returns-clause-shows c =
    let z = c.args.size in
    let class = c.args.start in
    let f = c.args.fault in
    let content = c.args.content.now in
    let b : IsBefore z class content f = stands_before z class content f c.requires.deserved in
    let read = b.read in
    let front : c.split_at.result.0.now ≡ read.front =
    c.split_at.ensures.front ∙ ap (λ (xs : List ℕ). take f.offset xs) read.whole
    ∙ take_at read.front b.rest f.offset (sym read.offset_is) in
    let rest : c.split_at.result.1.now ≡ b.rest =
    c.split_at.ensures.back ∙ ap (λ (xs : List ℕ). drop f.offset xs) read.whole
    ∙ drop_at read.front b.rest f.offset (sym read.offset_is) in
    let was : AreKept z class (at 0 0) b.tokens c.play_tokens-plays.result =
    c.play_tokens-plays.ensures.kept b.tokens (rw front read.reads) b.clean in
    let told : c.begins_with_tab.result ≡ begins_with_tab b.rest =
    c.begins_with_tab.ensures ∙ ap begins_with_tab rest in
    elim c.if-begins_with_tab.branch [
      | then-begins_with_tab w ↦
          let tab : begins_with_tab b.rest ≡ true = sym told ∙ w.if-begins_with_tab.true in
          rw w.plays-is (shows_before_blank z class content f b (at 0 0) w.blanks.new.self tab
          (w.blanks.ensures.kept class b.tokens f.cause (b.tab tab) (reads_bytes read.front b.tokens read.reads)
          b.clean was))
      | else-begins_with_tab w ↦
          let no_tab : begins_with_tab b.rest ≡ false = sym told ∙ w.if-begins_with_tab.false in
          rw w.plays-is (shows_before_token z class content f b (at 0 0) c.play_tokens-plays.result no_tab was)
    ]
