use Rattle.std.proofs.Common.{get_or, rules, ◌≡◌, ℕ, List, []}
use Rattle.std.specs.Borrow.{Bor}
use Rattle.ans_report.specs.Words.{later_view}
use Rattle.ans_write.proofs.PutsLemmas.{Puts-then, Puts-next}
use Rattle.ans_report.proofs.lines.put_later_words.Goals as goal

-- what stands past the end of a slice
abbrev none : Bor (List ℕ)
none = record { ref_ptr = (0, 0); now = [] }

pub loop-word-preserved : goal.loop-word-preserved
loop-word-preserved g c =
    let word : c.as_bytes.result.now ≡ (get_or c.args.words.now c.loop-word.word-index none).now = search rules in
    Puts-next later_view c.args.words.now c.loop-word.word-index none c.loop-word-test.true c.loop-word.invariant
    (Puts-then c.put.ensures (rw word at c.put-in-loop-word.ensures))
