use Rattle.std.proofs.Common.{◌≡◌, ◌∙◌, sym, true}
use Rattle.ans_write.proofs.PutsLemmas.{Puts-then}
use Rattle.ans_fix.specs.FlagsText.{asks_for}
use Rattle.ans_fix.proofs.flags_text.put_flag.Goals as goal

pub returns-then-asks_for : goal.returns-then-asks_for
returns-then-asks_for g c =
    let asked : asks_for c.args.mends.now c.args.flag.now.step ≡ true = sym c.asks_for.ensures ∙ c.if-asks_for.true in
    rw asked (Puts-then c.put.ensures (rw c.as_bytes.ensures.value at c.put-then-asks_for.ensures))
