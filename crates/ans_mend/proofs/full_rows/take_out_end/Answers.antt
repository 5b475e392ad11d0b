use Rattle.std.proofs.Common.{◌≡◌, ◌+◌, ◌-◌, ◌<◌, ◌≤◌, List, ◌++◌, take, drop, ap, ap₂, ◌∙◌, append_assoc, arith, ℕ}
use Rattle.std.proofs.Common.{sym}
use Rattle.std.proofs.Common.{Option}
use Rattle.ans_hints.specs.FullRowEnds.{bytes_by, without}
use Rattle.ans_mend.proofs.RowEndsOut.{pair_out}
use Rattle.ans_mend.proofs.full_rows.take_out_end.Goals as goal

pub returns-in-Some-clause-kept : goal.returns-in-Some-clause-kept
returns-in-Some-clause-kept c =
    let m0 : List ℕ = c.args.memory.now in
    let from : ℕ = c.args.from in
    let at : ℕ = c.in-Some.at in
    let feed : ℕ = c.args.end.now.line_feed in
    let stands : (from ≤ at) × (at < feed) = rw c.in-Some.is at c.requires.stands in
    let low = stands.0 in
    let lt = stands.1 in
    let first = c.keep-kept.ensures in
    let few = first.count in
    let left : drop (at + 1) c.keep-kept.new.memory ≡ drop (at + 1) m0 =
    first.left (at + 1) (omega (arith, few, low, c.requires.behind)) in
    c.keep-in-Some.ensures.kept
    ∙ ap₂ (λ (v w : List ℕ). v ++ take (feed - (at + 1)) w) first.kept left
    ∙ append_assoc (take c.args.count m0) (take (at - from) (drop from m0)) (take (feed - (at + 1)) (drop (at + 1) m0))
    ∙ ap (λ (v : List ℕ). take c.args.count m0 ++ v) (pair_out m0 from at feed low lt c.requires.within)
    ∙ ap (λ (o : Option ℕ). take c.args.count m0 ++ without from (bytes_by o feed)
    (take (feed + 1 - from) (drop from m0)))
    (sym c.in-Some.is)
