use Rattle.std.proofs.Common.{◌≡◌, ℕ, ◌+◌, ◌-◌, ◌≤◌, List, length, take, drop, refl, ap, ◌∙◌, arith}
use Rattle.ans_mend.proofs.SearchSteps.{goes_first, waiting_text}
use Rattle.ans_mend.proofs.name_search.naming_place.Goals as goal

pub returns : goal.returns
returns c =
    let w = c.args.waiting in
    let h = c.requires.waits in
    let bytes : List ℕ = c.args.bytes.now in
    let start : ℕ = w.taking.start in
    let n = c.naming_of-naming.ensures in
    let text : take (start + w.taking.length - start) (drop start bytes) ≡ h.waits.waiting.text =
    ap (λ (v : ℕ). take v (drop start bytes)) (omega arith)
    ∙ waiting_text bytes h.left h.tokens h.texts w.taking _ h.reads h.whole h.waits in
    let long = h.waits.long in
    let last : c.naming_of-naming.result.rest ≤ length h.waits.waiting.text = rw text at n.within in
    goes_first bytes h.left h.tokens h.texts w.taking _ h.reads h.whole h.waits h.missing _
    c.naming_of-naming.result.zero c.naming_of-naming.result.rest refl refl refl h.end n.order
    (omega (arith, last, long)) n.few n.more (rw text at n.text)
