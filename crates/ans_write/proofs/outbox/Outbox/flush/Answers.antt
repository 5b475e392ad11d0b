use Rattle.std.proofs.Common.{rules, ◌≡◌, [], false, refl, sym, append-nil}
use Rattle.ans_write.specs.Puts.{device_failed}
use Rattle.ans_write.proofs.PutsLemmas.{HandsOn-written}
use Rattle.ans_write.proofs.outbox.Outbox.flush.Goals as goal

pub returns-clause-handed : goal.returns-clause-handed
returns-clause-handed g c =
    let waiting = c.args.self.now.waiting.items in
    let works : device_failed c.args.self.now ≡ false = search rules in
    let empty : c.clear.new.self.items ≡ [] = search rules in
    let slice : c.as_slice.result.now ≡ waiting = search rules in
    HandsOn-written c.args.self.now _ waiting [] refl works (rw slice at c.write_all.ensures.bytes)
    (sym (append-nil waiting)) empty
