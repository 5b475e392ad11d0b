use Rattle.std.proofs.Common.{rules, ◌≡◌, ℕ, List, ◌++◌, [], true, false, refl, sym, ap}
use Rattle.ans_write.specs.Puts.{device_failed}
use Rattle.ans_write.proofs.PutsLemmas.{HandsOn-then, HandsOn-longer, HandsOn-gathered, HandsOn-written}
use Rattle.ans_write.proofs.outbox.Outbox.put_after_a_flush.Goals as goal

pub returns-then-has_failed : goal.returns-then-has_failed
returns-then-has_failed g c =
    let failed : device_failed c.flush.new.self ≡ true = search rules in
    HandsOn-longer c.args.text.now failed c.flush.ensures.handed

pub returns-then-is_ok : goal.returns-then-is_ok
returns-then-is_ok g c =
    let text = c.args.text.now in
    let flushed = c.flush.new.self in
    let added : c.try_extend_from_slice.new.self.items ≡ flushed.waiting.items ++ text = search rules in
    HandsOn-then c.flush.ensures.handed (HandsOn-gathered flushed _ text refl added)

pub returns : goal.returns
returns g c =
    let text = c.args.text.now in
    let flushed = c.flush.new.self in
    let works : device_failed flushed ≡ false = search rules in
    let none : flushed.waiting.items ≡ [] = c.flush.ensures.empty works in
    let empty : c.try_extend_from_slice.new.self.items ≡ [] = search rules in
    HandsOn-then c.flush.ensures.handed
    (HandsOn-written flushed _ text text refl works c.write_all.ensures.bytes
    (ap (λ (v : List ℕ). v ++ text) (sym none)) empty)
