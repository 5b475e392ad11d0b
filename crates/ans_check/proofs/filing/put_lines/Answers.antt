use Rattle.std.proofs.Common.{◌≡◌, ◌∙◌, ap, false, length, nat_le, sym, true}
use Rattle.ans_write.proofs.PutsLemmas.{Puts-then}
use Rattle.ans_write.specs.Puts.{device_failed, outbox_size, waiting_of}
use Rattle.ans_write.specs.Tried.{has_failed}
use Rattle.ans_check.specs.Fates.{all_said}
use Rattle.ans_check.proofs.filing.put_lines.Goals as goal

pub returns-then-all_waits : goal.returns-then-all_waits
returns-then-all_waits g c =
    let text = all_said c.args.naming.now c.args.ending.now in
    let held = c.new-held.result in
    let works : device_failed held ≡ false =
    ap has_failed c.new-held.ensures.unchanged ∙ c.new-nowhere.ensures.failed in
    let fits : nat_le (length text) outbox_size ≡ true =
    sym (c.all_waits.ensures.fits held text c.new-held.ensures.empty works c.put_said.ensures) ∙ c.if-all_waits.true in
    let whole : waiting_of c.put_said.new.out ≡ text =
    c.all_waits.ensures.whole held text c.new-held.ensures.empty c.put_said.ensures c.if-all_waits.true in
    rw fits (rw (c.as_bytes.ensures.value, c.waiting.ensures, whole) at c.put_named_lines.ensures)

pub returns : goal.returns
returns g c =
    let text = all_said c.args.naming.now c.args.ending.now in
    let held = c.new-held.result in
    let works : device_failed held ≡ false =
    ap has_failed c.new-held.ensures.unchanged ∙ c.new-nowhere.ensures.failed in
    let long : nat_le (length text) outbox_size ≡ false =
    sym (c.all_waits.ensures.fits held text c.new-held.ensures.empty works c.put_said.ensures)
    ∙ c.if-all_waits.false in
    rw long (Puts-then (rw c.as_bytes-2.ensures.value at c.put_front.ensures) c.put_said-2.ensures)
