use Rattle.std.proofs.Common.{◌≤◌, arith, length}
use Rattle.ans_write.specs.Puts.{device_of}
use Rattle.ans_check.specs.Listing.{held_of}
use Rattle.ans_check.proofs.ListingLemmas.{takes_no_end}
use Rattle.ans_check.proofs.listing.tell_last.Goals as goal

pub returns-then-is_empty-clause-takes : goal.returns-then-is_empty-clause-takes
returns-then-is_empty-clause-takes g c =
    let none : length (held_of c.args.listing.now) ≤ 0 = grind (arith, c.is_empty.ensures, c.if-is_empty.true) in
    takes_no_end _ _ c.args.listing.now (device_of c.args.out.now) none c.requires.sound
