use Rattle.std.proofs.lemmas.Result.{err_from_is_err_and}
use Rattle.ans_write.specs.Puts.{device_of}
use Rattle.ans_check.specs.declared.errors.RunError.TheVariants as error
use Rattle.ans_check.specs.declared.listing.Listing.{Listing}
use Rattle.ans_check.proofs.ListingLemmas.{counted_right, ends_at, ends_before, takes_end}
use Rattle.ans_check.proofs.listing.tell_held.Goals as goal

pub add-requires-clause-pass : goal.add-requires-clause-pass
add-requires-clause-pass g c = (counted_right _ c.requires.sound).pass

pub add-requires-clause-cleared : goal.add-requires-clause-cleared
add-requires-clause-cleared g c = (counted_right _ c.requires.sound).cleared

pub add-requires-clause-refused : goal.add-requires-clause-refused
add-requires-clause-refused g c = (counted_right _ c.requires.sound).refused

pub add-requires-clause-unread : goal.add-requires-clause-unread
add-requires-clause-unread g c = (counted_right _ c.requires.sound).unread

pub returns-then-listing-clause-takes : goal.returns-then-listing-clause-takes
returns-then-listing-clause-takes g c = λ more. ends_before _ _ _ (device_of c.args.out.now) error.Memory

pub returns-in_err-outcome-clause-takes : goal.returns-in_err-outcome-clause-takes
returns-in_err-outcome-clause-takes g c =
    let (e, at, same) = err_from_is_err_and c.from_residual.result c.from_residual.ensures.1 in
    rw (at, same)
    (ends_at _ _ c.args.listing.now c.args.out.now c.tell_named.new.out c.in_err-outcome.field-0.0
    (rw c.as_slice.ensures.value at c.in_err-outcome.ensures) c.requires.sound)

pub returns-clause-takes : goal.returns-clause-takes
returns-clause-takes g c =
    let new : Listing = record { counts = c.add.new.self; held = c.clear.new.self } in
    takes_end _ _ c.args.listing.now new c.args.out.now c.tell_named.new.out c.in_ok-outcome.outcome
    (rw c.as_slice.ensures.value at c.in_ok-outcome.ensures) c.clear.ensures.items c.add.ensures.counts c.requires.sound
