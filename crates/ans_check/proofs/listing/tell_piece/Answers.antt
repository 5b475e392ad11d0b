use Rattle.std.proofs.Common.{◌∙◌, ◌++◌, ◌∷◌, [], Err, refl}
use Rattle.std.proofs.lemmas.Result.{err_from_is_err_and}
use Rattle.ans_write.specs.Puts.{device_of}
use Rattle.ans_check.proofs.ListingLemmas.{ends_before_bytes, ends_held, ends_of_memory, held_or_ends, held_sound}
use Rattle.ans_check.proofs.ListingLemmas.{name_cut}
use Rattle.ans_check.proofs.ListingLemmas.{name_ends, name_shorter, name_taken, piece_or_ends, takes_nothing}
use Rattle.ans_check.proofs.RowsLemmas.{ends_err}
use Rattle.ans_check.proofs.listing.tell_piece.Goals as goal

pub loop-name-init : goal.loop-name-init
loop-name-init g c = (
  c.requires.ready,
  refl,
  ([], refl, takes_nothing _ _ c.args.listing.now (device_of c.args.out.now) c.requires.sound),
)

pub tell_held-requires-clause-ready : goal.tell_held-requires-clause-ready
tell_held-requires-clause-ready g c = c.loop-name.invariant.0

pub tell_held-requires-clause-sound : goal.tell_held-requires-clause-sound
tell_held-requires-clause-sound g c =
    held_sound c.loop-name.listing c.hold.new.self c.in-Some.name.now c.in_ok-hold.ensures.held
    c.in_ok-hold.ensures.counts c.in-Some.ensures.some.plain c.loop-name.invariant.2.2.sound

pub returns-in_err-hold-clause-ends : goal.returns-in_err-hold-clause-ends
returns-in_err-hold-clause-ends g c =
    let (e, at, same) = err_from_is_err_and c.from_residual.result c.from_residual.ensures.1 in
    rw (at, same)
    (ends_of_memory c.loop-name.out c.in_err-hold.field-0.0 c.in_err-hold.ensures.memory c.loop-name.invariant.0
    c.loop-name.invariant.1)

pub returns-in_err-hold-clause-takes : goal.returns-in_err-hold-clause-takes
returns-in_err-hold-clause-takes g c =
    let (e, at, same) = err_from_is_err_and c.from_residual.result c.from_residual.ensures.1 in
    let so_far = c.loop-name.invariant.2 in
    rw (at, same)
    (piece_or_ends _ _ c.args.listing.now c.loop-name.listing c.loop-name.listing _ so_far.0 _
    (device_of c.args.out.now) (device_of c.loop-name.out) (device_of c.loop-name.out) (Err c.in_err-hold.field-0.0)
    so_far.1 so_far.2
    (ends_before_bytes _ _ c.loop-name.listing c.loop-name.listing _ (device_of c.loop-name.out)
    c.in_err-hold.field-0.0))

pub returns-in_err-tell_held-clause-ends : goal.returns-in_err-tell_held-clause-ends
returns-in_err-tell_held-clause-ends g c =
    let (e, at, same) =
    err_from_is_err_and c.from_residual-in_err-tell_held.result c.from_residual-in_err-tell_held.ensures.1 in
    rw (at, same) (ends_err c.loop-name.invariant.1 c.in_err-tell_held.ensures.ends)

pub returns-in_err-tell_held-clause-takes : goal.returns-in_err-tell_held-clause-takes
returns-in_err-tell_held-clause-takes g c =
    let (e, at, same) =
    err_from_is_err_and c.from_residual-in_err-tell_held.result c.from_residual-in_err-tell_held.ensures.1 in
    let so_far = c.loop-name.invariant.2 in
    rw (at, same)
    (piece_or_ends _ _ c.args.listing.now c.loop-name.listing c.loop-name.listing _ so_far.0 _
    (device_of c.args.out.now) (device_of c.loop-name.out) (device_of c.tell_held.new.out)
    (Err c.in_err-tell_held.field-0.0) so_far.1 so_far.2
    (name_ends _ _ c.loop-name.listing c.hold.new.self c.loop-name.left.now c.in-Some.name.now c.in-Some.more.now
    c.in-Some.ensures.some c.in_ok-hold.ensures.held c.in_ok-hold.ensures.counts c.loop-name.listing
    (device_of c.loop-name.out) (device_of c.tell_held.new.out)
    c.in_err-tell_held.field-0.0 so_far.2.sound c.in_err-tell_held.ensures.takes))

pub loop-name-preserved : goal.loop-name-preserved
loop-name-preserved g c =
    let so_far = c.loop-name.invariant.2 in (
      c.in_ok-tell_held.ensures.ends.ready,
      c.in_ok-tell_held.ensures.ends.same_device ∙ c.loop-name.invariant.1,
      (
        so_far.0 ++ (c.in-Some.name.now ++ 0x00 ∷ []),
        name_cut _ so_far.0 c.loop-name.left.now c.in-Some.name.now c.in-Some.more.now so_far.1 c.in-Some.ensures.some,
        name_taken _ _ c.loop-name.listing c.hold.new.self c.loop-name.left.now c.in-Some.name.now c.in-Some.more.now
            c.in-Some.ensures.some c.in_ok-hold.ensures.held c.in_ok-hold.ensures.counts c.args.listing.now
            c.tell_held.new.listing so_far.0 (device_of c.args.out.now) (device_of c.loop-name.out)
            (device_of c.tell_held.new.out) so_far.2 c.in_ok-tell_held.ensures.takes,
      ),
    )

pub returns-clause-takes : goal.returns-clause-takes
returns-clause-takes g c =
    let so_far = c.loop-name.invariant.2 in
    piece_or_ends _ _ c.args.listing.now c.loop-name.listing c.hold-2.new.self _ so_far.0 c.loop-name.left.now
    (device_of c.args.out.now) (device_of c.loop-name.out) (device_of c.loop-name.out) c.hold-2.result so_far.1 so_far.2
    (held_or_ends _ _ c.loop-name.listing c.hold-2.new.self c.loop-name.left.now (device_of c.loop-name.out)
    c.hold-2.result c.hold-2.ensures.held c.hold-2.ensures.counts c.in_default.ensures.none so_far.2.sound)
