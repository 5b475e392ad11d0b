use Rattle.std.proofs.Common.{◌∙◌, ◌++◌, [], arith, false, refl, take, true}
use Rattle.std.proofs.KnownBytes.{Consumes-kept, Consumes-nil, Consumes-trans}
use Rattle.std.proofs.lemmas.Result.{err_from_is_err_and}
use Rattle.ans_write.specs.Puts.{device_of}
use Rattle.ans_write.specs.Tried.{has_failed}
use Rattle.ans_check.specs.declared.errors.RunError.TheVariants as error
use Rattle.ans_check.proofs.ListingLemmas.{all_last, all_taken, ends_all, ends_last, ends_nothing, none_more}
use Rattle.ans_check.proofs.ListingLemmas.{none_taken}
use Rattle.ans_check.proofs.ListingLemmas.{still_works, taken_more}
use Rattle.ans_check.proofs.listing.tell_listed.Goals as goal

pub loop-init : goal.loop-init
loop-init g c = (
  c.requires.works,
  c.requires.ready,
  refl,
  (
    [],
    Consumes-nil _,
    none_taken _ _ c.new-listing.result (device_of c.args.out.now) c.new-listing.ensures.held
        c.new-listing.ensures.counts,
  ),
)

pub returns-in_err-tell_last-in-Ok-eq0-clause-listed : goal.returns-in_err-tell_last-in-Ok-eq0-clause-listed
returns-in_err-tell_last-in-Ok-eq0-clause-listed g c =
    let (e, at, same) = err_from_is_err_and c.from_residual.result c.from_residual.ensures.1 in
    let so_far = c.loop.invariant.3 in
    rw (at, same) (record {
      bytes = so_far.0;
      read = none_more _ _ _ so_far.0 c.read_some.new.buf c.in-Ok-eq0.field-0 so_far.1 c.in-Ok-eq0.ensures.bytes.0
          c.in-Ok-eq0.field-0-test;
      whole = true;
      came = (
        still_works (has_failed c.read_some.new.self) c.in-Ok-eq0.ensures.device,
        c.in-Ok-eq0.ensures.bytes.1 c.in-Ok-eq0.field-0-test (omega (arith, c.read_some.auto.buf)),
      );
      rows = ends_last _ _ so_far.0 c.loop.listing c.loop.listing (device_of c.args.out.now) (device_of c.loop.out)
          (device_of c.tell_last.new.out) so_far.2 c.in_err-tell_last-in-Ok-eq0.field-0.0
          c.in_err-tell_last-in-Ok-eq0.ensures.takes;
      told = tt;
    })

pub returns-in-Ok-eq0-clause-listed : goal.returns-in-Ok-eq0-clause-listed
returns-in-Ok-eq0-clause-listed g c =
    let so_far = c.loop.invariant.3 in
    record {
      bytes = so_far.0;
      read = none_more _ _ _ so_far.0 c.read_some.new.buf c.in-Ok-eq0.field-0 so_far.1 c.in-Ok-eq0.ensures.bytes.0
          c.in-Ok-eq0.field-0-test;
      whole = true;
      came = (
        still_works (has_failed c.read_some.new.self) c.in-Ok-eq0.ensures.device,
        c.in-Ok-eq0.ensures.bytes.1 c.in-Ok-eq0.field-0-test (omega (arith, c.read_some.auto.buf)),
      );
      rows = all_last _ _ so_far.0 c.loop.listing c.tell_last.new.listing (device_of c.args.out.now)
          (device_of c.loop.out) (device_of c.tell_last.new.out) so_far.2 c.in_ok-tell_last-in-Ok-eq0.ensures.takes;
      told = refl;
    }

pub returns-in-Err-clause-listed : goal.returns-in-Err-clause-listed
returns-in-Err-clause-listed g c =
    let so_far = c.loop.invariant.3 in
    record {
      bytes = so_far.0;
      read = Consumes-kept _ _ _ so_far.0 so_far.1 c.in-Err.ensures.bytes;
      whole = false;
      came = c.in-Err.ensures.device.0 refl;
      rows = all_taken _ _ so_far.0 c.loop.listing (device_of c.args.out.now) (device_of c.loop.out) so_far.2;
      told = refl;
    }

pub returns-in_err-tell_piece-in-Ok-clause-listed : goal.returns-in_err-tell_piece-in-Ok-clause-listed
returns-in_err-tell_piece-in-Ok-clause-listed g c =
    let (e, at, same) =
    err_from_is_err_and c.from_residual-in_err-tell_piece-in-Ok.result
    c.from_residual-in_err-tell_piece-in-Ok.ensures.1 in
    let so_far = c.loop.invariant.3 in
    rw (at, same) (record {
      bytes = so_far.0 ++ take c.in-Ok.n c.read_some.new.buf;
      read = Consumes-trans _ _ _ so_far.0 _ so_far.1 c.in-Ok.ensures.bytes.0;
      whole = false;
      came = tt;
      rows = ends_all _ _ so_far.0 c.loop.listing (device_of c.args.out.now) (device_of c.loop.out) so_far.2
          (take c.in-Ok.n c.read_some.new.buf) (device_of c.tell_piece.new.out) c.in_err-tell_piece-in-Ok.field-0.0
          c.in_err-tell_piece-in-Ok.ensures.takes;
      told = tt;
    })

pub loop-preserved : goal.loop-preserved
loop-preserved g c =
    let so_far = c.loop.invariant.3 in (
      still_works (has_failed c.read_some.new.self) c.in-Ok.ensures.device,
      c.in_ok-tell_piece-in-Ok.ensures.ends.ready,
      c.in_ok-tell_piece-in-Ok.ensures.ends.same_device ∙ c.loop.invariant.2,
      (
        so_far.0 ++ take c.in-Ok.n c.read_some.new.buf,
        Consumes-trans _ _ _ so_far.0 _ so_far.1 c.in-Ok.ensures.bytes.0,
        taken_more _ _ so_far.0 c.loop.listing (device_of c.args.out.now) (device_of c.loop.out) so_far.2
            (take c.in-Ok.n c.read_some.new.buf) c.tell_piece.new.listing (device_of c.tell_piece.new.out)
            c.in_ok-tell_piece-in-Ok.ensures.takes,
      ),
    )

pub returns-clause-listed : goal.returns-clause-listed
returns-clause-listed g c =
    let so_far = c.loop.invariant.3 in
    record {
      bytes = so_far.0;
      read = so_far.1;
      whole = false;
      came = tt;
      rows = ends_nothing _ _ so_far.0 c.loop.listing (device_of c.args.out.now) (device_of c.loop.out) error.Memory
          so_far.2;
      told = tt;
    }
