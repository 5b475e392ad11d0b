use Rattle.std.proofs.Common.{◌≡◌, ◌∙◌, Some, sym}
use Rattle.ans_check.specs.Fates.{place_of}
use Rattle.ans_check.proofs.filing.keep.Goals as goal

pub returns-in-Some-clause-kept : goal.returns-in-Some-clause-kept
returns-in-Some-clause-kept g c =
    let at : place_of c.args.goal c.args.changed ≡ Some c.in-Some.saving = sym c.place.ensures ∙ c.in-Some.is in
    rw at (rw (c.outcome.ensures, c.as_slice-bytes.ensures.value) at c.write_new.ensures.written)
