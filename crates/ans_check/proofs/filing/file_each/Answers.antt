use Rattle.std.proofs.Common.{◌≡◌, ap, arith, length, nat_lt, refl}
use Rattle.std.proofs.lemmas.List.{length-map}
use Rattle.std.specs.Borrow.{Bor}
use Rattle.clap.specs.Words.{Text}
use Rattle.ans_model.specs.Text.Words.{texts_of}
use Rattle.ans_check.proofs.FilesLemmas.{all_filed, filed_within, none_filed, one_filed}
use Rattle.ans_check.proofs.filing.file_each.Goals as goal

pub loop-name-init : goal.loop-name-init
loop-name-init g c = none_filed _ _ _ _ _ _ _ refl

pub add-requires-clause-room : goal.add-requires-clause-room
add-requires-clause-room g c =
    let w = filed_within _ _ _ c.loop-name.invariant in omega (arith, w.files, c.loop-name-test.true)

pub add-requires-clause-changed : goal.add-requires-clause-changed
add-requires-clause-changed g c = (filed_within _ _ _ c.loop-name.invariant).changed

pub add-requires-clause-unchanged : goal.add-requires-clause-unchanged
add-requires-clause-unchanged g c = (filed_within _ _ _ c.loop-name.invariant).unchanged

pub add-requires-clause-not_done : goal.add-requires-clause-not_done
add-requires-clause-not_done g c = (filed_within _ _ _ c.loop-name.invariant).not_done

pub add-requires-clause-not_written : goal.add-requires-clause-not_written
add-requires-clause-not_written g c = (filed_within _ _ _ c.loop-name.invariant).not_written

pub add-requires-clause-not_read : goal.add-requires-clause-not_read
add-requires-clause-not_read g c = (filed_within _ _ _ c.loop-name.invariant).not_read

pub add-requires-clause-to_write : goal.add-requires-clause-to_write
add-requires-clause-to_write g c = (filed_within _ _ _ c.loop-name.invariant).to_write

pub loop-name-preserved : goal.loop-name-preserved
loop-name-preserved g c =
    let names = c.args.names.now in
    let several : nat_lt 1 (length (texts_of names)) ≡ nat_lt 1 (length names) =
    ap (nat_lt 1) (length-map names (λ (n : Bor Text). n.now)) in
    let (text, says, handed) = c.tell_fate.ensures in
    one_filed _ _ names c.loop-name.name-index _ c.loop-name-test.true c.file-fate.result text c.loop-name.invariant
    c.file-fate.ensures (rw several says) handed c.add.ensures

pub returns : goal.returns
returns g c = all_filed _ _ _ (omega arith) c.loop-name.invariant
