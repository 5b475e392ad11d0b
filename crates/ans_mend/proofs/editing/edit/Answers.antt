use Rattle.std.proofs.Common.{◌≡◌, Err, arith, rules}
use Rattle.ans_mend.proofs.EditLemmas.{edited_so, edited_too_long, longer_by_names, names_fit}
use Rattle.ans_mend.proofs.editing.edit.Goals as goal

pub put_returns-returns-requires : goal.put_returns-returns-requires
put_returns-returns-requires c = let fits = c.requires in omega (arith, fits)

pub name_colours-requires-clause-room : goal.name_colours-requires-clause-room
name_colours-requires-clause-room c asked =
    let put = c.put_returns-returns.ensures.longer in
    let out = c.take_out_sequences-told.ensures.no_longer in
    let joined = c.join_rows-row_ends.ensures.no_longer in
    let ended = c.take_out_last_ends-last_ends.ensures.no_longer in
    let memory = c.put_returns-returns.ensures.memory in
    let out_memory = c.take_out_sequences-told.ensures.memory in
    let joined_memory = c.join_rows-row_ends.ensures.memory in
    let ended_memory = c.take_out_last_ends-last_ends.ensures.memory in
    names_fit c.args.mends.now c.args.draft.now.file c.take_out_last_ends-last_ends.new.draft.file
    (omega (arith, put, out, joined, ended)) c.args.draft.now.room c.take_out_last_ends-last_ends.new.draft.room
    (omega (arith, memory, out_memory, joined_memory, ended_memory)) c.requires asked

pub returns-clause-edits : goal.returns-clause-edits
returns-clause-edits c =
    edited_so c.args.mends.now c.args.size c.args.draft.now.file c.put_returns-returns.new.draft.file
    c.take_out_sequences-told.new.draft.file c.join_rows-row_ends.new.draft.file
    c.take_out_last_ends-last_ends.new.draft.file c.put_returns-returns.result c.join_rows-row_ends.result
    c.take_out_last_ends-last_ends.result c.take_out_sequences-told.result c.put_returns-returns.ensures.returns
    c.put_returns-returns.ensures.file c.take_out_sequences-told.ensures.file c.join_rows-row_ends.ensures.file
    c.take_out_last_ends-last_ends.ensures.file (rw c.file.ensures at c.if-file-gt-MAX_FILE.false)
    c.name_colours.new.draft.file c.in_ok-named_colours.named_colours c.in_ok-named_colours.ensures.named

pub returns-in_err-named_colours-clause-reason : goal.returns-in_err-named_colours-clause-reason
returns-in_err-named_colours-clause-reason c =
    let at : c.from_residual.result ≡ Err c.in_err-named_colours.field-0.0 = search rules in
    rw at (
    edited_too_long c.args.mends.now c.args.size c.args.draft.now.file c.put_returns-returns.new.draft.file
    c.take_out_sequences-told.new.draft.file c.join_rows-row_ends.new.draft.file
    c.take_out_last_ends-last_ends.new.draft.file c.put_returns-returns.result c.join_rows-row_ends.result
    c.take_out_last_ends-last_ends.result c.take_out_sequences-told.result c.put_returns-returns.ensures.returns
    c.put_returns-returns.ensures.file c.take_out_sequences-told.ensures.file c.join_rows-row_ends.ensures.file
    c.take_out_last_ends-last_ends.ensures.file (rw c.file.ensures at c.if-file-gt-MAX_FILE.false)
    c.in_err-named_colours.field-0.0 c.in_err-named_colours.ensures.reason
    )

pub returns-clause-longer : goal.returns-clause-longer
returns-clause-longer c =
    let put = c.put_returns-returns.ensures.longer in
    let out = c.take_out_sequences-told.ensures.no_longer in
    let joined = c.join_rows-row_ends.ensures.no_longer in
    let ended = c.take_out_last_ends-last_ends.ensures.no_longer in
    longer_by_names c.args.mends.now c.args.draft.now.file c.take_out_last_ends-last_ends.new.draft.file
    (omega (arith, put, out, joined, ended)) c.name_colours.new.draft.file c.in_ok-named_colours.named_colours
    c.in_ok-named_colours.ensures.named c.in_ok-named_colours.ensures.length
