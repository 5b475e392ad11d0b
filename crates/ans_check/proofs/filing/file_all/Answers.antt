use Rattle.std.proofs.Common.{◌≡◌, ◌∙◌, ap, map, string_bytes}
use Rattle.ans_model.specs.Text.Words.{texts_of}
use Rattle.ans_check.specs.Fates.{inputs_known, inputs_named}
use Rattle.ans_check.proofs.filing.file_all.Goals as goal

pub returns-clause-filed : goal.returns-clause-filed
returns-clause-filed g c =
    let inputs = inputs_named (map string_bytes c.args.names.now) in
    let first : texts_of c.as_slice.result.now ≡ inputs =
    ap texts_of c.as_slice.ensures.value ∙ c.in_ok-named.ensures in
    let named : texts_of c.as_slice-3.result.now ≡ inputs =
    ap texts_of c.as_slice-3.ensures.value ∙ c.in_ok-named.ensures in
    let known : texts_of c.as_slice-2.result.now ≡ inputs_known c.args.goal inputs =
    ap texts_of c.as_slice-2.ensures.value ∙ c.in_ok-known.ensures ∙ ap (inputs_known c.args.goal) first in (
      c.in_ok-saves.saves,
      c.file_each.new.saves,
      record { known = rw known at c.in_ok-saves.ensures.inputs; unwritten = c.in_ok-saves.ensures.written },
      rw named at c.file_each.ensures,
    )
