use Rattle.std.proofs.Common.{◌≡◌, refl, ◌∷◌, []}
use Rattle.ans_model.specs.Bytes.{escape, bracket}
use Rattle.ans_model.proofs.AfterPart.{part_unfinished}
use Rattle.ans_tokens.specs.Unfinished.{empty_part}
use Rattle.ans_tokens.proofs.OpenLemmas.{empty_part_spells, bracket_unfinished, escape_unfinished, escape_refused}
use Rattle.ans_tokens.proofs.OpenLemmas.{broken, means_token, means_none}
use Rattle.ans_tokens.proofs.scanner.Open.take.Goals as goal

pub returns-else-byte-ne-ESCAPE-clause-spelled : goal.returns-else-byte-ne-ESCAPE-clause-spelled
returns-else-byte-ne-ESCAPE-clause-spelled c y held =
    let empty : y ≡ [] = rw c.in-Nothing.is at held in
    let e : c.args.byte ≡ escape = c.if-byte-ne-ESCAPE.false in
    rw (empty, e) (escape_unfinished, refl)

pub returns-then-byte-ne91-clause-spelled : goal.returns-then-byte-ne91-clause-spelled
returns-then-byte-ne91-clause-spelled c y held =
    let esc : y ≡ escape ∷ [] = rw c.in-Escape.is at held in
    rw esc (escape_refused c.args.byte c.if-byte-ne91.true)

pub returns-else-byte-ne91-clause-spelled : goal.returns-else-byte-ne91-clause-spelled
returns-else-byte-ne91-clause-spelled c y held =
    let esc : y ≡ escape ∷ [] = rw c.in-Escape.is at held in
    let e : c.args.byte ≡ bracket = c.if-byte-ne91.false in
    rw (esc, e) (bracket_unfinished, (empty_part, c.new.ensures, empty_part_spells))

pub returns-in-More-clause-spelled : goal.returns-in-More-clause-spelled
returns-in-More-clause-spelled c y held =
    let part = rw c.in-Sequence.is at held in
    let next = c.in-More.ensures part.0 y part.1 part.2 in
    (part_unfinished next.0 _ next.2, next)

pub returns-in-Refused-clause-spelled : goal.returns-in-Refused-clause-spelled
returns-in-Refused-clause-spelled c y held =
    let part = rw c.in-Sequence.is at held in
    let out = c.in-Refused.ensures part.0 y part.1 part.2 in
    broken part.0 y c.args.byte c.in-Refused.cause part.2 out.0 out.1

pub returns-in-Ok-clause-spelled : goal.returns-in-Ok-clause-spelled
returns-in-Ok-clause-spelled c y held =
    let part = rw c.in-Sequence.is at held in
    let out = c.in-Letter.ensures part.0 y part.1 part.2 in
    means_token out.2 (c.in-Ok.ensures part.0 out.0 (out.1, out.2.loose.not_one_omitted))

pub returns-in-Err-clause-spelled : goal.returns-in-Err-clause-spelled
returns-in-Err-clause-spelled c y held =
    let part = rw c.in-Sequence.is at held in
    let out = c.in-Letter.ensures part.0 y part.1 part.2 in
    means_none out.2 (c.in-Err.ensures part.0 out.0 (out.1, out.2.loose.not_one_omitted))
