use Rattle.std.proofs.Common.{◌≡◌, [], ◌∷◌, arith, get_or}
use Rattle.ans_table.specs.NameText.{byte_escape}
use Rattle.ans_table.proofs.NameLemmas.{escaped_first, wide_first}
use Rattle.ans_table.proofs.name_text.put_first.Goals as goal

pub returns-clause-shown : goal.returns-clause-shown
returns-clause-shown g c =
    let rest = c.args.rest.now in
    let none : c.args.copied ≡ 0 = omega (arith, c.if-copied-gt0.false) in
    rw none (
      byte_escape (get_or rest 0 0),
      c.put_byte_escape.ensures,
      escaped_first rest c.requires (omega (arith, c.if-byte-lt128.false))
          (rw c.wide_size-size.ensures at c.if-size-gt0.false),
    )

pub returns-then-size-gt0-clause-shown : goal.returns-then-size-gt0-clause-shown
returns-then-size-gt0-clause-shown g c =
    let rest = c.args.rest.now in
    let none : c.args.copied ≡ 0 = omega (arith, c.if-copied-gt0.false) in
    rw (none, c.wide_size-size.ensures) (
      get_or rest 0 0 ∷ [],
      c.put-then-size-gt0.ensures,
      wide_first rest c.requires (omega (arith, c.if-byte-lt128.false))
          (rw c.wide_size-size.ensures at c.if-size-gt0.true),
    )
