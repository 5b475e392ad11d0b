use Rattle.ans_c.proofs.Bits.{class_named}
use Rattle.ans_c.proofs.numbers.bits_of.Goals as goal

pub returns : goal.returns
returns c =
    let k = c.args.class in
    let named = class_named k.screen k.cursor k.saved k.colours k.wrap in
    rw (
      c.number_if.ensures.number,
      c.number_if-2.ensures.number,
      c.number_if-3.ensures.number,
      c.number_if-4.ensures.number,
      c.number_if-5.ensures.number,
    ) (record { class_is = named.0; no_other = named.1 })
