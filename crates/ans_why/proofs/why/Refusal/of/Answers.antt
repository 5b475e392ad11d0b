use Rattle.std.proofs.Common.{◌≡◌, sym, ap, ◌∙◌, drop}
use Rattle.ans_why.specs.Explained.{place_of}
use Rattle.ans_why.specs.Known.{known_sequence}
use Rattle.ans_why.proofs.why.Refusal.of.Goals as goal

pub returns : goal.returns
returns c =
    let shows = c.cursors_before.ensures.shows in
    let same : c.cursors_before.result.1 ≡ c.cursors_before.result.0 = shows.high_is ∙ sym shows.low_is in
    record {
      deserved = c.requires.deserved;
      bytes = rw (c.content-content.ensures, c.size-size.ensures) at c.bytes_to_blame-bytes.ensures;
      cursor = record {
        low_position = c.cursors_before.result.0;
        high_position = c.cursors_before.result.1;
        shows = rw (c.content-content.ensures, c.size-size.ensures) at shows;
        low_is = c.place.ensures;
        high_is = c.place.ensures ∙ ap place_of (sym same);
      };
      lines = rw (c.width.ensures.width, c.content-content.ensures) at c.enough_lines-lines.ensures;
      known = c.known_sequence.ensures ∙ ap (known_sequence c.args.fault.cause)
          (c.split_at.ensures.back ∙ ap (drop c.args.fault.offset) c.content-content.ensures);
      hints = c.refusal_hints-hints.ensures;
      widths = rw (c.is_some.ensures, c.content-content.ensures, c.size-size.ensures) at c.other_widths.ensures;
      damage = rw c.content-content.ensures at c.of.ensures;
    }
