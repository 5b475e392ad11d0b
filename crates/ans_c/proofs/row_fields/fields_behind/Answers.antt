use Rattle.std.proofs.Common.{refl}
use Rattle.ans_sauce.specs.RecordBytes.{sauce_bytes}
use Rattle.ans_c.proofs.Pieces.{field_piece}
use Rattle.ans_c.proofs.row_fields.fields_behind.Goals as goal

pub returns : goal.returns
returns c = λ file is.
    let sauce = sauce_bytes c.args.sauce.now in
    let front = c.args.front in
    record {
      is_there = refl;
      flags_are = let byte = c.from.ensures in let bits = c.flags.ensures in cc;
      ice = let one = c.number_if.ensures.number in let bit = c.is_non_blink.ensures in cc;
      spacing = let pixels = c.spacing_number.ensures in let pair = c.letter_spacing.ensures in cc;
      aspect = let pixels = c.aspect_number.ensures in let pair = c.aspect_ratio.ensures in cc;
      width = c.width.ensures;
      lines = c.lines.ensures;
      font = field_piece file sauce front 106 22 c.piece_behind.result c.font.result.now is c.font.ensures
          c.piece_behind.ensures;
      date = field_piece file sauce front 82 8 c.piece_behind-2.result c.date.result.now is c.date.ensures
          c.piece_behind-2.ensures;
      title = field_piece file sauce front 7 35 c.piece_behind-3.result c.title.result.now is c.title.ensures
          c.piece_behind-3.ensures;
      author = field_piece file sauce front 42 20 c.piece_behind-4.result c.author.result.now is c.author.ensures
          c.piece_behind-4.ensures;
      group = field_piece file sauce front 62 20 c.piece_behind-5.result c.group.result.now is c.group.ensures
          c.piece_behind-5.ensures;
    }
