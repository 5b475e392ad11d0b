use Rattle.std.proofs.Common.{◌≡◌, ◌∷◌, [], ◌++◌, refl, ap, ◌∙◌, arith}
use Rattle.std.specs.Prelude.{IsOk}
use Rattle.ans_model.specs.Text.Hexadecimal.{hex_byte}
use Rattle.hex.specs.Hex.{encode_lower}
use Rattle.ans_write.proofs.HexadecimalDigits.{encode_lower-cons, encode_lower-nil, written_ok}
use Rattle.ans_write.proofs.hexadecimal.hex_byte.Goals as goal

pub returns : goal.returns
returns c =
    let b = c.args.byte in
    let fits : IsOk c.encode_to_slice.result = c.encode_to_slice.ensures.fits.1 refl in
    let written : c.encode_to_slice.new.output ≡ encode_lower (b ∷ []) =
    written_ok _ _ fits c.encode_to_slice.ensures.written in
    written ∙ encode_lower-cons b [] (omega arith) ∙ ap (λ v. hex_byte b ++ v) encode_lower-nil
