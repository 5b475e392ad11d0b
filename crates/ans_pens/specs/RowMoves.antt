-- Whether tokens move the cursor up or down by a number of rows. Only private contracts cite it.
use Rattle.std.specs.Prelude.{Bool, true, false, List, fold}
use Rattle.ans_model.specs.Sequence.TokenKind.{TokenKind, Up, Down}

-- some token did, or this one does
abbrev pub moved_with : Bool → TokenKind → Bool
moved_with moved (Up n) = true
moved_with moved (Down n) = true
moved_with moved _ = moved

-- one of the tokens does
abbrev pub moves_rows : List TokenKind → Bool
moves_rows tokens = fold moved_with false tokens
