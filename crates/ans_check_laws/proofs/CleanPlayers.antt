-- The lines on players are clean.
use Rattle.std.proofs.Common.{refl, List, map, get_or, Option, Some, None, All}
use Rattle.std.proofs.lemmas.List.Elements.{All-map}
use Rattle.ans_model.specs.Bytes.{blank}
use Rattle.ans_model.specs.declared.start.Start.{Start}
use Rattle.ans_players.specs.Kinds.{kind_word}
use Rattle.ans_players.specs.declared.difference.Difference.{Difference}
use Rattle.ans_players.specs.declared.difference.Difference.TheVariants.{WrapAtOnce}
use Rattle.ans_kinds.specs.KindsUsed.{words_used}
use Rattle.ans_kinds.specs.declared.players.Players.{Players}
use Rattle.ans_kinds.specs.declared.players.Players.TheVariants.{Agreeing, Any, InNamedColours}
use Rattle.ans_pens.specs.declared.times.Times.{Times}
use Rattle.ans_why.specs.PlayersText.{kind_line, players_lines}
use Rattle.ans_check_laws.specs.CleanTexts.{IsCleanText}
use Rattle.ans_check_laws.proofs.CleanLines.{clean_lines}
use Rattle.ans_check_laws.proofs.CleanPieces.{clean_joined, clean_nil, plain_text}

word_clean : (kind : Difference) → IsCleanText (kind_word kind)
word_clean WrapAtOnce = plain_text (kind_word WrapAtOnce) refl
word_clean kind = plain_text (kind_word kind) refl

words_clean : (kinds : List Difference) → All IsCleanText (map kind_word kinds)
words_clean kinds = All-map IsCleanText kind_word kinds (λ k d within. word_clean (get_or kinds k d))

kind_line_clean : (kind : Difference) (times : Option Times) → IsCleanText (kind_line kind times)
kind_line_clean kind None = clean_nil
kind_line_clean kind (Some times) = search (clean_lines, word_clean) depth 20

pub players_clean : (needs : Start) (players : Players) → IsCleanText (players_lines needs players)
players_clean needs (Any class) = search clean_lines depth 20
players_clean needs (InNamedColours class times) = search (clean_lines, word_clean) depth 20
players_clean needs (Agreeing used) =
    let words = clean_joined blank refl (words_used used) (words_clean _) in
    search (clean_lines, kind_line_clean) depth 20
