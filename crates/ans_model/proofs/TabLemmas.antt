-- A tab is the play of its printed blanks.
use Rattle.std.proofs.Common.{◌≡◌, ℕ, zero, suc, fold, refl, sym, ◌∙◌, List, [], ◌∷◌, ◌++◌, replicate}
use Rattle.std.proofs.lemmas.List.Sums.{fold-append}
use Rattle.ans_model.specs.Bytes.{blank}
use Rattle.ans_model.specs.Sequence.TokenKind.{TokenKind, Glyph, Tab}
use Rattle.ans_model.specs.Screen.State.{Size, State}
use Rattle.ans_model.specs.Screen.Step.{put, tab_blanks, step, final}
use Rattle.ans_model.specs.Verdict.TokenFault.{then_blanks}

-- printing n blanks is playing n Glyphs of them
pub blanks_are_glyphs : (z : Size) (s : State) (n : ℕ)
    → fold (put z) s (replicate n blank) ≡ final z s (replicate n (Glyph blank))
blanks_are_glyphs z s zero = refl
blanks_are_glyphs z s (suc n) = blanks_are_glyphs z (put z s blank) n

-- tokens and then blanks play as the blanks do from where the tokens end
pub final_then_blanks : (z : Size) (s : State) (played : List TokenKind) (n : ℕ)
    → final z s (then_blanks played n) ≡ fold (put z) (final z s played) (replicate n blank)
final_then_blanks z s played n =
    fold-append (step z) s played (replicate n (Glyph blank)) ∙ sym (blanks_are_glyphs z (final z s played) n)

-- tokens and then a tab play as the tokens and then the tab's blanks
pub final_with_tab : (z : Size) (s : State) (played : List TokenKind)
    → final z s (played ++ Tab ∷ [])
    ≡ final z s (then_blanks played (tab_blanks (final z s played).cursor.column))
final_with_tab z s played =
    fold-append (step z) s played (Tab ∷ [])
    ∙ sym (final_then_blanks z s played (tab_blanks (final z s played).cursor.column))
