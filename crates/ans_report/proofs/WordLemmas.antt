-- Words with a blank between each two, by the first and the later ones.
use Rattle.std.proofs.Common.{◌≡◌, ◌∙◌, ℕ, ◌≤◌, List, [], ◌∷◌, ◌++◌, length, drop, ap, sym, refl}
use Rattle.std.proofs.Common.{arith, append-nil, get_or}
use Rattle.std.specs.List.{flat_map}
use Rattle.std.specs.Borrow.{Bor}
use Rattle.ans_model.specs.Bytes.{blank}
use Rattle.ans_model.specs.Text.Words.{texts_of, words_text}
use Rattle.ans_report.specs.Words.{later_view, later_word}

pub words_text-cons : (w : List ℕ) (ws : List (List ℕ)) → words_text (w ∷ ws) ≡ w ++ flat_map later_word ws
words_text-cons w [] = sym (append-nil w)
words_text-cons w (v ∷ ws) = ap (λ (t : List ℕ). w ++ (blank ∷ t)) (words_text-cons v ws)

later_views : (ws : List (Bor (List ℕ))) → flat_map later_word (texts_of ws) ≡ flat_map later_view ws
later_views [] = refl
later_views (w ∷ ws) = ap (λ (t : List ℕ). later_view w ++ t) (later_views ws)

-- the first word and the later ones
pub words_text_is : (ws : List (Bor (List ℕ))) (d : Bor (List ℕ)) → 1 ≤ length ws
    → words_text (texts_of ws) ≡ (get_or ws 0 d).now ++ flat_map later_view (drop 1 ws)
words_text_is [] d some = absurd (omega arith)
words_text_is (w ∷ ws) d some =
    words_text-cons w.now (texts_of ws) ∙ ap (λ (t : List ℕ). w.now ++ t) (later_views ws)
