-- Labels with a blank between each two, by the first and the later ones.
use Rattle.std.proofs.Common.{◌≡◌, ◌∙◌, ℕ, ◌≤◌, List, [], ◌∷◌, ◌++◌, length, drop, map, ap, refl, arith, get_or}
use Rattle.std.specs.List.{flat_map}
use Rattle.ans_model.specs.declared.note.Note.{Note}
use Rattle.ans_report.specs.Words.{later_word}
use Rattle.ans_report.proofs.WordLemmas.{words_text-cons}
use Rattle.ans_table.specs.Labels.{labels_text, later_label, note_label}

later_labels : (ns : List Note) → flat_map later_word (map note_label ns) ≡ flat_map later_label ns
later_labels [] = refl
later_labels (n ∷ ns) = ap (λ (t : List ℕ). later_label n ++ t) (later_labels ns)

-- the first label and the later ones
pub labels_text_is : (ns : List Note) (d : Note) → 1 ≤ length ns
    → labels_text ns ≡ note_label (get_or ns 0 d) ++ flat_map later_label (drop 1 ns)
labels_text_is [] d some = absurd (omega arith)
labels_text_is (n ∷ ns) d some =
    words_text-cons (note_label n) (map note_label ns) ∙ ap (λ (t : List ℕ). note_label n ++ t) (later_labels ns)
