-- A sequence with its names, by the places where it is cut.
use Rattle.std.proofs.Common.{◌≡◌, ℕ, ◌+◌, List, ◌++◌, length, take, drop, refl, sym, ap, ◌∙◌, arith}
use Rattle.std.proofs.lemmas.List.{drop-drop}
use Rattle.ans_mend.specs.NamedColours.{left_by, named_text, put_by, through_numbers, way_of}
use Rattle.ans_mend.specs.declared.naming.Way.{Way}
use Rattle.ans_mend.specs.declared.naming.Way.TheVariants.{Within, After, Between}

pub named_parts : (text names put : List ℕ) (count cut rest : ℕ) (way : Way)
    → cut ≡ length (through_numbers count text) → take cut text ≡ through_numbers count text
    → way ≡ way_of names (take cut text) (drop cut text) → put ≡ put_by way names
    → left_by way (drop cut text) ≡ drop rest text
    → named_text names (through_numbers count text) (drop (length (through_numbers count text)) text)
    ≡ take cut text ++ (put ++ drop rest text)
named_parts text names put count cut rest way zero_is front_is way_is put_is rest_is =
    ap (λ (v : List ℕ). named_text names v (drop (length (through_numbers count text)) text)) (sym front_is)
    ∙ ap (λ (v : ℕ). named_text names (take cut text) (drop v text)) (sym zero_is)
    ∙ ap (λ (v : Way). take cut text ++ (put_by v names ++ left_by v (drop cut text))) (sym way_is)
    ∙ ap (λ (v : List ℕ). take cut text ++ (v ++ left_by way (drop cut text))) (sym put_is)
    ∙ ap (λ (v : List ℕ). take cut text ++ (put ++ v)) rest_is

pub left_between : (text : List ℕ) (cut rest : ℕ) (way : Way) → way ≡ Between → rest ≡ cut + 1
    → left_by way (drop cut text) ≡ drop rest text
left_between text cut rest way is rest_is =
    ap (λ (v : Way). left_by v (drop cut text)) is ∙ drop-drop 1 cut text
    ∙ ap (λ (v : ℕ). drop v text) (omega (arith, rest_is))

pub left_whole : (text : List ℕ) (cut rest : ℕ) (way : Way) → (way ≡ Between → ⊥) → rest ≡ cut
    → left_by way (drop cut text) ≡ drop rest text
left_whole text cut rest Within other rest_is = ap (λ (v : ℕ). drop v text) (sym rest_is)
left_whole text cut rest After other rest_is = ap (λ (v : ℕ). drop v text) (sym rest_is)
left_whole text cut rest Between other rest_is = absurd (other refl)
