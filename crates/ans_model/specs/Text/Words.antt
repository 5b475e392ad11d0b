-- Words, and the names of the parts of a start.
use Rattle.std.specs.Prelude.{ℕ, Bool, true, false, List, [], ◌∷◌, map, codes, if◌then◌else◌}
use Rattle.std.specs.List.{flat_map, join_with_byte}
use Rattle.std.specs.Borrow.{Bor}
use Rattle.ans_model.specs.Bytes.{blank}
use Rattle.ans_model.specs.declared.start.Start.{Start}

-- the texts that are borrowed
abbrev pub texts_of : List (Bor (List ℕ)) → List (List ℕ)
texts_of words = map (λ w. w.now) words

-- the words with a blank between each two
abbrev pub words_text : List (List ℕ) → List ℕ
words_text words = join_with_byte blank words

-- the part's name, where the part is known
abbrev pub part_if : Bool → List ℕ → List (List ℕ)
part_if known name = if known then name ∷ [] else []

-- the names of the parts that are known, in their order
abbrev pub part_names : Start → List (List ℕ)
part_names s =
    flat_map (λ (part : Bool × List ℕ). part_if part.0 part.1)
    ((s.screen, codes "screen") ∷ (s.cursor, codes "cursor") ∷ (s.saved, codes "saved") ∷ (s.colours, codes "colours")
    ∷ (s.wrap, codes "wrap") ∷ [])

-- yes or no
abbrev pub answer_text : Bool → List ℕ
answer_text true = codes "yes"
answer_text false = codes "no"
