-- Spelled tokens are read as they are meant, one after the other.
use Rattle.std.proofs.Common.{List, [], ◌∷◌, map, refl}
use Rattle.std.specs.List.{AllZip, AllByRecursion}
use Rattle.ans_model.specs.Sequence.Reads.{SpellsToken}
use Rattle.ans_players.specs.Situations.{Spelled}
use Rattle.ans_picture_laws.specs.FormLaws.{IsReadBack}

-- the text of each spells it
abbrev pub AreSpelled : List Spelled → Type 0
AreSpelled xs = AllByRecursion (λ x. SpellsToken x.token x.text) xs

each_text : (xs : List Spelled) → AreSpelled xs → AllZip SpellsToken (map (λ x. x.token) xs) (map (λ x. x.text) xs)
each_text [] h = tt
each_text (x ∷ xs) h = (h.0, each_text xs h.1)

pub read_back : (xs : List Spelled) → AreSpelled xs → IsReadBack xs
read_back xs h = record { each = each_text xs h; whole = refl }
