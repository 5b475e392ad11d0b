-- Content is spelled in one way.
use Rattle.std.proofs.Common.{◌≡◌, refl, ap₂, ◌∙◌, sym, ℕ, List, [], ◌∷◌}
use Rattle.std.specs.List.{AllZip, concat}
use Rattle.ans_model.specs.Sequence.TokenKind.{TokenKind}
use Rattle.ans_model.specs.Sequence.Reads.{SpellsToken, Reads}
use Rattle.ans_model.proofs.Reading.{one_token_in_front, token_nonempty}
use Rattle.ans_players.specs.Situations.{Spelled, spelled}

-- a token and its text
abbrev pair_of : TokenKind → List ℕ → Spelled
pair_of t x = record { token = t; text = x }

one_list : (ts us : List TokenKind) (xs zs : List (List ℕ)) → AllZip SpellsToken ts xs → AllZip SpellsToken us zs
    → concat xs ≡ concat zs → spelled ts xs ≡ spelled us zs
one_list [] [] xs zs h g e = refl
one_list [] (u ∷ us) [] [] h g e = absurd g
one_list [] (u ∷ us) [] (b ∷ zs) h g e = absurd (token_nonempty u b (concat zs) g.0 (sym e))
one_list [] (u ∷ us) (a ∷ xs) zs h g e = absurd h
one_list (t ∷ ts) [] [] zs h g e = absurd h
one_list (t ∷ ts) [] (a ∷ xs) [] h g e = absurd (token_nonempty t a (concat xs) h.0 e)
one_list (t ∷ ts) [] (a ∷ xs) (b ∷ zs) h g e = absurd g
one_list (t ∷ ts) (u ∷ us) [] zs h g e = absurd h
one_list (t ∷ ts) (u ∷ us) (a ∷ xs) [] h g e = absurd g
one_list (t ∷ ts) (u ∷ us) (a ∷ xs) (b ∷ zs) h g e =
    let same = one_token_in_front t u a b (concat xs) (concat zs) h.0 g.0 e in
    ap₂ (λ (x : Spelled) (rest : List Spelled). x ∷ rest) (ap₂ pair_of same.0 same.1)
    (one_list ts us xs zs h.1 g.1 same.2)

pub one_spelling : (content : List ℕ) (ts us : List TokenKind) (h : Reads content ts) (g : Reads content us)
    → spelled ts h.0 ≡ spelled us g.0
one_spelling content ts us h g = one_list ts us h.0 g.0 h.1.each g.1.each (sym h.1.whole ∙ g.1.whole)
