-- Where own-colours never arises, no sequence gets names.
use Rattle.std.proofs.Common.{◌≡◌, ℕ, suc, Bool, true, false, List, [], ◌∷◌, ◌++◌, take, fold, Some, refl, sym, ap, ◌∙◌}
use Rattle.std.specs.Prelude.{◌&&◌, not, slice_get}
use Rattle.std.specs.List.{AllZip, concat}
use Rattle.std.proofs.lemmas.Bool.{true≢false}
use Rattle.ans_model.specs.Sequence.TokenKind.{TokenKind}
use Rattle.ans_model.specs.Sequence.Reads.{SpellsToken}
use Rattle.ans_model.specs.Screen.State.{Size}
use Rattle.ans_players.specs.Sync.{Stand, synced}
use Rattle.ans_players.specs.Names.{Names, are_both, names_after, paints, unnamed}
use Rattle.ans_players.specs.Situations.{Spelled, kind_if, name_kinds, spelled, stand_behind}
use Rattle.ans_players.specs.declared.difference.Difference.TheVariants.{OwnColours}
use Rattle.ans_mend.specs.NamedColours.{named_content, named_sequence, names_at_print, names_behind_token, takes_names}
use Rattle.ans_mend.specs.NameSearch.{bytes_of}
use Rattle.ans_mend.proofs.NamesWaiting.{same_names_after}
use Rattle.ans_names_laws.specs.NameLaws.{NothingToName}

-- own-colours arises at none of the tokens, from this stand on
abbrev pub NeverOwnFrom : Size → Stand → List Spelled → Type 0
NeverOwnFrom z h xs = (k : ℕ) (x : Spelled) → slice_get xs k ≡ Some x
    → name_kinds (fold (stand_behind z) h (take k xs)).names x.token ≡ []

no_kind : (test : Bool) → kind_if test OwnColours ≡ [] → test ≡ false
no_kind false none = refl
no_kind true none = absurd (no_cons none)
  where
    no_cons : OwnColours ∷ [] ≡ [] → ⊥
    no_cons e = cc

both_if : (prints both : Bool) → (prints && not both) ≡ false → prints ≡ true → both ≡ true
both_if true true none is = refl
both_if true false none is = absurd (true≢false none)
both_if false both none is = absurd (true≢false (sym is))

later : (z : Size) (h : Stand) (x : Spelled) (xs : List Spelled) → NeverOwnFrom z h (x ∷ xs)
    → NeverOwnFrom z (stand_behind z h x) xs
later z h x xs never k y there = never (suc k) y there

-- what is printed next is printed in named colours
named_next : (z : Size) (h : Stand) (xs : List Spelled) → NeverOwnFrom z h xs
    → are_both (names_at_print h.names xs) ≡ true
named_next z h [] never = refl
named_next z h (x ∷ xs) never =
    go (paints x.token) (takes_names x.token) refl refl
    (both_if (paints x.token) (are_both h.names)
    (no_kind (paints x.token && not (are_both h.names)) (never 0 x refl)))
    (named_next z (stand_behind z h x) xs (later z h x xs never))
  where
    go : (prints takes : Bool) → paints x.token ≡ prints → takes_names x.token ≡ takes
        → (paints x.token ≡ true → are_both h.names ≡ true)
        → are_both (names_at_print (names_after h.names x.token) xs) ≡ true
        → are_both (names_at_print h.names (x ∷ xs)) ≡ true
    go true takes prints_is takes_is here next = rw prints_is (here prints_is)
    go false true prints_is takes_is here next = rw (prints_is, takes_is) refl
    go false false prints_is takes_is here next = rw (prints_is, takes_is) next

stays : (z : Size) (h : Stand) (xs : List Spelled) → NeverOwnFrom z h xs → named_content xs ≡ bytes_of xs
stays z h [] never = refl
stays z h (x ∷ xs) never =
    ap (λ (v : List ℕ). v ++ named_content xs)
    (go (takes_names x.token) refl (named_next z (stand_behind z h x) xs (later z h x xs never)))
    ∙ ap (λ (v : List ℕ). x.text ++ v) (stays z (stand_behind z h x) xs (later z h x xs never))
  where
    go : (takes : Bool) → takes_names x.token ≡ takes
        → are_both (names_at_print (names_after h.names x.token) xs) ≡ true
        → named_sequence (names_behind_token x xs) x ≡ x.text
    go false is next = rw is refl
    go true is next =
        let same : names_after unnamed x.token ≡ names_after h.names x.token =
        same_names_after unnamed h.names x.token is in
        let both : are_both (names_behind_token x xs) ≡ true =
        rw is (ap (λ (v : Names). are_both (names_at_print v xs)) same ∙ next) in
        rw both refl

pub spelled_bytes : (tokens : List TokenKind) (texts : List (List ℕ)) → AllZip SpellsToken tokens texts
    → bytes_of (spelled tokens texts) ≡ concat texts
spelled_bytes [] [] h = refl
spelled_bytes [] (x ∷ texts) h = absurd h
spelled_bytes (t ∷ tokens) [] h = absurd h
spelled_bytes (t ∷ tokens) (x ∷ texts) h = ap (λ (v : List ℕ). x ++ v) (spelled_bytes tokens texts h.1)

pub nothing_to_name : NothingToName
nothing_to_name z s content tokens reads never =
    stays z (synced s) (spelled tokens reads.0) never ∙ spelled_bytes tokens reads.0 reads.1.each ∙ sym reads.1.whole
