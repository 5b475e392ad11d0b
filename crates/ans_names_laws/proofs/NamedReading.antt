-- A content with its colours named is read in one way. Naming them again changes nothing, and own-colours is gone.
use Rattle.std.proofs.Common.{◌≡◌, ℕ, zero, suc, Bool, true, false, not, ◌&&◌, List, [], ◌∷◌, ◌++◌, map}
use Rattle.std.proofs.Common.{refl, sym, ap, ◌∙◌, subst}
use Rattle.std.proofs.lemmas.Bool.{true≢false, false≢true}
use Rattle.ans_model.specs.Sequence.TokenKind.{TokenKind, Colours}
use Rattle.ans_model.specs.Sequence.Reads.{Reads}
use Rattle.ans_model.specs.Screen.State.{Size, State}
use Rattle.ans_players.specs.Sync.{Stand, synced}
use Rattle.ans_players.specs.Mends.{mending_spelled}
use Rattle.ans_players.specs.Names.{Names, are_both, names_after, paints, unnamed}
use Rattle.ans_players.specs.Situations.{Spelled, name_kinds, spelled, stand_behind}
use Rattle.ans_players.proofs.OneSpelling.{one_spelling}
use Rattle.ans_mend.specs.NamedColours.{begins_unnamed, both_named, named_content, names_at_print, names_behind_token}
use Rattle.ans_mend.specs.NamedColours.{takes_names}
use Rattle.ans_model.specs.Screen.Beginning.{mending}
use Rattle.ans_mend.specs.NameSearch.{bytes_of}
use Rattle.ans_mend.proofs.NamesWaiting.{same_names_after}
use Rattle.ans_names_laws.specs.NamedTokens.{named_tokens}
use Rattle.ans_names_laws.specs.NameLaws.{NoneOwnIsLeft, TwiceIsOnce, TwiceIsOnceMended}
use Rattle.ans_names_laws.proofs.NamedParts.{each_spelled, named_bytes, named_is_read}
use Rattle.ans_names_laws.proofs.NoneMissing.{NoneMissing, named_stays, none_missing, print_same, print_with}
use Rattle.ans_names_laws.proofs.NothingNamed.{NeverOwnFrom}

-- ---- one reading

spelled_back : (xs : List Spelled) → spelled (map (λ x. x.token) xs) (map (λ x. x.text) xs) ≡ xs
spelled_back [] = refl
spelled_back (x ∷ xs) = ap (λ (v : List Spelled). x ∷ v) (spelled_back xs)

-- what is read is the tokens with the names
pub named_spelling : (content : List ℕ) (tokens named : List TokenKind) (reads : Reads content tokens)
    (again : Reads (named_content (spelled tokens reads.0)) named)
    → spelled named again.0 ≡ named_tokens (spelled tokens reads.0)
named_spelling content tokens named reads again =
    let xs : List Spelled = named_tokens (spelled tokens reads.0) in
    one_spelling (named_content (spelled tokens reads.0)) named (map (λ x. x.token) xs) again
    (map (λ x. x.text) xs, named_is_read content tokens reads)
    ∙ spelled_back xs

-- ---- twice is once

pub twice_is_once : TwiceIsOnce
twice_is_once content tokens named reads again =
    ap named_content (named_spelling content tokens named reads again)
    ∙ named_stays (named_tokens (spelled tokens reads.0)) (none_missing (spelled tokens reads.0))
    ∙ named_bytes (spelled tokens reads.0) (each_spelled tokens reads.0 reads.1.each)

mending_stays : (xs : List Spelled) → NoneMissing xs → named_content (mending_spelled ++ xs) ≡ mending ++ bytes_of xs
mending_stays xs none = named_stays (mending_spelled ++ xs) (refl, (refl, (refl, (refl, (refl, none)))))

pub twice_is_once_mended : TwiceIsOnceMended
twice_is_once_mended content tokens named reads again =
    let xs : List Spelled = spelled tokens reads.0 in
    let same = named_spelling content tokens named reads again in (
      ap (λ (v : List Spelled). named_content (mending_spelled ++ v)) same
          ∙ mending_stays (named_tokens xs) (none_missing xs)
          ∙ ap (λ (v : List ℕ). mending ++ v) (named_bytes xs (each_spelled tokens reads.0 reads.1.each)),
      refl,
      ap begins_unnamed same ∙ ap (λ (v : Names). not (are_both v)) (print_same unnamed xs),
    )

-- ---- no own colours

both_is : (n : Names) → are_both n ≡ true → n ≡ both_named
both_is n h = go n.foreground n.background h
  where
    go : (f b : Bool) → (f && b) ≡ true → ◌≡◌ {A = Names} (record { foreground = f; background = b }) both_named
    go true true e = refl
    go true false e = absurd (false≢true e)
    go false b e = absurd (false≢true e)

-- what is printed next stays named
both_at_print : (n : Names) (xs : List Spelled) → are_both n ≡ true → are_both (names_at_print n xs) ≡ true
both_at_print n xs h =
    ap (λ (v : Names). are_both (names_at_print v xs)) (both_is n h) ∙ print_with n both_named xs refl

quiet_names : (n : Names) (t : TokenKind) → paints t ≡ true → names_after n t ≡ n
quiet_names n (Colours ps) h = absurd (false≢true h)
quiet_names n _ h = refl

next_named : (n : Names) (x : Spelled) (xs : List Spelled) → are_both (names_at_print n (x ∷ xs)) ≡ true
    → are_both (names_behind_token x xs) ≡ true → are_both (names_at_print (names_after n x.token) xs) ≡ true
next_named n x xs here none = go (paints x.token) (takes_names x.token) refl refl
  where
    go : (p t : Bool) → paints x.token ≡ p → takes_names x.token ≡ t
        → are_both (names_at_print (names_after n x.token) xs) ≡ true
    go true t p_is t_is =
        ap (λ (v : Names). are_both (names_at_print v xs)) (quiet_names n x.token p_is)
        ∙ both_at_print n xs (rw p_is at here)
    go false true p_is t_is =
        ap (λ (v : Names). are_both (names_at_print v xs)) (same_names_after n unnamed x.token t_is)
        ∙ (rw t_is at none)
    go false false p_is t_is = rw (p_is, t_is) at here

no_kind : (n : Names) (x : Spelled) (xs : List Spelled) → are_both (names_at_print n (x ∷ xs)) ≡ true
    → name_kinds n x.token ≡ []
no_kind n x xs here = go (paints x.token) refl
  where
    go : (p : Bool) → paints x.token ≡ p → name_kinds n x.token ≡ []
    go true is = let both : are_both n ≡ true = (rw is at here) in rw (is, both) refl
    go false is = rw is refl

never_own : (z : Size) (h : Stand) (xs : List Spelled) → are_both (names_at_print h.names xs) ≡ true
    → NoneMissing xs → NeverOwnFrom z h xs
never_own z h [] here none k x there = absurd (let no : ⊥ = cc in no)
never_own z h (y ∷ xs) here none zero x there =
    let same : y ≡ x = cc in
    subst (λ (v : Spelled). name_kinds h.names v.token ≡ []) same (no_kind h.names y xs here)
never_own z h (y ∷ xs) here none (suc k) x there =
    never_own z (stand_behind z h y) xs (next_named h.names y xs here none.0) none.1 k x there

named_first : (xs : List Spelled) → begins_unnamed xs ≡ false → are_both (names_at_print unnamed xs) ≡ true
named_first xs h = go (are_both (names_at_print unnamed xs)) refl h
  where
    go : (b : Bool) → are_both (names_at_print unnamed xs) ≡ b → not b ≡ false
        → are_both (names_at_print unnamed xs) ≡ true
    go true is e = is
    go false is e = absurd (true≢false e)

pub none_own : (z : Size) (s : State) (xs : List Spelled) → begins_unnamed xs ≡ false
    → NeverOwnFrom z (synced s) (named_tokens xs)
none_own z s xs begins =
    never_own z (synced s) (named_tokens xs) (ap are_both (print_same unnamed xs) ∙ named_first xs begins)
    (none_missing xs)

pub none_own_mended : (z : Size) (s : State) (xs : List Spelled)
    → NeverOwnFrom z (synced s) (mending_spelled ++ named_tokens xs)
none_own_mended z s xs =
    never_own z (synced s) (mending_spelled ++ named_tokens xs) refl
    (refl, (refl, (refl, (refl, (refl, none_missing xs)))))

pub none_own_is_left : NoneOwnIsLeft
none_own_is_left z s content tokens named reads again =
    let same : named_tokens (spelled tokens reads.0) ≡ spelled named again.0 =
    sym (named_spelling content tokens named reads again) in (
      λ begins. subst (λ (v : List Spelled). NeverOwnFrom z (synced s) v) same
          (none_own z s (spelled tokens reads.0) begins),
      subst (λ (v : List Spelled). NeverOwnFrom z (synced s) (mending_spelled ++ v)) same
          (none_own_mended z s (spelled tokens reads.0)),
    )
