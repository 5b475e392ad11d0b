-- Where own-colours does not arise, it need not be agreed.
use Rattle.std.proofs.Common.{◌≡◌, ℕ, suc, Bool, true, false, not, ◌||◌, List, [], ◌∷◌, ◌++◌}
use Rattle.std.proofs.Common.{refl, sym, ◌∙◌, subst}
use Rattle.std.specs.Prelude.{IsTrue, if◌then◌else◌}
use Rattle.std.specs.List.{list_all}
use Rattle.std.proofs.lemmas.Bool.{and_from, and_parts, false≢true}
use Rattle.std.proofs.lemmas.List.Folds.{list_all-append}
use Rattle.ans_model.specs.Sequence.TokenKind.{TokenKind, Glyph, Bell, LineFeed, CarriageReturn, Tab, Forward, Down}
use Rattle.ans_model.specs.Sequence.TokenKind.{Clear, EraseLine, Save, Colours, Wrap}
use Rattle.ans_model.specs.Screen.State.{Size, State}
use Rattle.ans_model.specs.Screen.StartClass.{all_known}
use Rattle.ans_model.specs.declared.start.Start.{Start}
use Rattle.ans_players.specs.declared.difference.Difference.{Difference}
use Rattle.ans_players.specs.declared.difference.Difference.TheVariants.{ClearInColour, DosColours, HomeOnClear}
use Rattle.ans_players.specs.declared.difference.Difference.TheVariants.{SavePlaceOnly}
use Rattle.ans_players.specs.declared.difference.Difference.TheVariants.{WrapOff, StopsAtEdge, PageControls}
use Rattle.ans_players.specs.declared.difference.Difference.TheVariants.{TerminalControls}
use Rattle.ans_players.specs.declared.difference.Difference.TheVariants.{OwnColours}
use Rattle.ans_players.specs.Sync.{Sync, InSync, AfterWrap, AfterFeed, AfterReturn, OutOfSync, Stand, synced}
use Rattle.ans_players.specs.Sync.{sync_after}
use Rattle.ans_players.specs.Sync.{sync_after_token, is_same_for_all, unsure_kinds}
use Rattle.ans_players.specs.Kinds.{is_kind}
use Rattle.ans_players.specs.Mends.{mending_spelled}
use Rattle.ans_players_laws.specs.Laws.{or_own}
use Rattle.ans_players.specs.Names.{unnamed}
use Rattle.ans_players.specs.Situations.{AreAgreed, Spelled, is_agreed, kind_if, name_kinds, spelled, spelling_kinds}
use Rattle.ans_players.specs.Situations.{stand_behind, token_kinds}
use Rattle.ans_players_laws.proofs.MendedPlayers.{mended_is_agreed}
use Rattle.ans_players.proofs.OneOfTwo.{sync_kinds, parts_agreed, from_parts}
use Rattle.ans_names_laws.specs.NamedTokens.{named_tokens}
use Rattle.ans_names_laws.specs.NameLaws.{NoKindIsAdded, OwnNeedNotBeAgreed}
use Rattle.ans_names_laws.proofs.NamedAgreed.{AreAgreedFrom, agreed_each, agreed_from, all_agreed}
use Rattle.ans_names_laws.proofs.NamedParts.{AreSpelled, each_spelled}
use Rattle.ans_names_laws.proofs.NamedReading.{named_spelling, none_own, none_own_mended}
use Rattle.ans_names_laws.proofs.NothingNamed.{NeverOwnFrom}

-- ---- kinds that are not own-colours

abbrev is_other : Difference → Bool
is_other kind = not (is_kind OwnColours kind)

without_own : (agreed : Difference → Bool) (ks : List Difference) → list_all is_other ks ≡ true
    → IsTrue (list_all (or_own agreed) ks) → IsTrue (list_all agreed ks)
without_own agreed [] other all = refl
without_own agreed (k ∷ ks) other all =
    let rest = and_parts (is_other k) (list_all is_other ks) other in
    let both = and_parts (or_own agreed k) (list_all (or_own agreed) ks) all in
    and_from _ _ (here (is_kind OwnColours k) (agreed k) rest.0 both.0) (without_own agreed ks rest.1 both.1)
  where
    here : (own agrees : Bool) → not own ≡ true → (own || agrees) ≡ true → agrees ≡ true
    here true agrees e f = absurd (false≢true e)
    here false agrees e f = f

other_if : (test : Bool) (kind : Difference) → is_other kind ≡ true → list_all is_other (kind_if test kind) ≡ true
other_if true kind other = rw other refl
other_if false kind other = refl

other_tokens : (z : Size) (s : State) (t : TokenKind) → list_all is_other (token_kinds z s t) ≡ true
other_tokens z s (Glyph byte) =
    list_all-append is_other (kind_if _ PageControls) (kind_if _ TerminalControls)
    ∙ and_from _ _ (other_if _ PageControls refl) (other_if _ TerminalControls refl)
other_tokens z s (Forward n) = other_if _ StopsAtEdge refl
other_tokens z s (Down n) = other_if _ StopsAtEdge refl
other_tokens z s Clear = other_if _ ClearInColour refl
other_tokens z s EraseLine = other_if _ ClearInColour refl
other_tokens z s (Colours parameters) = other_if _ DosColours refl
other_tokens z s (Wrap on) = other_if _ WrapOff refl
other_tokens z s _ = refl

other_spellings : (s : State) (t : TokenKind) (text : List ℕ) → list_all is_other (spelling_kinds s t text) ≡ true
other_spellings s (Colours parameters) text = other_if _ DosColours refl
other_spellings s _ text = refl

-- ---- sync

-- its kind is not own-colours
abbrev is_other_sync : Sync → Bool
is_other_sync (OutOfSync kind) = is_other kind
is_other_sync g = true

other_unsure : (g : Sync) → is_other_sync g ≡ true → list_all is_other (unsure_kinds g) ≡ true
other_unsure (OutOfSync kind) h = rw h refl
other_unsure InSync h = refl
other_unsure AfterWrap h = refl
other_unsure AfterFeed h = refl
other_unsure AfterReturn h = refl

other_syncs : (z : Size) (g : Sync) (t : TokenKind) → is_other_sync g ≡ true
    → list_all is_other (sync_kinds z g t) ≡ true
other_syncs z g t h = go (is_same_for_all g t)
  where
    go : (held : Bool) → list_all is_other (if held then [] else unsure_kinds g) ≡ true
    go true = refl
    go false = other_unsure g h

one_sync : (test : Bool) (g k : Sync) → is_other_sync g ≡ true → is_other_sync k ≡ true
    → is_other_sync (if test then g else k) ≡ true
one_sync true g k h e = h
one_sync false g k h e = e

other_behind : (z : Size) (s : State) (t : TokenKind) → is_other_sync (sync_after_token z s t) ≡ true
other_behind z s (Glyph byte) = one_sync _ AfterWrap InSync refl refl
other_behind z s Tab = one_sync _ AfterWrap InSync refl refl
other_behind z s LineFeed = one_sync _ InSync AfterFeed refl refl
other_behind z s CarriageReturn = one_sync _ InSync AfterReturn refl refl
other_behind z s Clear = one_sync _ InSync (OutOfSync HomeOnClear) refl refl
other_behind z s Save = one_sync _ InSync (OutOfSync SavePlaceOnly) refl refl
other_behind z s _ = refl

other_after : (z : Size) (g : Sync) (s : State) (t : TokenKind) → is_other_sync g ≡ true
    → is_other_sync (sync_after z g s t) ≡ true
other_after z g s (Colours parameters) h = h
other_after z g s Bell h = h
other_after z InSync s CarriageReturn h = other_behind z s CarriageReturn
other_after z AfterWrap s CarriageReturn h = other_behind z s CarriageReturn
other_after z AfterFeed s CarriageReturn h = refl
other_after z AfterReturn s CarriageReturn h = refl
other_after z (OutOfSync kind) s CarriageReturn h = other_behind z s CarriageReturn
other_after z g s t h = other_behind z s t

-- ---- along tokens

module _ (agreed : Difference → Bool) (z : Size) where
  here_without : (h : Stand) (x : Spelled) → is_other_sync h.sync ≡ true → name_kinds h.names x.token ≡ []
      → IsTrue (is_agreed (or_own agreed) z h x) → IsTrue (is_agreed agreed z h x)
  here_without h x sync none all =
      let parts = parts_agreed z (or_own agreed) h x all in
      from_parts z agreed h x (record {
        sync = without_own agreed (sync_kinds z h.sync x.token) (other_syncs z h.sync x.token sync) parts.sync;
        token = without_own agreed (token_kinds z h.state x.token) (other_tokens z h.state x.token) parts.token;
        spelling = without_own agreed (spelling_kinds h.state x.token x.text)
            (other_spellings h.state x.token x.text) parts.spelling;
        named = rw none refl;
      })

  all_without : (xs : List Spelled) (h : Stand) → is_other_sync h.sync ≡ true → NeverOwnFrom z h xs
      → AreAgreedFrom (or_own agreed) z h xs → AreAgreedFrom agreed z h xs
  all_without [] h sync never all = tt
  all_without (x ∷ xs) h sync never all = (
    here_without h x sync (never 0 x refl) all.0,
    all_without xs (stand_behind z h x) (other_after z h.sync h.state x.token sync) (λ k y there. never (suc k) y there)
        all.1,
  )

  -- from the starts of a class
  agreed_without : (class : Start) (xs : List Spelled) → ((s : State) → NeverOwnFrom z (synced s) xs)
      → AreAgreed (or_own agreed) z class xs → AreAgreed agreed z class xs
  agreed_without class xs never all s k x start there =
      agreed_each agreed z xs (synced s) (all_without xs (synced s) refl (never s)
      (agreed_from (or_own agreed) z xs (synced s) (λ j y e. all s j y start e))) k x there

  named_agreed : (class : Start) (xs : List Spelled) → AreSpelled xs → AreAgreed agreed z class xs
      → AreAgreed agreed z class (named_tokens xs)
  named_agreed class xs spells all s k x start there =
      agreed_each agreed z (named_tokens xs) (synced s) (all_agreed agreed z xs spells (synced s) unnamed
      (record { foreground = λ e. e; background = λ e. e })
      (agreed_from agreed z xs (synced s) (λ j y e. all s j y start e))) k x there

pub no_kind_is_added : NoKindIsAdded
no_kind_is_added agreed z class content tokens named reads again all =
    subst (λ (v : List Spelled). AreAgreed agreed z class v) (sym (named_spelling content tokens named reads again))
    (named_agreed agreed z class (spelled tokens reads.0) (each_spelled tokens reads.0 reads.1.each) all)

pub own_need_not_be_agreed : OwnNeedNotBeAgreed
own_need_not_be_agreed agreed z class content tokens named reads again =
    let same : named_tokens (spelled tokens reads.0) ≡ spelled named again.0 =
    sym (named_spelling content tokens named reads again) in
    let xs : List Spelled = spelled tokens reads.0 in
    let spells : AreSpelled xs = each_spelled tokens reads.0 reads.1.each in (
      λ begins all. subst (λ (v : List Spelled). AreAgreed agreed z class v) same
          (agreed_without agreed z class (named_tokens xs) (λ s. none_own z s xs begins)
          (named_agreed (or_own agreed) z class xs spells all)),
      λ w all. subst (λ (v : List Spelled). AreAgreed agreed z class (mending_spelled ++ v)) same
          (agreed_without agreed z class (mending_spelled ++ named_tokens xs) (λ s. none_own_mended z s xs)
          ((mended_is_agreed (or_own agreed) z class (named_tokens xs) w).0
          (named_agreed (or_own agreed) z all_known xs spells all))),
    )
