-- With its colours named a content plays as before, and each cell stays.
use Rattle.std.proofs.Common.{◌≡◌, ◌⊎◌, inl, inr, ℕ, zero, suc, ◌<◌, Bool, true, false, List, [], ◌∷◌, ◌++◌, map, take}
use Rattle.std.proofs.Common.{fold, replicate, Some, refl, sym, ap, ◌∙◌, subst}
use Rattle.std.specs.Prelude.{slice_get}
use Rattle.std.specs.List.{AllByRecursion, AllZip}
use Rattle.std.proofs.lemmas.Bool.{false≢true}
use Rattle.std.proofs.lemmas.List.{map-append}
use Rattle.std.proofs.lemmas.List.Sums.{fold-append}
use Rattle.ans_model.specs.Bytes.{blank}
use Rattle.ans_model.specs.Sequence.TokenKind.{TokenKind, Glyph, LineFeed, Tab, EraseLine, Colours}
use Rattle.ans_model.specs.Sequence.Reads.{SpellsToken}
use Rattle.ans_model.specs.Screen.State.{Size, State, cell_at}
use Rattle.ans_model.specs.Screen.Step.{final, step, tab_blanks}
use Rattle.ans_model.specs.declared.start.Start.{Start}
use Rattle.ans_model.specs.Verdict.Good.{Picture, PlaysWell, PrintsWell, Shows}
use Rattle.ans_model.specs.Verdict.TokenFault.{HasStaticFault, SamePosition, then_blanks}
use Rattle.ans_players.specs.Sync.{Stand, synced}
use Rattle.ans_players.specs.Names.{Names, are_both, unnamed}
use Rattle.ans_players.specs.Situations.{Spelled, spelled, stand_behind}
use Rattle.ans_mend.specs.NamedColours.{after_zero, missing_numbers, names_behind_token, takes_names, to_zero}
use Rattle.ans_mend.specs.NamedColours.{way_of}
use Rattle.ans_mend.specs.declared.naming.Way.{Way}
use Rattle.ans_mend.specs.declared.naming.Way.TheVariants.{Within, After, Between}
use Rattle.ans_names_laws.specs.NamedTokens.{named_parts, named_tokens, colour_numbers, parts_by}
use Rattle.ans_names_laws.specs.NameLaws.{CellsStay}
use Rattle.ans_names_laws.proofs.ColourTexts.{is_written}
use Rattle.ans_names_laws.proofs.CutSequences.{is_cut}
use Rattle.ans_names_laws.proofs.NamedParts.{AreSpelled, each_spelled, named_is_read, takes_if}
use Rattle.ans_names_laws.proofs.NamedSteps.{stands_named}

abbrev tokens_of : List Spelled → List TokenKind
tokens_of xs = map (λ x. x.token) xs

-- ---- a sequence

-- a colour sequence
abbrev IsColours : TokenKind → Type 0
IsColours t = t ≡ Colours (colour_numbers t)

abbrev AreColours : List Spelled → Type 0
AreColours xs = AllByRecursion (λ x. IsColours x.token) xs

-- the parts of a sequence are colour sequences that do together what it does
record DoTheSame (z : Size) (x : Spelled) (parts : List Spelled) : Type 0 where
  colours : AreColours parts
  state : (s : State) → final z s (tokens_of parts) ≡ step z s x.token

state_of : (z : Size) (xs : List Spelled) (h : Stand)
    → (fold (stand_behind z) h xs).state ≡ final z h.state (tokens_of xs)
state_of z [] h = refl
state_of z (x ∷ xs) h = state_of z xs (stand_behind z h x)

parts_colours : (n : Names) (x : Spelled) → IsColours x.token → (w : Way) → AreColours (parts_by w n x)
parts_colours n x is Within = (refl, tt)
parts_colours n x is After = (is, (refl, tt))
parts_colours n x is Between = (refl, (refl, (refl, tt)))

do_the_same : (z : Size) (t : TokenKind) (text : List ℕ) (n : Names) → are_both n ≡ false → takes_names t ≡ true
    → SpellsToken t text
    → DoTheSame z (record { token = t; text = text }) (named_parts n (record { token = t; text = text }))
do_the_same z (Colours ks) text n some takes spells =
    let x : Spelled = record { token = Colours ks; text = text } in
    let w : Way = way_of (missing_numbers n) (to_zero x) (after_zero x) in
    let cut = is_cut ks text (is_written ks text spells) takes in
    record {
      colours = rw some (parts_colours n x refl w);
      state = λ s. rw some (sym (state_of z (parts_by w n x) (synced s))
          ∙ ap (λ (v : Stand). v.state)
          (stands_named ks n takes z (synced s) unnamed text cut w refl));
    }
do_the_same z _ text n some takes spells = absurd (false≢true takes)

-- ---- where a token stands

-- A token of the second list is a colour sequence, or stands in the first, and the same is played before it.
abbrev StandsIn : Size → List TokenKind → List TokenKind → ℕ → TokenKind → Type 0
StandsIn z old new k t = IsColours t
    ⊎ ((j : ℕ) × (slice_get old j ≡ Some t) × ((s : State) → final z s (take k new) ≡ final z s (take j old)))

-- behind colour sequences
abbrev StandsBehind : Size → List Spelled → List Spelled → ℕ → TokenKind → Type 0
StandsBehind z parts xs k t = IsColours t
    ⊎ ((j : ℕ) × (slice_get (tokens_of xs) j ≡ Some t) × ((s : State)
    → final z s (take k (tokens_of (parts ++ xs))) ≡ final z (final z s (tokens_of parts)) (take j (tokens_of xs))))

behind_colours : (z : Size) (parts xs : List Spelled) → AreColours parts → (k : ℕ) (t : TokenKind)
    → slice_get (tokens_of (parts ++ xs)) k ≡ Some t → StandsBehind z parts xs k t
behind_colours z [] xs colours k t there = inr (k, there, λ s. refl)
behind_colours z (p ∷ parts) xs colours zero t there =
    let same : p.token ≡ t = cc in inl (subst IsColours same colours.0)
behind_colours z (p ∷ parts) xs colours (suc k) t there = elim (behind_colours z parts xs colours.1 k t there) [
  | inl is ↦ inl is
  | inr w ↦ inr (w.0, w.1, λ s. w.2 (step z s p.token))
]

-- behind a token that stays
stands_on : (z : Size) (x : Spelled) (old new : List TokenKind) (k : ℕ) (t : TokenKind)
    → ((i : ℕ) → slice_get new i ≡ Some t → StandsIn z old new i t)
    → slice_get (x.token ∷ new) k ≡ Some t → StandsIn z (x.token ∷ old) (x.token ∷ new) k t
stands_on z x old new zero t next there = inr (0, there, λ s. refl)
stands_on z x old new (suc i) t next there = elim (next i there) [
  | inl colours ↦ inl colours
  | inr w ↦ inr (suc w.0, w.1, λ s. w.2 (step z s x.token))
]

stands_in : (z : Size) (xs : List Spelled) → AreSpelled xs → (k : ℕ) (t : TokenKind)
    → slice_get (tokens_of (named_tokens xs)) k ≡ Some t
    → StandsIn z (tokens_of xs) (tokens_of (named_tokens xs)) k t
stands_in z [] spells k t there = absurd (let no : ⊥ = cc in no)
stands_in z (x ∷ xs) spells k t there =
    go (are_both (names_behind_token x xs)) refl k (λ i e. stands_in z xs spells.1 i t e) there
  where
    go : (b : Bool) → are_both (names_behind_token x xs) ≡ b → (k : ℕ)
        → ((i : ℕ) → slice_get (tokens_of (named_tokens xs)) i ≡ Some t
        → StandsIn z (tokens_of xs) (tokens_of (named_tokens xs)) i t)
        → slice_get (tokens_of (named_tokens (x ∷ xs))) k ≡ Some t
        → StandsIn z (tokens_of (x ∷ xs)) (tokens_of (named_tokens (x ∷ xs))) k t
    go true is k next e =
        rw is (stands_on z x (tokens_of xs) (tokens_of (named_tokens xs)) k t next (rw is at e))
    go false is k next e =
        let parts : List Spelled = named_parts (names_behind_token x xs) x in
        let same = do_the_same z x.token x.text (names_behind_token x xs) is (takes_if x xs is) spells.0 in
        elim (behind_colours z parts (named_tokens xs) same.colours k t e) [
          | inl colours ↦ inl colours
          | inr w ↦ elim (next w.0 w.1) [
            | inl colours ↦ inl colours
            | inr v ↦ inr (
              suc v.0,
              v.1,
              λ s. w.2 s ∙ v.2 (final z s (tokens_of parts))
                  ∙ ap (λ (u : State). final z u (take v.0 (tokens_of xs))) (same.state s),
            )
          ]
        ]

-- the same is there in the end
same_final : (z : Size) (xs : List Spelled) → AreSpelled xs → (s : State)
    → final z s (tokens_of (named_tokens xs)) ≡ final z s (tokens_of xs)
same_final z [] spells s = refl
same_final z (x ∷ xs) spells s =
    go (are_both (names_behind_token x xs)) refl (same_final z xs spells.1)
  where
    go : (b : Bool) → are_both (names_behind_token x xs) ≡ b
        → ((s : State) → final z s (tokens_of (named_tokens xs)) ≡ final z s (tokens_of xs))
        → final z s (tokens_of (named_tokens (x ∷ xs))) ≡ final z s (tokens_of (x ∷ xs))
    go true is next = rw is (next (step z s x.token))
    go false is next =
        let parts : List Spelled = named_parts (names_behind_token x xs) x in
        let same = do_the_same z x.token x.text (names_behind_token x xs) is (takes_if x xs is) spells.0 in
        ap (final z s) (map-append (λ (v : Spelled). v.token) parts (named_tokens xs))
        ∙ fold-append (step z) s (tokens_of parts) (tokens_of (named_tokens xs))
        ∙ next (final z s (tokens_of parts))
        ∙ ap (λ (u : State). final z u (tokens_of xs)) (same.state s)

-- ---- what is played

module _ (z : Size) (class : Start) where
  -- what is played leads to the same, from each start
  abbrev LeadTo : List TokenKind → List TokenKind → Type 0
  LeadTo new old = (s : State) → final z s new ≡ final z s old

  same_position : (new old : List TokenKind) → LeadTo new old → SamePosition z class old → SamePosition z class new
  same_position new old lead one s t start other =
      ap (λ (v : State). v.cursor) (lead s) ∙ one s t start other ∙ ap (λ (v : State). v.cursor) (sym (lead t))

  same_prints : (new old : List TokenKind) → LeadTo new old → PrintsWell z class old → PrintsWell z class new
  same_prints new old lead prints = record {
    at_one_position = same_position new old lead prints.at_one_position;
    never_below = λ s start below.
        prints.never_below s start (ap (λ (v : State). v.cursor.row) (sym (lead s)) ∙ below);
  }

  with_blanks : (new old : List TokenKind) (n : ℕ) → LeadTo new old → LeadTo (then_blanks new n) (then_blanks old n)
  with_blanks new old n lead s =
      fold-append (step z) s new (replicate n (Glyph blank))
      ∙ ap (λ (v : State). final z v (replicate n (Glyph blank))) (lead s)
      ∙ sym (fold-append (step z) s old (replicate n (Glyph blank)))

  module _ (old new : List TokenKind)
      (stands : (k : ℕ) (t : TokenKind) → slice_get new k ≡ Some t → StandsIn z old new k t)
      (plays : PlaysWell z class old) where
    pub plays_named : PlaysWell z class new
    plays_named = record {
      no_static_fault = λ k t cause there fault. elim (stands k t there) [
        | inl is ↦ subst (λ (v : TokenKind). HasStaticFault z v cause) is fault
        | inr w ↦ plays.no_static_fault w.0 t cause w.1 fault
      ];
      never_scrolls = λ k there s start below. elim (stands k LineFeed there) [
        | inl is ↦ let no : ⊥ = cc in no
        | inr w ↦ plays.never_scrolls w.0 w.1 s start (ap (λ (v : State). v.cursor.row) (sym (w.2 s)) ∙ below)
      ];
      prints_well = λ k byte there. elim (stands k (Glyph byte) there) [
        | inl is ↦ absurd (let no : ⊥ = cc in no)
        | inr w ↦ same_prints (take k new) (take w.0 old) w.2 (plays.prints_well w.0 byte w.1)
      ];
      tabs_well = λ k n there some. elim (stands k Tab there) [
        | inl is ↦ absurd (let no : ⊥ = cc in no)
        | inr w ↦ same_prints (then_blanks (take k new) n) (then_blanks (take w.0 old) n)
            (with_blanks (take k new) (take w.0 old) n w.2)
            (plays.tabs_well w.0 n w.1 (
              some.0,
              some.1,
              subst (λ (v : State). n < tab_blanks v.cursor.column) (w.2 some.0) some.2,
            ))
      ];
      erases_at_one_position = λ k there. elim (stands k EraseLine there) [
        | inl is ↦ absurd (let no : ⊥ = cc in no)
        | inr w ↦ same_position (take k new) (take w.0 old) w.2 (plays.erases_at_one_position w.0 w.1)
      ];
    }

  shows_named : (old new : List TokenKind) (picture : Picture) → LeadTo new old → Shows z class old picture
      → Shows z class new picture
  shows_named old new picture lead shows = record {
    is_picture = shows.is_picture;
    shown = λ s p start stated. ap (λ (v : State). cell_at z v.screen p) (lead s) ∙ shows.shown s p start stated;
  }

-- ---- a content

tokens_back : (tokens : List TokenKind) (texts : List (List ℕ)) → AllZip SpellsToken tokens texts
    → tokens_of (spelled tokens texts) ≡ tokens
tokens_back [] texts h = refl
tokens_back (t ∷ tokens) [] h = absurd h
tokens_back (t ∷ tokens) (x ∷ texts) h = ap (λ (v : List TokenKind). t ∷ v) (tokens_back tokens texts h.1)

pub cells_stay : CellsStay
cells_stay z class content picture good =
    let xs : List Spelled = spelled good.tokens good.reads.0 in
    let spells : AreSpelled xs = each_spelled good.tokens good.reads.0 good.reads.1.each in
    let same : good.tokens ≡ tokens_of xs = sym (tokens_back good.tokens good.reads.0 good.reads.1.each) in
    record {
      size = good.size;
      tokens = tokens_of (named_tokens xs);
      reads = (map (λ x. x.text) (named_tokens xs), named_is_read content good.tokens good.reads);
      plays = plays_named z class (tokens_of xs) (tokens_of (named_tokens xs)) (stands_in z xs spells)
          (subst (PlaysWell z class) same good.plays);
      shows = shows_named z class (tokens_of xs) (tokens_of (named_tokens xs)) picture (same_final z xs spells)
          (subst (λ (v : List TokenKind). Shows z class v picture) same good.shows);
    }
