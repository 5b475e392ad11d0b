-- Loose line feeds with one token more.
use Rattle.std.proofs.Common.{◌≡◌, ℕ, ◌+◌, Bool, true, false, not, List, [], ◌∷◌, ◌++◌, length, refl, sym, ap}
use Rattle.std.proofs.Common.{ap₂, arith, ◌∙◌, append_assoc, append-nil, length-append}
use Rattle.std.specs.Prelude.{◌&&◌, ◌||◌, if◌then◌else◌}
use Rattle.std.specs.List.{concat}
use Rattle.std.proofs.lemmas.Bool.{false≢true}
use Rattle.std.proofs.lemmas.List.Folds.{concat-append}
use Rattle.ans_model.specs.Sequence.TokenKind.{TokenKind, Glyph, LineFeed, CarriageReturn, Tab, Place, Restore}
use Rattle.ans_model.specs.Screen.State.{Size, State}
use Rattle.ans_model.specs.Screen.Step.{step, final}
use Rattle.ans_hints.specs.Places.{Condition, offset_if, places_before, times_of}
use Rattle.ans_hints.specs.Conditions.{keeps_column, loose_line_feed, prints, sets_column}
use Rattle.ans_hints.specs.Walks.{is_settled}
use Rattle.ans_pens.specs.Counted.{counted}
use Rattle.ans_hints.proofs.TimesFound.{times_more}

-- the places in tokens with one more after them
places_before_more : (test : List TokenKind → Bool) (holds : Condition) (z : Size) (s : State) (offset : ℕ)
    (tokens : List TokenKind) (t : TokenKind) (texts : List (List ℕ)) (text behind : List ℕ)
    → length texts ≡ length tokens
    → places_before test holds z s offset (tokens ++ t ∷ []) (texts ++ text ∷ []) behind
    ≡ places_before (λ (later : List TokenKind). test (later ++ t ∷ [])) holds z s offset tokens texts (text ++ behind)
    ++ offset_if (test [] && holds z (final z s tokens) t behind) (offset + length (concat texts))
places_before_more test holds z s offset [] t [] text behind long =
    let same : offset ≡ offset + 0 = omega arith in
    append-nil (offset_if (test [] && holds z s t behind) offset)
    ∙ ap (offset_if (test [] && holds z s t behind)) same
places_before_more test holds z s offset [] t (x ∷ texts) text behind long = absurd (omega (arith, long))
places_before_more test holds z s offset (u ∷ tokens) t [] text behind long = absurd (omega (arith, long))
places_before_more test holds z s offset (u ∷ tokens) t (x ∷ texts) text behind long =
    let here : concat (texts ++ text ∷ []) ++ behind ≡ concat texts ++ (text ++ behind) =
    ap (λ (v : List ℕ). v ++ behind)
    (concat-append texts (text ∷ []) ∙ ap (λ (v : List ℕ). concat texts ++ v) (append-nil text))
    ∙ append_assoc (concat texts) text behind in
    let there : offset + length x + length (concat texts) ≡ offset + length (x ++ concat texts) =
    omega (arith, length-append x (concat texts)) in
    let now : List ℕ =
    offset_if (test (tokens ++ t ∷ []) && holds z s u (concat texts ++ (text ++ behind))) offset in
    let later : List ℕ =
    places_before (λ (more : List TokenKind). test (more ++ t ∷ [])) holds z (step z s u) (offset + length x) tokens
    texts (text ++ behind) in
    let last : ℕ → List ℕ = offset_if (test [] && holds z (final z (step z s u) tokens) t behind) in
    ap₂ (λ (rest more : List ℕ). offset_if (test (tokens ++ t ∷ []) && holds z s u rest) offset ++ more) here
    (places_before_more test holds z (step z s u) (offset + length x) tokens t texts text behind (omega (arith, long)))
    ∙ ap (λ (n : ℕ). now ++ (later ++ last n)) there
    ∙ sym (append_assoc now later (last (offset + length (x ++ concat texts))))

-- the places by another test that says the same
places_same : (test other : List TokenKind → Bool) → ((later : List TokenKind) → test later ≡ other later)
    → (holds : Condition) (z : Size) (s : State) (offset : ℕ) (tokens : List TokenKind) (texts : List (List ℕ))
    (behind : List ℕ)
    → places_before test holds z s offset tokens texts behind ≡ places_before other holds z s offset tokens texts behind
places_same test other same holds z s offset [] texts behind = refl
places_same test other same holds z s offset (t ∷ tokens) [] behind = refl
places_same test other same holds z s offset (t ∷ tokens) (text ∷ texts) behind =
    ap₂ (λ (b : Bool) (more : List ℕ). offset_if (b && holds z s t (concat texts ++ behind)) offset ++ more)
    (same tokens) (places_same test other same holds z (step z s t) (offset + length text) tokens texts behind)

-- ---- the two tests with one token more

keeps_more : (t : TokenKind) (later : List TokenKind)
    → keeps_column (later ++ t ∷ []) ≡ (if sets_column t then is_settled later else keeps_column later)
keeps_more t [] = go t
  where
    go : (t : TokenKind) → (prints t || (not (sets_column t) && true)) ≡ (if sets_column t then false else true)
    go (Glyph byte) = refl
    go Tab = refl
    go CarriageReturn = refl
    go Restore = refl
    go (Place row column) = refl
    go _ = refl
keeps_more t (u ∷ later) = go (sets_column t) (keeps_more t later)
  where
    go : (sets : Bool) → keeps_column (later ++ t ∷ []) ≡ (if sets then is_settled later else keeps_column later)
        → (prints u || (not (sets_column u) && keeps_column (later ++ t ∷ [])))
        ≡ (if sets then (prints u || (not (sets_column u) && is_settled later))
        else (prints u || (not (sets_column u) && keeps_column later)))
    go true e = ap (λ (b : Bool). prints u || (not (sets_column u) && b)) e
    go false e = ap (λ (b : Bool). prints u || (not (sets_column u) && b)) e

settled_more : (t : TokenKind) (later : List TokenKind)
    → is_settled (later ++ t ∷ []) ≡ (if prints t then keeps_column later else is_settled later)
settled_more t [] = go t
  where
    go : (t : TokenKind) → (prints t || (not (sets_column t) && false)) ≡ (if prints t then true else false)
    go (Glyph byte) = refl
    go Tab = refl
    go CarriageReturn = refl
    go Restore = refl
    go (Place row column) = refl
    go _ = refl
settled_more t (u ∷ later) = go (prints t) (settled_more t later)
  where
    go : (printed : Bool) → is_settled (later ++ t ∷ []) ≡ (if printed then keeps_column later else is_settled later)
        → (prints u || (not (sets_column u) && is_settled (later ++ t ∷ [])))
        ≡ (if printed then (prints u || (not (sets_column u) && keeps_column later))
        else (prints u || (not (sets_column u) && is_settled later)))
    go true e = ap (λ (b : Bool). prints u || (not (sets_column u) && b)) e
    go false e = ap (λ (b : Bool). prints u || (not (sets_column u) && b)) e

-- what sets the column is no line feed
never_loose : (z : Size) (s : State) (t : TokenKind) (rest : List ℕ) → sets_column t ≡ true
    → loose_line_feed z s t rest ≡ false
never_loose z s LineFeed rest sets = absurd (false≢true sets)
never_loose z s _ rest sets = refl

-- ---- the line feeds
module _ (z : Size) (s : State) (tokens : List TokenKind) (t : TokenKind) (texts : List (List ℕ))
    (text behind : List ℕ) (long : length texts ≡ length tokens) where
  abbrev loose_by : (List TokenKind → Bool) → List ℕ
  loose_by test = places_before test loose_line_feed z s 0 tokens texts (text ++ behind)

  pub loose_more : (offset : ℕ) → offset ≡ 0 + length (concat texts)
      → (if sets_column t then times_of (loose_by is_settled)
      else counted (times_of (loose_by keeps_column)) (loose_line_feed z (final z s tokens) t behind) offset)
      ≡ times_of (places_before keeps_column loose_line_feed z s 0 (tokens ++ t ∷ []) (texts ++ text ∷ []) behind)
  loose_more offset at =
      let last : Bool = loose_line_feed z (final z s tokens) t behind in
      sym (ap times_of (places_before_more keeps_column loose_line_feed z s 0 tokens t texts text behind long)
      ∙ ap₂ (λ (found : List ℕ) (n : ℕ). times_of (found ++ offset_if last n))
      (places_same (λ (later : List TokenKind). keeps_column (later ++ t ∷ []))
      (λ (later : List TokenKind). if sets_column t then is_settled later else keeps_column later) (keeps_more t)
      loose_line_feed z s 0 tokens texts (text ++ behind)) (sym at)
      ∙ go (sets_column t) last (never_loose z (final z s tokens) t behind))
    where
      go : (sets last : Bool) → (sets ≡ true → last ≡ false)
          → times_of (loose_by (λ (later : List TokenKind). if sets then is_settled later else keeps_column later)
          ++ offset_if last offset)
          ≡ (if sets then times_of (loose_by is_settled)
          else counted (times_of (loose_by keeps_column)) last offset)
      go true last none =
          ap (λ (b : Bool). times_of (loose_by is_settled ++ offset_if b offset)) (none refl)
          ∙ ap times_of (append-nil (loose_by is_settled))
      go false last none = times_more (loose_by keeps_column) last offset

  pub settled_so : (if prints t then times_of (loose_by keeps_column) else times_of (loose_by is_settled))
      ≡ times_of (places_before is_settled loose_line_feed z s 0 (tokens ++ t ∷ []) (texts ++ text ∷ []) behind)
  settled_so =
      sym (ap times_of (places_before_more is_settled loose_line_feed z s 0 tokens t texts text behind long
      ∙ append-nil _ ∙ places_same (λ (later : List TokenKind). is_settled (later ++ t ∷ []))
      (λ (later : List TokenKind). if prints t then keeps_column later else is_settled later) (settled_more t)
      loose_line_feed z s 0 tokens texts (text ++ behind)) ∙ go (prints t))
    where
      go : (printed : Bool)
          → times_of (loose_by (λ (later : List TokenKind). if printed then keeps_column later else is_settled later))
          ≡ (if printed then times_of (loose_by keeps_column) else times_of (loose_by is_settled))
      go true = refl
      go false = refl
