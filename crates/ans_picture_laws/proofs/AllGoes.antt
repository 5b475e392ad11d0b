-- What follows where all tokens go well.
use Rattle.std.proofs.Common.{◌≡◌, ℕ, zero, suc, ◌+◌, Bool, false, List, [], ◌∷◌, map, fold, take, refl, ap}
use Rattle.std.proofs.Common.{sym, ◌∙◌, Some, subst}
use Rattle.std.specs.Prelude.{slice_get, ◌<◌, replicate}
use Rattle.std.specs.List.{concat, list_any}
use Rattle.ans_model.specs.Bytes.{blank}
use Rattle.ans_model.specs.File.Layout.{is_end_mark}
use Rattle.ans_model.specs.declared.start.Start.{Start}
use Rattle.ans_model.specs.Sequence.TokenKind.{TokenKind, Glyph, Tab, EraseLine, LineFeed}
use Rattle.ans_model.specs.Screen.State.{Size, State}
use Rattle.ans_model.specs.Screen.Step.{final, put, tab_blanks}
use Rattle.ans_model.specs.Screen.StartClass.{cleared}
use Rattle.ans_model.specs.Verdict.Good.{PlaysWell, PrintsWell}
use Rattle.ans_model.specs.Verdict.TokenFault.{HasStaticFault, FromSome, TabGoesOn, then_blanks}
use Rattle.ans_model.proofs.TabLemmas.{final_then_blanks}
use Rattle.ans_players.specs.declared.difference.Difference.{Difference}
use Rattle.ans_players.specs.Sync.{Stand, synced}
use Rattle.ans_players.specs.Players.{StaysAbove}
use Rattle.ans_players.specs.Situations.{Spelled, AreAgreed, stand_behind, stand_of}
use Rattle.ans_players.proofs.Along.{kinds_of, state_is}
use Rattle.ans_picture_laws.proofs.Going.{GoesWell, AllGoWell, FeedsOn}
use Rattle.ans_picture_laws.proofs.ColourTexts.{unmarked_both}
use Rattle.ans_picture_laws.proofs.ReadBack.{AreSpelled}

-- each text spells its token
pub all_spelled : (z : Size) (agreed : Difference → Bool) (h : Stand) (xs : List Spelled) → AllGoWell z agreed h xs
    → AreSpelled xs
all_spelled z agreed h [] well = tt
all_spelled z agreed h (x ∷ xs) well = (well.0.spelled, all_spelled z agreed (stand_behind z h x) xs well.1)

-- and has no end mark
pub all_unmarked : (z : Size) (agreed : Difference → Bool) (h : Stand) (xs : List Spelled) → AllGoWell z agreed h xs
    → list_any is_end_mark (concat (map (λ x. x.text) xs)) ≡ false
all_unmarked z agreed h [] well = refl
all_unmarked z agreed h (x ∷ xs) well =
    unmarked_both x.text (concat (map (λ x. x.text) xs)) well.0.unmarked
    (all_unmarked z agreed (stand_behind z h x) xs well.1)

-- each goes well where those before it lead
pub goes_at : (z : Size) (agreed : Difference → Bool) (h : Stand) (xs : List Spelled) (k : ℕ) (x : Spelled)
    → AllGoWell z agreed h xs → slice_get xs k ≡ Some x → GoesWell z agreed (fold (stand_behind z) h (take k xs)) x
goes_at z agreed h [] k x well e = absurd (let no : ⊥ = cc in no)
goes_at z agreed h (y ∷ ys) zero x well e =
    let same : y ≡ x = cc in
    subst (λ (v : Spelled). GoesWell z agreed h v) same well.0
goes_at z agreed h (y ∷ ys) (suc k) x well e = goes_at z agreed (stand_behind z h y) ys k x well.1 e

-- a token, with its text
record IsThere (xs : List Spelled) (k : ℕ) (t : TokenKind) : Type 0 where
  x : Spelled
  there : slice_get xs k ≡ Some x
  token : x.token ≡ t

token_there : (xs : List Spelled) (k : ℕ) (t : TokenKind) → slice_get (kinds_of xs) k ≡ Some t → IsThere xs k t
token_there [] k t e = absurd (let no : ⊥ = cc in no)
token_there (y ∷ ys) zero t e = record { x = y; there = refl; token = cc }
token_there (y ∷ ys) (suc k) t e =
    let more = token_there ys k t e in record { x = more.x; there = more.there; token = more.token }

-- a token that prints or erases
abbrev pub Marks : TokenKind → Type 0
Marks (Glyph byte) = Unit {0}
Marks Tab = Unit {0}
Marks EraseLine = Unit {0}
Marks t = ⊥

-- before a token that prints or erases, the state is the same from all starts
abbrev pub SameBefore : Size → List Spelled → Type 0
SameBefore z xs = (k : ℕ) (t : TokenKind) → slice_get (kinds_of xs) k ≡ Some t → Marks t → (s r : State)
    → final z s (take k (kinds_of xs)) ≡ final z r (take k (kinds_of xs))

module _ (z : Size) (agreed : Difference → Bool) (xs : List Spelled)
    (well : (s : State) → AllGoWell z agreed (synced s) xs) where
  -- no kinds but agreed ones arise
  pub all_agreed : (class : Start) → AreAgreed agreed z class xs
  all_agreed class s k x start e = (goes_at z agreed (synced s) xs k x (well s) e).agreed_there

  -- no line feed leads to the spare row
  pub all_feed_on : (k : ℕ) (s : State) → slice_get (kinds_of xs) k ≡ Some LineFeed
      → (final z s (take k (kinds_of xs))).cursor.row + 1 < z.lines
  all_feed_on k s e =
      let at = token_there xs k LineFeed e in
      let goes = goes_at z agreed (synced s) xs k at.x (well s) at.there in
      subst (λ (v : State). FeedsOn z v LineFeed) (state_is z s xs k)
      (subst (λ (u : TokenKind). FeedsOn z (stand_of z s (take k xs)).state u) at.token goes.feeds_on)

  -- nothing is printed in the spare row
  above_at : (k : ℕ) (t : TokenKind) (s : State) → slice_get (kinds_of xs) k ≡ Some t
      → StaysAbove z (final z s (take k (kinds_of xs))) t
  above_at k t s e =
      let at = token_there xs k t e in
      let goes = goes_at z agreed (synced s) xs k at.x (well s) at.there in
      subst (λ (v : State). StaysAbove z v t) (state_is z s xs k)
      (subst (λ (u : TokenKind). StaysAbove z (stand_of z s (take k xs)).state u) at.token goes.allowed.stays_above)

  module _ (same : SameBefore z xs) (class : Start) where
    prints_well : (k byte : ℕ) → slice_get (kinds_of xs) k ≡ Some (Glyph byte)
        → PrintsWell z class (take k (kinds_of xs))
    prints_well k byte e = record {
      at_one_position = λ s r start other. ap (λ (v : State). v.cursor) (same k (Glyph byte) e tt s r);
      never_below = λ s start. above_at k (Glyph byte) s e;
    }

    blanks_position : (k n : ℕ) → slice_get (kinds_of xs) k ≡ Some Tab → (s r : State)
        → (final z s (then_blanks (take k (kinds_of xs)) n)).cursor
        ≡ (final z r (then_blanks (take k (kinds_of xs)) n)).cursor
    blanks_position k n e s r =
        ap (λ (v : State). v.cursor) (final_then_blanks z s (take k (kinds_of xs)) n
        ∙ ap (λ (v : State). fold (put z) v (replicate n blank)) (same k Tab e tt s r)
        ∙ sym (final_then_blanks z r (take k (kinds_of xs)) n))

    tabs_well : (k n : ℕ) → slice_get (kinds_of xs) k ≡ Some Tab
        → FromSome z class (TabGoesOn z (take k (kinds_of xs)) n)
        → PrintsWell z class (then_blanks (take k (kinds_of xs)) n)
    tabs_well k n e some = record {
      at_one_position = λ s r start other. blanks_position k n e s r;
      never_below = λ s start below.
          above_at k Tab s e n
          (subst (λ (v : State). n < tab_blanks v.cursor.column) (same k Tab e tt some.0 s) some.2)
          (sym (ap (λ (v : State). v.cursor.row) (final_then_blanks z s (take k (kinds_of xs)) n)) ∙ below);
    }

    pub all_play_well : PlaysWell z class (kinds_of xs)
    all_play_well = record {
      no_static_fault = λ k t cause e fault.
          let at = token_there xs k t e in
          let goes = goes_at z agreed (synced (cleared z)) xs k at.x (well (cleared z)) at.there in
          subst (λ (u : TokenKind). ¬ HasStaticFault z u cause) at.token (goes.allowed.no_static_fault cause) fault;
      never_scrolls = λ k e s start. above_at k LineFeed s e;
      prints_well = prints_well;
      tabs_well = tabs_well;
      erases_at_one_position = λ k e s r start other. ap (λ (v : State). v.cursor) (same k EraseLine e tt s r);
    }
