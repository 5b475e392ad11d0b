-- The line ends behind full rows, token by token.
use Rattle.std.proofs.Common.{◌≡◌, ℕ, ◌+◌, ◌≤◌, ◌<◌, Bool, true, false, List, [], ◌∷◌, ◌++◌, length, refl, sym}
use Rattle.std.proofs.Common.{ap, ap₂, ◌∙◌, arith, ◌-◌, take, drop, append_assoc, append-nil, length-append, Option}
use Rattle.std.proofs.Common.{None, Some, subst, true≢false}
use Rattle.std.specs.Prelude.{is_none, is_some, not, Result, Ok, Err}
use Rattle.std.proofs.lemmas.Bool.{false≢true}
use Rattle.std.specs.List.{concat}
use Rattle.std.proofs.lemmas.List.Folds.{concat-append}
use Rattle.std.proofs.lemmas.List.Sums.{fold-append}
use Rattle.std.proofs.Math.Seq.{drop-append_seam, take-length}
use Rattle.ans_model.specs.Sequence.TokenKind.{TokenKind, LineFeed}
use Rattle.ans_model.specs.Sequence.Reads.{Reads, ReadsAs, SpellsToken}
use Rattle.ans_model.specs.Screen.State.{Size, State}
use Rattle.ans_model.specs.Screen.Step.{step, final}
use Rattle.ans_model.specs.declared.fault.Fault.{Fault}
use Rattle.ans_tokens.specs.Walk.{Front, Walks, WalksTo, front_with, no_front}
use Rattle.ans_tokens.proofs.Scanning.{IsSplit, nothing_left, split_reading}
use Rattle.ans_tokens.proofs.Walked.{never_refused}
use Rattle.ans_hints.specs.FullRowEnds.{AreEndsOver, IsBehindEnd, IsFirstEnd, end_at, ends_from, StandsBetween}
use Rattle.ans_hints.specs.FullRowSearch.{Agrees, HasFound, HasSought, IsFoundAt, SeenBetween, end_by, found_list}
use Rattle.ans_hints.specs.FullRowSearch.{line_end}
use Rattle.ans_pens.specs.Pens.{pen_of, StandsOn}
use Rattle.ans_hints.specs.RowEnds.{row_with}
use Rattle.ans_hints.specs.declared.full_row_ends.Behind.{Behind}
use Rattle.ans_hints.specs.declared.full_row_ends.Behind.TheVariants as behind
use Rattle.ans_hints.specs.declared.full_row_ends.FullRowEnd.{FullRowEnd}
use Rattle.ans_hints.specs.declared.full_row_ends.Search.{Search}
use Rattle.ans_hints.specs.declared.row.Row.{Row}
use Rattle.ans_hints.specs.declared.row_play.RowPlay.{RowPlay}
use Rattle.ans_hints.proofs.LineEndBytes.{one_byte}

-- ---- what one token makes

-- none is found while the search goes on
none_by : (found : Option FullRowEnd) (on : Bool) → is_some found ≡ not on → is_none found ≡ on
none_by None true e = refl
none_by None false e = absurd (false≢true e)
none_by (Some end) true e = absurd (true≢false e)
none_by (Some end) false e = refl

-- the ends that a token makes
ends_by : (seen : Behind) (row : Row) (offset : ℕ) (t : TokenKind) → Agrees seen row.seam
    → found_list (end_by seen offset t) ≡ end_at row offset t
ends_by seen row offset LineFeed agrees = agrees.ends offset
ends_by seen row offset _ agrees = refl

-- it stands between the offsets, and its line feed is the last byte
end_stands : (seen : Behind) (from offset : ℕ) → from ≤ offset → SeenBetween from seen offset
    → IsFoundAt from (is_none (line_end seen offset)) (line_end seen offset) (offset + 1)
end_stands behind.Other from offset low seen = refl
end_stands behind.Full from offset low seen = (low, refl)
end_stands (behind.Returned at) from offset low seen = (seen, refl)

found_by : (seen : Behind) (from offset : ℕ) (t : TokenKind) (text : List ℕ) → SpellsToken t text → from ≤ offset
    → SeenBetween from seen offset
    → IsFoundAt from (is_none (end_by seen offset t)) (end_by seen offset t) (offset + length text)
found_by seen from offset LineFeed text spelled low between =
    subst (λ (n : ℕ). IsFoundAt from (is_none (line_end seen offset)) (line_end seen offset) (offset + n))
    (sym (one_byte LineFeed text spelled (λ h. h))) (end_stands seen from offset low between)
found_by seen from offset _ text spelled low between = refl

seen_on : (from : ℕ) (seen : Behind) (to more : ℕ) → to ≤ more → SeenBetween from seen to → SeenBetween from seen more
seen_on from behind.Other to more le h = tt
seen_on from behind.Full to more le h = tt
seen_on from (behind.Returned at) to more le h = let lt = h.1 in (h.0, omega (arith, lt, le))

some_by : (found : Option FullRowEnd) → is_none found ≡ false → is_some found ≡ true
some_by None e = absurd (true≢false e)
some_by (Some end) e = refl

-- ---- one token more
module _ (first old new : Search) (front : Front) (t : TokenKind) (text rest : List ℕ)
    (h : HasSought first front true old)
    (spelled : SpellsToken t text) (long : 0 < length text) (offset : ℕ)
    (at : offset ≡ old.base + length (concat front.texts))
    (size : new.size ≡ old.size) (base : new.base ≡ old.base) (found : new.found ≡ end_by old.behind offset t)
    (agrees : (s : State) (row : Row) → old.pen ≡ pen_of s → Agrees old.behind row.seam
    → Agrees new.behind (row_with old.size s offset row t).seam)
    (seen : (from : ℕ) → from ≤ offset → SeenBetween from old.behind offset → SeenBetween from new.behind (offset + 1))
    (ended : is_some (end_by old.behind offset t) ≡ true → new.behind ≡ behind.Other)
    (stands : StandsOn old.size new.pen)
    (pen : (s : State) → old.pen ≡ pen_of s → new.pen ≡ pen_of (step old.size s t)) where
  abbrev texts : List (List ℕ)
  texts = front.texts ++ text ∷ []

  place : offset ≡ first.base + length (concat front.texts)
  place = at ∙ ap (λ (v : ℕ). v + length (concat front.texts)) h.base

  all_long : offset + length text ≡ first.base + length (concat texts)
  all_long =
      let more : length (concat texts) ≡ length (concat front.texts) + length text =
      ap length (concat-append front.texts (text ∷ []) ∙ ap (λ (v : List ℕ). concat front.texts ++ v) (append-nil text))
      ∙ length-append (concat front.texts) text in
      omega (arith, place, more)

  more_long : length texts ≡ length (front.tokens ++ t ∷ [])
  more_long =
      let a = length-append front.texts (text ∷ []) in
      let b = length-append front.tokens (t ∷ []) in
      let c = h.texts in omega (arith, a, b, c)

  seen_here : SeenBetween first.base old.behind offset
  seen_here = subst (SeenBetween first.base old.behind) (sym place) h.seen

  next_seen : SeenBetween first.base new.behind (first.base + length (concat texts))
  next_seen =
      let sum = all_long in
      seen_on first.base new.behind (offset + 1) _ (omega (arith, long, sum))
      (seen first.base (omega (arith, place)) seen_here)

  next_found : IsFoundAt first.base (is_none new.found) new.found (first.base + length (concat texts))
  next_found =
      subst (λ (n : ℕ). IsFoundAt first.base (is_none new.found) new.found n) all_long
      (subst (λ (e : Option FullRowEnd). IsFoundAt first.base (is_none e) e (offset + length text)) (sym found)
      (found_by old.behind first.base offset t text spelled (omega (arith, place)) seen_here))

  module _ (s : State) (from : Row) (f : HasFound first s from front true old) where
    abbrev here : State
    here = final first.size s front.tokens

    next_pen : new.pen ≡ pen_of (final first.size s (front.tokens ++ t ∷ []))
    next_pen =
        subst (λ (z : Size). new.pen ≡ pen_of (step z here t)) h.size (pen here f.pen)
        ∙ ap pen_of (sym (fold-append (step first.size) s front.tokens (t ∷ [])))

    next_agrees : Agrees new.behind (row_with first.size here offset f.row t).seam
    next_agrees =
        subst (λ (z : Size). Agrees new.behind (row_with z here offset f.row t).seam) h.size
        (agrees here f.row f.pen f.agrees)

    next_ends : (more : List TokenKind) (more_texts : List (List ℕ))
        → ends_from first.size s first.base from ((front.tokens ++ t ∷ []) ++ more) (texts ++ more_texts)
        ≡ found_list new.found ++ ends_from first.size (final first.size s (front.tokens ++ t ∷ []))
        (first.base + length (concat texts)) (row_with first.size here offset f.row t) more more_texts
    next_ends more more_texts =
        ap₂ (λ (u : List TokenKind) (v : List (List ℕ)). ends_from first.size s first.base from u v)
        (append_assoc front.tokens (t ∷ []) more) (append_assoc front.texts (text ∷ []) more_texts)
        ∙ f.ends (t ∷ more) (text ∷ more_texts)
        ∙ ap (λ (e : Option FullRowEnd). found_list e ++ ends_from first.size here
        (first.base + length (concat front.texts)) f.row (t ∷ more) (text ∷ more_texts)) h.found
        ∙ ap (λ (n : ℕ). ends_from first.size here n f.row (t ∷ more) (text ∷ more_texts)) (sym place)
        ∙ ap₂ (λ (v : List FullRowEnd) (n : ℕ). v ++ ends_from first.size (step first.size here t) n
        (row_with first.size here offset f.row t) more more_texts)
        (sym (ends_by old.behind f.row offset t f.agrees) ∙ ap found_list (sym found)) all_long
        ∙ ap (λ (u : State). found_list new.found ++ ends_from first.size u (first.base + length (concat texts))
        (row_with first.size here offset f.row t) more more_texts)
        (sym (fold-append (step first.size) s front.tokens (t ∷ [])))

  sought : HasSought first (front_with front t text rest) (is_none new.found) new
  sought = record {
    size = size ∙ h.size;
    base = base ∙ h.base;
    texts = more_long;
    stands = subst (λ (z : Size). StandsOn z new.pen) h.size stands;
    seen = next_seen;
    found = next_found;
    ended = λ off. ended (ap is_some (sym found) ∙ some_by new.found off);
    from = λ s from is_pen agreed.
        let f = h.from s from is_pen agreed in
        record {
          row = row_with first.size (here s from f) offset f.row t;
          pen = next_pen s from f;
          agrees = next_agrees s from f;
          ends = next_ends s from f;
        };
  }

  pub sought_token : (on : Bool) → is_some new.found ≡ not on → HasSought first (front_with front t text rest) on new
  sought_token on goes =
      subst (λ (b : Bool). HasSought first (front_with front t text rest) b new) (none_by new.found on goes) sought

-- ---- all bytes

-- before the first token
pub begins : (first : Search) (bytes : List ℕ) → first.behind ≡ behind.Other → first.found ≡ None
    → StandsOn first.size first.pen → HasSought first (no_front bytes) true first
begins first bytes other none stands = record {
  size = refl;
  base = refl;
  stands = stands;
  texts = refl;
  seen = subst (λ (seen : Behind). SeenBetween first.base seen (first.base + 0)) (sym other) tt;
  found = none;
  ended = λ off. absurd (true≢false off);
  from = λ s row pen agrees. record {
    row = row;
    pen = pen;
    agrees = agrees;
    ends = λ more more_texts.
        let same : first.base ≡ first.base + 0 = omega arith in
        ap₂ (λ (e : Option FullRowEnd) (n : ℕ). found_list e ++ ends_from first.size s n row more more_texts)
        (sym none) same;
  };
}

-- what a walk has over is a front, whatever it comes to
module _ (bytes : List ℕ) (first now : Search) where
  abbrev Sought : Result Bool Fault → Type 0
  Sought result =
      WalksTo (λ first front now goes_on. HasSought first front goes_on now) bytes (length bytes) first now result

  some_none : (e : FullRowEnd) → now.found ≡ Some e → now.found ≡ None → ⊥
  some_none e is none = true≢false (ap is_some (sym is ∙ none))

  pub still_stands : (result : Result Bool Fault) → Sought result → StandsOn now.size now.pen
  still_stands (Ok true) h = subst (λ (z : Size). StandsOn z now.pen) (sym h.over.size) h.over.stands
  still_stands (Ok false) (left, h) = subst (λ (z : Size). StandsOn z now.pen) (sym h.over.size) h.over.stands
  still_stands (Err fault) (left, h, fails) =
      subst (λ (z : Size). StandsOn z now.pen) (sym h.over.size) h.over.stands

  pub found_behind : (play new : RowPlay) (result : Result Bool Fault) (e : FullRowEnd) → first.base ≡ play.played
      → Sought result → now.found ≡ Some e → new.played ≡ e.line_feed + 1 → IsBehindEnd play bytes new e
  found_behind play new (Ok true) e base h is played = absurd (some_none e is h.over.found)
  found_behind play new (Err fault) e base (left, h, fails) is played = absurd (some_none e is h.over.found)
  found_behind play new (Ok false) e base (left, h) is played =
      let at : StandsBetween first.base e.return_at e.line_feed
      × (e.line_feed + 1 ≡ first.base + length (concat h.front.texts)) =
      subst (λ (o : Option FullRowEnd). IsFoundAt first.base false o
      (first.base + length (concat h.front.texts))) is h.over.found in
      let long : length bytes ≡ length h.read + length left =
      ap length (sym (take-length bytes) ∙ h.whole) ∙ length-append h.read left in
      let read : length (concat h.front.texts) ≡ length h.read = ap length (sym h.reads.whole) in
      let end = at.1 in
      record {
        stands = subst (λ (n : ℕ). StandsBetween n e.return_at e.line_feed) base at.0;
        played = played;
        within = omega (arith, end, long, read, base, played);
      }

module _ (play : RowPlay) (bytes : List ℕ) (first now : Search) (size : first.size ≡ play.size)
    (pen : first.pen ≡ play.pen) (base : first.base ≡ play.played) (other : first.behind ≡ behind.Other)
    (ends : List FullRowEnd) (over : AreEndsOver play bytes ends) where
  all : take (length bytes) bytes ≡ bytes
  all = take-length bytes

  agrees : Agrees first.behind over.row.seam
  agrees = subst (λ (b : Behind). Agrees b over.row.seam) (sym other) (record {
    full = sym over.unwrapped;
    ends = λ offset. sym (over.endless offset);
  })

  module _ (left : List ℕ) (on : Bool) (h : Walks (λ first front now goes_on. HasSought first front goes_on now) bytes
      (length bytes) left first now on) where
    split : IsSplit h.front.tokens over.tokens h.front.texts over.texts left
    split =
        split_reading h.front.tokens over.tokens h.front.texts over.texts left h.reads.each over.reads.each
        (ap (λ (v : List ℕ). v ++ left) (sym h.reads.whole) ∙ sym h.whole ∙ all ∙ over.reads.whole)

    found : HasFound first over.state over.row h.front on now
    found = h.over.from over.state over.row (pen ∙ over.pen) agrees

    -- the line ends in what is left
    abbrev later : List FullRowEnd
    later =
        ends_from first.size (final first.size over.state h.front.tokens) (first.base + length (concat h.front.texts))
        found.row split.later split.later_texts

    ends_are : ends ≡ found_list now.found ++ later
    ends_are =
        over.ends_are ∙ ap₂ (λ (z : Size) (n : ℕ). ends_from z over.state n over.row over.tokens over.texts) (sym size)
        (sym base)
        ∙ ap₂ (λ (u : List TokenKind) (v : List (List ℕ)). ends_from first.size over.state first.base over.row u v)
        split.tokens_are split.texts_are
        ∙ found.ends split.later split.later_texts

  -- none is found in all of the bytes
  pub none_left : (result : Result Bool Fault)
      → WalksTo (λ first front now goes_on. HasSought first front goes_on now) bytes (length bytes) first now result
      → now.found ≡ None → ends ≡ []
  none_left (Ok true) h none =
      let (no_tokens, no_texts) = nothing_left (split [] true h).later (split [] true h).later_texts
      (split [] true h).reads in
      ends_are [] true h
      ∙ ap (λ (e : Option FullRowEnd). found_list e ++ later [] true h) none
      ∙ ap₂ (λ (u : List TokenKind) (v : List (List ℕ)). ends_from first.size (final first.size over.state
      h.front.tokens) (first.base + length (concat h.front.texts)) (found [] true h).row u v) no_tokens no_texts
  none_left (Ok false) (left, h) none =
      absurd (subst (λ (e : Option FullRowEnd). IsFoundAt first.base false e
      (first.base + length (concat h.front.texts))) none h.over.found)
  none_left (Err fault) h none =
      absurd (never_refused _ bytes (length bytes) first now fault over.tokens h
      (subst (λ (v : List ℕ). Reads v over.tokens) (sym all) (over.texts, over.reads)))

  -- one is found where the walk stops
  pub first_left : (result : Result Bool Fault) (e : FullRowEnd) (new : RowPlay)
      → WalksTo (λ first front now goes_on. HasSought first front goes_on now) bytes (length bytes) first now result
      → now.found ≡ Some e → new.size ≡ now.size → new.pen ≡ now.pen → new.played ≡ e.line_feed + 1
      → IsFirstEnd play bytes ends new e
  first_left (Ok true) e new h is same_size same_pen played = absurd (some_none bytes first now e is h.over.found)
  first_left (Err fault) e new h is same_size same_pen played =
      absurd (never_refused _ bytes (length bytes) first now fault over.tokens h
      (subst (λ (v : List ℕ). Reads v over.tokens) (sym all) (over.texts, over.reads)))
  first_left (Ok false) e new (left, h) is same_size same_pen played =
      let at : StandsBetween first.base e.return_at e.line_feed
      × (e.line_feed + 1 ≡ first.base + length (concat h.front.texts)) =
      subst (λ (o : Option FullRowEnd). IsFoundAt first.base false o
      (first.base + length (concat h.front.texts))) is h.over.found in
      let whole : bytes ≡ h.read ++ left = sym all ∙ h.whole in
      let read : length (concat h.front.texts) ≡ length h.read = ap length (sym h.reads.whole) in
      let at_end = at.1 in
      let ahead : new.played - play.played ≡ length h.read = omega (arith, played, at_end, base, read) in
      let f = found left false h in
      let none : Agrees behind.Other f.row.seam =
      subst (λ (b : Behind). Agrees b f.row.seam) (h.over.ended refl) f.agrees in
      record {
        later = later left false h;
        first = ends_are left false h ∙ ap (λ (o : Option FullRowEnd). found_list o ++ later left false h) is;
        goes_on = record {
          state = final first.size over.state h.front.tokens;
          row = f.row;
          tokens = (split left false h).later;
          texts = (split left false h).later_texts;
          pen = same_pen ∙ f.pen;
          unwrapped = sym none.full;
          endless = λ offset. sym (none.ends offset);
          reads = subst (λ (v : List ℕ). ReadsAs v (split left false h).later (split left false h).later_texts)
              (sym (ap₂ (λ (n : ℕ) (v : List ℕ). drop n v) ahead whole ∙ drop-append_seam h.read left))
              (split left false h).reads;
          ends_are = ap₂ (λ (z : Size) (n : ℕ). ends_from z (final first.size over.state h.front.tokens) n f.row
              (split left false h).later (split left false h).later_texts) (sym (same_size ∙ h.over.size))
              (sym at_end ∙ sym played);
        };
      }
