-- The hints of a front with one token more.
use Rattle.std.proofs.Common.{◌≡◌, ℕ, ◌+◌, ◌≤◌, Bool, true, false, not, List, [], ◌∷◌, ◌++◌, length, take, drop}
use Rattle.std.proofs.Common.{refl, sym, ap}
use Rattle.std.proofs.Common.{ap₂, arith, ◌∙◌, subst, append_assoc, append-nil, length-append, Option, None}
use Rattle.std.specs.Prelude.{◌&&◌, if◌then◌else◌, Result}
use Rattle.std.specs.List.{concat}
use Rattle.std.proofs.lemmas.Bool.{false≢true}
use Rattle.std.proofs.lemmas.List.Folds.{concat-append}
use Rattle.std.proofs.lemmas.List.Sums.{fold-append}
use Rattle.ans_model.specs.Sequence.TokenKind.{TokenKind}
use Rattle.ans_model.specs.Sequence.Reads.{ReadsAs}
use Rattle.ans_model.specs.Screen.State.{Size, State}
use Rattle.ans_model.specs.Screen.Step.{step, final}
use Rattle.ans_model.specs.Screen.StartClass.{cleared}
use Rattle.ans_model.specs.declared.fault.Fault.{Fault}
use Rattle.ans_pens.specs.Pens.{pen_of}
use Rattle.ans_tokens.specs.Walk.{Front, front_with, WalksTo}
use Rattle.ans_tokens.proofs.Walked.{walked_whole}
use Rattle.ans_hints.specs.Places.{Condition, offset_if, places, places_before, times_of}
use Rattle.ans_hints.specs.Conditions.{keeps_column, loose_line_feed, wide_character, two_byte_letter, latin_letter}
use Rattle.ans_hints.specs.Conditions.{board_code, later_colours, off_switches, blinking_glyph, dark_glyph, seen_glyph}
use Rattle.ans_hints.specs.Conditions.{prints, sets_column}
use Rattle.ans_hints.specs.RowEnds.{Written, nothing_written, row_ends_with, row_with, written_after, written_with}
use Rattle.ans_hints.specs.declared.row.Row.{Row}
use Rattle.ans_pens.specs.Counted.{counted}
use Rattle.ans_hints.specs.Hints.{AreHints}
use Rattle.ans_hints.specs.Rows.{empty_with, empty_after}
use Rattle.ans_hints.specs.Walks.{GoesOver, HasWalked, IsAt, hints_with, is_settled, loose_before_with}
use Rattle.ans_hints.specs.declared.row_ends.RowEnds.{RowEnds}
use Rattle.ans_pens.specs.declared.times.Times.{Times}
use Rattle.ans_hints.specs.declared.walk.Walk.{Walk}
use Rattle.ans_hints.proofs.LooseFound.{loose_more, settled_so}
use Rattle.ans_hints.proofs.TimesFound.{times_more}

-- the places in tokens with one more behind them
places_more : (holds : Condition) (z : Size) (s : State) (offset : ℕ) (tokens : List TokenKind) (t : TokenKind)
    (texts : List (List ℕ)) (text behind : List ℕ) → length texts ≡ length tokens
    → places holds z s offset (tokens ++ t ∷ []) (texts ++ text ∷ []) behind
    ≡ places holds z s offset tokens texts (text ++ behind)
    ++ offset_if (holds z (final z s tokens) t behind) (offset + length (concat texts))
places_more holds z s offset [] t [] text behind long =
    let same : offset ≡ offset + 0 = omega arith in
    append-nil (offset_if (holds z s t behind) offset) ∙ ap (offset_if (holds z s t behind)) same
places_more holds z s offset [] t (x ∷ texts) text behind long = absurd (omega (arith, long))
places_more holds z s offset (u ∷ tokens) t [] text behind long = absurd (omega (arith, long))
places_more holds z s offset (u ∷ tokens) t (x ∷ texts) text behind long =
    let here : concat (texts ++ text ∷ []) ++ behind ≡ concat texts ++ (text ++ behind) =
    ap (λ (v : List ℕ). v ++ behind)
    (concat-append texts (text ∷ []) ∙ ap (λ (v : List ℕ). concat texts ++ v) (append-nil text))
    ∙ append_assoc (concat texts) text behind in
    let there : offset + length x + length (concat texts) ≡ offset + length (x ++ concat texts) =
    omega (arith, length-append x (concat texts)) in
    let now : List ℕ = offset_if (holds z s u (concat texts ++ (text ++ behind))) offset in
    let later : List ℕ = places holds z (step z s u) (offset + length x) tokens texts (text ++ behind) in
    let last : ℕ → List ℕ = offset_if (holds z (final z (step z s u) tokens) t behind) in
    ap₂ (λ (rest more : List ℕ). offset_if (holds z s u rest) offset ++ more) here
    (places_more holds z (step z s u) (offset + length x) tokens t texts text behind (omega (arith, long)))
    ∙ ap (λ (n : ℕ). now ++ (later ++ last n)) there
    ∙ sym (append_assoc now later (last (offset + length (x ++ concat texts))))

empty_more : (z : Size) (s : State) (empty : ℕ) (tokens : List TokenKind) (t : TokenKind)
    → empty_after z s empty (tokens ++ t ∷ []) ≡ empty_with z (final z s tokens) (empty_after z s empty tokens) t
empty_more z s empty [] t = refl
empty_more z s empty (u ∷ tokens) t = empty_more z (step z s u) (empty_with z s empty u) tokens t

-- what is written with one token more
written_more : (z : Size) (s : State) (offset : ℕ) (w : Written) (tokens : List TokenKind) (t : TokenKind)
    (texts : List (List ℕ)) (text : List ℕ) → length texts ≡ length tokens
    → written_after z s offset w (tokens ++ t ∷ []) (texts ++ text ∷ [])
    ≡ written_with z (final z s tokens) (offset + length (concat texts)) (written_after z s offset w tokens texts) t
written_more z s offset w [] t [] text long =
    let same : offset ≡ offset + 0 = omega arith in
    ap (λ (n : ℕ). written_with z s n w t) same
written_more z s offset w [] t (x ∷ texts) text long = absurd (omega (arith, long))
written_more z s offset w (u ∷ tokens) t [] text long = absurd (omega (arith, long))
written_more z s offset w (u ∷ tokens) t (x ∷ texts) text long =
    let there : offset + length x + length (concat texts) ≡ offset + length (x ++ concat texts) =
    omega (arith, length-append x (concat texts)) in
    written_more z (step z s u) (offset + length x) (written_with z s offset w u) tokens t texts text
    (omega (arith, long))
    ∙ ap (λ (n : ℕ). written_with z (final z (step z s u) tokens) n
    (written_after z (step z s u) (offset + length x) (written_with z s offset w u) tokens texts) t) there

-- glyphs that blink count where the flag is not set
unless : (flag test : Bool) (times : Option Times) (offset : ℕ)
    → (if flag then None else counted times test offset)
    ≡ counted (if flag then None else times) (not flag && test) offset
unless true test times offset = refl
unless false test times offset = refl

-- ---- the walk
module _ (first old : Walk) (front : Front) (t : TokenKind) (text behind : List ℕ) (h : HasWalked first front true old)
    (whole : front.behind ≡ text ++ behind) where
  abbrev z : Size
  z = first.size

  abbrev here : State
  here = final first.size (cleared first.size) front.tokens

  abbrev offset : ℕ
  offset = length (concat front.texts)

  found : (holds : Condition) (start at : ℕ) (times : Option Times) → at ≡ start + offset
      → times ≡ times_of (places holds z (cleared z) start front.tokens front.texts front.behind)
      → counted times (holds z here t behind) at
      ≡ times_of (places holds z (cleared z) start (front.tokens ++ t ∷ []) (front.texts ++ text ∷ []) behind)
  found holds start at times there e =
      let before : List ℕ = places holds z (cleared z) start front.tokens front.texts (text ++ behind) in
      ap₂ (λ (v : Option Times) (n : ℕ). counted v (holds z here t behind) n) (e ∙ ap (λ (b : List ℕ).
      times_of (places holds z (cleared z) start front.tokens front.texts b)) whole) there
      ∙ sym (ap times_of (places_more holds z (cleared z) start front.tokens t front.texts text behind h.texts)
      ∙ times_more before (holds z here t behind) (start + offset))

  written : written_after z (cleared z) 0 (nothing_written z) (front.tokens ++ t ∷ []) (front.texts ++ text ∷ [])
      ≡ written_with z here offset
      (written_after z (cleared z) 0 (nothing_written z) front.tokens front.texts) t
  written =
      let same : 0 + offset ≡ offset = omega arith in
      written_more z (cleared z) 0 (nothing_written z) front.tokens t front.texts text h.texts
      ∙ ap (λ (n : ℕ). written_with z here n
      (written_after z (cleared z) 0 (nothing_written z) front.tokens front.texts) t) same

  -- the loose line feeds that were found by a test, before the token
  loose_at : (test : List TokenKind → Bool) (times : Option Times)
      → times ≡ times_of (places_before test loose_line_feed z (cleared z) 0 front.tokens front.texts front.behind)
      → times ≡ times_of (places_before test loose_line_feed z (cleared z) 0 front.tokens front.texts (text ++ behind))
  loose_at test times e = e ∙ ap (λ (b : List ℕ).
      times_of (places_before test loose_line_feed z (cleared z) 0 front.tokens front.texts b)) whole

  loose : (if sets_column t then old.loose_before
      else counted old.hints.loose_line_feeds (loose_line_feed z here t behind) offset)
      ≡ times_of (places_before keeps_column loose_line_feed z (cleared z) 0 (front.tokens ++ t ∷ [])
      (front.texts ++ text ∷ []) behind)
  loose =
      ap₂ (λ (settled all : Option Times).
      if sets_column t then settled else counted all (loose_line_feed z here t behind) offset)
      (loose_at is_settled old.loose_before h.loose_before)
      (loose_at keeps_column old.hints.loose_line_feeds h.hints.loose_line_feeds)
      ∙ loose_more z (cleared z) front.tokens t front.texts text behind h.texts offset (omega arith)

  settled : loose_before_with old t
      ≡ times_of (places_before is_settled loose_line_feed z (cleared z) 0 (front.tokens ++ t ∷ [])
      (front.texts ++ text ∷ []) behind)
  settled =
      ap₂ (λ (all before : Option Times). if prints t then all else before)
      (loose_at keeps_column old.hints.loose_line_feeds h.hints.loose_line_feeds)
      (loose_at is_settled old.loose_before h.loose_before)
      ∙ settled_so z (cleared z) front.tokens t front.texts text behind h.texts

  hints_more : AreHints z first.non_blink (front.tokens ++ t ∷ []) (front.texts ++ text ∷ []) behind
      (hints_with (record old { size = z; non_blink = first.non_blink }) here offset t behind)
  hints_more = record {
    loose_line_feeds = loose;
    row_ends =
        ap₂ (λ (row : Row) (ends : RowEnds). row_ends_with z here offset row ends t) h.row h.hints.row_ends
        ∙ sym (ap (λ (w : Written). w.ends) written);
    wide_characters = found wide_character 0 offset _ (omega arith) h.hints.wide_characters;
    two_byte_letters = found two_byte_letter 1 (offset + 1) _ (omega arith) h.hints.two_byte_letters;
    latin_letters = found latin_letter 1 (offset + 1) _ (omega arith) h.hints.latin_letters;
    board_codes = found board_code 0 offset _ (omega arith) h.hints.board_codes;
    later_colours = found later_colours 0 offset _ (omega arith) h.hints.later_colours;
    off_switches = found off_switches 0 offset _ (omega arith) h.hints.off_switches;
    blinking_glyphs =
        ap (λ (v : Option Times). counted v (not first.non_blink && blinking_glyph z here t behind) offset)
        h.hints.blinking_glyphs
        ∙ sym (unless first.non_blink (blinking_glyph z here t behind) _ offset)
        ∙ ap (λ (v : Option Times). if first.non_blink then None else v)
        (found blinking_glyph 0 offset _ (omega arith) refl);
    seen_glyphs = found seen_glyph 0 offset _ (omega arith) h.hints.seen_glyphs;
    dark_glyphs = found dark_glyph 0 offset _ (omega arith) h.hints.dark_glyphs;
    empty_rows = ap (λ (n : ℕ). empty_with z here n t) h.hints.empty_rows
        ∙ sym (empty_more z (cleared z) z.lines front.tokens t);
  }

  -- over one token more
  pub walked_token : (new : Walk) (start : ℕ) → start ≡ offset → GoesOver old new start t behind
      → HasWalked first (front_with front t text behind) true new
  walked_token new start at over =
      let is : new.hints ≡ hints_with (record old { size = z; non_blink = first.non_blink }) here offset t behind =
      rw (h.size, h.non_blink, at) at (over.hints here h.pen) in
      record {
        never_stops = refl;
        size = over.size ∙ h.size;
        non_blink = over.non_blink ∙ h.non_blink;
        texts = omega (arith, h.texts, length-append front.texts (text ∷ []), length-append front.tokens (t ∷ []));
        row = rw (h.size, at) at (over.row here h.pen)
            ∙ ap (λ (row : Row). row_with z here offset row t) h.row ∙ sym (ap (λ (w : Written). w.row) written);
        pen = subst (λ (y : Size). new.pen ≡ pen_of (step y here t)) h.size (over.pen here h.pen)
            ∙ ap pen_of (sym (fold-append (step z) (cleared z) front.tokens (t ∷ [])));
        loose_before = over.loose_before ∙ settled;
        hints = subst (AreHints z first.non_blink (front.tokens ++ t ∷ []) (front.texts ++ text ∷ []) behind)
            (sym is) hints_more;
      }

-- no more was counted than the bytes up to a later offset
pub is_at_later : (walk : Walk) (n m : ℕ) → IsAt walk n → n ≤ m → IsAt walk m
is_at_later walk n m h later =
    let w = h.within in
    record {
      stands = h.stands;
      within = record {
        loose_line_feeds = omega (arith, w.loose_line_feeds, later);
        row_ends = record {
          full = omega (arith, w.row_ends.full, later);
          line_ends = omega (arith, w.row_ends.line_ends, later);
          ended = omega (arith, w.row_ends.ended, later);
          ended_before = omega (arith, w.row_ends.ended_before, later);
          over = omega (arith, w.row_ends.over, later);
          overprints = omega (arith, w.row_ends.overprints, later);
        };
        wide_characters = omega (arith, w.wide_characters, later);
        two_byte_letters = omega (arith, w.two_byte_letters, later);
        latin_letters = omega (arith, w.latin_letters, later);
        board_codes = omega (arith, w.board_codes, later);
        later_colours = omega (arith, w.later_colours, later);
        off_switches = omega (arith, w.off_switches, later);
        blinking_glyphs = omega (arith, w.blinking_glyphs, later);
        seen_glyphs = omega (arith, w.seen_glyphs, later);
        dark_glyphs = omega (arith, w.dark_glyphs, later);
      };
      loose_before = omega (arith, h.loose_before, later);
      wraps = omega (arith, h.wraps, later);
    }

-- over the first bytes of a content
pub walked_hints : (content : List ℕ) (end : ℕ) (first now : Walk) (result : Result Bool Fault)
    (tokens : List TokenKind) (texts : List (List ℕ))
    → WalksTo (λ first front now goes_on. HasWalked first front goes_on now) content end first now result
    → ReadsAs (take end content) tokens texts
    → AreHints first.size first.non_blink tokens texts (drop end content) now.hints
walked_hints content end first now result tokens texts h reads =
    (walked_whole _ content end first now result tokens texts (λ front stops. false≢true stops.never_stops) h
    reads).hints
