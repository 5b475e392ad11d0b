-- Where tokens are clean, what they write to the screen they write in place.
use Rattle.std.proofs.Common.{◌≡◌, ◌≢◌, ◌+◌, Bool, true, false, refl, take, replicate}
use Rattle.std.proofs.lemmas.List.Sums.{fold-append}
use Rattle.std.specs.Prelude.{if◌then◌else◌, nat_lt}
use Rattle.std.proofs.lemmas.Bool.{ne_eqb}
use Rattle.ans_model.specs.Sequence.TokenKind.{Glyph, LineFeed, Tab}
use Rattle.ans_model.specs.Screen.State.{Size, State, at}
use Rattle.ans_model.specs.Bytes.{blank}
use Rattle.ans_model.specs.Screen.Step.{final, line_feed, advanced, printed, step}
use Rattle.ans_model.specs.Verdict.TokenFault.{IsClean, then_blanks}
use Rattle.ans_model.specs.Verdict.Good.{PrintsWell}
use Rattle.ans_laws.specs.StepLaws.{CleanNeverScrolls, GoodNeverScrolls, ScrollsAt}
use Rattle.ans_model.proofs.CleanLemmas.{no_feed_below, prints_well, tabs_well}
use Rattle.ans_model.proofs.Reading.{one_reading}
use Rattle.ans_model.proofs.OneAnswer.{well_is_clean}

-- above the spare row a line feed leaves the screen
feed_keeps : (z : Size) (s : State) → s.cursor.row ≢ z.lines → (line_feed z s).screen ≡ s.screen
feed_keeps z s n = rw (ne_eqb s.cursor.row z.lines n) refl

-- and so does what follows a printed byte
advance_keeps : (z : Size) (s : State) → s.cursor.row ≢ z.lines → (advanced z s).screen ≡ s.screen
advance_keeps z s n = go (nat_lt (s.cursor.column + 1) z.width) s.wrap
  where
    go : (b w : Bool)
        → (if b then record s { cursor = at s.cursor.row (s.cursor.column + 1) } else if w then line_feed z
        (record s { cursor = at s.cursor.row 0 }) else s).screen ≡ s.screen
    go true w = refl
    go false true = feed_keeps z (record s { cursor = at s.cursor.row 0 }) n
    go false false = refl

-- clean tokens write in place, from every start
pub clean_never_scrolls : CleanNeverScrolls
clean_never_scrolls z class tokens k LineFeed size clean e s start =
    let now : State = final z s (take k tokens) in
    let above : now.cursor.row ≢ z.lines = no_feed_below z class tokens clean k e s start in
    record { never_scrolls = above; in_place = λ n. feed_keeps z now above }
clean_never_scrolls z class tokens k (Glyph byte) size clean e s start =
    let now : State = final z s (take k tokens) in
    let above : now.cursor.row ≢ z.lines = (prints_well z class tokens clean k byte e).never_below s start in
    record {
      never_scrolls = λ scrolls. above scrolls.0;
      in_place = λ n. advance_keeps z (printed z now byte) above;
    }
clean_never_scrolls z class tokens k Tab size clean e s start =
    let now : State = final z s (take k tokens) in
    let never : ¬ ScrollsAt z now Tab = λ (n, goes_on, scrolls).
    let well : PrintsWell z class (then_blanks (take k tokens) n) =
    tabs_well z class tokens clean k n e (s, start, goes_on) in
    well.never_below s start (rw (fold-append (step z) s (take k tokens) (replicate n (Glyph blank))) scrolls.0) in
    record { never_scrolls = never; in_place = λ n. absurd (n refl) }
clean_never_scrolls z class tokens k _ size clean e s start = record { never_scrolls = λ h. h; in_place = λ n. refl }

-- the tokens of good content are clean
pub good_never_scrolls : GoodNeverScrolls
good_never_scrolls z class content tokens k t (picture, good) reads e =
    let same : good.tokens ≡ tokens = one_reading content good.tokens tokens good.reads reads in
    let clean : IsClean z class good.tokens = well_is_clean z class good.tokens good.size.some_columns good.plays in
    clean_never_scrolls z class tokens k t good.size (rw same at clean) e
