-- A certain fault from the starts of a class is the fault from the cleared start.
use Rattle.std.proofs.Common.{◌≡◌, ◌⊎◌, inl, inr, ℕ, ◌<◌, List, take, Some}
use Rattle.std.specs.Prelude.{slice_get}
use Rattle.ans_model.specs.Sequence.TokenKind.{TokenKind, Glyph, LineFeed, EraseLine, Tab}
use Rattle.ans_model.specs.declared.fault.Fault.{Fault}
use Rattle.ans_model.specs.declared.fault.Cause.{Cause}
use Rattle.ans_model.specs.declared.fault.Cause.TheVariants.{PrintBelow, Scrolls, PrintUnknownPlace}
use Rattle.ans_model.specs.declared.fault.Cause.TheVariants.{EraseUnknownPlace, MayScroll}
use Rattle.ans_model.specs.declared.start.Start.{Start}
use Rattle.ans_model.specs.Screen.State.{Size, State}
use Rattle.ans_model.specs.Screen.StartClass.{all_known, cleared, IsStart}
use Rattle.ans_model.specs.Verdict.Certain.{IsCertain}
use Rattle.ans_model.specs.Verdict.Good.{PrintsWell}
use Rattle.ans_model.specs.Verdict.TokenFault.{HasPrintFault, HasTabFault, HasFaultAfter, HasFault, IsClean}
use Rattle.ans_model.specs.Verdict.TokenFault.{then_blanks}
use Rattle.ans_model.specs.Verdict.FirstFault.{IsToBlame, IsRefused, IsFirstFault}
use Rattle.ans_model.specs.Verdict.LastFault.{IsLastFault, IsDeserved}
use Rattle.ans_model.proofs.ClassLemmas.{covers_all_known, covers_starts}
use Rattle.ans_model.proofs.CleanLemmas as clean_lemmas
use Rattle.ans_play.proofs.MeetPlays.{cleared_is_start}
use Rattle.ans_verdict.specs.FileVerdict.{Deserves}
use Rattle.ans_verdict.proofs.PlayLemmas.{deserved}

module _ (z : Size) (class : Start) where
  -- the cleared start is one of the class
  in_class : (s : State) → IsStart z all_known s → IsStart z class s
  in_class s start = covers_starts z class all_known s (covers_all_known class) start

  -- ---- clean tokens
  -- a byte that is printed well from the class has no fault
  no_print_fault : (played : List TokenKind) (c : Cause) → 0 < z.width → PrintsWell z class played
      → ¬ HasPrintFault z all_known played c
  no_print_fault played PrintUnknownPlace w well f =
      f.4 (well.at_one_position f.0 f.1 (in_class f.0 f.2) (in_class f.1 f.3))
  no_print_fault played PrintBelow w well f =
      well.never_below (cleared z) (cleared_is_start z class w) (f.1 (cleared z) (cleared_is_start z all_known w))
  no_print_fault played _ w well f = f

  -- nor has a token among tokens that are clean from the class
  no_fault_after : (tokens : List TokenKind) → 0 < z.width → IsClean z class tokens → (k : ℕ) (t : TokenKind)
      (c : Cause) → slice_get tokens k ≡ Some t → ¬ HasFaultAfter z all_known (take k tokens) t c
  no_fault_after tokens w clean k (Glyph byte) c e f =
      no_print_fault (take k tokens) c w (clean_lemmas.prints_well z class tokens clean k byte e) f
  no_fault_after tokens w clean k Tab c e f =
      no_print_fault (then_blanks (take k tokens) f.blanks_before) c w
      (clean_lemmas.tabs_well z class tokens clean k f.blanks_before e (
        cleared z,
        cleared_is_start z class w,
        f.goes_on (cleared z) (cleared_is_start z all_known w),
      )) f.fault
  no_fault_after tokens w clean k EraseLine EraseUnknownPlace e f =
      f.4 (clean_lemmas.at_one_position z class tokens clean k EraseLine EraseUnknownPlace e (λ n. inr n) f.0 f.1
      (in_class f.0 f.2) (in_class f.1 f.3))
  no_fault_after tokens w clean k LineFeed Scrolls e f =
      clean_lemmas.no_feed_below z class tokens clean k e (cleared z) (cleared_is_start z class w)
      (f (cleared z) (cleared_is_start z all_known w))
  no_fault_after tokens w clean k LineFeed MayScroll e f =
      clean_lemmas.no_feed_below z class tokens clean k e f.0.0 (in_class f.0.0 f.0.1) f.0.2
  no_fault_after tokens w clean k _ _ e f = f

  -- so they are clean from the cleared start
  clean_from_cleared : (tokens : List TokenKind) → 0 < z.width → IsClean z class tokens → IsClean z all_known tokens
  clean_from_cleared tokens w clean k c (t, e, inl f) = clean k c (t, e, inl f)
  clean_from_cleared tokens w clean k c (t, e, inr f) = no_fault_after tokens w clean k t c e f

  -- ---- the token to blame
  print_from_cleared : (played : List TokenKind) (c : Cause) → IsCertain c → HasPrintFault z class played c
      → HasPrintFault z all_known played c
  print_from_cleared played PrintUnknownPlace certain f = absurd certain
  print_from_cleared played PrintBelow certain f = (
    λ s t start_s start_t. f.0 s t (in_class s start_s) (in_class t start_t),
    λ s start. f.1 s (in_class s start),
  )
  print_from_cleared played _ certain f = f

  tab_from_cleared : (played : List TokenKind) (c : Cause) → 0 < z.width → IsCertain c
      → HasTabFault z class played c → HasTabFault z all_known played c
  tab_from_cleared played c w certain f = record {
    blanks_before = f.blanks_before;
    goes_on = λ s start. f.goes_on s (in_class s start);
    earlier = λ n d less. no_print_fault (then_blanks played n) d w
        (clean_lemmas.printed_well z class (then_blanks played n) (λ b. f.earlier n b less));
    fault = print_from_cleared (then_blanks played f.blanks_before) c certain f.fault;
  }

  after_from_cleared : (played : List TokenKind) (t : TokenKind) (c : Cause) → 0 < z.width → IsCertain c
      → HasFaultAfter z class played t c → HasFaultAfter z all_known played t c
  after_from_cleared played (Glyph byte) c w certain f = print_from_cleared played c certain f
  after_from_cleared played Tab c w certain f = tab_from_cleared played c w certain f
  after_from_cleared played EraseLine EraseUnknownPlace w certain f = absurd certain
  after_from_cleared played LineFeed Scrolls w certain f = λ s start. f s (in_class s start)
  after_from_cleared played LineFeed MayScroll w certain f = absurd certain
  after_from_cleared played _ _ w certain f = f

  -- a certain fault of a token is its fault from the cleared start
  fault_from_cleared : (played : List TokenKind) (t : TokenKind) (c : Cause) → 0 < z.width → IsCertain c
      → HasFault z class played t c → HasFault z all_known played t c
  fault_from_cleared played t c w certain (inl f) = inl f
  fault_from_cleared played t c w certain (inr f) = inr (after_from_cleared played t c w certain f)

  blame_from_cleared : (played : List TokenKind) (text : List ℕ) (c : Cause) → 0 < z.width → IsCertain c
      → IsToBlame z class played text c ⊎ IsRefused text c → IsToBlame z all_known played text c ⊎ IsRefused text c
  blame_from_cleared played text c w certain (inl b) = inl (record {
    token = b.token;
    spelled = b.spelled;
    fault = fault_from_cleared played b.token c w certain b.fault;
  })
  blame_from_cleared played text c w certain (inr r) = inr r

  -- ---- the bytes
  first_from_cleared : (bytes : List ℕ) (fault : Fault) → IsCertain fault.cause → IsFirstFault z class bytes fault
      → IsFirstFault z all_known bytes fault
  first_from_cleared bytes fault certain h = record {
    size = h.size;
    front = h.front;
    text = h.text;
    rest = h.rest;
    whole = h.whole;
    tokens = h.tokens;
    reads = h.reads;
    clean = clean_from_cleared h.tokens h.size.some_columns h.clean;
    offset = h.offset;
    faulty = blame_from_cleared h.tokens h.text fault.cause h.size.some_columns certain h.faulty;
  }

  last_from_cleared : (bytes : List ℕ) (fault : Fault) → IsCertain fault.cause → IsLastFault z class bytes fault
      → IsLastFault z all_known bytes fault
  last_from_cleared bytes fault certain (inl h) = inl (record {
    size = h.size;
    front = h.front;
    text = h.text;
    whole = h.whole;
    tokens = h.tokens;
    reads = h.reads;
    clean = clean_from_cleared h.tokens h.size.some_columns h.clean;
    unfinished = h.unfinished;
    fault_is = h.fault_is;
  })
  last_from_cleared bytes fault certain (inr h) = absurd (let no : ⊥ = rw h.fault_is at certain in no)

  first_or_last : (bytes : List ℕ) (fault : Fault) → IsCertain fault.cause → IsDeserved z class bytes fault
      → IsDeserved z all_known bytes fault
  first_or_last bytes fault certain (inl first) = inl (first_from_cleared bytes fault certain first)
  first_or_last bytes fault certain (inr last) = inr (last_from_cleared bytes fault certain last)

  -- a certain fault that bytes deserve from the class they deserve from the cleared start
  pub certain_from_cleared : (bytes : List ℕ) (fault : Fault) → IsCertain fault.cause → Deserves z class bytes fault
      → Deserves z all_known bytes fault
  certain_from_cleared bytes fault certain d =
      deserved z all_known bytes fault (first_or_last bytes fault certain d.deserved)
