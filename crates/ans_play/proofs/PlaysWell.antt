-- Clean tokens play well.
use Rattle.std.proofs.Common.{List, inr, inl}
use Rattle.ans_model.specs.Sequence.TokenKind.{TokenKind, EraseLine}
use Rattle.ans_model.specs.Screen.State.{Size}
use Rattle.ans_model.specs.declared.start.Start.{Start}
use Rattle.ans_model.specs.Verdict.TokenFault.{IsClean}
use Rattle.ans_model.specs.declared.fault.Cause.TheVariants.{EraseUnknownPlace}
use Rattle.ans_model.specs.Verdict.Good.{PlaysWell}
use Rattle.ans_model.proofs.CleanLemmas as clean_lemmas

-- tokens without a fault play well
pub plays_well : (z : Size) (class : Start) (tokens : List TokenKind) → IsClean z class tokens →
    PlaysWell z class tokens
plays_well z class tokens clean = record {
  no_static_fault = λ k t cause e f. clean k cause (t, e, inl f);
  never_scrolls = clean_lemmas.no_feed_below z class tokens clean;
  prints_well = clean_lemmas.prints_well z class tokens clean;
  tabs_well = clean_lemmas.tabs_well z class tokens clean;
  erases_at_one_position = λ k e.
      clean_lemmas.at_one_position z class tokens clean k EraseLine EraseUnknownPlace e (λ n. inr n);
}
