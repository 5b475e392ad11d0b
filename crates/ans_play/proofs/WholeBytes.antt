-- Bytes that are read as tokens to their end: they are good where the tokens are clean and each stated cell is known.
use Rattle.std.proofs.Common.{◌≡◌, ◌⊎◌, inl, inr, ℕ, ◌*◌, true, List, Option, Some, None, refl, subst}
use Rattle.std.specs.List.{list_all}
use Rattle.ans_model.specs.Sequence.TokenKind.{TokenKind}
use Rattle.ans_model.specs.Sequence.Reads.{Reads}
use Rattle.ans_model.specs.Screen.State.{Size, IsSize}
use Rattle.ans_model.specs.declared.start.Start.{Start}
use Rattle.ans_model.specs.declared.fault.Fault.{Fault}
use Rattle.ans_model.specs.Verdict.TokenFault.{IsClean}
use Rattle.ans_model.specs.Verdict.Good.{GoodWith, IsGood}
use Rattle.ans_model.specs.Verdict.LastFault.{IsLastFault}
use Rattle.ans_model.proofs.OneAnswer.{well_is_clean, good_or_last}
use Rattle.ans_model.proofs.Reading.{one_reading, reads_bytes}
use Rattle.ans_screen.specs.HalfCells.{is_known}
use Rattle.ans_screen.specs.GridEdits.{first_unknown}
use Rattle.ans_play.specs.HalfState.{HalfState}
use Rattle.ans_play.specs.Shown.{stated_cells, picture_of}
use Rattle.ans_play.specs.Stands.{IsKnownAfter}
use Rattle.ans_play.proofs.Finishing.{good_where_known, last_where_unknown, known_if, no_cell}
use Rattle.ans_play.proofs.KnownCells.{found_unknown}
use Rattle.ans_play.proofs.TwoStarts.{clean_or_faulty}

-- each stated cell is known
abbrev pub IsAllKnown : Size → HalfState → Type 0
IsAllKnown z h = list_all is_known (stated_cells z h.screen) ≡ true

module _ (z : Size) (class : Start) (size : IsSize z) (bytes : List ℕ) (tokens : List TokenKind)
    (reads : Reads bytes tokens) where
  module _ (clean : IsClean z class tokens) (h : HalfState) (known : IsKnownAfter z class tokens h) where
    -- where all is known the bytes are good
    pub good_if_known : IsAllKnown z h → GoodWith z class bytes (picture_of z h.screen)
    good_if_known all = good_where_known z class bytes tokens h size reads clean known all

    found_or_last : (o : Option ℕ) → first_unknown h.screen (z.lines * z.width) ≡ o →
        IsAllKnown z h ⊎ ((f : Fault) × IsLastFault z class bytes f)
    found_or_last None none = inl (known_if h.screen (z.lines * z.width) none)
    found_or_last (Some i) some =
        inr (
          _,
          inr (last_where_unknown z class bytes tokens h size reads clean known i
              (found_unknown h.screen (z.lines * z.width) i no_cell some)),
        )

    -- all is known, or the bytes have a last fault
    pub known_or_last : IsAllKnown z h ⊎ ((f : Fault) × IsLastFault z class bytes f)
    known_or_last = found_or_last (first_unknown h.screen (z.lines * z.width)) refl

    -- of good bytes all is known
    pub known_if_good : IsGood z class bytes → IsAllKnown z h
    known_if_good good = elim known_or_last [
      | inl all ↦ all
      | inr last ↦ absurd (good_or_last z class bytes last.0 good last.1)
    ]

  -- the tokens of good bytes are clean
  pub good_is_clean : IsGood z class bytes → IsClean z class tokens
  good_is_clean (picture, good) =
      subst (λ (ts : List TokenKind). IsClean z class ts) (one_reading bytes good.tokens tokens good.reads reads)
      (well_is_clean z class good.tokens size.some_columns good.plays)

  -- the bytes are good or not
  pub good_or_not : IsGood z class bytes ⊎ ¬ IsGood z class bytes
  good_or_not = elim (clean_or_faulty z class size.some_columns tokens (reads_bytes bytes tokens reads)) [
    | inl c ↦ elim (known_or_last c.0 c.1.0 c.1.1) [
      | inl all ↦ inl (picture_of z c.1.0.screen, good_if_known c.0 c.1.0 c.1.1 all)
      | inr last ↦ inr (λ good. good_or_last z class bytes last.0 good last.1)
    ]
    | inr b ↦ inr (λ good. good_is_clean good b.index b.cause (b.token, b.here, b.fault))
  ]
