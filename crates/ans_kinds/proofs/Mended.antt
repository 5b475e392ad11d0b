-- Content behind the mending.
use Rattle.std.proofs.Common.{◌≡◌, ◌⊎◌, inl, inr, ℕ, zero, suc, true, List, [], ◌∷◌, ◌++◌, refl, ap}
use Rattle.std.proofs.Common.{sym, ◌∙◌, Some, arith, take}
use Rattle.std.specs.Prelude.{slice_get}
use Rattle.ans_model.specs.declared.fault.Cause.{Cause}
use Rattle.ans_model.specs.Sequence.TokenKind.{TokenKind, Glyph, LineFeed, Tab, EraseLine, Clear, Place, Save}
use Rattle.ans_model.specs.Sequence.TokenKind.{Colours, Wrap}
use Rattle.ans_model.specs.Sequence.Reads.{Reads, ReadsAs}
use Rattle.ans_model.specs.Screen.State.{Size, IsSize, State, cell_at}
use Rattle.ans_model.specs.Screen.Step.{final}
use Rattle.ans_model.specs.declared.cell.Position.{Position}
use Rattle.ans_model.specs.Screen.StartClass.{IsStart, cleared, all_known, none_known}
use Rattle.ans_model.specs.Verdict.Good.{Picture, PlaysWell, PrintsWell, Shows}
use Rattle.ans_model.specs.Verdict.TokenFault.{FromEvery, FromSome, HasStaticFault, IsInSpareRow, SamePosition}
use Rattle.ans_model.specs.Verdict.TokenFault.{TabGoesOn, then_blanks}
use Rattle.ans_model.proofs.StartLemmas.{low_is_start}
use Rattle.ans_players.proofs.Spellings.{clear, home, save, reset_to_names, wrap_on}
use Rattle.ans_model.specs.Screen.Beginning.{mending, mending_texts, mending_tokens}
use Rattle.ans_model.proofs.BeginningLemmas.{leaves_cleared, place_is_within}
use Rattle.ans_kinds.specs.Mend.{MakesGood}

-- what is played behind the mending is played from the cleared state
pub behind_is_cleared : (z : Size) (s : State) (ts : List TokenKind)
    → final z s (mending_tokens ++ ts) ≡ final z (cleared z) ts
behind_is_cleared z s ts = ap (λ (v : State). final z v ts) (leaves_cleared z s)

-- ---- its bytes

-- what stands behind the mending is read behind its tokens
pub reads_as_behind : (content : List ℕ) (tokens : List TokenKind) (texts : List (List ℕ))
    → ReadsAs content tokens texts → ReadsAs (mending ++ content) (mending_tokens ++ tokens) (mending_texts ++ texts)
reads_as_behind content tokens texts h = record {
  each = (wrap_on, (reset_to_names, (clear, (home, (save, h.each)))));
  whole = ap (λ (v : List ℕ). mending ++ v) h.whole;
}

pub reads_behind : (content : List ℕ) (tokens : List TokenKind) → Reads content tokens
    → Reads (mending ++ content) (mending_tokens ++ tokens)
reads_behind content tokens h = (mending_texts ++ h.0, reads_as_behind content tokens h.0 h.1)

-- ---- its tokens

-- a token of the mending does nothing that could go wrong
abbrev IsQuiet : TokenKind → Type 0
IsQuiet (Glyph byte) = ⊥
IsQuiet LineFeed = ⊥
IsQuiet Tab = ⊥
IsQuiet EraseLine = ⊥
IsQuiet t = (z : Size) (cause : Cause) → IsSize z → ¬ HasStaticFault z t cause

-- a token stands in the content
record IsBehind (tokens : List TokenKind) (k : ℕ) (t : TokenKind) : Type 0 where
  j : ℕ
  there : slice_get tokens j ≡ Some t
  front : take k (mending_tokens ++ tokens) ≡ mending_tokens ++ take j tokens

quiet_or_behind : (tokens : List TokenKind) (k : ℕ) (t : TokenKind) → slice_get (mending_tokens ++ tokens) k ≡ Some t
    → IsQuiet t ⊎ IsBehind tokens k t
quiet_or_behind tokens zero t e = let same : t ≡ Wrap true = cc in inl (rw same (λ z cause some h. h))
quiet_or_behind tokens (suc zero) t e =
    let same : t ≡ Colours (0 ∷ 37 ∷ 40 ∷ []) = cc in inl (rw same (λ z cause some h. h))
quiet_or_behind tokens (suc (suc zero)) t e = let same : t ≡ Clear = cc in inl (rw same (λ z cause some h. h))
quiet_or_behind tokens (suc (suc (suc zero))) t e =
    let same : t ≡ Place 1 1 = cc in
    inl (rw same (λ z cause some. place_is_within z 1 cause (omega arith) some.some_columns))
quiet_or_behind tokens (suc (suc (suc (suc zero)))) t e =
    let same : t ≡ Save = cc in inl (rw same (λ z cause some h. h))
quiet_or_behind tokens (suc (suc (suc (suc (suc j))))) t e = inr (record { j = j; there = e; front = refl })

-- and has no fault of its own
quiet_has_none : (t : TokenKind) → IsQuiet t → (z : Size) (cause : Cause) → IsSize z → ¬ HasStaticFault z t cause
quiet_has_none (Glyph byte) h = absurd h
quiet_has_none LineFeed h = absurd h
quiet_has_none Tab h = absurd h
quiet_has_none EraseLine h = absurd h
quiet_has_none t h = h

-- what has to hold of a token behind the mending holds where it does of one of the content
of_content : (tokens : List TokenKind) (k : ℕ) (t : TokenKind) (P : List TokenKind → Type 0)
    → slice_get (mending_tokens ++ tokens) k ≡ Some t → (IsQuiet t → ⊥)
    → ((j : ℕ) → slice_get tokens j ≡ Some t → P (mending_tokens ++ take j tokens))
    → P (take k (mending_tokens ++ tokens))
of_content tokens k t P e loud h = go (quiet_or_behind tokens k t e)
  where
    go : IsQuiet t ⊎ IsBehind tokens k t → P (take k (mending_tokens ++ tokens))
    go (inl quiet) = absurd (loud quiet)
    go (inr b) = rw b.front (h b.j b.there)

module _ (z : Size) (is_size : IsSize z) (start : IsStart z all_known (cleared z)) where
  -- after the same tokens behind the mending, each start's cursor is the cleared start's
  one_cursor : (s : State) (played : List TokenKind)
      → (final z s (mending_tokens ++ played)).cursor ≡ (final z (cleared z) played).cursor
  one_cursor s played = ap (λ (v : State). v.cursor) (behind_is_cleared z s played)

  one_position : (played : List TokenKind) → SamePosition z none_known (mending_tokens ++ played)
  one_position played s t _ _ = one_cursor s played ∙ sym (one_cursor t played)

  never_in_spare_row : (played : List TokenKind) → FromEvery z all_known (λ s. ¬ IsInSpareRow z played s)
      → FromEvery z none_known (λ s. ¬ IsInSpareRow z (mending_tokens ++ played) s)
  never_in_spare_row played h s _ below =
      h (cleared z) start (sym (ap (λ (p : Position). p.row) (one_cursor s played)) ∙ below)

  prints_behind : (played : List TokenKind) → PrintsWell z all_known played
      → PrintsWell z none_known (mending_tokens ++ played)
  prints_behind played h = record {
    at_one_position = one_position played;
    never_below = never_in_spare_row played h.never_below;
  }

  plays_behind : (tokens : List TokenKind) → PlaysWell z all_known tokens
      → PlaysWell z none_known (mending_tokens ++ tokens)
  plays_behind tokens h = record {
    no_static_fault = λ k t cause e. none k t cause (quiet_or_behind tokens k t e);
    never_scrolls = λ k e. of_content tokens k LineFeed
        (λ played. FromEvery z none_known (λ s. ¬ IsInSpareRow z played s)) e (λ quiet. quiet)
        (λ j at. never_in_spare_row (take j tokens) (h.never_scrolls j at));
    prints_well = λ k byte e. of_content tokens k (Glyph byte) (PrintsWell z none_known) e (λ quiet. quiet)
        (λ j at. prints_behind (take j tokens) (h.prints_well j byte at));
    tabs_well = λ k n e. of_content tokens k Tab
        (λ played. FromSome z none_known (TabGoesOn z played n) → PrintsWell z none_known (then_blanks played n)) e
        (λ quiet. quiet)
        (λ j at some. prints_behind (then_blanks (take j tokens) n)
        (h.tabs_well j n at (cleared z, start, rw (one_cursor some.0 (take j tokens)) at some.2)));
    erases_at_one_position = λ k e. of_content tokens k EraseLine (SamePosition z none_known) e (λ quiet. quiet)
        (λ j at. one_position (take j tokens));
  }
    where
      none : (k : ℕ) (t : TokenKind) (cause : Cause) → IsQuiet t ⊎ IsBehind tokens k t → ¬ HasStaticFault z t cause
      none k t cause (inl quiet) = quiet_has_none t quiet z cause is_size
      none k t cause (inr b) = h.no_static_fault b.j t cause b.there

  shows_behind : (tokens : List TokenKind) (picture : Picture) → Shows z all_known tokens picture
      → Shows z none_known (mending_tokens ++ tokens) picture
  shows_behind tokens picture h = record {
    is_picture = h.is_picture;
    shown = λ s p _ stated. ap (λ (v : State). cell_at z v.screen p) (behind_is_cleared z s tokens)
        ∙ h.shown (cleared z) p start stated;
  }

pub makes_good : MakesGood
makes_good z content picture h =
    let start : IsStart z all_known (cleared z) = low_is_start z all_known h.size.some_columns in
    record {
      size = h.size;
      tokens = mending_tokens ++ h.tokens;
      reads = reads_behind content h.tokens h.reads;
      plays = plays_behind z h.size start h.tokens h.plays;
      shows = shows_behind z h.size start h.tokens picture h.shows;
    }
