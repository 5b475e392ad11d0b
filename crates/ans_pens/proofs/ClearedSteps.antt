-- From the cleared start tokens are clean where each has room.
use Rattle.std.proofs.Common.{◌≡◌, inl, inr, ◌+◌, ◌-◌, ◌<◌, ℕ, List, [], ◌∷◌, ◌++◌, length, ap, arith}
use Rattle.std.proofs.Common.{subst, fold, replicate}
use Rattle.std.proofs.lemmas.Bool.{cases_lt}
use Rattle.ans_model.specs.Bytes.{blank}
use Rattle.ans_model.specs.declared.fault.Cause.{Cause}
use Rattle.ans_model.specs.declared.fault.Cause.TheVariants.{PrintUnknownPlace, PrintBelow, EraseUnknownPlace, Scrolls}
use Rattle.ans_model.specs.declared.fault.Cause.TheVariants.{MayScroll, OutsideScreen, KeyReassigned, ScreenMode}
use Rattle.ans_model.specs.declared.fault.Cause.TheVariants.{ReportAsked}
use Rattle.ans_model.specs.Sequence.TokenKind.{TokenKind, Glyph, LineFeed, EraseLine, Tab, Place, Mode, Keys, Ask}
use Rattle.ans_model.specs.Screen.State.{Size, State}
use Rattle.ans_model.specs.Screen.Step.{final, put, tab_blanks}
use Rattle.ans_model.specs.Screen.StartClass.{IsStart, all_known, cleared}
use Rattle.ans_model.specs.Verdict.TokenFault.{HasFault, HasFaultAfter, HasPrintFault, HasStaticFault, IsClean}
use Rattle.ans_model.specs.Verdict.TokenFault.{PositionsDiffer, then_blanks}
use Rattle.ans_model.proofs.CleanLemmas.{some_blanks}
use Rattle.ans_model.proofs.OneCause.{cleared_is_one}
use Rattle.ans_model.proofs.StartLemmas.{low_is_start}
use Rattle.ans_model.proofs.TabLemmas.{final_then_blanks}
use Rattle.ans_pens.proofs.PenSteps.{more_blanks_lower}
use Rattle.ans_play.proofs.Clean.{clean_more}
use Rattle.ans_pens.specs.Walkers.{IsFaultless}
use Rattle.ans_pens.specs.CellPlays.{WritesAbove}
use Rattle.ans_pens.proofs.CleanSteps.{slice_get_last, writes_above}

-- before each blank of a tab the cursor stands above the spare row where it does before the last
pub blanks_have_room : (z : Size) (s : State) (n : ℕ) → IsFaultless z s Tab → n < tab_blanks s.cursor.column
    → (fold (put z) s (replicate n blank)).cursor.row < z.lines
blanks_have_room z s n room lt =
    omega (arith, room, more_blanks_lower z s n (tab_blanks s.cursor.column - 1) (omega (arith, lt)))

module _ (z : Size) (some : 0 < z.width) where
  cleared_start : IsStart z all_known (cleared z)
  cleared_start = low_is_start z all_known some

  -- the play of tokens from the cleared start
  abbrev here : List TokenKind → State
  here played = final z (cleared z) played

  none_differ : (played : List TokenKind) → ¬ PositionsDiffer z all_known played
  none_differ played h = h.4 (ap (λ (s : State). (final z s played).cursor) (cleared_is_one z h.0 h.1 h.2 h.3))

  -- a byte above the spare row has no fault
  print_has_none : (played : List TokenKind) → (here played).cursor.row < z.lines → (cause : Cause)
      → ¬ HasPrintFault z all_known played cause
  print_has_none played above PrintUnknownPlace f = none_differ played f
  print_has_none played above PrintBelow f = let below = f.1 (cleared z) cleared_start in omega (arith, above, below)
  print_has_none played above _ f = f

  room_has_none : (played : List TokenKind) (t : TokenKind) → IsFaultless z (here played) t → (cause : Cause)
      → ¬ HasFaultAfter z all_known played t cause
  room_has_none played (Glyph byte) room cause f = print_has_none played room cause f
  room_has_none played Tab room cause f =
      let above = blanks_have_room z (here played) f.blanks_before room (f.goes_on (cleared z) cleared_start) in
      print_has_none (then_blanks played f.blanks_before)
      (rw (final_then_blanks z (cleared z) played f.blanks_before) above) cause f.fault
  room_has_none played EraseLine room EraseUnknownPlace f = none_differ played f
  room_has_none played LineFeed room Scrolls f =
      let below = f (cleared z) cleared_start in omega (arith, room, below)
  room_has_none played LineFeed room MayScroll f =
      let there = subst (λ (s : State). (final z s played).cursor.row ≡ z.lines)
      (cleared_is_one z f.0.0 (cleared z) f.0.1 cleared_start) f.0.2 in
      omega (arith, room, there)
  room_has_none played _ room _ f = f

  room_has_no_static : (s : State) (t : TokenKind) → IsFaultless z s t → (cause : Cause) → ¬ HasStaticFault z t cause
  room_has_no_static s (Place row column) room OutsideScreen (inl below) =
      let no : ⊥ = omega (arith, room.0, below) in no
  room_has_no_static s (Place row column) room OutsideScreen (inr right) =
      let no : ⊥ = omega (arith, room.1, right) in no
  room_has_no_static s Keys room cause f = room
  room_has_no_static s Mode room cause f = room
  room_has_no_static s Ask room cause f = room
  room_has_no_static s _ room _ f = f

  -- one token more that has room is clean
  pub clean_with : (played : List TokenKind) (t : TokenKind) → IsClean z all_known played
      → IsFaultless z (here played) t
      → IsClean z all_known (played ++ t ∷ [])
  clean_with played t clean room = clean_more z all_known played t clean none
    where
      none : (cause : Cause) → ¬ HasFault z all_known played t cause
      none cause (inl f) = room_has_no_static (here played) t room cause f
      none cause (inr f) = room_has_none played t room cause f

  -- the last of clean tokens had room
  pub clean_had_room : (played : List TokenKind) (t : TokenKind) → IsClean z all_known (played ++ t ∷ [])
      → IsFaultless z (here played) t
  clean_had_room played t clean =
      go t (writes_above z all_known played some (cleared z) cleared_start t clean)
      (λ cause f. clean (length played) cause (t, slice_get_last played t, inl f))
    where
      go : (t : TokenKind) → WritesAbove z (here played) t → ((cause : Cause) → ¬ HasStaticFault z t cause)
          → IsFaultless z (here played) t
      go (Glyph byte) above none = above
      go LineFeed above none = above
      go Tab above none =
          let c = (here played).cursor.column in above (tab_blanks c - 1) (omega (arith, some_blanks c))
      go (Place row column) above none = (
        elim (cases_lt (z.lines + 1) row) [
          | inl below ↦ absurd (none OutsideScreen (inl below))
          | inr within ↦ within
        ],
        elim (cases_lt z.width column) [
          | inl right ↦ absurd (none OutsideScreen (inr right))
          | inr within ↦ within
        ],
      )
      go Keys above none = none KeyReassigned tt
      go Mode above none = none ScreenMode tt
      go Ask above none = none ReportAsked tt
      go _ above none = tt
