-- Where a half-known state shows no fault at a token, the token is allowed and has none.
use Rattle.std.proofs.Common.{◌≡◌, ℕ, ◌+◌, ◌<◌, Bool, true, false, refl, arith, List, [], ◌∷◌, ◌++◌, Some, None, inl}
use Rattle.std.proofs.Common.{inr}
use Rattle.std.specs.Prelude.{◌||◌, ◌⊎◌, if◌then◌else◌, nat_lt, ◌==◌}
use Rattle.std.proofs.lemmas.Bool.{ltb-true, ltb-false, lt-ltb, ne_eqb}
use Rattle.ans_model.specs.Sequence.TokenKind.{TokenKind, Glyph, LineFeed, Tab, Place, EraseLine, Mode, Keys, Ask}
use Rattle.ans_model.specs.Sequence.TokenKind.{PrintsByte}
use Rattle.ans_model.specs.Screen.State.{Size}
use Rattle.ans_model.specs.Screen.StartClass.{low_start}
use Rattle.ans_model.specs.declared.start.Start.{Start}
use Rattle.ans_model.specs.Verdict.TokenFault.{HasStaticFault, HasFaultAfter, HasFault}
use Rattle.ans_model.specs.declared.fault.Cause.{Cause}
use Rattle.ans_model.specs.declared.fault.Cause.TheVariants.{OutsideScreen, Scrolls, EraseUnknownPlace, MayScroll}
use Rattle.ans_model.proofs.StartLemmas.{low_is_start}
use Rattle.ans_play.specs.HalfState.{HalfState}
use Rattle.ans_play.specs.HalfFault.{half_fault, is_one_position}
use Rattle.ans_play.specs.Stands.{IsKnownAfter}
use Rattle.ans_play.specs.HalfStep.{half_step}
use Rattle.ans_play.proofs.Allowed.{IsOneStep, IsAllowed}
use Rattle.ans_play.proofs.KnownAfter.{known_more}
use Rattle.ans_play.proofs.PrintFaults.{print_is_allowed, print_has_no_fault}
use Rattle.ans_play.proofs.Tabs.{tab_has_no_fault, known_tab}
use Rattle.ans_play.proofs.Positions.{one_position_if, one_position_then, positions_agree, agree_or_differ}
use Rattle.ans_play.proofs.Positions.{none_in_spare_row}

module _ (z : Size) (class : Start) (played : List TokenKind) (h : HalfState) (w : 0 < z.width)
    (st : IsKnownAfter z class played h) where
  -- where it shows none, the token is allowed
  erase_is_allowed : (p : Bool) → is_one_position h.cursor ≡ p → (if p then None else Some EraseUnknownPlace) ≡ None →
      IsAllowed z h EraseLine
  erase_is_allowed true one e = one_position_if h.cursor one
  erase_is_allowed false one e = absurd (cc)

  line_feed_is_allowed : (p q : Bool) → nat_lt h.cursor.high.row z.lines ≡ p →
      (if p then None else if q then Some Scrolls else Some MayScroll) ≡ None → IsAllowed z h LineFeed
  line_feed_is_allowed true q above e = ltb-true h.cursor.high.row z.lines above
  line_feed_is_allowed false true above e = absurd (cc)
  line_feed_is_allowed false false above e = absurd (cc)

  -- so each token is allowed that is played as one step
  pub token_is_allowed : (t : TokenKind) → IsOneStep t → half_fault z h t ≡ None → IsAllowed z h t
  token_is_allowed (Glyph b) one e =
      let ok = print_is_allowed z class played h w st e in
      (ok.one, ok.above)
  token_is_allowed Tab one e = absurd one
  token_is_allowed EraseLine one e = erase_is_allowed (is_one_position h.cursor) refl e
  token_is_allowed LineFeed one e = line_feed_is_allowed (nat_lt h.cursor.high.row z.lines)
      (h.cursor.low.row == z.lines) refl e
  token_is_allowed _ one e = tt

  -- and has no fault
  place_on_screen : (row column : ℕ) (p q : Bool) → nat_lt (z.lines + 1) row ≡ p → nat_lt z.width column ≡ q →
      (if p || q then Some OutsideScreen else None) ≡ None → ¬ ((z.lines + 1 < row) ⊎ (z.width < column))
  place_on_screen row column true q r c e f = cc
  place_on_screen row column false true r c e f = cc
  place_on_screen row column false false r c e (inl f) = omega (arith, ltb-false (z.lines + 1) row r)
  place_on_screen row column false false r c e (inr f) = omega (arith, ltb-false z.width column c)

  -- an allowed token has none of the faults that depend on the start
  erase_has_no_fault : (cause : Cause) → IsAllowed z h EraseLine → ¬ HasFaultAfter z class played EraseLine cause
  erase_has_no_fault EraseUnknownPlace ok f =
      agree_or_differ z class played (positions_agree z class played h st (one_position_then h.cursor ok)) f
  erase_has_no_fault _ ok f = f

  line_feed_has_no_fault : (cause : Cause) → IsAllowed z h LineFeed → ¬ HasFaultAfter z class played LineFeed cause
  line_feed_has_no_fault Scrolls ok f = none_in_spare_row z class played h w st ok (low_start z class)
      (low_is_start z class w) (f (low_start z class) (low_is_start z class w))
  line_feed_has_no_fault MayScroll ok f = none_in_spare_row z class played h w st ok f.0.0 f.0.1 f.0.2
  line_feed_has_no_fault _ ok f = f

  place_has_no_fault : (row column : ℕ) (cause : Cause) → half_fault z h (Place row column) ≡ None →
      ¬ HasStaticFault z (Place row column) cause
  place_has_no_fault row column OutsideScreen e f =
      place_on_screen row column (nat_lt (z.lines + 1) row) (nat_lt z.width column) refl refl e f
  place_has_no_fault row column _ e f = f

  -- so no token has a fault
  pub token_has_no_fault : (t : TokenKind) (cause : Cause) → half_fault z h t ≡ None → ¬ HasFault z class played t cause
  token_has_no_fault (Glyph b) cause e (inl f) = f
  token_has_no_fault (Glyph b) cause e (inr f) = print_has_no_fault z class played h w st cause e f
  token_has_no_fault Tab cause e (inl f) = f
  token_has_no_fault Tab cause e (inr f) = tab_has_no_fault z class played h w st cause e f
  token_has_no_fault EraseLine cause e (inl f) = f
  token_has_no_fault EraseLine cause e (inr f) = erase_has_no_fault cause (token_is_allowed EraseLine tt e) f
  token_has_no_fault LineFeed cause e (inl f) = f
  token_has_no_fault LineFeed cause e (inr f) = line_feed_has_no_fault cause (token_is_allowed LineFeed tt e) f
  token_has_no_fault (Place row column) cause e (inl f) = place_has_no_fault row column cause e f
  token_has_no_fault (Place row column) cause e (inr f) = f
  token_has_no_fault Keys cause e f = cc
  token_has_no_fault Mode cause e f = cc
  token_has_no_fault Ask cause e f = cc
  token_has_no_fault _ cause e (inl f) = f
  token_has_no_fault _ cause e (inr f) = f

  -- and what is known after it is its half step
  pub known_next : (t : TokenKind) → PrintsByte t → half_fault z h t ≡ None →
      IsKnownAfter z class (played ++ t ∷ []) (half_step z h t)
  known_next Tab byte e = known_tab z class played h w st e
  known_next t byte e = known_more z class played h t w byte st (token_is_allowed t tt e)

-- a token that is allowed shows no fault, where it shows none that depends on the token alone
pub allowed_shows_none : (z : Size) (g h : HalfState) (t : TokenKind) → IsAllowed z h t → half_fault z g t ≡ None →
    half_fault z h t ≡ None
allowed_shows_none z g h (Glyph byte) k e =
    rw (one_position_then h.cursor k.0, ne_eqb h.cursor.low.row z.lines (λ e. omega (arith, e, k.1))) refl
allowed_shows_none z g h EraseLine k e = rw (one_position_then h.cursor k) refl
allowed_shows_none z g h LineFeed k e = rw (lt-ltb h.cursor.high.row z.lines k) refl
allowed_shows_none z g h Tab k e = absurd k
allowed_shows_none z g h (Place row column) k e = e
allowed_shows_none z g h Keys k e = e
allowed_shows_none z g h Mode k e = e
allowed_shows_none z g h Ask k e = e
allowed_shows_none z g h _ k e = refl
