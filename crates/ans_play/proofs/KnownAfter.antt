-- What is known of a state stays known.
use Rattle.std.proofs.Common.{◌≡◌, ◌<◌, sym, ap, ◌∙◌, List, [], ◌∷◌, ◌++◌, subst}
use Rattle.std.proofs.lemmas.List.Sums.{fold-append}
use Rattle.ans_model.specs.Sequence.TokenKind.{TokenKind, PrintsByte}
use Rattle.ans_model.specs.Screen.State.{Size, State}
use Rattle.ans_model.specs.Screen.Step.{step, final}
use Rattle.ans_model.specs.Screen.StartClass.{low_start, high_start}
use Rattle.ans_model.specs.declared.start.Start.{Start}
use Rattle.ans_model.proofs.StartLemmas.{low_is_start, high_is_start}
use Rattle.ans_model.proofs.WellFormed.{well_formed_after_step}
use Rattle.ans_play.specs.HalfState.{HalfState}
use Rattle.ans_play.specs.HalfStart.{half_start}
use Rattle.ans_play.specs.Hull.{whole}
use Rattle.ans_play.specs.HalfStep.{half_step}
use Rattle.ans_play.specs.Stands.{IsKnownAfter}
use Rattle.ans_play.proofs.Allowed.{IsAllowed}
use Rattle.ans_play.proofs.Describing.{step_describes}
use Rattle.ans_play.proofs.HullSteps.{whole_fits, hull_step}
use Rattle.ans_play.proofs.HullOfStarts.{half_start_is_hull, start_describes}
use Rattle.ans_play.proofs.MeetSteps.{FitsHalf, meet_fits}

-- at the start
pub known_at_start : (z : Size) (class : Start) → IsKnownAfter z class [] (half_start z class)
known_at_start z class = record {
  is_hull = half_start_is_hull z class;
  describes = start_describes z class;
  well_formed = λ s h. h.well_formed;
}

-- what is known is of a machine's state
pub known_fits : (z : Size) (class : Start) (played : List TokenKind) (h : HalfState) → 0 < z.width →
    IsKnownAfter z class played h → FitsHalf z h
known_fits z class played h w st =
    let low : State = final z (low_start z class) played in
    let high : State = final z (high_start z class) played in
    subst (λ (k : HalfState). FitsHalf z k) (sym st.is_hull)
    (meet_fits z (whole low) (whole high) (whole_fits z low (st.well_formed _ (low_is_start z class w)))
    (whole_fits z high (st.well_formed _ (high_is_start z class w))))

-- one more token is one more step
final_more : (z : Size) (s : State) (played : List TokenKind) (t : TokenKind) →
    final z s (played ++ t ∷ []) ≡ step z (final z s played) t
final_more z s played t = fold-append (step z) s played (t ∷ [])

-- after one more token, which is allowed
pub known_more : (z : Size) (class : Start) (played : List TokenKind) (h : HalfState) (t : TokenKind) → 0 < z.width →
    PrintsByte t → IsKnownAfter z class played h → IsAllowed z h t →
    IsKnownAfter z class (played ++ t ∷ []) (half_step z h t)
known_more z class played h t w byte st ok =
    let low : State = low_start z class in
    let high : State = high_start z class in
    record {
      is_hull = rw (final_more z low played t, final_more z high played t)
          (ap (λ (k : HalfState). half_step z k t) st.is_hull
          ∙ sym (hull_step z (final z low played) (final z high played) t
          (st.well_formed low (low_is_start z class w)) (st.well_formed high (high_is_start z class w))
          (rw st.is_hull at ok)));
      describes = λ s start. rw (final_more z s played t)
          (step_describes z h (final z s played) t (st.well_formed s start).fits.cursor (st.describes s start) ok);
      well_formed = λ s start. rw (final_more z s played t)
          (well_formed_after_step z (final z s played) t byte w (st.well_formed s start));
    }
