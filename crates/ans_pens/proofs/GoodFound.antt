-- A content is good from the cleared start exactly where the walk over it goes on to the end.
use Rattle.std.proofs.Common.{◌≡◌, ℕ, ◌<◌, Bool, true, false, List, [], ◌∷◌, ◌++◌, length, take, refl, sym, ap, ◌∙◌}
use Rattle.std.proofs.Common.{subst}
use Rattle.std.specs.Prelude.{Result, Ok, Err, IsTrue}
use Rattle.std.specs.Result.{result_unwrap_or}
use Rattle.std.proofs.lemmas.Bool.{false≢true}
use Rattle.std.proofs.lemmas.List.{append-nil}
use Rattle.std.proofs.lemmas.List.Sums.{fold-append}
use Rattle.std.proofs.Math.Seq.{take-length}
use Rattle.ans_model.specs.Sequence.Reads.{Reads}
use Rattle.ans_model.specs.Sequence.TokenKind.{TokenKind}
use Rattle.ans_model.specs.Screen.State.{Size, State, IsSize}
use Rattle.ans_model.specs.Screen.StartClass.{all_known, cleared}
use Rattle.ans_model.specs.Screen.Step.{final, step}
use Rattle.ans_model.specs.Verdict.Good.{IsGood}
use Rattle.ans_model.specs.Verdict.TokenFault.{IsClean}
use Rattle.ans_model.specs.declared.fault.Fault.{Fault}
use Rattle.ans_pens.specs.Pens.{pen_of}
use Rattle.ans_tokens.specs.Walk.{WalksTo}
use Rattle.ans_tokens.proofs.Walked.{left_reads, never_refused}
use Rattle.ans_pens.specs.Walkers.{HasPlayed, IsFaultless}
use Rattle.ans_pens.specs.declared.lines.ClearedPlay.{ClearedPlay}
use Rattle.ans_pens.proofs.CleanSteps.{clean_front}
use Rattle.ans_pens.proofs.ClearedSteps.{clean_with, clean_had_room}
use Rattle.ans_pens.proofs.MoreLines.{clean_is_good, good_is_clean}

-- ---- one token more
module _ (first old : ClearedPlay) (tokens : List TokenKind) (t : TokenKind) (h : HasPlayed first tokens true old)
    (some : 0 < old.size.width) where
  abbrev here : State
  here = final first.size (cleared first.size) tokens

  columns : 0 < first.size.width
  columns = rw h.0 at some

  -- it has no room
  pub play_stops : ((s : State) → old.pen ≡ pen_of s → ¬ IsFaultless old.size s t)
      → HasPlayed first (tokens ++ t ∷ []) false old
  play_stops full = (
    h.0,
    λ clean. full here h.1.1
        (subst (λ (z : Size). IsFaultless z here t) (sym h.0) (clean_had_room first.size columns tokens t clean)),
  )

  -- it has room
  pub play_goes_on : (new : ClearedPlay) → new.size ≡ old.size
      → ((s : State) → old.pen ≡ pen_of s → IsFaultless old.size s t)
      → ((s : State) → old.pen ≡ pen_of s → new.pen ≡ pen_of (step old.size s t))
      → HasPlayed first (tokens ++ t ∷ []) true new
  play_goes_on new same room steps = (
    same ∙ h.0,
    (
      clean_with first.size columns tokens t h.1.0 (subst (λ (z : Size). IsFaultless z here t) h.0 (room here h.1.1)),
      subst (λ (z : Size). new.pen ≡ pen_of (step z here t)) h.0 (steps here h.1.1)
          ∙ ap pen_of (sym (fold-append (step first.size) (cleared first.size) tokens (t ∷ []))),
    ),
  )

-- ---- the whole content
module _ (content : List ℕ) (first now : ClearedPlay) (size : IsSize first.size) where
  all : take (length content) content ≡ content
  all = take-length content

  tokens_of : (good : IsGood first.size all_known content) → Reads (take (length content) content) good.1.tokens
  tokens_of good = rw all good.1.reads

  pub good_by_walk : (result : Result Bool Fault)
      → WalksTo (λ first front now goes_on. HasPlayed first front.tokens goes_on now) content (length content) first now
      result → (IsTrue (result_unwrap_or result false) → IsGood first.size all_known content)
      × (IsGood first.size all_known content → IsTrue (result_unwrap_or result false))
  good_by_walk (Ok true) h =
      let whole : content ≡ h.read = sym all ∙ h.whole ∙ append-nil h.read in (
        λ _. clean_is_good first.size.width first.size.lines content h.front.tokens size.some_columns size.some_lines
            (h.front.texts, rw whole h.reads) h.over.1.0,
        λ _. refl,
      )
  good_by_walk (Ok false) (left, h) = (
    λ e. absurd (false≢true e),
    λ good.
        let on = left_reads _ content (length content) first now left false h good.1.tokens (tokens_of good) in
        absurd (h.over.1 (clean_front first.size all_known h.front.tokens on.later
        (subst (IsClean first.size all_known) on.more (good_is_clean first.size.width first.size.lines content good)))),
  )
  good_by_walk (Err fault) h = (
    λ e. absurd (false≢true e),
    λ good. absurd (never_refused _ content (length content) first now fault good.1.tokens h (tokens_of good)),
  )
