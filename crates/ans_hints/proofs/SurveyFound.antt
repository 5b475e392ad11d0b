-- What a walk for hints and kinds together has found in a whole content.
use Rattle.std.proofs.Common.{◌≡◌, ℕ, ◌≤◌, Bool, true, false, List, [], length, take, drop, refl, arith}
use Rattle.std.specs.Prelude.{IsTrue, Result, is_none}
use Rattle.std.specs.List.{list_all}
use Rattle.std.proofs.lemmas.Bool.{false≢true}
use Rattle.std.proofs.lemmas.List.{take_all, drop_all}
use Rattle.ans_model.specs.Sequence.TokenKind.{TokenKind}
use Rattle.ans_model.specs.Sequence.Reads.{ReadsAs}
use Rattle.ans_model.specs.Screen.StartClass.{all_known, cleared}
use Rattle.ans_model.specs.Verdict.Good.{IsGood}
use Rattle.ans_model.specs.declared.fault.Fault.{Fault}
use Rattle.ans_players.specs.Sync.{synced}
use Rattle.ans_players.specs.declared.difference.Difference.{Difference}
use Rattle.ans_tokens.specs.Walk.{WalksTo, front_of, no_front}
use Rattle.ans_tokens.proofs.Walked.{walked_whole}
use Rattle.ans_hints.specs.Hints.{AreHints}
use Rattle.ans_kinds.specs.KindsUsed.{IsTold, used_of}
use Rattle.ans_kinds.specs.KindsWalked.{StandsAt}
use Rattle.ans_pens.specs.RowMoves.{moves_rows}
use Rattle.ans_hints.specs.Surveyed.{HasSurveyed}
use Rattle.ans_hints.specs.Walks.{HasWalked}
use Rattle.ans_hints.specs.declared.survey.Survey.{Survey}
use Rattle.ans_kinds.proofs.KindsFound.{none_found, told}

-- before the first token, of which no kind has arisen
pub nothing_surveyed : (content : List ℕ) (first : Survey) → HasWalked first.walk (no_front content) true first.walk
    → first.content.now ≡ content
    → StandsAt first.walk.pen first.sync first.names (synced (cleared first.walk.size))
    → IsTrue (list_all is_none (take 13 first.used.times)) → first.moves_rows ≡ false
    → HasSurveyed first (no_front content) true first
nothing_surveyed content first hints same stands none still = record {
  hints = hints;
  kinds = record {
    never_stops = refl;
    size = refl;
    content = refl;
    texts = refl;
    whole = same;
    stands = stands;
    found = none_found first.walk.size first.used none;
    moves = still;
  };
}

module _ (content : List ℕ) (first now : Survey) (result : Result Bool Fault)
    (h : WalksTo (λ first front now goes_on. HasSurveyed first front goes_on now) content (length content) first now
    result) where
  surveyed : (tokens : List TokenKind) (texts : List (List ℕ)) → ReadsAs content tokens texts
      → HasSurveyed first (front_of tokens texts []) true now
  surveyed tokens texts reads =
      let whole : length content ≤ length content = omega arith in
      let all : take (length content) content ≡ content = take_all (length content) content whole in
      let none : drop (length content) content ≡ [] = drop_all (length content) content whole in
      rw none at (walked_whole _ content (length content) first now result tokens texts
      (λ front stops. false≢true stops.hints.never_stops) h (rw all reads))

  pub hints_of_all : (tokens : List TokenKind) (texts : List (List ℕ)) → ReadsAs content tokens texts
      → AreHints first.walk.size first.walk.non_blink tokens texts [] now.walk.hints
  hints_of_all tokens texts reads = (surveyed tokens texts reads).hints.hints

  pub moves_of_all : (tokens : List TokenKind) (texts : List (List ℕ)) → ReadsAs content tokens texts
      → now.moves_rows ≡ moves_rows tokens
  moves_of_all tokens texts reads = (surveyed tokens texts reads).kinds.moves

  pub told_of_all : IsGood first.walk.size all_known content → (kind : Difference)
      → IsTold first.walk.size content kind (used_of now.used kind)
  told_of_all good kind =
      told first.walk.size content kind good (used_of now.used kind)
      ((surveyed good.1.tokens good.1.reads.0 good.1.reads.1).kinds.found kind)
