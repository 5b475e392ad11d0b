-- A cell of two plays is kept over the tokens of a content.
use Rattle.std.proofs.Common.{◌≡◌, true, false, List, ℕ, [], ◌∷◌, ◌++◌, length, refl, ◌∙◌, subst}
use Rattle.std.specs.Prelude.{Result, Ok, Err, Bool}
use Rattle.std.proofs.lemmas.Bool.{false≢true}
use Rattle.std.proofs.Math.Seq.{take-length}
use Rattle.ans_model.specs.Sequence.TokenKind.{TokenKind}
use Rattle.ans_model.specs.Sequence.Reads.{Reads}
use Rattle.ans_model.specs.Screen.State.{Size}
use Rattle.ans_model.specs.declared.cell.Position.{Position}
use Rattle.ans_model.specs.declared.fault.Fault.{Fault}
use Rattle.ans_model.specs.declared.start.Start.{Start}
use Rattle.ans_model.specs.Verdict.TokenFault.{IsClean}
use Rattle.ans_tokens.specs.Walk.{WalksTo}
use Rattle.ans_tokens.proofs.Walked.{walked_whole}
use Rattle.ans_pens.specs.CellPlays.{AreKept, BothStandOn, HasKept}
use Rattle.ans_pens.specs.declared.evidence.CellWalk.{CellWalk}
use Rattle.ans_pens.specs.declared.two_cell_plays.TwoCellPlays.{TwoCellPlays}
use Rattle.ans_pens.proofs.CleanSteps.{clean_front}

-- what the play of a token ensures
abbrev pub PlaysOn : Size → Position → TwoCellPlays → TokenKind → TwoCellPlays → Type 0
PlaysOn z p old t new = (class : Start) (tokens : List TokenKind) → IsClean z class (tokens ++ t ∷ [])
    → AreKept z class p tokens old → AreKept z class p (tokens ++ t ∷ []) new

-- one token more
pub kept_token : (first old new : CellWalk) (tokens : List TokenKind) (t : TokenKind)
    → HasKept first tokens true old → new.size ≡ old.size → new.at ≡ old.at → BothStandOn old.size new.plays
    → PlaysOn old.size old.at old.plays t new.plays → HasKept first (tokens ++ t ∷ []) true new
kept_token first old new tokens t h size at stand plays = record {
  never_stops = refl;
  size = size ∙ h.size;
  at = at ∙ h.at;
  stand = subst (λ (z : Size). BothStandOn z new.plays) h.size stand;
  kept = λ class begins clean.
      subst (λ (z : Size). PlaysOn z first.at old.plays t new.plays) h.size
      (subst (λ (p : Position). PlaysOn old.size p old.plays t new.plays) h.at plays) class tokens clean
      (h.kept class begins (clean_front first.size class tokens (t ∷ []) clean));
}

-- ---- all tokens
abbrev pub CellPlaysTo : List ℕ → CellWalk → CellWalk → Result Bool Fault → Type 0
CellPlaysTo bytes first now =
    WalksTo (λ first front now goes_on. HasKept first front.tokens goes_on now) bytes (length bytes) first now

pub both_stand : (bytes : List ℕ) (first now : CellWalk) (result : Result Bool Fault)
    → CellPlaysTo bytes first now result
    → BothStandOn first.size now.plays
both_stand bytes first now (Ok true) h = h.over.stand
both_stand bytes first now (Ok false) (left, h) = h.over.stand
both_stand bytes first now (Err fault) (left, h, fails) = h.over.stand

pub kept_all : (class : Start) (bytes : List ℕ) (first now : CellWalk) (result : Result Bool Fault)
    (tokens : List TokenKind) → CellPlaysTo bytes first now result
    → AreKept first.size class first.at [] first.plays → Reads bytes tokens → IsClean first.size class tokens
    → AreKept first.size class first.at tokens now.plays
kept_all class bytes first now result tokens h begins reads clean =
    let over = walked_whole _ bytes (length bytes) first now result tokens reads.0
    (λ front stops. false≢true stops.never_stops) h (rw (take-length bytes) reads.1) in
    over.kept class begins clean
