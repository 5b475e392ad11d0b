-- Content without moves up and down plays on a taller screen as on the stated one.
use Rattle.std.proofs.Common.{◌≡◌, ℕ, zero, suc, Bool, true, false, List, [], ◌∷◌, fold, refl, sym, ◌∙◌, Some}
use Rattle.std.proofs.lemmas.Option.{same_Some}
use Rattle.std.specs.Prelude.{slice_get}
use Rattle.ans_model.specs.Sequence.TokenKind.{TokenKind, Up, Down}
use Rattle.ans_model.specs.Screen.State.{Size}
use Rattle.ans_model.specs.declared.start.Start.{Start}
use Rattle.ans_model.specs.Verdict.Good.{IsGood}
use Rattle.ans_model.specs.Sequence.Reads.{ReadsAs}
use Rattle.ans_pens.specs.RowMoves.{moved_with, moves_rows}
use Rattle.ans_pens.specs.Taller.{IsTaller, MovesFreely}

-- ---- a move is found
still_moved : (t : TokenKind) → moved_with true t ≡ true
still_moved (Up n) = refl
still_moved (Down n) = refl
still_moved t = refl

moved_already : (tokens : List TokenKind) → fold moved_with true tokens ≡ true
moved_already [] = refl
moved_already (t ∷ tokens) = rw (still_moved t) (moved_already tokens)

-- a token that moves by rows
abbrev MovesRows : TokenKind → Type 0
MovesRows t = (moved : Bool) → moved_with moved t ≡ true

move_is_found : (tokens : List TokenKind) (k : ℕ) (t : TokenKind) (moved : Bool) → MovesRows t
    → slice_get tokens k ≡ Some t → fold moved_with moved tokens ≡ true
move_is_found [] k t moved moves e = absurd (cc)
move_is_found (u ∷ tokens) zero t moved moves e =
    rw (same_Some u t e, moves moved) (moved_already tokens)
move_is_found (u ∷ tokens) (suc k) t moved moves e =
    move_is_found tokens k t (moved_with moved u) moves e

-- ---- where there is none, all are free
no_moves_are_free : (z : Size) (class : Start) (tokens : List TokenKind) → moves_rows tokens ≡ false
    → MovesFreely z class tokens
no_moves_are_free z class tokens none = record {
  down = λ k n e. absurd (contradicts (move_is_found tokens k (Down n) false (λ m. refl) e));
  up = λ k n e. absurd (contradicts (move_is_found tokens k (Up n) false (λ m. refl) e));
}
  where
    contradicts : moves_rows tokens ≡ true → ⊥
    contradicts some = let no : true ≡ false = sym some ∙ none in absurd (cc)

module _ (z : Size) (class : Start) (content : List ℕ) (moved : Bool)
    (h : (tokens : List TokenKind) (texts : List (List ℕ)) → ReadsAs content tokens texts → moved ≡ moves_rows tokens)
    (good : IsGood z class content) where
  pub taller_without_moves : moved ≡ false → IsTaller z class content
  taller_without_moves none =
      let reads = good.1.reads in
      record {
        tokens = good.1.tokens;
        reads = reads;
        free = no_moves_are_free z class good.1.tokens (sym (h good.1.tokens reads.0 reads.1) ∙ none);
      }
