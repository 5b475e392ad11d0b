-- The stands along spelled tokens.
use Rattle.std.proofs.Common.{◌≡◌, ℕ, zero, suc, List, [], ◌∷◌, fold, take, refl, ap, sym, ◌∙◌, Some, subst}
use Rattle.std.specs.Prelude.{slice_get, map}
use Rattle.ans_model.specs.Sequence.TokenKind.{TokenKind, Glyph, LineFeed, Tab}
use Rattle.ans_model.specs.Sequence.Reads.{SpellsToken}
use Rattle.std.specs.List.{AllZip}
use Rattle.ans_model.specs.Screen.State.{Size, State}
use Rattle.ans_model.specs.Screen.Step.{final}
use Rattle.ans_model.specs.Screen.StartClass.{IsStart}
use Rattle.ans_model.specs.declared.start.Start.{Start}
use Rattle.ans_model.specs.Verdict.Good.{PlaysWell}
use Rattle.ans_model.proofs.TabLemmas.{final_then_blanks}
use Rattle.ans_players.specs.Sync.{Stand, synced}
use Rattle.ans_players.specs.Situations.{Spelled, spelled, stand_behind, stand_of}
use Rattle.ans_players.specs.Players.{StaysAbove}

abbrev pub kinds_of : List Spelled → List TokenKind
kinds_of xs = map (λ x. x.token) xs

pub kinds_of_spelled : (tokens : List TokenKind) (texts : List (List ℕ)) → AllZip SpellsToken tokens texts
    → kinds_of (spelled tokens texts) ≡ tokens
kinds_of_spelled [] [] h = refl
kinds_of_spelled [] (x ∷ xs) h = absurd h
kinds_of_spelled (t ∷ ts) [] h = absurd h
kinds_of_spelled (t ∷ ts) (x ∷ xs) h = ap (λ (us : List TokenKind). t ∷ us) (kinds_of_spelled ts xs h.1)

pub kind_at : (xs : List Spelled) (k : ℕ) (x : Spelled) → slice_get xs k ≡ Some x
    → slice_get (kinds_of xs) k ≡ Some x.token
kind_at [] k x e = absurd (let no : ⊥ = cc in no)
kind_at (y ∷ ys) zero x e = let same : y ≡ x = cc in ap (λ (v : Spelled). Some v.token) same
kind_at (y ∷ ys) (suc k) x e = kind_at ys k x e

pub kinds_before : (xs : List Spelled) (k : ℕ) → take k (kinds_of xs) ≡ kinds_of (take k xs)
kinds_before xs zero = refl
kinds_before [] (suc k) = refl
kinds_before (y ∷ ys) (suc k) = ap (λ (us : List TokenKind). y.token ∷ us) (kinds_before ys k)

-- the stand's state is the profile's
pub state_after : (z : Size) (h : Stand) (xs : List Spelled)
    → (fold (stand_behind z) h xs).state ≡ final z h.state (kinds_of xs)
state_after z h [] = refl
state_after z h (x ∷ xs) = state_after z (stand_behind z h x) xs

state_from : (z : Size) (h : Stand) (xs : List Spelled) (k : ℕ)
    → (fold (stand_behind z) h (take k xs)).state ≡ final z h.state (take k (kinds_of xs))
state_from z h xs k =
    state_after z h (take k xs) ∙ ap (λ (us : List TokenKind). final z h.state us) (sym (kinds_before xs k))

pub state_is : (z : Size) (s : State) (xs : List Spelled) (k : ℕ)
    → (stand_of z s (take k xs)).state ≡ final z s (take k (kinds_of xs))
state_is z s xs k = state_from z (synced s) xs k

module _ (z : Size) (class : Start) (tokens : List TokenKind) (plays : PlaysWell z class tokens) (s : State)
    (start : IsStart z class s) where
  above : (k : ℕ) (t : TokenKind) → slice_get tokens k ≡ Some t → StaysAbove z (final z s (take k tokens)) t
  above k LineFeed e = plays.never_scrolls k e s start
  above k (Glyph byte) e = (plays.prints_well k byte e).never_below s start
  above k Tab e = λ n lt below.
      (plays.tabs_well k n e (s, start, lt)).never_below s start
      (ap (λ (v : State). v.cursor.row) (final_then_blanks z s (take k tokens) n) ∙ below)
  above k t e = tt

module _ (z : Size) (class : Start) (xs : List Spelled) (plays : PlaysWell z class (kinds_of xs)) (h : Stand)
    (start : IsStart z class h.state) where
  pub above_from : (k : ℕ) (x : Spelled) → slice_get xs k ≡ Some x
      → StaysAbove z (fold (stand_behind z) h (take k xs)).state x.token
  above_from k x e = subst (λ (v : State). StaysAbove z v x.token) (sym (state_from z h xs k))
      (above z class (kinds_of xs) plays h.state start k x.token (kind_at xs k x e))

module _ (z : Size) (class : Start) (xs : List Spelled) (plays : PlaysWell z class (kinds_of xs)) (s : State)
    (start : IsStart z class s) where
  pub above_at : (k : ℕ) (x : Spelled) → slice_get xs k ≡ Some x
      → StaysAbove z (stand_of z s (take k xs)).state x.token
  above_at k x e = above_from z class xs plays (synced s) start k x e
