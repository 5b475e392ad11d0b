-- The one induction.
use Rattle.std.proofs.Common.{◌≡◌, ℕ, suc, List, [], ◌∷◌, fold, take, refl, ap, sym, ◌∙◌, Some, subst}
use Rattle.std.specs.Prelude.{IsTrue, slice_get, Bool}
use Rattle.ans_model.specs.Sequence.TokenKind.{TokenKind}
use Rattle.ans_model.specs.Screen.State.{Size, State, IsStated, cell_at}
use Rattle.ans_model.specs.Screen.StartClass.{IsStart}
use Rattle.ans_model.specs.declared.cell.Position.{Position}
use Rattle.ans_model.specs.declared.start.Start.{Start}
use Rattle.ans_model.specs.Verdict.Good.{Picture, GoodWith, PlaysWell, Shows}
use Rattle.ans_players.specs.declared.difference.Difference.{Difference}
use Rattle.ans_players.specs.Sync.{Stand, synced}
use Rattle.ans_players.specs.Situations.{Spelled, is_agreed, spelled, AreAgreed, stand_behind}
use Rattle.ans_players.specs.Players.{Behaviour, IsAllowed, IsPlayer, IsShown}
use Rattle.ans_players.proofs.Along.{above_from, kind_at, kinds_of, kinds_of_spelled, state_after}

-- a player goes along through tokens that are allowed and agreed
module _ (z : Size) (agreed : Difference → Bool) (p : Behaviour) (player : IsPlayer z agreed p) where
  pub stands_after : (xs : List Spelled) (m : p.Memory) (h : Stand) → p.StandsFor m h
      → ((k : ℕ) (x : Spelled) → slice_get xs k ≡ Some x
      → IsAllowed z (fold (stand_behind z) h (take k xs)).state x.token
      × IsTrue (is_agreed agreed z (fold (stand_behind z) h (take k xs)) x))
      → p.StandsFor (fold p.plays m xs) (fold (stand_behind z) h xs)
  stands_after [] m h stands each = stands
  stands_after (x ∷ xs) m h stands each =
      let now = each 0 x refl in
      stands_after xs (p.plays m x) (stand_behind z h x) (player.goes_along m h x stands now.0 now.1)
      (λ k y e. each (suc k) y e)

module _ (z : Size) (class : Start) (xs : List Spelled) (plays : PlaysWell z class (kinds_of xs)) (h : Stand)
    (start : IsStart z class h.state) where
  allowed : (k : ℕ) (x : Spelled) → slice_get xs k ≡ Some x
      → IsAllowed z (fold (stand_behind z) h (take k xs)).state x.token
  allowed k x e = record {
    no_static_fault = λ cause. plays.no_static_fault k x.token cause (kind_at xs k x e);
    stays_above = above_from z class xs plays h start k x e;
  }

-- the picture on one player, from a memory that stands for a start, whichever colours are named
pub shown_from : (z : Size) (agreed : Difference → Bool) (p : Behaviour) → IsPlayer z agreed p → (class : Start)
    → (xs : List Spelled) (picture : Picture) → PlaysWell z class (kinds_of xs) → Shows z class (kinds_of xs) picture
    → (h : Stand) → IsStart z class h.state
    → ((k : ℕ) (x : Spelled) → slice_get xs k ≡ Some x
    → IsTrue (is_agreed agreed z (fold (stand_behind z) h (take k xs)) x))
    → (m : p.Memory) → p.StandsFor m h → (q : Position) → IsStated z q
    → p.shows (fold p.plays m xs) q ≡ cell_at z picture.cells q
shown_from z agreed p player class xs picture well good h start each m stands q stated =
    player.shows_the_same (fold p.plays m xs) (fold (stand_behind z) h xs) q
    (stands_after z agreed p player xs m h stands (λ k x e. (
      allowed z class xs well h start k x e,
      each k x e,
    ))) stated
    ∙ ap (λ (v : State). cell_at z v.screen q) (state_after z h xs)
    ∙ good.shown h.state q start stated

pub shown_by : (z : Size) (agreed : Difference → Bool) (p : Behaviour) → IsPlayer z agreed p → (class : Start)
    → (xs : List Spelled) (picture : Picture) → PlaysWell z class (kinds_of xs) → Shows z class (kinds_of xs) picture
    → AreAgreed agreed z class xs → IsShown p z class xs picture
shown_by z agreed p player class xs picture well good each m s q start stands stated =
    shown_from z agreed p player class xs picture well good (synced s) start (λ k x e. each s k x start e) m stands q
    stated

-- the tokens of good content play well and show its picture
pub spelled_plays : (z : Size) (class : Start) (content : List ℕ) (picture : Picture)
    → (good : GoodWith z class content picture)
    → PlaysWell z class (kinds_of (spelled good.tokens good.reads.0))
    × Shows z class (kinds_of (spelled good.tokens good.reads.0)) picture
spelled_plays z class content picture good =
    let same : good.tokens ≡ kinds_of (spelled good.tokens good.reads.0) =
    sym (kinds_of_spelled good.tokens good.reads.0 good.reads.1.each) in (
      subst (λ (us : List TokenKind). PlaysWell z class us) same good.plays,
      subst (λ (us : List TokenKind). Shows z class us picture) same good.shows,
    )

-- so of good content
pub good_is_shown : (z : Size) (agreed : Difference → Bool) (p : Behaviour) → IsPlayer z agreed p → (class : Start)
    → (content : List ℕ) (picture : Picture) (good : GoodWith z class content picture)
    → AreAgreed agreed z class (spelled good.tokens good.reads.0)
    → IsShown p z class (spelled good.tokens good.reads.0) picture
good_is_shown z agreed p player class content picture good each =
    let plays = spelled_plays z class content picture good in
    shown_by z agreed p player class (spelled good.tokens good.reads.0) picture plays.0 plays.1 each
