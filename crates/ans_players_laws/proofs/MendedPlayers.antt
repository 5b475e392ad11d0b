-- What players show behind the mending.
use Rattle.std.proofs.Common.{◌≡◌, ℕ, zero, suc, ◌<◌, Bool, true, refl, sym, subst}
use Rattle.std.proofs.Common.{List, [], ◌∷◌, ◌++◌, arith, take, fold, Some}
use Rattle.std.specs.Prelude.{IsTrue, codes, slice_get}
use Rattle.ans_model.specs.Sequence.TokenKind.{Clear, Save, Colours, Place, Wrap}
use Rattle.ans_model.specs.Screen.State.{Size, State}
use Rattle.ans_model.specs.Screen.StartClass.{IsStart, all_known, none_known, cleared, low_start}
use Rattle.ans_model.specs.declared.start.Start.{Start}
use Rattle.ans_model.proofs.BeginningLemmas.{place_is_within}
use Rattle.ans_model.proofs.OneCause.{is_cleared}
use Rattle.ans_model.proofs.StartLemmas.{low_is_start}
use Rattle.ans_players.specs.declared.difference.Difference.{Difference}
use Rattle.ans_players.specs.Sync.{Stand, synced}
use Rattle.ans_players.specs.Mends.{sequence, mending_spelled}
use Rattle.ans_players.specs.Names.{unnamed}
use Rattle.ans_players.specs.Players.{Behaviour, IsAllowed, IsPlayer}
use Rattle.ans_players.specs.Situations.{AreAgreed, Spelled, is_agreed, spelled, stand_behind, stand_of}
use Rattle.ans_players.proofs.MendedPlayers.{agreed_behind, agreed_named, both, mending_leaves, named}
use Rattle.ans_players.proofs.Spellings.{wrap_on, reset_to_names, clear, home, save}
use Rattle.ans_players_laws.specs.Laws.{or_own, MendingIsRead, MendedIsAgreed, MendedIsShown}
use Rattle.ans_players_laws.proofs.Everywhere.{shown_from, spelled_plays, stands_after}
use Rattle.ans_players_laws.proofs.OwnGoes.{agreed_along_or_own}

-- ---- what is agreed
-- behind the mending each kind arises that does so from the cleared start, but own-colours
agreed_before : (agreed : Difference → Bool) (z : Size) (class : Start) (xs : List Spelled) → 0 < z.width
    → AreAgreed agreed z class (mending_spelled ++ xs) → AreAgreed (or_own agreed) z all_known xs
agreed_before agreed z class xs w each s k x start e =
    let low : State = low_start z class in
    let behind : IsTrue (is_agreed agreed z (fold (stand_behind z) (stand_of z low mending_spelled) (take k xs)) x) =
    each low (suc (suc (suc (suc (suc k))))) x (low_is_start z class w) e in
    subst (λ (v : State). IsTrue (is_agreed (or_own agreed) z (stand_of z v (take k xs)) x))
    (sym (is_cleared z s start))
    (agreed_along_or_own agreed z unnamed both (synced (cleared z)) xs k x
    (subst (λ (h : Stand). IsTrue (is_agreed agreed z (fold (stand_behind z) h (take k xs)) x)) (mending_leaves z low)
    behind))

pub mended_is_agreed : MendedIsAgreed
mended_is_agreed agreed z class xs w = (agreed_behind agreed z class xs w, agreed_before agreed z class xs w)

-- ---- what is read
pub mending_is_read : MendingIsRead
mending_is_read = record { each = (wrap_on, (reset_to_names, (clear, (home, (save, tt))))); whole = refl }

-- ---- what is shown
-- no token of the mending is refused
mending_is_allowed : (z : Size) → 0 < z.width → (s : State) (k : ℕ) (x : Spelled) → slice_get mending_spelled k ≡ Some x
    → IsAllowed z s x.token
mending_is_allowed z w s zero x e =
    let same : x ≡ sequence (Wrap true) (codes "[?7h") = cc in
    rw same (record { no_static_fault = λ cause h. h; stays_above = tt })
mending_is_allowed z w s (suc zero) x e =
    let same : x ≡ sequence (Colours (0 ∷ 37 ∷ 40 ∷ [])) (codes "[0;37;40m") = cc in
    rw same (record { no_static_fault = λ cause h. h; stays_above = tt })
mending_is_allowed z w s (suc (suc zero)) x e =
    let same : x ≡ sequence Clear (codes "[2J") = cc in
    rw same (record { no_static_fault = λ cause h. h; stays_above = tt })
mending_is_allowed z w s (suc (suc (suc zero))) x e =
    let same : x ≡ sequence (Place 1 1) (codes "[H") = cc in
    rw same (record { no_static_fault = λ cause. place_is_within z 1 cause (omega arith) w; stays_above = tt })
mending_is_allowed z w s (suc (suc (suc (suc zero)))) x e =
    let same : x ≡ sequence Save (codes "[s") = cc in
    rw same (record { no_static_fault = λ cause h. h; stays_above = tt })
mending_is_allowed z w s (suc (suc (suc (suc (suc k))))) x e = absurd (let no : ⊥ = cc in no)

-- nothing is named in the mending alone
none_named : (agreed : Difference → Bool) (z : Size) (class : Start) → AreAgreed agreed z class []
none_named agreed z class s k x start e = absurd (let no : ⊥ = cc in no)

module _ (z : Size) (agreed : Difference → Bool) (p : Behaviour) (player : IsPlayer z agreed p) where
  -- behind it each player is in sync with the cleared state
  stands_cleared : 0 < z.width → (m : p.Memory) (s : State) → IsStart z none_known s → p.StandsFor m (synced s)
      → p.StandsFor (fold p.plays m mending_spelled) (named z)
  stands_cleared w m s start stands =
      subst (λ (h : Stand). p.StandsFor (fold p.plays m mending_spelled) h) (mending_leaves z s)
      (stands_after z agreed p player mending_spelled m (synced s) stands (λ k x e. (
        mending_is_allowed z w (stand_of z s (take k mending_spelled)).state k x e,
        agreed_behind agreed z none_known [] w (none_named agreed z all_known) s k x start e,
      )))

  pub mended_is_shown : MendedIsShown p z agreed
  mended_is_shown content picture good each m s at start stands stated =
      let xs : List Spelled = spelled good.tokens good.reads.0 in
      let w : 0 < z.width = good.size.some_columns in
      let start_cleared = low_is_start z all_known w in
      let plays = spelled_plays z all_known content picture good in
      shown_from z agreed p player all_known xs picture plays.0 plays.1 (named z) start_cleared
      (λ k x e. agreed_named agreed z xs k x (each (cleared z) k x start_cleared e))
      (fold p.plays m mending_spelled) (stands_cleared w m s start stands) at stated
