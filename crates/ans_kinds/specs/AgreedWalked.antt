-- What the walk that looks for kinds that are not used has found so far. Only private contracts cite it.
use Rattle.std.specs.Prelude.{◌≡◌, ℕ, ◌+◌, ◌<◌, Bool, true, false, not, IsTrue, List, ◌++◌, length}
use Rattle.std.specs.List.{concat, list_all}
use Rattle.ans_model.specs.Screen.State.{Size, State}
use Rattle.ans_model.specs.Screen.StartClass.{cleared}
use Rattle.ans_players.specs.Classes.{IsAgreedFrom}
use Rattle.ans_players.specs.Situations.{Spelled, kind_if, spelled, stand_of}
use Rattle.ans_players.specs.declared.difference.Difference.{Difference}
use Rattle.ans_players.specs.declared.difference.Difference.TheVariants.{OwnColours, SavePlaceOnly}
use Rattle.ans_tokens.specs.Walk.{Front}
use Rattle.ans_kinds.specs.KindsUsed.{is_used}
use Rattle.ans_kinds.specs.KindsWalked.{StandsAt}
use Rattle.ans_pens.specs.Pens.{cleared_pen, pen_of}
use Rattle.ans_kinds.specs.declared.agreed.AgreedWalk.{AgreedWalk}
use Rattle.ans_kinds.specs.declared.sync.Sync.TheVariants.{InSync}
use Rattle.ans_pens.specs.declared.pen.Pen.{Pen}
use Rattle.ans_kinds.specs.NamesShown.{shown_names}
use Rattle.ans_players.specs.Names.{are_both, unnamed}

-- before the first token, from this state
pub record IsBegun (walk : AgreedWalk) (s : State) : Type 0 where
  pub pen : walk.pen ≡ pen_of s
  pub sync : walk.sync ≡ InSync
  pub cleared : walk.cleared ≡ cleared_pen
  pub cleared_sync : walk.cleared_sync ≡ InSync
  pub names : shown_names walk.names ≡ unnamed

-- Two pens are the same except for the saved place, which counts only if it may be restored.
pub record AreAlike (restores : Bool) (pen other : Pen) : Type 0 where
  pub cursor : pen.cursor ≡ other.cursor
  pub saved : restores ≡ true → pen.saved ≡ other.saved
  pub attribute : pen.attribute ≡ other.attribute
  pub wrap : pen.wrap ≡ other.wrap

-- The two plays of the walk, from its start and from the cleared one, are alike. A restore is itself of a kind in which
-- players differ.
pub record PlaysAlike (walk : AgreedWalk) : Type 0 where
  pub pen : AreAlike (is_used walk.used.now SavePlaceOnly) walk.pen walk.cleared
  pub sync : walk.sync ≡ walk.cleared_sync

-- from this state no kinds but agreed ones arise at the tokens, and the walk is where the plays from it and from the
-- cleared start are after them; or else one does
abbrev pub HasOnlyAgreedTo : (Difference → Bool) → Size → State → List Spelled → Bool → AgreedWalk → Type 0
HasOnlyAgreedTo agreed z s xs true walk =
    IsAgreedFrom agreed z s xs × StandsAt walk.pen walk.sync walk.names (stand_of z s xs)
    × StandsAt walk.cleared walk.cleared_sync walk.names (stand_of z (cleared z) xs)
HasOnlyAgreedTo agreed z s xs false walk = ¬ IsAgreedFrom agreed z s xs

-- over the front of its content the first, which was in sync, has become the other, which goes on as long as only kinds
-- that are used arise and the plays are not alike
pub record HasStayedAgreed (first : AgreedWalk) (front : Front) (goes_on : Bool) (now : AgreedWalk) : Type 0 where
  pub size : now.size ≡ first.size
  pub content : now.content.now ≡ first.content.now
  pub used : now.used.now ≡ first.used.now
  pub texts : length front.texts ≡ length front.tokens
  pub whole : first.content.now ≡ concat front.texts ++ front.behind
  pub on : goes_on ≡ true → now.has_only_agreed ≡ true
  pub stops : goes_on ≡ false → now.has_only_agreed ≡ true → PlaysAlike now
  pub only_agreed : (s : State) → IsBegun first s
      → HasOnlyAgreedTo (is_used first.used.now) first.size s (spelled front.tokens front.texts) now.has_only_agreed now

-- players are in sync in both plays, all that arises at a plain byte is of a kind that is used, and this many bytes
-- that are printed next stay in their rows
pub record StaysAgreedInRow (walk : AgreedWalk) (count : ℕ) : Type 0 where
  pub in_sync : walk.sync ≡ InSync
  pub cleared_in_sync : walk.cleared_sync ≡ InSync
  pub agreed : IsTrue (list_all (is_used walk.used.now) (kind_if (not (are_both (shown_names walk.names))) OwnColours))
  pub stays : walk.pen.cursor.column + count < walk.size.width
  pub cleared_stays : walk.cleared.cursor.column + count < walk.size.width
