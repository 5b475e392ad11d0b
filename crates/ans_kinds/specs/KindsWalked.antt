-- What the walk over the kinds in which players differ has found so far. Only private contracts cite it.
use Rattle.std.specs.Prelude.{◌≡◌, ℕ, ◌+◌, ◌<◌, ◌≤◌, Bool, is_none, IsTrue, List, ◌++◌, length, take, Option, None}
use Rattle.std.specs.Prelude.{Some, not, ◌&&◌, ◌||◌, ◌==◌}
use Rattle.std.specs.List.{concat, list_all}
use Rattle.ans_model.specs.Screen.State.{Size}
use Rattle.ans_model.specs.Screen.StartClass.{cleared}
use Rattle.ans_players.specs.Sync.{Stand}
use Rattle.ans_players.specs.Named.{ArisesFirst, times_cleared}
use Rattle.ans_players.specs.Situations.{Spelled, spelled, stand_of}
use Rattle.ans_players.specs.declared.difference.Difference.{Difference}
use Rattle.ans_tokens.specs.Walk.{Front}
use Rattle.ans_tokens.specs.declared.colours.ColourSequence.{ColourSequence}
use Rattle.ans_pens.specs.Counted.{count_of}
use Rattle.ans_kinds.specs.SyncShown.{shown_sync}
use Rattle.ans_kinds.specs.NamesShown.{shown_names}
use Rattle.ans_kinds.specs.KindsUsed.{used_at, used_of}
use Rattle.ans_pens.specs.Pens.{pen_of, StandsOn}
use Rattle.ans_pens.specs.RowMoves.{moves_rows}
use Rattle.ans_kinds.specs.declared.sync.Sync.{Sync}
use Rattle.ans_kinds.specs.declared.sync.Sync.TheVariants.{InSync}
use Rattle.ans_kinds.specs.declared.kinds.KindsUsed.{KindsUsed}
use Rattle.ans_kinds.specs.declared.kinds.KindsWalk.{KindsWalk}
use Rattle.ans_kinds.specs.declared.names.Names.{Names}
use Rattle.ans_pens.specs.declared.pen.Pen.{Pen}
use Rattle.ans_pens.specs.declared.times.Times.{Times}

-- of no kind more was counted than this
abbrev pub AreFew : KindsUsed → ℕ → Type 0
AreFew used most = (number : ℕ) → number < 13 → count_of (used_at used number) ≤ most

-- none of any kind but own colours, the last, was
abbrev pub has_no_others : KindsUsed → Bool
has_no_others used = list_all is_none (take 12 used.times)

-- from the cleared start the kind arises this often at the tokens, and first there
pub record AriseFrom (z : Size) (xs : List Spelled) (kind : Difference) (times : Times) : Type 0 where
  pub some : 0 < times.count
  pub count : times_cleared kind z xs ≡ times.count
  pub first : ArisesFirst kind z xs times.first

-- or it never does
abbrev pub IsFound : Size → List Spelled → Difference → Option Times → Type 0
IsFound z xs kind None = times_cleared kind z xs ≡ 0
IsFound z xs kind (Some times) = AriseFrom z xs kind times

-- the pen, the sync and the names are those of this `Stand`
pub record StandsAt (pen : Pen) (sync : Sync) (names : Names) (h : Stand) : Type 0 where
  pub pen_is : pen ≡ pen_of h.state
  pub sync_is : shown_sync sync ≡ h.sync
  pub names_are : shown_names names ≡ h.names

-- Over the front of its content the first has become the other, which goes on: it is where the front's tokens lead from
-- the cleared start, has found what arises at them, and knows whether one moves the cursor by rows.
pub record HasFoundKinds (first : KindsWalk) (front : Front) (goes_on : Bool) (now : KindsWalk) : Type 0 where
  pub never_stops : IsTrue goes_on
  pub size : now.size ≡ first.size
  pub content : now.content.now ≡ first.content.now
  pub texts : length front.texts ≡ length front.tokens
  pub whole : first.content.now ≡ concat front.texts ++ front.behind
  pub stands : StandsAt now.pen now.sync now.names
      (stand_of first.size (cleared first.size) (spelled front.tokens front.texts))
  pub found : (kind : Difference) → IsFound first.size (spelled front.tokens front.texts) kind (used_of now.used kind)
  pub moves : now.moves_rows ≡ moves_rows front.tokens

-- it may be handed a token at this offset
pub record IsReadyFor (walk : KindsWalk) (offset : ℕ) : Type 0 where
  pub stands : StandsOn walk.size walk.pen
  pub few : AreFew walk.used offset

-- players are in sync, and this many bytes that are printed next stay in their row
pub record StaysSyncedInRow (walk : KindsWalk) (count : ℕ) : Type 0 where
  pub in_sync : walk.sync ≡ InSync
  pub stays : walk.pen.cursor.column + count < walk.size.width

-- players may differ at a sequence of colours: not all its numbers are common, or one is omitted and it is not a
-- sequence that leaves white on black as it is
abbrev pub parts_at : Bool → Bool → ColourSequence → Bool
parts_at are_common is_grey colours =
    not are_common || (colours.omits && not (is_grey && list_all (λ n. n == 0) colours.numbers.now))
