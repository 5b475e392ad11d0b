-- Sync: how sure it is that the cursor of each player is where the profile's is.
use Rattle.std.specs.Prelude.{Bool, true, false, ◌&&◌, ◌==◌, List, [], ◌∷◌, if◌then◌else◌}
use Rattle.ans_model.specs.Sequence.TokenKind.{TokenKind, Glyph, Bell, LineFeed, CarriageReturn, Tab, Place, Clear}
use Rattle.ans_model.specs.Sequence.TokenKind.{Save}
use Rattle.ans_model.specs.Sequence.TokenKind.{Colours}
use Rattle.ans_model.specs.Screen.State.{Size, State}
use Rattle.ans_model.specs.Screen.Step.{step}
use Rattle.ans_model.specs.declared.cell.Position.{Position}
use Rattle.ans_players.specs.declared.difference.Difference.{Difference}
use Rattle.ans_players.specs.declared.difference.Difference.TheVariants.{WrapAtOnce, LineEnds, HomeOnClear}
use Rattle.ans_players.specs.declared.difference.Difference.TheVariants.{SavePlaceOnly}
use Rattle.ans_players.specs.Names.{Names, unnamed, names_after}

-- In sync: the cursor is where the profile has it. Else it may not be: after a byte that has just wrapped; after a line
-- feed, or a return, outside the first column; or out of sync after something of this kind.
pub data Sync : Type 0 where
  InSync : Sync
  AfterWrap : Sync
  AfterFeed : Sync
  AfterReturn : Sync
  OutOfSync : (kind : Difference) → Sync

-- the kind in which players may be elsewhere, if they are not in sync
abbrev pub unsure_kinds : Sync → List Difference
unsure_kinds InSync = []
unsure_kinds AfterWrap = WrapAtOnce ∷ []
unsure_kinds AfterFeed = LineEnds ∷ []
unsure_kinds AfterReturn = LineEnds ∷ []
unsure_kinds (OutOfSync kind) = kind ∷ []

-- All players do the same at the token, though their sync is no surer than this: at a place, colours and BEL always;
-- at a byte after a wrap; at a return after a line feed; at a line feed or a return after a return.
abbrev pub is_same_for_all : Sync → TokenKind → Bool
is_same_for_all g (Place row column) = true
is_same_for_all g (Colours parameters) = true
is_same_for_all g Bell = true
is_same_for_all AfterWrap (Glyph byte) = true
is_same_for_all AfterFeed CarriageReturn = true
is_same_for_all AfterReturn LineFeed = true
is_same_for_all AfterReturn CarriageReturn = true
is_same_for_all g t = false

-- row 0 and column 0
abbrev pub is_home : Position → Bool
is_home p = p.row == 0 && p.column == 0

-- after what is printed: where wrap is on and the cursor is in the first column, the last byte has wrapped
abbrev pub sync_after_print : State → Sync
sync_after_print s = if s.wrap && s.cursor.column == 0 then AfterWrap else InSync

-- the sync after a token of players that were in sync
abbrev pub sync_after_token : Size → State → TokenKind → Sync
sync_after_token z s (Glyph byte) = sync_after_print (step z s (Glyph byte))
sync_after_token z s Tab = sync_after_print (step z s Tab)
sync_after_token z s LineFeed = if s.cursor.column == 0 then InSync else AfterFeed
sync_after_token z s CarriageReturn = if s.cursor.column == 0 then InSync else AfterReturn
sync_after_token z s Clear = if is_home s.cursor then InSync else OutOfSync HomeOnClear
sync_after_token z s Save = if is_home s.cursor then InSync else OutOfSync SavePlaceOnly
sync_after_token z s t = InSync

-- The sync after a token of players that do as the profile does at it. Colours and BEL leave it as it is, and so does a
-- return after a return; a return after a line feed brings players in sync.
abbrev pub sync_after : Size → Sync → State → TokenKind → Sync
sync_after z g s (Colours parameters) = g
sync_after z g s Bell = g
sync_after z AfterFeed s CarriageReturn = InSync
sync_after z AfterReturn s CarriageReturn = AfterReturn
sync_after z g s t = sync_after_token z s t

-- a state of the profile, the sync of players with it, and which colours the drawing has named
pub record Stand : Type 0 where
  pub sync : Sync
  pub names : Names
  pub state : State

-- players are in sync with this state, and no colour is named, whatever the state is
abbrev pub synced : State → Stand
synced s = record { sync = InSync; names = unnamed; state = s }

-- the `Stand` after a token
abbrev pub stand_after : Size → Stand → TokenKind → Stand
stand_after z h t =
    record { sync = sync_after z h.sync h.state t; names = names_after h.names t; state = step z h.state t }
