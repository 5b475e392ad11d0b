-- The program's kinds as those of the definitions.
use Rattle.ans_model.specs.Sequence.TokenKind as kind
use Rattle.ans_model.specs.declared.kind.Kind.{Kind}
use Rattle.ans_model.specs.declared.kind.Kind.TheVariants.{Glyph, Bell, BackSpace, LineFeed, CarriageReturn, Tab, Up}
use Rattle.ans_model.specs.declared.kind.Kind.TheVariants.{Down, Forward, Backward, Place, Clear, EraseLine, Save}
use Rattle.ans_model.specs.declared.kind.Kind.TheVariants.{Restore, Colours, Wrap, Mode, Keys, Ask}

-- the parameters of colours are a list there, without a capacity
abbrev pub shown_kind : Kind → kind.TokenKind
shown_kind (Glyph b) = kind.Glyph b
shown_kind Bell = kind.Bell
shown_kind BackSpace = kind.BackSpace
shown_kind LineFeed = kind.LineFeed
shown_kind CarriageReturn = kind.CarriageReturn
shown_kind Tab = kind.Tab
shown_kind (Up n) = kind.Up n
shown_kind (Down n) = kind.Down n
shown_kind (Forward n) = kind.Forward n
shown_kind (Backward n) = kind.Backward n
shown_kind (Place row column) = kind.Place row column
shown_kind Clear = kind.Clear
shown_kind EraseLine = kind.EraseLine
shown_kind Save = kind.Save
shown_kind Restore = kind.Restore
shown_kind (Colours parameters) = kind.Colours parameters.items
shown_kind (Wrap on) = kind.Wrap on
shown_kind Mode = kind.Mode
shown_kind Keys = kind.Keys
shown_kind Ask = kind.Ask
