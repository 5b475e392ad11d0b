-- The low and the high start are starts.
use Rattle.std.proofs.Common.{◌≡◌, ℕ, ◌<◌, Bool, true, false, refl, arith, length, replicate, All, lit<}
use Rattle.std.specs.Prelude.{if◌then◌else◌, IsTrue}
use Rattle.std.proofs.lemmas.List.{length-replicate}
use Rattle.std.proofs.lemmas.List.Elements.{All-replicate}
use Rattle.ans_model.specs.Screen.State.{Size, State, at, cell_count, IsOnScreen, IsByteCell}
use Rattle.ans_model.specs.declared.cell.Cell.{Cell}
use Rattle.ans_model.specs.declared.cell.Position.{Position}
use Rattle.ans_model.specs.Screen.Step.{blank_cell}
use Rattle.ans_model.specs.Screen.StartClass.{cleared, IsStart, start_with, low_start, high_start}
use Rattle.ans_model.specs.declared.start.Start.{Start}

-- a part is the cleared state's where it is known
known_part : {A : Type 0} (b : Bool) (x y : A) → IsTrue b → (if b then x else y) ≡ x
known_part true x y e = refl
known_part false x y e = absurd (cc)

-- the screen of a start has all its cells, and each is bytes
screen_of_start_fits : (z : Size) (b : Bool) (c : Cell) → IsByteCell c →
    (length (if b then (cleared z).screen else replicate (cell_count z) c) ≡ cell_count z)
    × All IsByteCell (if b then (cleared z).screen else replicate (cell_count z) c)
screen_of_start_fits z true c byte = (
  length-replicate (cell_count z) (blank_cell 7),
  All-replicate IsByteCell (cell_count z) (blank_cell 7) (lit< tt, lit< tt),
)
screen_of_start_fits z false c byte = (
  length-replicate (cell_count z) c,
  All-replicate IsByteCell (cell_count z) c byte,
)

position_of_start_on_screen : (z : Size) (b : Bool) (p : Position) → 0 < z.width → IsOnScreen z p
    → IsOnScreen z (if b then at 0 0 else p)
position_of_start_on_screen z true p w on = (omega arith, w)
position_of_start_on_screen z false p w on = on

-- the attribute of a start is a byte
colours_lt : (b : Bool) (a : ℕ) → a < 256 → (if b then 7 else a) < 256
colours_lt true a l = lit< tt
colours_lt false a l = l

-- a state of the machine with the known parts cleared is a start
start_with_is_start : (z : Size) (class : Start) (s : State) (c : Cell) → 0 < z.width
    → s.screen ≡ replicate (cell_count z) c → IsByteCell c → IsOnScreen z s.cursor → IsOnScreen z s.saved
    → s.attribute < 256 → IsStart z class (start_with z class s)
start_with_is_start z class s c w e byte cursor saved colours =
    let screen : (length (if class.screen then (cleared z).screen else s.screen) ≡ cell_count z)
    × All IsByteCell (if class.screen then (cleared z).screen else s.screen)
    = rw e (screen_of_start_fits z class.screen c byte) in
    record {
      well_formed = record {
        fits = record {
          cells = screen.0;
          cursor = position_of_start_on_screen z class.cursor s.cursor w cursor;
          saved =
              position_of_start_on_screen z class.saved s.saved w saved;
        };
        bytes = screen.1;
        attribute = colours_lt class.colours s.attribute colours;
      };
      screen = known_part class.screen (cleared z).screen s.screen;
      cursor = known_part class.cursor (cleared z).cursor s.cursor;
      saved = known_part class.saved (cleared z).saved s.saved;
      attribute = known_part class.colours (cleared z).attribute s.attribute;
      wrap = known_part class.wrap (cleared z).wrap s.wrap;
    }

pub low_is_start : (z : Size) (class : Start) → 0 < z.width → IsStart z class (low_start z class)
low_is_start z class w = start_with_is_start z class _ (record { byte = 0; attribute = 0 }) w refl (lit< tt, lit< tt)
    (omega arith, w) (omega arith, w) (lit< tt)

pub high_is_start : (z : Size) (class : Start) → 0 < z.width → IsStart z class (high_start z class)
high_is_start z class w = start_with_is_start z class _ (record { byte = 255; attribute = 255 }) w refl
    (lit< tt, lit< tt)
    (omega arith, omega arith) (omega arith, omega arith) (lit< tt)
