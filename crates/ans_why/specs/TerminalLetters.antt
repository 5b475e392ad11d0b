-- Sequences of modern terminals, by the letter that they end in.
use Rattle.std.specs.Prelude.{ℕ, ◌||◌, ◌==◌, List, codes, slice_index, Option, None, Some, if◌then◌else◌}
use Rattle.ans_forms.specs.Pieces.{begins_with_form, behind_form}
use Rattle.ans_why.specs.declared.terminal_letters.TheConstants.{NUMBERS, ROWS_DELETED}
use Rattle.ans_why.specs.declared.terminal_letters.Terminal.{Terminal}
use Rattle.ans_why.specs.declared.terminal_letters.Terminal.TheVariants.{Repeats, Column, Row, Blanks, Inserts, Deletes}
use Rattle.ans_why.specs.declared.terminal_letters.Terminal.TheVariants.{MoreRows, LessRows, Scrolls, Below, Above}
use Rattle.ans_why.specs.declared.terminal_letters.Terminal.TheVariants.{Right, Down, Saves, Restores, Resets}

-- what a letter does after `ESC[` and numbers
abbrev pub letter_does : ℕ → Option Terminal
letter_does b =
    if b == 0x62 then Some Repeats
    else if b == 0x47 || b == 0x60 then Some Column
    else if b == 0x64 then Some Row
    else if b == 0x58 then Some Blanks
    else if b == 0x40 then Some Inserts
    else if b == 0x50 then Some Deletes
    else if b == 0x4C then Some MoreRows
    else if b == 0x53 || b == 0x54 then Some Scrolls
    else if b == 0x45 then Some Below
    else if b == 0x46 then Some Above
    else if b == 0x61 then Some Right
    else if b == 0x65 then Some Down
    else None

-- what a byte does directly after ESC
abbrev pub escape_does : ℕ → Option Terminal
escape_does b =
    if b == 0x37 then Some Saves
    else if b == 0x38 then Some Restores
    else if b == 0x63 then Some Resets
    else None

-- the first byte of what comes after a form; 0 if there is none
abbrev pub first_after : Option (List ℕ) → ℕ
first_after (Some rest) = slice_index rest 0
first_after None = 0

-- the byte after `ESC[` and numbers; 0 if there is none
abbrev pub letter_after_numbers : List ℕ → ℕ
letter_after_numbers bytes = first_after (behind_form NUMBERS bytes)

-- What the sequence does that the bytes begin with. `ESC[M` without a number may be music.
abbrev pub terminal_form : List ℕ → Option Terminal
terminal_form bytes =
    if begins_with_form ROWS_DELETED bytes then Some LessRows
    else if begins_with_form NUMBERS bytes then letter_does (letter_after_numbers bytes)
    else if slice_index bytes 0 == 0x1B then escape_does (slice_index bytes 1)
    else None

-- what it does, and what to write for it
abbrev pub terminal_text : Terminal → List ℕ
terminal_text Repeats = codes "a sequence of modern terminals: repeats a character; write it out"
terminal_text Column = codes "a sequence of modern terminals: goes to a column; write ESC[row;columnH"
terminal_text Row = codes "a sequence of modern terminals: goes to a row; write ESC[row;columnH"
terminal_text Blanks = codes "a sequence of modern terminals: blanks cells; write blanks, then ESC[nD"
terminal_text Inserts = codes "a sequence of modern terminals: inserts cells; write the row again"
terminal_text Deletes = codes "a sequence of modern terminals: deletes cells; write the row again"
terminal_text MoreRows = codes "a sequence of modern terminals: inserts rows; write the rows again"
terminal_text LessRows = codes "a sequence of modern terminals: deletes rows; write the rows again"
terminal_text Scrolls = codes "a sequence of modern terminals: scrolls; write the rows again"
terminal_text Below = codes "a sequence of modern terminals: starts a row below; write CR ESC[nB"
terminal_text Above = codes "a sequence of modern terminals: starts a row above; write CR ESC[nA"
terminal_text Right = codes "a sequence of modern terminals: goes right; write ESC[nC"
terminal_text Down = codes "a sequence of modern terminals: goes down; write ESC[nB"
terminal_text Saves = codes "a sequence of modern terminals: saves the place; write ESC[s"
terminal_text Restores = codes "a sequence of modern terminals: goes to the saved place; write ESC[u"
terminal_text Resets = codes "a sequence of modern terminals: resets; write ESC[0m ESC[2J ESC[?7h"
