-- The kinds that arise in short contents, for the examples.
use Rattle.std.specs.Prelude.{◌≡◌, ℕ, List, [], ◌∷◌, ◌++◌, codes, map}
use Rattle.ans_model.specs.Sequence.TokenKind.{Colours}
use Rattle.ans_model.specs.Sequence.Reads.{kind_of_byte}
use Rattle.ans_model.specs.Screen.State.{Size, sized}
use Rattle.ans_model.specs.Screen.StartClass.{cleared}
use Rattle.ans_players.specs.declared.difference.Difference.{Difference}
use Rattle.ans_players.specs.Sync.{Stand, synced}
use Rattle.ans_players.specs.Mends.{sequence}
use Rattle.ans_players.specs.Situations.{Spelled, situations, stand_behind}

-- bytes outside sequences
abbrev pub bytes : List ℕ → List Spelled
bytes bs = map (λ b. record { token = kind_of_byte b; text = b ∷ [] }) bs

-- the kinds of each token, one after the other
abbrev pub kinds_along : Size → Stand → List Spelled → List Difference
kinds_along z h [] = []
kinds_along z h (x ∷ xs) = situations z h x ++ kinds_along z (stand_behind z h x) xs

-- From the cleared start of a screen of this size these kinds arise, in this order.
abbrev pub AriseAtOnceOn : Size → List Spelled → List Difference → Type 0
AriseAtOnceOn z xs kinds = kinds_along z (synced (cleared z)) xs ≡ kinds

-- So they do after `ESC[37;40m`, which names both colours.
abbrev pub AriseOn : Size → List Spelled → List Difference → Type 0
AriseOn z xs kinds = AriseAtOnceOn z (sequence (Colours (37 ∷ 40 ∷ [])) (codes "[37;40m") ∷ xs) kinds

-- the same on a screen of four columns and three lines
abbrev pub AriseAtOnce : List Spelled → List Difference → Type 0
AriseAtOnce xs kinds = AriseAtOnceOn (sized 4 3) xs kinds

abbrev pub Arise : List Spelled → List Difference → Type 0
Arise xs kinds = AriseOn (sized 4 3) xs kinds
