-- A line feed and a return are single bytes: no sequence means one.
use Rattle.std.proofs.Common.{◌≡◌, inl, inr, ℕ, Bool, true, false, List, [], ◌∷◌, length, ap}
use Rattle.std.specs.Prelude.{not, ◌&&◌, codes, if◌then◌else◌, ⊤, Result, Err, MatchResult}
use Rattle.std.specs.List.{AllByRecursion, list_any}
use Rattle.ans_model.specs.declared.fault.Cause.{Cause}
use Rattle.ans_model.specs.declared.fault.Cause.TheVariants.{UnknownSequence, WrongParameters}
use Rattle.ans_model.specs.Sequence.Meaning.{Entry, colours, distance, has_a_meaning, is_marked, is_one_of, is_quoted}
use Rattle.ans_model.specs.Sequence.Meaning.{look_up, meaning, move, only_if, place, table}
use Rattle.ans_model.specs.Sequence.Reads.{SpellsToken}
use Rattle.ans_model.specs.Sequence.Spelling.{Member, Raw}
use Rattle.ans_model.specs.Sequence.TokenKind.{TokenKind, LineFeed, CarriageReturn, Up, Down, Forward, Backward, Clear}
use Rattle.ans_model.specs.Sequence.TokenKind.{EraseLine, Save, Restore, Wrap, Mode, Ask}

-- the token is no line feed and no return
abbrev pub IsNoLineEnd : TokenKind → Type 0
IsNoLineEnd LineFeed = ⊥
IsNoLineEnd CarriageReturn = ⊥
IsNoLineEnd _ = ⊤

abbrev MeansNone : Result TokenKind Cause → Type 0
MeansNone means = MatchResult means IsNoLineEnd (λ cause. ⊤)

err_or : (b : Bool) (c : Cause) (r : Result TokenKind Cause) → MeansNone r → MeansNone (if b then Err c else r)
err_or true c r h = tt
err_or false c r h = h

by_test : (b : Bool) (t u : TokenKind) → IsNoLineEnd t → IsNoLineEnd u → IsNoLineEnd (if b then t else u)
by_test true t u h g = h
by_test false t u h g = g

only_if_none : (b : Bool) (t : TokenKind) → IsNoLineEnd t → MeansNone (only_if b t)
only_if_none true t h = h
only_if_none false t h = tt

move_none : (by : ℕ → TokenKind) (ms : List Member) → ((n : ℕ) → IsNoLineEnd (by n)) → MeansNone (move by ms)
move_none by [] h = h 1
move_none by (m ∷ []) h = h (distance m)
move_none by (m ∷ n ∷ ms) h = tt

place_none : (ms : List Member) → MeansNone (place ms)
place_none [] = tt
place_none (m ∷ []) = tt
place_none (m ∷ n ∷ []) = tt
place_none (m ∷ n ∷ o ∷ ms) = tt

colours_none : (ms : List Member) → IsNoLineEnd (colours ms)
colours_none [] = tt
colours_none (m ∷ ms) = tt

look_up_none : (es : List Entry) (letter : ℕ) → AllByRecursion (λ e. MeansNone e.means) es
    → MeansNone (look_up es letter)
look_up_none [] letter h = tt
look_up_none (e ∷ es) letter h = here (is_one_of e.letters letter) h.0 (look_up_none es letter h.1)
  where
    here : (b : Bool) → MeansNone e.means → MeansNone (look_up es letter)
        → MeansNone (if b then e.means else look_up es letter)
    here true m more = m
    here false m more = more

also : {A B : Type 0} → A → B → A × B
also a b = (a, b)

table_none : (raw : Raw) → AllByRecursion (λ e. MeansNone e.means) (table raw)
table_none raw =
    also (move_none Up raw.members (λ n. tt))
    (also (move_none Down raw.members (λ n. tt))
    (also (move_none Forward raw.members (λ n. tt))
    (also (move_none Backward raw.members (λ n. tt))
    (also (place_none raw.members)
    (also (only_if_none _ Clear tt)
    (also (only_if_none _ EraseLine tt)
    (also (only_if_none _ Save tt)
    (also (only_if_none _ Restore tt)
    (also (colours_none raw.members)
    (also (by_test _ (Wrap true) Mode tt tt)
    (also (by_test _ (Wrap false) Mode tt tt)
    (also tt (also (only_if_none _ Ask tt) tt)))))))))))))

means_none : (raw : Raw) → MeansNone (meaning raw)
means_none raw =
    err_or (not (has_a_meaning raw)) UnknownSequence _
    (err_or (is_marked raw.mark && not (is_one_of (codes "hl") raw.letter)) UnknownSequence _
    (err_or (list_any is_quoted raw.members && not (is_one_of (codes "p") raw.letter)) WrongParameters _
    (look_up_none (table raw) raw.letter (table_none raw))))

-- so each of them has one byte
pub one_byte : (t : TokenKind) (text : List ℕ) → SpellsToken t text → (IsNoLineEnd t → ⊥) → length text ≡ 1
one_byte t text (inl h) ends = ap length h.whole
one_byte t text (inr h) ends = absurd (ends (rw h.means at (means_none h.raw)))
