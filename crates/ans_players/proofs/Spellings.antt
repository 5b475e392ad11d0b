-- How bytes and sequences spell tokens.
use Rattle.std.proofs.Common.{◌≡◌, ◌≢◌, inl, inr, ℕ, ◌<◌, ◌≤◌, true, List, [], ◌∷◌, ◌++◌, length, codes, refl}
use Rattle.std.proofs.Common.{Ok, arith}
use Rattle.std.specs.Prelude.{IsTrue}
use Rattle.std.specs.List.{AllZip, AllByRecursion, join_with_byte}
use Rattle.std.specs.Char.{is_ascii_alphabetic}
use Rattle.ans_model.specs.Bytes.{escape, bracket, semicolon, most_parameters}
use Rattle.ans_model.specs.declared.mark.Mark.{Mark}
use Rattle.ans_model.specs.declared.mark.Mark.TheVariants.{Unmarked, Question}
use Rattle.ans_model.specs.Sequence.TokenKind.{TokenKind, Up, Forward, Place, Clear, Save}
use Rattle.ans_model.specs.Sequence.TokenKind.{Colours, Wrap}
use Rattle.ans_model.specs.Sequence.Spelling.{Member, Number, Omitted, Raw, SpellsMember, IsInLimit, mark_bytes}
use Rattle.ans_model.specs.Sequence.Meaning.{meaning}
use Rattle.ans_model.specs.Sequence.Reads.{SpellsToken, kind_of_byte}

-- a byte outside sequences
pub of_byte : (byte : ℕ) (t : TokenKind) → byte < 256 → byte ≢ escape → t ≡ kind_of_byte byte
    → SpellsToken t (byte ∷ [])
of_byte byte t lt not_escape e =
    inl (record { byte = byte; is_byte = lt; not_escape = not_escape; whole = refl; means = e })

-- a sequence
of_sequence : (raw : Raw) (texts : List (List ℕ)) → AllZip SpellsMember raw.members texts
    → (raw.members ≡ Omitted ∷ [] → ⊥) → IsTrue (is_ascii_alphabetic raw.letter)
    → AllByRecursion IsInLimit raw.members → length raw.members ≤ most_parameters
    → (t : TokenKind) → meaning raw ≡ Ok t
    → SpellsToken t (escape ∷ bracket ∷ (mark_bytes raw.mark ++ (join_with_byte semicolon texts ++ raw.letter ∷ [])))
of_sequence raw texts members not_omitted letter numbers count t means = inr (record {
  raw = raw;
  spelled = record {
    loose =
        record { texts = texts; members = members; not_one_omitted = not_omitted; letter = letter; whole = refl };
    numbers = numbers;
    count = count;
  };
  means = means;
})

abbrev raw_of : Mark → List Member → ℕ → Raw
raw_of mark members letter = record { mark = mark; members = members; letter = letter }

pub wrap_on : SpellsToken (Wrap true) (escape ∷ codes "[?7h")
wrap_on =
    of_sequence (raw_of Question (Number 7 ∷ []) 0x68) (codes "7" ∷ []) ((omega arith, refl, refl), tt) (λ e. cc) refl
    (omega arith, tt) (omega arith) (Wrap true) refl

pub reset_to_names : SpellsToken (Colours (0 ∷ 37 ∷ 40 ∷ [])) (escape ∷ codes "[0;37;40m")
reset_to_names =
    of_sequence (raw_of Unmarked (Number 0 ∷ Number 37 ∷ Number 40 ∷ []) 0x6D)
    (codes "0" ∷ codes "37" ∷ codes "40" ∷ [])
    ((omega arith, refl, refl), ((omega arith, refl, refl), ((omega arith, refl, refl), tt))) (λ e. cc) refl
    (omega arith, (omega arith, (omega arith, tt))) (omega arith) (Colours (0 ∷ 37 ∷ 40 ∷ [])) refl

pub clear : SpellsToken Clear (escape ∷ codes "[2J")
clear =
    of_sequence (raw_of Unmarked (Number 2 ∷ []) 0x4A) (codes "2" ∷ []) ((omega arith, refl, refl), tt) (λ e. cc) refl
    (omega arith, tt) (omega arith) Clear refl

pub one_up : SpellsToken (Up 1) (escape ∷ codes "[A")
one_up = of_sequence (raw_of Unmarked [] 0x41) [] tt (λ e. cc) refl tt (omega arith) (Up 1) refl

pub one_right : SpellsToken (Forward 1) (escape ∷ codes "[C")
one_right = of_sequence (raw_of Unmarked [] 0x43) [] tt (λ e. cc) refl tt (omega arith) (Forward 1) refl

pub home : SpellsToken (Place 1 1) (escape ∷ codes "[H")
home = of_sequence (raw_of Unmarked [] 0x48) [] tt (λ e. cc) refl tt (omega arith) (Place 1 1) refl

pub save : SpellsToken Save (escape ∷ codes "[s")
save = of_sequence (raw_of Unmarked [] 0x73) [] tt (λ e. cc) refl tt (omega arith) Save refl
