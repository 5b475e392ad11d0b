-- The meaning of a sequence by what a scanner keeps of it: its mark, a number for each member (0 for one that is
-- none), and whether a string was among them.
use Rattle.std.specs.Prelude.{◌≡◌, ℕ, Bool, true, false, not, ◌&&◌, IsTrue, List, [], ◌∷◌, map, codes}
use Rattle.std.specs.Prelude.{Result, Ok, Err, MatchResult}
use Rattle.ans_model.specs.Bytes.{double_quote}
use Rattle.ans_model.specs.Sequence.Spelling.{Member, Number, Quoted, Raw}
use Rattle.ans_model.specs.declared.mark.Mark.{Mark}
use Rattle.ans_model.specs.declared.mark.Mark.TheVariants.{Unmarked}
use Rattle.ans_model.specs.Sequence.TokenKind.{TokenKind}
use Rattle.ans_model.specs.Sequence.Meaning.{has_a_meaning, is_one_of}
use Rattle.ans_model.specs.Inside.ShownKind.{shown_kind}
use Rattle.ans_model.specs.declared.fault.Cause.{Cause}
use Rattle.ans_model.specs.declared.kind.Kind.{Kind}

-- just these numbers if there was no string among the members, and otherwise just a string
abbrev pub plain_members : List ℕ → Bool → List Member
plain_members numbers false = map Number numbers
plain_members numbers true = Quoted double_quote [] ∷ []

-- the plainest sequence of which the same is kept
abbrev pub plain_sequence : Mark → List ℕ → Bool → ℕ → Raw
plain_sequence mark numbers quoted letter =
    record { mark = mark; members = plain_members numbers quoted; letter = letter }

-- the letter takes neither a mark nor a string
abbrev pub TakesNumbersAlone : ℕ → Type 0
TakesNumbersAlone letter =
    IsTrue (has_a_meaning (plain_sequence Unmarked [] false letter) && not (is_one_of (codes "hlp") letter))

-- the result is what is meant
abbrev pub Means : Result Kind Cause → Result TokenKind Cause → Type 0
Means result meant = MatchResult result (λ kind. meant ≡ Ok (shown_kind kind)) (λ cause. meant ≡ Err cause)
