-- What is unfinished, and what is refused, after each open part.
use Rattle.std.proofs.Common.{◌≡◌, ◌≢◌, Ok, Err, inl, inr, ℕ, ◌<◌, List, [], ◌∷◌, ◌++◌, length, refl, arith}
use Rattle.std.proofs.Common.{append_assoc}
use Rattle.ans_model.specs.Bytes.{escape, bracket}
use Rattle.ans_model.specs.declared.fault.Cause.{Cause}
use Rattle.ans_model.specs.declared.fault.Cause.TheVariants.{BrokenSequence}
use Rattle.ans_model.specs.Sequence.Spelling.{Raw, Spells, IsUnfinished, IsPrefixOfLoose, IsPrefixOfSpelling}
use Rattle.ans_model.specs.Sequence.Meaning.{meaning}
use Rattle.ans_model.specs.Sequence.Reads.{SpellsToken}
use Rattle.ans_model.specs.Sequence.TokenKind.{TokenKind}
use Rattle.ans_model.specs.Inside.OpenPart.{Part, SpellsPart}
use Rattle.ans_model.specs.Verdict.FirstFault.{IsWhy, IsRefused}
use Rattle.ans_model.proofs.Spelling.{head_of, tail_of}
use Rattle.ans_model.proofs.AfterPart.{part_unfinished}
use Rattle.ans_tokens.specs.Unfinished.{empty_part}
use Rattle.ans_tokens.proofs.ScannerSteps.{not_loose_not_spelled}

pub empty_part_spells : SpellsPart empty_part (escape ∷ bracket ∷ [])
empty_part_spells = record {
  loose = record { front = []; last = []; done = refl; current = refl; whole = refl };
  numbers = tt;
  last_number = tt;
  room = omega arith;
}

-- a front of what is unfinished is unfinished, if it is not empty
front_unfinished : (a b : List ℕ) → 0 < length a → IsUnfinished (a ++ b) → IsUnfinished a
front_unfinished a b begun h = record {
  raw = h.raw;
  rest = b ++ h.rest;
  spelled = rw (← append_assoc a b h.rest) h.spelled;
  begun = begun;
  more = longer b h.rest h.more;
}
  where
    longer : (x y : List ℕ) → 0 < length y → 0 < length (x ++ y)
    longer [] y l = l
    longer (u ∷ x) y l = omega arith

pub bracket_unfinished : IsUnfinished (escape ∷ bracket ∷ [])
bracket_unfinished = part_unfinished empty_part (escape ∷ bracket ∷ []) empty_part_spells

pub escape_unfinished : IsUnfinished (escape ∷ [])
escape_unfinished = front_unfinished (escape ∷ []) (bracket ∷ []) (omega arith) bracket_unfinished

-- after ESC only `[` may come
not_bracket : (b : ℕ) → b ≢ bracket → ¬ IsPrefixOfLoose (escape ∷ b ∷ [])
not_bracket b n h = n (head_of (tail_of h.spelled.whole))

pub escape_refused : (b : ℕ) → b ≢ bracket → IsRefused (escape ∷ b ∷ []) BrokenSequence
escape_refused b n = inr (record {
  part = escape ∷ [];
  byte = b;
  whole = refl;
  unfinished = escape_unfinished;
  not_prefix = not_loose_not_spelled (escape ∷ b ∷ []) (not_bracket b n);
  why = inl (not_bracket b n, refl);
})

-- the byte after the part makes it no sequence
pub broken : (part : Part) (y : List ℕ) (b : ℕ) (cause : Cause) → SpellsPart part y → ¬ IsPrefixOfSpelling (y ++ b ∷ [])
    → IsWhy (y ++ b ∷ []) b cause → IsRefused (y ++ b ∷ []) cause
broken part y b cause h none why = inr (record {
  part = y;
  byte = b;
  whole = refl;
  unfinished = part_unfinished part y h;
  not_prefix = none;
  why = why;
})

-- a sequence that is spelled is its token, or is refused for its meaning
pub means_token : {raw : Raw} {token : TokenKind} {text : List ℕ} → Spells raw text → meaning raw ≡ Ok token
    → SpellsToken token text
means_token {raw = raw} s m = inr (record { raw = raw; spelled = s; means = m })

pub means_none : {raw : Raw} {cause : Cause} {text : List ℕ} → Spells raw text → meaning raw ≡ Err cause
    → IsRefused text cause
means_none {raw = raw} s m = inl (record { raw = raw; spelled = s; means = m })
