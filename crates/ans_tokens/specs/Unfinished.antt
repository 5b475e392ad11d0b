-- What the state of an unfinished sequence says of its bytes, and what becomes of them with the next.
use Rattle.std.specs.Prelude.{◌≡◌, ◌≢◌, ℕ, false, List, [], ◌∷◌, ◌++◌}
use Rattle.ans_model.specs.Sequence.Spelling.{Omitted, is_mark_byte, mark_bytes, Spells, IsPrefixOfSpelling}
use Rattle.ans_model.specs.declared.mark.Mark.{Mark}
use Rattle.ans_model.specs.declared.mark.Mark.TheVariants.{Unmarked}
use Rattle.ans_model.specs.Inside.OpenPart.{Part, Fresh, SpellsPart, lacks, member_of, members_of, raw_of}
use Rattle.ans_model.specs.Verdict.FirstFault.{IsWhy}
use Rattle.ans_tokens.specs.ScannerView.{KeepsPart}
use Rattle.ans_tokens.specs.KeptMember.{kept_member}
use Rattle.ans_tokens.specs.declared.unfinished.Continuation.{Continuation}
use Rattle.ans_tokens.specs.declared.unfinished.Continuation.TheVariants.{More, Letter, Refused}
use Rattle.ans_tokens.specs.declared.unfinished.Unfinished.{Unfinished}

-- this is the state of the part
abbrev pub IsStateOf : Unfinished → Part → Type 0
IsStateOf held part = KeepsPart held.mark held.done.items held.quoted (kept_member held.current) part

-- directly after `[`
abbrev pub empty_part : Part
empty_part = record { mark = Unmarked; done = []; current = Fresh }

-- the byte is this mark, directly after `[`
abbrev pub IsMarkAt : Part → Mark → ℕ → Type 0
IsMarkAt part mark byte = (part.mark ≡ Unmarked) × (part.done ≡ []) × (mark_bytes mark ≡ byte ∷ [])

-- directly after `[` the byte is no mark
abbrev pub IsNoMarkAt : Part → ℕ → Type 0
IsNoMarkAt part byte = part.mark ≡ Unmarked → part.done ≡ [] → is_mark_byte byte ≡ false

-- a letter may come next: no string is open, and the members are not one that is omitted
abbrev pub IsWhole : Part → Type 0
IsWhole part = (lacks part.current ≡ []) × (members_of part.done part.current ≢ Omitted ∷ [])

-- after the `;` that ends the current member
abbrev pub with_next : Part → Part
with_next part = record { mark = part.mark; done = part.done ++ member_of part.current ∷ []; current = Fresh }

-- After the open part, which the part spells, the byte leaves the sequence unfinished, is its letter, or is refused.
abbrev pub ContinuesAs : Continuation → Unfinished → Part → List ℕ → ℕ → Type 0
ContinuesAs More held part open_part byte =
    (next : Part) × IsStateOf held next × SpellsPart next (open_part ++ byte ∷ [])
ContinuesAs Letter held part open_part byte =
    IsStateOf held part × (lacks part.current ≡ []) × Spells (raw_of part byte) (open_part ++ byte ∷ [])
ContinuesAs (Refused cause) held part open_part byte =
    ¬ IsPrefixOfSpelling (open_part ++ byte ∷ []) × IsWhy (open_part ++ byte ∷ []) byte cause
