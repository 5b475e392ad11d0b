-- What is computed of bytes proves the examples of sequences and of texts of tokens.
use Rattle.std.proofs.Common.{◌≡◌, inl, inr, ℕ, ◌<◌, Bool, true, false, nat_lt, List, [], ◌∷◌, ◌++◌, length, refl, sym}
use Rattle.std.proofs.Common.{subst, subst₂, arith, Option, Some, None}
use Rattle.std.proofs.lemmas.Bool.{and_parts}
use Rattle.std.proofs.lemmas.Bool.Decides.{nat_tests}
use Rattle.std.proofs.lemmas.List.{append-nil}
use Rattle.std.specs.List.{AllZip, AllByRecursion, list_all}
use Rattle.ans_model.specs.Bytes.{IsByte}
use Rattle.ans_model.specs.declared.fault.Cause.{Cause}
use Rattle.ans_model.specs.declared.fault.Cause.TheVariants.{EndInSequence}
use Rattle.ans_model.specs.declared.fault.Fault.{Fault}
use Rattle.ans_model.specs.Sequence.TokenKind.{TokenKind}
use Rattle.ans_model.specs.Sequence.Spelling.{IsUnfinished}
use Rattle.ans_model.specs.Sequence.Reads.{SpellsToken}
use Rattle.ans_model.specs.Verdict.FirstFault.{IsRefused}
use Rattle.ans_model.specs.File.Refusals.{fault_at}
use Rattle.ans_model.specs.Text.TokensText.{TokensText, Leaves, token_lines, fault_end}
use Rattle.ans_model.proofs.AfterPart.{part_unfinished}
use Rattle.ans_tokens.proofs.OpenLemmas.{escape_unfinished}
use Rattle.ans_tokens.proofs.EachByte.{Nothing, Escape, Within}
use Rattle.ans_tokens.proofs.Readable.{Standing, In, Refused, progress, progress_is, IsStanding}

-- all are bytes, as a test
abbrev pub are_bytes : List ℕ → Bool
are_bytes text = list_all (λ b. nat_lt b 256) text

all_bytes : (text : List ℕ) → are_bytes text ≡ true → AllByRecursion IsByte text
all_bytes [] h = tt
all_bytes (b ∷ text) h = (
  below b (and_parts (nat_lt b 256) (are_bytes text) h).0,
  all_bytes text (and_parts (nat_lt b 256) (are_bytes text) h).1,
)
  where
    below : (b : ℕ) → nat_lt b 256 ≡ true → b < 256
    below b e = grind (arith, nat_tests)

-- the one token that is read is spelled
pub spells : (token : TokenKind) (text : List ℕ) → are_bytes text ≡ true → (progress text).tokens ≡ token ∷ []
    → (progress text).texts ≡ text ∷ [] → SpellsToken token text
spells token text bytes t x =
    (subst₂ (λ (v : List TokenKind) (w : List (List ℕ)). AllZip SpellsToken v w) t x
    (progress_is text (all_bytes text bytes)).reads.each).0

-- the bytes that are left are refused
pub refuses : (cause : Cause) (text : List ℕ) → are_bytes text ≡ true → (progress text).stands ≡ Refused cause
    → (progress text).left ≡ text → IsRefused text cause
refuses cause text bytes s x =
    subst₂ (λ (v : Standing) (w : List ℕ). IsStanding v w (progress text).rest) s x
    (progress_is text (all_bytes text bytes)).stands

abbrev pub in_sequence : Standing → Bool
in_sequence (In Escape) = true
in_sequence (In (Within part)) = true
in_sequence _ = false

unfinished : (s : Standing) (left rest : List ℕ) → in_sequence s ≡ true → IsStanding s left rest → IsUnfinished left
unfinished (In Escape) left rest e h = rw h.0 escape_unfinished
unfinished (In (Within part)) left rest e h = part_unfinished part left h.0
unfinished _ left rest e h = cc

-- the bytes that are left are unfinished
pub stays_open : (text : List ℕ) → are_bytes text ≡ true → in_sequence (progress text).stands ≡ true
    → (progress text).left ≡ text → IsUnfinished text
stays_open text bytes e x = subst IsUnfinished x
    (unfinished (progress text).stands (progress text).left (progress text).rest e
    (progress_is text (all_bytes text bytes)).stands)

-- the fault of what is left from here on
abbrev pub fault_from : ℕ → Standing → Option Fault
fault_from start (In Nothing) = None
fault_from start (In _) = Some (fault_at start EndInSequence)
fault_from start (Refused cause) = Some (fault_at start cause)

leaves : (start : ℕ) (s : Standing) (left rest : List ℕ) → IsStanding s left rest
    → Leaves start (left ++ rest) (fault_from start s)
leaves start (In Nothing) left rest h = rw (h.0, h.1) refl
leaves start (In Escape) left rest h = inr (rw (h.1, append-nil) (unfinished (In Escape) left rest refl h), refl)
leaves start (In (Within part)) left rest h =
    inr (rw (h.1, append-nil) (unfinished (In (Within part)) left rest refl h), refl)
leaves start (Refused cause) left rest h = inl (left, rest, cause, refl, h, refl)

-- the text of the tokens that are read, and of the fault after them
pub tokens_text : (content : List ℕ) (fault : Option Fault) (text : List ℕ) → are_bytes content ≡ true
    → fault_from (length (progress content).front) (progress content).stands ≡ fault
    → token_lines 0 (progress content).tokens (progress content).texts ++ fault_end fault ≡ text
    → TokensText content fault text
tokens_text content fault text bytes end lines =
    let p = progress content in
    let h = progress_is content (all_bytes content bytes) in
    record {
      front = p.front;
      left = p.left ++ p.rest;
      whole = h.whole;
      tokens = p.tokens;
      texts = p.texts;
      reads = h.reads;
      leaves = subst (λ (f : Option Fault). Leaves (length p.front) (p.left ++ p.rest) f) end
          (leaves (length p.front) p.stands p.left p.rest h.stands);
      text_is = sym lines;
    }
