-- Each list of bytes is read as tokens, up to its end, an open sequence, or the first text that the reading refuses.
use Rattle.std.proofs.Common.{◌≡◌, ◌⊎◌, inl, inr, ℕ, List, [], ◌∷◌, ◌++◌, refl, sym, ap, ◌∙◌}
use Rattle.std.proofs.Common.{append_assoc, subst}
use Rattle.std.specs.List.{AllByRecursion, AllZip}
use Rattle.std.proofs.lemmas.List.{append-nil}
use Rattle.std.proofs.lemmas.List.Folds.{concat-append}
use Rattle.ans_model.specs.Bytes.{IsByte}
use Rattle.ans_model.specs.Sequence.TokenKind.{TokenKind}
use Rattle.ans_model.specs.declared.fault.Cause.{Cause}
use Rattle.ans_model.specs.Sequence.Reads.{SpellsToken, ReadsAs}
use Rattle.ans_model.specs.Verdict.FirstFault.{IsRefused}
use Rattle.ans_tokens.proofs.EachByte.{IsOpen, Open, Nothing, SpellsOpen, is_open, Next, Stays, Ends, Refuses}
use Rattle.ans_tokens.proofs.EachByte.{SpellsNext, next, next_is}

-- the list begins with a text that the reading refuses
pub record IsRefusedFront (bytes : List ℕ) : Type 0 where
  pub text : List ℕ
  pub rest : List ℕ
  pub cause : Cause
  pub whole : bytes ≡ text ++ rest
  pub refused : IsRefused text cause

-- a front that is read as tokens, and what is left after it
pub record IsReadable (bytes : List ℕ) : Type 0 where
  pub front : List ℕ
  pub left : List ℕ
  pub whole : bytes ≡ front ++ left
  pub tokens : List TokenKind
  pub texts : List (List ℕ)
  pub reads : ReadsAs front tokens texts
  pub leaves : IsOpen left ⊎ IsRefusedFront left

is_readable : {bytes : List ℕ} (front left : List ℕ) → bytes ≡ front ++ left → (ts : List TokenKind)
    (xs : List (List ℕ)) → ReadsAs front ts xs → IsOpen left ⊎ IsRefusedFront left → IsReadable bytes
is_readable front left e ts xs r l =
    record { front = front; left = left; whole = e; tokens = ts; texts = xs; reads = r; leaves = l }

spells_more : (ts us : List TokenKind) (xs ys : List (List ℕ)) → AllZip SpellsToken ts xs → AllZip SpellsToken us ys
    → AllZip SpellsToken (ts ++ us) (xs ++ ys)
spells_more [] us [] ys h k = k
spells_more [] us (x ∷ xs) ys h k = absurd h
spells_more (t ∷ ts) us [] ys h k = absurd h
spells_more (t ∷ ts) us (x ∷ xs) ys h k = (h.0, spells_more ts us xs ys h.1 k)

-- tokens after tokens
pub reads_as_append : (a b : List ℕ) (ts us : List TokenKind) (xs ys : List (List ℕ)) → ReadsAs a ts xs
    → ReadsAs b us ys → ReadsAs (a ++ b) (ts ++ us) (xs ++ ys)
reads_as_append a b ts us xs ys h k = record {
  each = spells_more ts us xs ys h.each k.each;
  whole = rw (h.whole, k.whole) (sym (concat-append xs ys));
}

-- one token
pub reads_as_one : (t : TokenKind) (text : List ℕ) → SpellsToken t text → ReadsAs text (t ∷ []) (text ∷ [])
reads_as_one t text spelled = record { each = (spelled, tt); whole = sym (append-nil text) }

-- one more token is read
pub reads_as_more : (bytes text : List ℕ) (tokens : List TokenKind) (texts : List (List ℕ)) (t : TokenKind)
    → ReadsAs bytes tokens texts → SpellsToken t text
    → ReadsAs (bytes ++ text) (tokens ++ t ∷ []) (texts ++ text ∷ [])
reads_as_more bytes text tokens texts t h spelled =
    reads_as_append bytes text tokens (t ∷ []) texts (text ∷ []) h (reads_as_one t text spelled)

-- ---- all bytes of a list
-- where a reader stands: in an open part, or past what is refused
pub data Standing : Type 0 where
  In : (open_part : Open) → Standing
  Refused : (cause : Cause) → Standing

-- the tokens with their texts, what is open or refused after them, and the bytes past what is refused
pub record Progress : Type 0 where
  pub front : List ℕ
  pub tokens : List TokenKind
  pub texts : List (List ℕ)
  pub stands : Standing
  pub left : List ℕ
  pub rest : List ℕ

abbrev pub IsStanding : Standing → List ℕ → List ℕ → Type 0
IsStanding (In open_part) left rest = SpellsOpen open_part left × (rest ≡ [])
IsStanding (Refused cause) left rest = IsRefused left cause

-- the bytes are so
pub record IsProgress (bytes : List ℕ) (p : Progress) : Type 0 where
  pub whole : bytes ≡ p.front ++ (p.left ++ p.rest)
  pub reads : ReadsAs p.front p.tokens p.texts
  pub stands : IsStanding p.stands p.left p.rest

abbrev pub settled : Progress → List ℕ → Next → Progress
settled p y (Stays open_part) = record p { stands = In open_part; left = y; rest = [] }
settled p y (Refuses cause) = record p { stands = Refused cause; left = y; rest = [] }
settled p y (Ends token) = record {
  front = p.front ++ y;
  tokens = p.tokens ++ token ∷ [];
  texts = p.texts ++ y ∷ [];
  stands = In Nothing;
  left = [];
  rest = [];
}

abbrev pub with_byte : Progress → Standing → ℕ → Progress
with_byte p (In open_part) b = settled p (p.left ++ b ∷ []) (next open_part b)
with_byte p (Refused cause) b = record p { stands = Refused cause; rest = p.rest ++ b ∷ [] }

abbrev pub with_bytes : Progress → List ℕ → Progress
with_bytes p [] = p
with_bytes p (b ∷ bytes) = with_bytes (with_byte p p.stands b) bytes

-- before the first byte
abbrev pub at_start : Progress
at_start = record { front = []; tokens = []; texts = []; stands = In Nothing; left = []; rest = [] }

abbrev pub progress : List ℕ → Progress
progress bytes = with_bytes at_start bytes

settled_is : (p : Progress) (bytes y : List ℕ) (n : Next) → ReadsAs p.front p.tokens p.texts → bytes ≡ p.front ++ y
    → SpellsNext n y → IsProgress bytes (settled p y n)
settled_is p bytes y (Stays open_part) reads whole h = record {
  whole = whole ∙ ap (λ (v : List ℕ). p.front ++ v) (sym (append-nil y));
  reads = reads;
  stands = (h, refl);
}
settled_is p bytes y (Refuses cause) reads whole h =
    record { whole = whole ∙ ap (λ (v : List ℕ). p.front ++ v) (sym (append-nil y)); reads = reads; stands = h }
settled_is p bytes y (Ends token) reads whole h = record {
  whole = whole ∙ sym (append-nil (p.front ++ y));
  reads = reads_as_more p.front y p.tokens p.texts token reads h;
  stands = (refl, refl);
}

with_byte_is : (p : Progress) (s : Standing) (bytes : List ℕ) (b : ℕ) → IsByte b
    → bytes ≡ p.front ++ (p.left ++ p.rest) → ReadsAs p.front p.tokens p.texts → IsStanding s p.left p.rest
    → IsProgress (bytes ++ b ∷ []) (with_byte p s b)
with_byte_is p (In open_part) bytes b byte whole reads h =
    let front : bytes ≡ p.front ++ p.left = rw (h.1, append-nil) at whole in
    settled_is p (bytes ++ b ∷ []) (p.left ++ b ∷ []) (next open_part b) reads
    (ap (λ (v : List ℕ). v ++ b ∷ []) front ∙ append_assoc p.front p.left (b ∷ []))
    (next_is open_part p.left b byte h.0)
with_byte_is p (Refused cause) bytes b byte whole reads h = record {
  whole = ap (λ (v : List ℕ). v ++ b ∷ []) whole ∙ append_assoc p.front (p.left ++ p.rest) (b ∷ [])
      ∙ ap (λ (v : List ℕ). p.front ++ v) (append_assoc p.left p.rest (b ∷ []));
  reads = reads;
  stands = h;
}

with_bytes_is : (p : Progress) (before bytes : List ℕ) → AllByRecursion IsByte bytes → IsProgress before p
    → IsProgress (before ++ bytes) (with_bytes p bytes)
with_bytes_is p before [] bytes h = rw append-nil h
with_bytes_is p before (b ∷ rest) bytes h =
    subst (λ (all : List ℕ). IsProgress all (with_bytes (with_byte p p.stands b) rest))
    (append_assoc before (b ∷ []) rest)
    (with_bytes_is (with_byte p p.stands b) (before ++ b ∷ []) rest bytes.1
    (with_byte_is p p.stands before b bytes.0 h.whole h.reads h.stands))

-- what is computed of bytes is so
pub progress_is : (bytes : List ℕ) → AllByRecursion IsByte bytes → IsProgress bytes (progress bytes)
progress_is bytes h = with_bytes_is at_start [] bytes h
    (record { whole = refl; reads = record { each = tt; whole = refl }; stands = (refl, refl) })

leaves : (s : Standing) (left rest : List ℕ) → IsStanding s left rest
    → IsOpen (left ++ rest) ⊎ IsRefusedFront (left ++ rest)
leaves (In open_part) left rest h = inl (rw (h.1, append-nil) (is_open open_part left h.0))
leaves (Refused cause) left rest h =
    inr (record { text = left; rest = rest; cause = cause; whole = refl; refused = h })

pub readable : (bytes : List ℕ) → AllByRecursion IsByte bytes → IsReadable bytes
readable bytes h =
    let p = progress bytes in
    let r = progress_is bytes h in
    is_readable p.front (p.left ++ p.rest) r.whole p.tokens p.texts r.reads (leaves p.stands p.left p.rest r.stands)
