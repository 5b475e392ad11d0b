-- What a scanner has read that takes bytes one by one.
use Rattle.std.proofs.Common.{◌≡◌, inl, inr, ℕ, ◌+◌, ◌-◌, List, [], ◌∷◌, ◌++◌, length, take, drop, refl, ap, sym}
use Rattle.std.proofs.Common.{◌∙◌, ap₂, subst, arith, Ok, Err, append_assoc, length-append}
use Rattle.std.specs.List.{AllZip, concat}
use Rattle.std.proofs.Math.Seq.{take-append_seam, drop-append_seam}
use Rattle.std.proofs.lemmas.List.{append-nil, map-append}
use Rattle.ans_model.specs.declared.fault.Fault.{Fault}
use Rattle.ans_model.specs.Sequence.TokenKind.{TokenKind}
use Rattle.ans_model.specs.Sequence.Reads.{SpellsToken, Reads, ReadsAs}
use Rattle.ans_model.specs.Inside.ShownKind.{shown_kind}
use Rattle.ans_model.proofs.Reading.{token_nonempty, one_token_in_front, unfinished_not_read, refused_not_read}
use Rattle.ans_tokens.specs.ScannerView.{ScannerView, Holds, EndsToken, RefusesByte, Ends}
use Rattle.ans_tokens.specs.Scanning.{TakesBytes, kinds_of, text_of, token_texts}
use Rattle.ans_tokens.specs.Token.{kind_of, start_of, length_of}
use Rattle.ans_tokens.specs.declared.token.Token.{Token}
use Rattle.ans_tokens.proofs.EachByte.{kept_open, open_ends}
use Rattle.ans_tokens.proofs.Readable.{reads_as_more}

-- ---- what was taken
-- the bytes are the texts of the tokens, and then the open part
pub record IsScanned (offset : ℕ) (bytes : List ℕ) (s : ScannerView) (tokens : List Token) : Type 0 where
  pub front : List ℕ
  pub open_part : List ℕ
  pub whole : bytes ≡ front ++ open_part
  pub reads : ReadsAs front (kinds_of tokens) (token_texts offset bytes tokens)
  pub holds : Holds s open_part

-- the same with the bytes that are still to come
record ScansOn (offset : ℕ) (bytes rest : List ℕ) (s : ScannerView) (tokens : List Token) : Type 0 where
  front : List ℕ
  open_part : List ℕ
  whole : bytes ≡ front ++ (open_part ++ rest)
  reads : ReadsAs front (kinds_of tokens) (token_texts offset bytes tokens)
  holds : Holds s open_part
  at : s.offset ≡ offset + (length front + length open_part)

one_more : (front y rest : List ℕ) (b : ℕ) → front ++ (y ++ b ∷ rest) ≡ front ++ ((y ++ b ∷ []) ++ rest)
one_more front y rest b = ap (λ (v : List ℕ). front ++ v) (sym (append_assoc y (b ∷ []) rest))

-- the bytes of the token are the open part and the byte that ends it
text_is : (offset start long : ℕ) (bytes front text rest : List ℕ) → bytes ≡ front ++ (text ++ rest)
    → start ≡ offset + length front → long ≡ length text → take long (drop (start - offset) bytes) ≡ text
text_is offset start long bytes front text rest whole at size =
    let begun : start - offset ≡ length front = omega (arith, at) in
    rw (begun, size, whole, drop-append_seam front (text ++ rest)) (take-append_seam text rest)

after_token : (offset : ℕ) (bytes rest : List ℕ) (old new : ScannerView) (tokens : List Token) (b : ℕ) (t : Token)
    → ScansOn offset bytes (b ∷ rest) old tokens → EndsToken old new b t → new.offset ≡ old.offset + 1
    → ScansOn offset bytes rest new (tokens ++ t ∷ [])
after_token offset bytes rest old new tokens b t h ends at =
    let (is_token, holds) = ends h.open_part h.holds in
    let text = h.open_part ++ b ∷ [] in
    let kind = shown_kind (kind_of t) in
    let whole : bytes ≡ h.front ++ (text ++ rest) = h.whole ∙ one_more h.front h.open_part rest b in
    let size : length text ≡ length h.open_part + 1 = length-append h.open_part (b ∷ []) in
    let same : text_of offset bytes t ≡ text =
    text_is offset (start_of t) (length_of t) bytes h.front text rest whole (omega (arith, is_token.starts, h.at))
    (is_token.long ∙ sym size) in
    let read = reads_as_more h.front text (kinds_of tokens) (token_texts offset bytes tokens) kind h.reads
    is_token.spelled in
    record {
      front = h.front ++ text;
      open_part = [];
      whole = whole ∙ sym (append_assoc h.front text rest);
      reads = rw (
        map-append (λ t. shown_kind (kind_of t)) tokens (t ∷ []),
        map-append (text_of offset bytes) tokens (t ∷ []),
        same,
      ) read;
      holds = holds;
      at = omega (arith, at, h.at, size, length-append h.front text);
    }

scans_on : (rest : List ℕ) (offset : ℕ) (bytes : List ℕ) (old new : ScannerView) (tokens later : List Token)
    → ScansOn offset bytes rest old tokens → TakesBytes old rest later new
    → IsScanned offset bytes new (tokens ++ later)
scans_on [] offset bytes old new tokens later h (none, same) = rw (none, same, append-nil) (record {
  front = h.front;
  open_part = h.open_part;
  whole = h.whole ∙ ap (λ (v : List ℕ). h.front ++ v) (append-nil h.open_part);
  reads = h.reads;
  holds = h.holds;
})
scans_on (b ∷ rest) offset bytes old new tokens later h (next, more, step, steps) = elim step.gives [
  | inl (stays, same) ↦
      let (unfinished, holds) = stays h.open_part h.holds in
      let on : ScansOn offset bytes rest next tokens = record {
        front = h.front;
        open_part = h.open_part ++ b ∷ [];
        whole = h.whole ∙ one_more h.front h.open_part rest b;
        reads = h.reads;
        holds = holds;
        at = omega (arith, step.offset, h.at, length-append h.open_part (b ∷ []));
      } in
      rw same (scans_on rest offset bytes next new tokens more on steps)
  | inr (t, ends, is) ↦
      let on = after_token offset bytes rest old next tokens b t h ends step.offset in
      subst (IsScanned offset bytes new)
      (append_assoc tokens (t ∷ []) more ∙ ap (λ (v : List Token). tokens ++ v) (sym is))
      (scans_on rest offset bytes next new (tokens ++ t ∷ []) more on steps)
]

-- after the bytes, which were taken from an empty open part
pub scanned : (old new : ScannerView) (bytes : List ℕ) (tokens : List Token) → Holds old []
    → TakesBytes old bytes tokens new → IsScanned old.offset bytes new tokens
scanned old new bytes tokens empty takes = scans_on bytes old.offset bytes old new [] tokens (record {
  front = [];
  open_part = [];
  whole = refl;
  reads = record { each = tt; whole = refl };
  holds = empty;
  at = omega arith;
}) takes

-- ---- at the end
pub scanned_read : (offset : ℕ) (bytes : List ℕ) (s : ScannerView) (tokens : List Token)
    → IsScanned offset bytes s tokens → Ends s (Ok tt)
    → ReadsAs bytes (kinds_of tokens) (token_texts offset bytes tokens)
scanned_read offset bytes s tokens h ends =
    let none : h.open_part ≡ [] = ends h.open_part h.holds in
    let all : h.front ≡ bytes =
    sym (append-nil h.front) ∙ ap (λ (v : List ℕ). h.front ++ v) (sym none) ∙ sym h.whole in
    subst (λ (v : List ℕ). ReadsAs v (kinds_of tokens) (token_texts offset bytes tokens)) all h.reads

-- ---- what has a reading
-- the reading begins with these tokens and texts, and goes on over the other bytes
pub record IsSplit (first tokens : List TokenKind) (first_texts texts : List (List ℕ)) (rest : List ℕ) : Type 0 where
  pub later : List TokenKind
  pub later_texts : List (List ℕ)
  pub tokens_are : tokens ≡ first ++ later
  pub texts_are : texts ≡ first_texts ++ later_texts
  pub reads : ReadsAs rest later later_texts

pub split_reading : (ts us : List TokenKind) (xs zs : List (List ℕ)) (y : List ℕ) → AllZip SpellsToken ts xs
    → AllZip SpellsToken us zs → concat xs ++ y ≡ concat zs → IsSplit ts us xs zs y
split_reading [] us [] zs y h g e = record {
  later = us;
  later_texts = zs;
  tokens_are = refl;
  texts_are = refl;
  reads = record { each = g; whole = e };
}
split_reading [] us (a ∷ xs) zs y h g e = absurd h
split_reading (t ∷ ts) us [] zs y h g e = absurd h
split_reading (t ∷ ts) [] (a ∷ xs) [] y h g e =
    absurd (token_nonempty t a (concat xs ++ y) h.0 (sym (append_assoc a (concat xs) y) ∙ e))
split_reading (t ∷ ts) [] (a ∷ xs) (b ∷ zs) y h g e = absurd g
split_reading (t ∷ ts) (u ∷ us) (a ∷ xs) [] y h g e = absurd g
split_reading (t ∷ ts) (u ∷ us) (a ∷ xs) (b ∷ zs) y h g e =
    let s = one_token_in_front t u a b (concat xs ++ y) (concat zs) h.0 g.0
    (sym (append_assoc a (concat xs) y) ∙ e) in
    let r = split_reading ts us xs zs y h.1 g.1 s.2 in
    record {
      later = r.later;
      later_texts = r.later_texts;
      tokens_are = ap₂ (λ (v : TokenKind) (w : List TokenKind). v ∷ w) (sym s.0) r.tokens_are;
      texts_are = ap₂ (λ (v : List ℕ) (w : List (List ℕ)). v ∷ w) (sym s.1) r.texts_are;
      reads = r.reads;
    }

-- tokens begin with these, and the others are those of the bytes that are left
pub record ReadsOn (rest : List ℕ) (ts us : List TokenKind) : Type 0 where
  pub later : List TokenKind
  pub more : us ≡ ts ++ later
  pub reads : Reads rest later

-- what stands after bytes that are read is read too
pub reads_on : (front rest : List ℕ) (ts us : List TokenKind) → Reads front ts → Reads (front ++ rest) us
    → ReadsOn rest ts us
reads_on front rest ts us (xs, h) (zs, g) =
    let s = split_reading ts us xs zs rest h.each g.each (ap (λ (v : List ℕ). v ++ rest) (sym h.whole) ∙ g.whole) in
    record { later = s.later; more = s.tokens_are; reads = (s.later_texts, s.reads) }

-- after what was taken
read_on : (offset : ℕ) (bytes rest : List ℕ) (s : ScannerView) (tokens : List Token) (us : List TokenKind)
    (h : IsScanned offset bytes s tokens) → Reads (bytes ++ rest) us
    → ReadsOn (h.open_part ++ rest) (kinds_of tokens) us
read_on offset bytes rest s tokens us h reads =
    reads_on h.front (h.open_part ++ rest) (kinds_of tokens) us (token_texts offset bytes tokens, h.reads)
    (subst (λ (v : List ℕ). Reads v us)
    (ap (λ (v : List ℕ). v ++ rest) h.whole ∙ append_assoc h.front h.open_part rest) reads)

-- nothing is read as no token
pub nothing_left : (ts : List TokenKind) (xs : List (List ℕ)) → ReadsAs [] ts xs → (ts ≡ []) × (xs ≡ [])
nothing_left [] [] h = (refl, refl)
nothing_left [] (x ∷ xs) h = absurd h.each
nothing_left (t ∷ ts) [] h = absurd h.each
nothing_left (t ∷ ts) (x ∷ xs) h = absurd (token_nonempty t x (concat xs) h.each.0 (sym h.whole))

pub none_left : (rest : List TokenKind) → Reads [] rest → rest ≡ []
none_left rest (xs, h) = (nothing_left rest xs h).0

-- the tokens are those of the one reading
pub scanned_only : (offset : ℕ) (bytes : List ℕ) (s : ScannerView) (tokens : List Token) (us : List TokenKind)
    → IsScanned offset bytes s tokens → Reads bytes us → kinds_of tokens ≡ us
scanned_only offset bytes s tokens us h reads =
    let r = read_on offset bytes [] s tokens us h (rw append-nil reads) in
    let left : Reads h.open_part r.later = rw append-nil at r.reads in
    elim (open_ends h.open_part (kept_open s.kept h.open_part h.holds.keeps)) [
      | inl none ↦
          let end : r.later ≡ [] = none_left r.later (subst (λ (v : List ℕ). Reads v r.later) none left) in
          sym (r.more ∙ ap (λ (v : List TokenKind). kinds_of tokens ++ v) end ∙ append-nil (kinds_of tokens))
      | inr unfinished ↦ absurd (unfinished_not_read h.open_part r.later unfinished left)
    ]

-- bytes that are read do not end in a sequence
pub scanned_ends : (offset : ℕ) (bytes : List ℕ) (s : ScannerView) (tokens : List Token) (us : List TokenKind)
    (fault : Fault) → IsScanned offset bytes s tokens → Reads bytes us → ¬ Ends s (Err fault)
scanned_ends offset bytes s tokens us fault h reads ends =
    let r = read_on offset bytes [] s tokens us h (rw append-nil reads) in
    let left : Reads h.open_part r.later = rw append-nil at r.reads in
    unfinished_not_read h.open_part r.later (ends h.open_part h.holds).0 left

-- no byte of bytes that are read is refused
pub scanned_refused : (offset : ℕ) (bytes rest : List ℕ) (b : ℕ) (s : ScannerView) (tokens : List Token)
    (us : List TokenKind) (fault : Fault) → IsScanned offset bytes s tokens → RefusesByte s b fault
    → ¬ Reads (bytes ++ b ∷ rest) us
scanned_refused offset bytes rest b s tokens us fault h refuses reads =
    let r = read_on offset bytes (b ∷ rest) s tokens us h reads in
    let left : Reads ((h.open_part ++ b ∷ []) ++ rest) r.later =
    rw (append_assoc h.open_part (b ∷ []) rest) r.reads in
    refused_not_read (h.open_part ++ b ∷ []) rest fault.cause r.later (refuses h.open_part h.holds).refused left
