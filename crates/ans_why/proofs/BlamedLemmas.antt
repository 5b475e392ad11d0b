-- What is read first at a fault is what is to blame for it.
use Rattle.std.proofs.Common.{◌≡◌, ◌⊎◌, inl, inr, ℕ, ◌+◌, ◌≤◌, ◌<◌, List, [], ◌∷◌, ◌++◌, length, take, drop, get_or}
use Rattle.std.proofs.Common.{refl, sym, ap, ◌∙◌, arith, subst, None}
use Rattle.std.proofs.Math.Seq.{drop-append_seam, drop-length}
use Rattle.std.proofs.lemmas.List.{take_all, take_more, take-append-drop}
use Rattle.ans_model.specs.declared.fault.Fault.{Fault}
use Rattle.ans_model.specs.declared.start.Start.{Start}
use Rattle.ans_model.specs.Screen.State.{Size}
use Rattle.ans_model.specs.Sequence.TokenKind.{TokenKind}
use Rattle.ans_model.specs.Sequence.Reads.{SpellsToken}
use Rattle.ans_model.specs.Inside.ShownKind.{shown_kind}
use Rattle.ans_model.specs.Sequence.Spelling.{IsUnfinished}
use Rattle.ans_model.specs.Verdict.FirstFault.{IsFirstFault, IsRefused}
use Rattle.ans_model.specs.Verdict.LastFault.{EndsInSequence, LeavesUnknown, IsDeserved}
use Rattle.ans_model.proofs.Reading.{one_token_in_front, token_nonempty, unfinished_no_token, refused_no_token}
use Rattle.ans_model.proofs.Reading.{refused_nonempty}
use Rattle.ans_model.proofs.Refusing.{unfinished_not_refused, one_cause_of_refused}
use Rattle.ans_tokens.specs.ScannerView.{ScannerView, Holds, StaysUnfinished, EndsToken, RefusesByte, new_scanner}
use Rattle.ans_tokens.specs.Token.{kind_of}
use Rattle.ans_tokens.specs.declared.token.Token.{Token}
use Rattle.ans_tokens.proofs.EachByte.{kept_open, open_ends}
use Rattle.ans_why.specs.Blamed.{AreToBlame, BeginsWithToken, BeginsWithRefused, IsAllOf, IsReadFirst}

-- ---- reading
-- the first bytes are an open part, of which the scanner has refused none
pub record IsOpenSoFar (bytes : List ℕ) (i : ℕ) (s : ScannerView) : Type 0 where
  pub within : i ≤ length bytes
  pub offset : s.offset ≡ i
  pub unrefused : s.fault ≡ None
  pub holds : Holds s (take i bytes)

pub none_open : (bytes : List ℕ) (s : ScannerView) → s ≡ new_scanner → IsOpenSoFar bytes 0 s
none_open bytes s e =
    rw e (record {
      within = omega arith;
      offset = refl;
      unrefused = refl;
      holds = record { keeps = refl; begun_at = refl };
    })

module _ (bytes : List ℕ) (i : ℕ) (old : ScannerView) (h : IsOpenSoFar bytes i old) (lt : i < length bytes) where
  next_byte : take i bytes ++ get_or bytes i 0 ∷ [] ≡ take (i + 1) bytes
  next_byte = sym (take_more bytes i 0 lt)

  from_front : bytes ≡ take (i + 1) bytes ++ drop (i + 1) bytes
  from_front = sym (take-append-drop (i + 1) bytes)

  pub still_open : (new : ScannerView) → StaysUnfinished old new (get_or bytes i 0) → new.offset ≡ old.offset + 1
      → new.fault ≡ None → IsOpenSoFar bytes (i + 1) new
  still_open new stays offset unrefused = record {
    within = omega (arith, lt);
    offset = omega (arith, offset, h.offset);
    unrefused = unrefused;
    holds = subst (Holds new) next_byte (stays (take i bytes) h.holds).1;
  }

  pub token_read : (new : ScannerView) (t : Token) → EndsToken old new (get_or bytes i 0) t
      → IsReadFirst bytes (take (i + 1) bytes)
  token_read new t ends =
      let kind : TokenKind = shown_kind (kind_of t) in
      inl (record {
        token = kind;
        rest = drop (i + 1) bytes;
        whole = from_front;
        spelled = subst (SpellsToken kind) next_byte (ends (take i bytes) h.holds).0.spelled;
      })

  pub refused_read : (fault : Fault) → RefusesByte old (get_or bytes i 0) fault
      → IsReadFirst bytes (take (i + 1) bytes)
  refused_read fault refuses =
      inr (inl (record {
        cause = fault.cause;
        rest = drop (i + 1) bytes;
        whole = from_front;
        refused = subst (λ (v : List ℕ). IsRefused v fault.cause) next_byte
            (refuses (take i bytes) h.holds).refused;
      }))

-- all of them are
pub all_read : (bytes : List ℕ) (i : ℕ) (s : ScannerView) → IsOpenSoFar bytes i s → length bytes ≤ i
    → IsReadFirst bytes bytes
all_read bytes i s h all =
    let whole : take i bytes ≡ bytes = take_all i bytes all in
    inr (inr (
      refl,
      subst (λ (v : List ℕ). (v ≡ []) ⊎ IsUnfinished v) whole
          (open_ends (take i bytes) (kept_open s.kept (take i bytes) h.holds.keeps)),
    ))

-- ---- who is to blame
-- bytes of which none are left, or which are unfinished, begin with no token and with nothing that is refused
no_token : (bytes text rest : List ℕ) (t : BeginsWithToken bytes text) → (bytes ≡ []) ⊎ IsUnfinished bytes → ⊥
no_token bytes text rest t (inl none) = token_nonempty t.token text t.rest t.spelled (sym t.whole ∙ none)
no_token bytes text rest t (inr unfinished) =
    unfinished_no_token t.token text t.rest t.spelled (subst IsUnfinished t.whole unfinished)

no_refused : (bytes text rest : List ℕ) (r : BeginsWithRefused bytes text) → (bytes ≡ []) ⊎ IsUnfinished bytes → ⊥
no_refused bytes text rest r (inl none) = refused_nonempty text r.rest r.cause r.refused (sym r.whole ∙ none)
no_refused bytes text rest r (inr unfinished) =
    unfinished_not_refused bytes text r.rest r.cause unfinished r.refused r.whole

module _ (z : Size) (class : Start) (content : List ℕ) (fault : Fault) where
  -- ---- a first fault
  module _ (h : IsFirstFault z class content fault) where
    from_fault : drop fault.offset content ≡ h.text ++ h.rest
    from_fault = rw (h.offset, h.whole) (drop-append_seam h.front (h.text ++ h.rest))

    -- the same fault, by a text that is refused too
    abbrev with_text : (text rest : List ℕ) → h.text ++ h.rest ≡ text ++ rest → IsRefused text fault.cause
        → IsFirstFault z class content fault
    with_text text rest e refused = record {
      size = h.size;
      front = h.front;
      text = text;
      rest = rest;
      whole = h.whole ∙ ap (λ (v : List ℕ). h.front ++ v) e;
      tokens = h.tokens;
      reads = h.reads;
      clean = h.clean;
      offset = h.offset;
      faulty = inr refused;
    }

    token_first : (text : List ℕ) → BeginsWithToken (drop fault.offset content) text
        → AreToBlame z class content fault text
    token_first text t =
        let e : text ++ t.rest ≡ h.text ++ h.rest = sym t.whole ∙ from_fault in
        elim h.faulty [
          | inl blame ↦ inl
              (h, (one_token_in_front t.token blame.token text h.text t.rest h.rest t.spelled blame.spelled e).1)
          | inr refused ↦
              absurd (refused_no_token t.token h.text text h.rest t.rest fault.cause refused t.spelled (sym e))
        ]

    refused_first : (text : List ℕ) → BeginsWithRefused (drop fault.offset content) text
        → AreToBlame z class content fault text
    refused_first text r =
        let e : text ++ r.rest ≡ h.text ++ h.rest = sym r.whole ∙ from_fault in
        elim h.faulty [
          | inl blame ↦
              absurd (refused_no_token blame.token text h.text r.rest h.rest r.cause r.refused blame.spelled e)
          | inr refused ↦
              let same = one_cause_of_refused text h.text r.rest h.rest r.cause fault.cause r.refused refused e in
              inl (with_text text r.rest (sym e) (rw same at r.refused), refl)
        ]

    all_first : (text : List ℕ) → IsAllOf (drop fault.offset content) text → AreToBlame z class content fault text
    all_first text all = elim h.faulty [
      | inl blame ↦ absurd (no_token (drop fault.offset content) h.text h.rest
          (record { token = blame.token; rest = h.rest; whole = from_fault; spelled = blame.spelled }) all.1)
      | inr refused ↦ absurd (no_refused (drop fault.offset content) h.text h.rest
          (record { cause = fault.cause; rest = h.rest; whole = from_fault; refused = refused }) all.1)
    ]

    pub of_first : (text : List ℕ) → IsReadFirst (drop fault.offset content) text
        → AreToBlame z class content fault text
    of_first text (inl t) = token_first text t
    of_first text (inr (inl r)) = refused_first text r
    of_first text (inr (inr all)) = all_first text all

  -- ---- a last fault
  -- what is left from the fault on is nothing, or unfinished
  left_only : (text : List ℕ) → (drop fault.offset content ≡ []) ⊎ IsUnfinished (drop fault.offset content)
      → IsReadFirst (drop fault.offset content) text → text ≡ drop fault.offset content
  left_only text left (inl t) = absurd (no_token (drop fault.offset content) text t.rest t left)
  left_only text left (inr (inl r)) = absurd (no_refused (drop fault.offset content) text r.rest r left)
  left_only text left (inr (inr all)) = all.0

  of_end : (text : List ℕ) (h : EndsInSequence z class content fault) → IsReadFirst (drop fault.offset content) text
      → AreToBlame z class content fault text
  of_end text h first =
      let at : fault.offset ≡ length h.front = ap (λ (f : Fault). f.offset) h.fault_is in
      let left : drop fault.offset content ≡ h.text =
      rw (at, h.whole) (drop-append_seam h.front h.text) in
      inr (inl (h, left_only text (inr (subst IsUnfinished (sym left) h.unfinished)) first ∙ left))

  of_cell : (text : List ℕ) (h : LeavesUnknown z class content fault) → IsReadFirst (drop fault.offset content) text
      → AreToBlame z class content fault text
  of_cell text h first =
      let at : fault.offset ≡ length content = ap (λ (f : Fault). f.offset) h.fault_is in
      let left : drop fault.offset content ≡ [] = rw at (drop-length content) in
      inr (inr (h, left_only text (inl left) first ∙ left))

  pub to_blame : (text : List ℕ) → IsDeserved z class content fault → IsReadFirst (drop fault.offset content) text
      → AreToBlame z class content fault text
  to_blame text (inl h) first = of_first h text first
  to_blame text (inr (inl h)) first = of_end text h first
  to_blame text (inr (inr h)) first = of_cell text h first
