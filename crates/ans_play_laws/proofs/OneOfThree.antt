-- Bytes are good, or have a first fault, or have a last fault.
use Rattle.std.proofs.Common.{◌≡◌, ◌⊎◌, inl, inr, ℕ, zero, suc, List, [], ◌∷◌, ◌++◌, length, take, drop, All}
use Rattle.std.proofs.Common.{Some, refl, sym, ap, ◌∙◌, subst, append_assoc}
use Rattle.std.specs.Prelude.{slice_get}
use Rattle.std.specs.List.{AllByRecursion, AllZip, concat}
use Rattle.std.proofs.lemmas.Option.{same_Some}
use Rattle.std.proofs.lemmas.List.{append-nil}
use Rattle.std.proofs.lemmas.List.Elements.{All-head, All-tail}
use Rattle.ans_model.specs.Bytes.{IsByte}
use Rattle.ans_model.specs.Sequence.TokenKind.{TokenKind}
use Rattle.ans_model.specs.declared.fault.Fault.{Fault}
use Rattle.ans_model.specs.declared.fault.Cause.TheVariants.{EndInSequence}
use Rattle.ans_model.specs.Sequence.Reads.{SpellsToken, Reads}
use Rattle.ans_model.specs.File.Refusals.{fault_at}
use Rattle.ans_model.specs.Sequence.Spelling.{IsUnfinished}
use Rattle.ans_model.specs.Screen.State.{Size, IsSize}
use Rattle.ans_model.specs.declared.start.Start.{Start}
use Rattle.ans_model.specs.Verdict.TokenFault.{IsClean}
use Rattle.ans_model.specs.Verdict.Good.{IsGood}
use Rattle.ans_model.specs.Verdict.FirstFault.{IsFirstFault}
use Rattle.ans_model.specs.Verdict.LastFault.{IsLastFault}
use Rattle.ans_model.proofs.Reading.{reads_bytes}
use Rattle.ans_tokens.proofs.EachByte.{IsOpen, open_ends}
use Rattle.ans_tokens.proofs.Readable.{IsRefusedFront, IsReadable, readable}
use Rattle.ans_play.specs.HalfState.{HalfState}
use Rattle.ans_play.specs.Stands.{IsKnownAfter}
use Rattle.ans_play.proofs.TwoStarts.{HasFaultyToken, clean_or_faulty}
use Rattle.ans_play.proofs.WholeBytes.{good_if_known, known_or_last}
use Rattle.ans_play.proofs.Zips.{AllZip-take}

-- bytes are good, or have a first or a last fault
abbrev pub HasAnAnswer : Size → Start → List ℕ → Type 0
HasAnAnswer z class bytes = IsGood z class bytes ⊎ ((f : Fault) × IsFirstFault z class bytes f)
    ⊎ ((f : Fault) × IsLastFault z class bytes f)

-- the texts of tokens around one of them
pub record IsTextAt (tokens : List TokenKind) (texts : List (List ℕ)) (n : ℕ) (t : TokenKind) : Type 0 where
  pub text : List ℕ
  pub spelled : SpellsToken t text
  pub whole : concat texts ≡ concat (take n texts) ++ (text ++ concat (drop (suc n) texts))

-- the texts around one token
text_at : (tokens : List TokenKind) (texts : List (List ℕ)) (n : ℕ) (t : TokenKind) → AllZip SpellsToken tokens texts →
    slice_get tokens n ≡ Some t → IsTextAt tokens texts n t
text_at [] texts n t each e = absurd (cc)
text_at (u ∷ tokens) [] n t each e = absurd each
text_at (u ∷ tokens) (x ∷ texts) zero t each e =
    record { text = x; spelled = rw (same_Some u t e) at each.0; whole = refl }
text_at (u ∷ tokens) (x ∷ texts) (suc n) t each e =
    let later = text_at tokens texts n t each.1 e in
    record {
      text = later.text;
      spelled = later.spelled;
      whole = ap (λ (v : List ℕ). x ++ v) later.whole
          ∙ sym (append_assoc x (concat (take n texts)) (later.text ++ concat (drop (suc n) texts)));
    }

-- the same fact, byte by byte
bytes_by_recursion : (bytes : List ℕ) → All IsByte bytes → AllByRecursion IsByte bytes
bytes_by_recursion [] all = tt
bytes_by_recursion (b ∷ bytes) all = (
  All-head IsByte b bytes all,
  bytes_by_recursion bytes (All-tail IsByte b bytes all),
)

module _ (z : Size) (class : Start) (size : IsSize z) (bytes : List ℕ) where
  -- a token has a fault
  token_blamed : (r : IsReadable bytes) → HasFaultyToken z class r.tokens → HasAnAnswer z class bytes
  token_blamed r b =
      let at = text_at r.tokens r.texts b.index b.token r.reads.each b.here in
      let front : List ℕ = concat (take b.index r.texts) in
      inr (inl (
        fault_at (length front) b.cause,
        record {
          size = size;
          front = front;
          text = at.text;
          rest = concat (drop (suc b.index) r.texts) ++ r.left;
          whole = r.whole ∙ ap (λ (v : List ℕ). v ++ r.left) (r.reads.whole ∙ at.whole)
              ∙ append_assoc front (at.text ++ concat (drop (suc b.index) r.texts)) r.left
              ∙ ap (λ (v : List ℕ). front ++ v) (append_assoc at.text (concat (drop (suc b.index) r.texts)) r.left);
          tokens = take b.index r.tokens;
          reads = (
            take b.index r.texts,
            record {
              each = AllZip-take SpellsToken b.index r.tokens r.texts r.reads.each;
              whole = refl;
            },
          );
          clean = b.clean;
          offset = refl;
          faulty = inl (record { token = b.token; spelled = at.spelled; fault = b.fault });
        },
      ))

  module _ (r : IsReadable bytes) (clean : IsClean z class r.tokens) (h : HalfState)
      (known : IsKnownAfter z class r.tokens h) where
    refused_behind : IsRefusedFront r.left → HasAnAnswer z class bytes
    refused_behind f = inr (inl (
      fault_at (length r.front) f.cause,
      record {
        size = size;
        front = r.front;
        text = f.text;
        rest = f.rest;
        whole = r.whole ∙ ap (λ (v : List ℕ). r.front ++ v) f.whole;
        tokens = r.tokens;
        reads = (r.texts, r.reads);
        clean = clean;
        offset = refl;
        faulty = inr f.refused;
      },
    ))

    unfinished_behind : IsUnfinished r.left → HasAnAnswer z class bytes
    unfinished_behind u = inr (inr (
      fault_at (length r.front) EndInSequence,
      inl (record {
        size = size;
        front = r.front;
        text = r.left;
        whole = r.whole;
        tokens = r.tokens;
        reads = (r.texts, r.reads);
        clean = clean;
        unfinished = u;
        fault_is = refl;
      }),
    ))

    -- nothing follows the tokens
    at_end : r.left ≡ [] → HasAnAnswer z class bytes
    at_end e =
        let whole : bytes ≡ r.front = r.whole ∙ ap (λ (v : List ℕ). r.front ++ v) e ∙ append-nil r.front in
        let reads : Reads bytes r.tokens = subst (λ (v : List ℕ). Reads v r.tokens) (sym whole) (r.texts, r.reads) in
        elim (known_or_last z class size bytes r.tokens reads clean h known) [
          | inl all ↦ inl (_, good_if_known z class size bytes r.tokens reads clean h known all)
          | inr last ↦ inr (inr last)
        ]

    open_behind : (r.left ≡ []) ⊎ IsUnfinished r.left → HasAnAnswer z class bytes
    open_behind (inl e) = at_end e
    open_behind (inr unfinished) = unfinished_behind unfinished

    all_clean : IsOpen r.left ⊎ IsRefusedFront r.left → HasAnAnswer z class bytes
    all_clean (inl o) = open_behind (open_ends r.left o)
    all_clean (inr f) = refused_behind f

  pub has_an_answer : All IsByte bytes → HasAnAnswer z class bytes
  has_an_answer all =
      let r : IsReadable bytes = readable bytes (bytes_by_recursion bytes all) in
      elim (clean_or_faulty z class size.some_columns r.tokens (reads_bytes r.front r.tokens (r.texts, r.reads))) [
        | inl c ↦ all_clean r c.0 c.1.0 c.1.1 r.leaves
        | inr b ↦ token_blamed r b
      ]
