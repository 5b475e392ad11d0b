-- What a walk tells of a content that has a reading.
use Rattle.std.proofs.Common.{inl, inr, ◌≡◌, ℕ, Bool, true, false, List, [], ◌++◌, take, drop, sym, ap, ◌∙◌, subst}
use Rattle.std.specs.Prelude.{Result, Ok, Err}
use Rattle.std.specs.List.{concat}
use Rattle.std.proofs.lemmas.List.{append-nil}
use Rattle.ans_model.specs.Sequence.TokenKind.{TokenKind}
use Rattle.ans_model.specs.Sequence.Reads.{Reads, ReadsAs}
use Rattle.ans_model.specs.declared.fault.Fault.{Fault}
use Rattle.ans_tokens.specs.Walk.{Front, IsFaultAt, front_of, Walks, WalksTo}
use Rattle.ans_model.proofs.Reading.{unfinished_not_read, refused_not_read}
use Rattle.ans_tokens.proofs.Scanning.{ReadsOn, reads_on, split_reading, nothing_left}

-- what has a reading has no fault
no_fault : (offset : ℕ) (bytes : List ℕ) (fault : Fault) (tokens : List TokenKind) → IsFaultAt offset bytes fault
    → ¬ Reads bytes tokens
no_fault offset bytes fault tokens h reads = elim h.unread [
  | inl begins ↦
      refused_not_read begins.text begins.rest fault.cause tokens begins.refused (rw begins.whole at reads)
  | inr (unfinished, cause) ↦ unfinished_not_read bytes tokens unfinished reads
]

-- one front of bytes that are read, and the same texts
one_front : (front : Front) (read : List ℕ) (tokens : List TokenKind) (texts : List (List ℕ)) (behind : List ℕ)
    → ReadsAs read front.tokens front.texts → ReadsAs read tokens texts → front.behind ≡ behind
    → front ≡ front_of tokens texts behind
one_front front read tokens texts behind h g same =
    let s = split_reading front.tokens tokens front.texts texts [] h.each g.each
    (append-nil (concat front.texts) ∙ sym h.whole ∙ g.whole) in
    let (no_tokens, no_texts) = nothing_left s.later s.later_texts s.reads in
    let tokens_are : front.tokens ≡ tokens =
    sym (s.tokens_are ∙ ap (λ (v : List TokenKind). front.tokens ++ v) no_tokens ∙ append-nil front.tokens) in
    let texts_are : front.texts ≡ texts =
    sym (s.texts_are ∙ ap (λ (v : List (List ℕ)). front.texts ++ v) no_texts ∙ append-nil front.texts) in
    ap (λ (v : List TokenKind). front_of v front.texts front.behind) tokens_are
    ∙ ap (λ (v : List (List ℕ)). front_of tokens v front.behind) texts_are
    ∙ ap (λ (v : List ℕ). front_of tokens texts v) same

module _ {W : Type 0} (walked : W → Front → W → Bool → Type 0) (content : List ℕ) (end : ℕ) (first now : W) where
  -- what is left has the rest of the reading
  pub left_reads : (left : List ℕ) (on : Bool) (h : Walks walked content end left first now on)
      (tokens : List TokenKind) → Reads (take end content) tokens → ReadsOn left h.front.tokens tokens
  left_reads left on h tokens reads =
      reads_on h.read left h.front.tokens tokens (h.front.texts, h.reads)
      (subst (λ (v : List ℕ). Reads v tokens) h.whole reads)

  -- what has a reading is not refused
  pub never_refused : (fault : Fault) (tokens : List TokenKind) → WalksTo walked content end first now (Err fault)
      → ¬ Reads (take end content) tokens
  never_refused fault tokens (left, h, fails) reads =
      let on = left_reads left true h tokens reads in
      no_fault _ left fault on.later fails on.reads

  -- a walk to the end has been over all tokens
  pub walked_all : (tokens : List TokenKind) (texts : List (List ℕ)) → ReadsAs (take end content) tokens texts
      → Walks walked content end [] first now true
      → walked first (front_of tokens texts (drop end content)) now true
  walked_all tokens texts reads h =
      let all : take end content ≡ h.read = h.whole ∙ append-nil h.read in
      subst (λ (front : Front). walked first front now true)
      (one_front h.front h.read tokens texts (drop end content) h.reads
      (subst (λ (v : List ℕ). ReadsAs v tokens texts) all reads) h.behind) h.over

  -- so has the walk of a walker that never stops
  pub walked_whole : (result : Result Bool Fault) (tokens : List TokenKind) (texts : List (List ℕ))
      → ((front : Front) → ¬ walked first front now false) → WalksTo walked content end first now result
      → ReadsAs (take end content) tokens texts
      → walked first (front_of tokens texts (drop end content)) now true
  walked_whole (Ok true) tokens texts never h reads = walked_all tokens texts reads h
  walked_whole (Ok false) tokens texts never (left, h) reads = absurd (never h.front h.over)
  walked_whole (Err fault) tokens texts never h reads = absurd (never_refused fault tokens h (texts, reads))
