-- The lines of the content's tokens, as a walk puts them.
use Rattle.std.proofs.Common.{◌≡◌, ◌⊎◌, inl, inr, ℕ, ◌+◌, ◌<◌, suc, Bool, true, false, true≢false, List, [], ◌∷◌, ◌++◌}
use Rattle.std.proofs.Common.{length, get_or, refl, ap, sym, subst, ◌∙◌, arith, append_assoc, append-nil, length-append}
use Rattle.std.specs.Prelude.{Option, Some, None, Result, Ok, Err}
use Rattle.std.specs.List.{AllZip, AllByRecursion, concat}
use Rattle.std.proofs.lemmas.List.{take_all}
use Rattle.ans_model.specs.Bytes.{IsByte}
use Rattle.ans_model.specs.Sequence.TokenKind as token
use Rattle.ans_model.specs.Inside.ShownKind.{shown_kind}
use Rattle.ans_model.specs.Sequence.Reads.{SpellsToken}
use Rattle.ans_model.specs.Sequence.Spelling.{IsUnfinished}
use Rattle.ans_model.specs.File.Refusals.{fault_at}
use Rattle.ans_model.specs.declared.fault.Fault.{Fault}
use Rattle.ans_model.specs.declared.fault.Cause.{Cause}
use Rattle.ans_model.specs.declared.fault.Cause.TheVariants.{EndInSequence}
use Rattle.ans_model.specs.Text.FaultText.{fault_line}
use Rattle.ans_model.specs.Text.TokensText.{token_line, token_lines, Leaves, fault_end, TokensText}
use Rattle.ans_tokens.specs.declared.token.Token.{Token}
use Rattle.ans_tokens.specs.Walk.{IsFaultAt}
use Rattle.ans_tokens.specs.Token.{kind_of, start_of}
use Rattle.ans_tokens.specs.Walk.{Front, IsNext, Walks, WalksTo}
use Rattle.ans_tokens.proofs.EachByte.{IsOpen, open_ends}
use Rattle.ans_tokens.proofs.Readable.{IsRefusedFront, readable, reads_as_append}
use Rattle.ans_write.specs.Puts.{Puts, device_failed}
use Rattle.ans_write.specs.declared.outbox.Outbox.{Outbox}
use Rattle.ans_write.proofs.PutsLemmas.{Puts-same, Puts-then, Puts-longer}
use Rattle.ans_report.specs.TokenLines.{token_text, PutsLines, PutsTokens}
use Rattle.ans_report.specs.declared.tokens_text.TokenLines.{TokenLines}

-- ---- lines
-- the lines of tokens and then of more
pub token_lines-append : (start : ℕ) (ts us : List token.TokenKind) (xs zs : List (List ℕ)) → AllZip SpellsToken ts xs
    → token_lines start (ts ++ us) (xs ++ zs)
    ≡ token_lines start ts xs ++ token_lines (start + length (concat xs)) us zs
token_lines-append start [] us [] zs h =
    let same : start + 0 ≡ start = omega arith in
    rw same refl
token_lines-append start [] us (x ∷ xs) zs h = absurd h
token_lines-append start (t ∷ ts) us [] zs h = absurd h
token_lines-append start (t ∷ ts) us (x ∷ xs) zs h =
    let at : (start + length x) + length (concat xs) ≡ start + length (concat (x ∷ xs)) =
    omega (arith, length-append x (concat xs)) in
    ap (λ (v : List ℕ). token_line start t x ++ v) (token_lines-append (start + length x) ts us xs zs h.1
    ∙ ap (λ (k : ℕ). token_lines (start + length x) ts xs ++ token_lines k us zs) at)
    ∙ sym (append_assoc (token_line start t x) (token_lines (start + length x) ts xs)
    (token_lines (start + length (concat (x ∷ xs))) us zs))

-- a token's line is put behind those before it
pub puts_line : {W : Type 0} {contents : W → Option (List ℕ)} {a b c : Outbox W} (front : Front) (t : Token)
    (x behind : List ℕ) → IsNext front t x behind → Puts contents a b (token_lines 0 front.tokens front.texts)
    → Puts contents b c (token_text t)
    → Puts contents a c (token_lines 0 (front.tokens ++ shown_kind (kind_of t) ∷ []) (front.texts ++ x ∷ []))
puts_line front t x behind next before puts =
    let kind = shown_kind (kind_of t) in
    let start : 0 + length (concat front.texts) ≡ start_of t = omega (arith, next.starts) in
    let line : token_text t ≡ token_lines (0 + length (concat front.texts)) (kind ∷ []) (x ∷ []) =
    rw (start, ← next.long) (sym (append-nil (token_text t))) in
    Puts-same (ap (λ (v : List ℕ). token_lines 0 front.tokens front.texts ++ v) line
    ∙ sym (token_lines-append 0 front.tokens (kind ∷ []) front.texts (x ∷ []) next.each)) (Puts-then before puts)

-- ---- what ends the text
-- where each is below 256, all are bytes
pub all_are_bytes : (xs : List ℕ) → ((k : ℕ) → get_or xs k 0 < 256) → AllByRecursion IsByte xs
all_are_bytes [] h = tt
all_are_bytes (x ∷ xs) h = (h 0, all_are_bytes xs (λ k. h (suc k)))

AllByRecursion-after : (xs ys : List ℕ) → AllByRecursion IsByte (xs ++ ys) → AllByRecursion IsByte ys
AllByRecursion-after [] ys h = h
AllByRecursion-after (x ∷ xs) ys h = AllByRecursion-after xs ys h.1

-- nothing is left of the content, or an unfinished sequence
Leaves-at_end : (start : ℕ) (left : List ℕ) → (left ≡ []) ⊎ IsUnfinished left
    → (fault : Option Fault) × Leaves start left fault
Leaves-at_end start left (inl none) = (None, none)
Leaves-at_end start left (inr unfinished) = (Some (fault_at start EndInSequence), inr (unfinished, refl))

-- what is left of the content is open or begins with a text that the reading refuses
Leaves-some : (start : ℕ) (left : List ℕ) → IsOpen left ⊎ IsRefusedFront left
    → (fault : Option Fault) × Leaves start left fault
Leaves-some start left (inl is_open) = Leaves-at_end start left (open_ends left is_open)
Leaves-some start left (inr f) =
    (Some (fault_at start f.cause), inl (f.text, f.rest, f.cause, f.whole, f.refused, refl))

-- a walk's fault ends the text
Leaves-fault : (start : ℕ) (left : List ℕ) (fault : Fault) → IsFaultAt start left fault → Leaves start left (Some fault)
Leaves-fault start left fault h =
    let is : fault ≡ fault_at start fault.cause = ap (λ (n : ℕ). fault_at n fault.cause) h.offset_is in
    elim h.unread [
      | inl refused ↦ inl (refused.text, refused.rest, fault.cause, refused.whole, refused.refused, is)
      | inr (unfinished, cause) ↦ inr (unfinished, is ∙ ap (λ (v : Cause). fault_at start v) cause)
    ]

abbrev WalksOver : {W : Type 0} → (W → Option (List ℕ)) → List ℕ → TokenLines W → TokenLines W → List ℕ → Bool → Type 0
WalksOver contents content first now left on = Walks (PutsLines contents) content (length content) left first now on

module _ {W : Type 0} (contents : W → Option (List ℕ)) (content : List ℕ) (first now : TokenLines W) where
  text_of : (left : List ℕ) (on : Bool) (h : WalksOver contents content first now left on) (fault : Option Fault)
      → Leaves (length h.read) left fault
      → TokensText content fault (token_lines 0 h.front.tokens h.front.texts ++ fault_end fault)
  text_of left on h fault leaves = record {
    front = h.read;
    left = left;
    whole = sym (take_all (length content) content (omega arith)) ∙ h.whole;
    tokens = h.front.tokens;
    texts = h.front.texts;
    reads = h.reads;
    leaves = leaves;
    text_is = refl;
  }

  -- the walk went on to the end
  pub tokens_ended : WalksOver contents content first now [] true
      → PutsTokens contents first.out.now now.out.now content None
  tokens_ended h = record {
    fault = None;
    text = token_lines 0 h.front.tokens h.front.texts ++ [];
    is_text = text_of [] true h None refl;
    puts = Puts-same (sym (append-nil (token_lines 0 h.front.tokens h.front.texts))) h.over.puts;
    told_is = λ works. refl;
  }

  -- the fault is put where the reading refuses
  pub tokens_refused : (fault : Fault) (last : Outbox W)
      → WalksTo (PutsLines contents) content (length content) first now (Err fault)
      → Puts contents now.out.now last (fault_line fault)
      → PutsTokens contents first.out.now last content (Some fault)
  tokens_refused fault last (left, h, fails) puts = record {
    fault = Some fault;
    text = token_lines 0 h.front.tokens h.front.texts ++ fault_line fault;
    is_text = text_of left true h (Some fault) (Leaves-fault (length h.read) left fault fails);
    puts = Puts-then h.over.puts puts;
    told_is = λ works. refl;
  }

  -- once the device has failed, some text of the content's tokens may be said to have been put
  pub tokens_stopped : (told : Option Fault) → AllByRecursion IsByte content
      → (left : List ℕ) × WalksOver contents content first now left false
      → PutsTokens contents first.out.now now.out.now content told
  tokens_stopped told small (left, h) =
      let whole : content ≡ h.read ++ left = sym (take_all (length content) content (omega arith)) ∙ h.whole in
      let r = readable left (AllByRecursion-after h.read left (subst (AllByRecursion IsByte) whole small)) in
      let (fault, leaves) = Leaves-some (length (h.read ++ r.front)) r.left r.leaves in
      let lines = token_lines 0 h.front.tokens h.front.texts in
      let later = token_lines (0 + length (concat h.front.texts)) r.tokens r.texts in
      let failed : device_failed now.out.now ≡ true = h.over.stops refl in
      record {
        fault = fault;
        text = token_lines 0 (h.front.tokens ++ r.tokens) (h.front.texts ++ r.texts) ++ fault_end fault;
        is_text = record {
          front = h.read ++ r.front;
          left = r.left;
          whole = whole ∙ ap (λ (v : List ℕ). h.read ++ v) r.whole ∙ sym (append_assoc h.read r.front r.left);
          tokens = h.front.tokens ++ r.tokens;
          texts = h.front.texts ++ r.texts;
          reads = reads_as_append h.read r.front h.front.tokens r.tokens h.front.texts r.texts h.reads r.reads;
          leaves = leaves;
          text_is = refl;
        };
        puts = Puts-same (sym (append_assoc lines later (fault_end fault))
            ∙ ap (λ (v : List ℕ). v ++ fault_end fault)
            (sym (token_lines-append 0 h.front.tokens r.tokens h.front.texts r.texts h.reads.each)))
            (Puts-longer (later ++ fault_end fault) failed h.over.puts);
        told_is = λ works. absurd (true≢false (sym failed ∙ works));
      }

  pub tokens_walked : AllByRecursion IsByte content → (on : Bool)
      → WalksTo (PutsLines contents) content (length content) first now (Ok on)
      → PutsTokens contents first.out.now now.out.now content None
  tokens_walked small true h = tokens_ended h
  tokens_walked small false h = tokens_stopped None small h

  -- it is the same outbox
  pub same_outbox : (result : Result Bool Fault)
      → WalksTo (PutsLines contents) content (length content) first now result
      → now.out.ghost_name ≡ first.out.ghost_name
  same_outbox (Ok true) h = h.over.same_outbox
  same_outbox (Ok false) (left, h) = h.over.same_outbox
  same_outbox (Err fault) (left, h, fails) = h.over.same_outbox
