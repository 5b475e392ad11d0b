-- A walk over a content, token by token.
use Rattle.std.proofs.Common.{◌≡◌, ℕ, ◌+◌, ◌-◌, ◌<◌, ◌≤◌, Bool, true, false, List, ◌++◌, length, take, drop, get_or, sym, ap}
use Rattle.std.proofs.Common.{◌∙◌, arith, subst, append_assoc, length-append, IsTrue, All}
use Rattle.std.proofs.lemmas.List.{take-append-drop, take-take, drop-append-le, drop-drop, drop-take}
use Rattle.std.proofs.lemmas.List.{length-take-le, length-drop, get_or-take, get_or-drop}
use Rattle.std.proofs.lemmas.List.Elements.{All-from_get_or}
use Rattle.ans_model.specs.Bytes.{IsByte}
use Rattle.std.specs.List.{AllZip, concat}
use Rattle.ans_model.specs.Sequence.TokenKind.{TokenKind}
use Rattle.ans_model.specs.Sequence.Reads.{SpellsToken}
use Rattle.ans_model.specs.declared.fault.Fault.{Fault}
use Rattle.ans_tokens.specs.Handed.{StandsAt}
use Rattle.ans_tokens.specs.Walk.{IsFaultAt}
use Rattle.ans_tokens.specs.Glyphs.{IsGlyphByte}
use Rattle.ans_tokens.specs.Walk.{Front, IsRunNext, NoCodeBegins, Walks, begins_as_code, begins_plainly, front_past}
use Rattle.ans_tokens.specs.Walk.{front_with, is_plain}
use Rattle.ans_tokens.specs.WholeToken.{IsTokenFront}
use Rattle.ans_tokens.proofs.Readable.{reads_as_more}
use Rattle.ans_tokens.proofs.Runs.{past_behind, plain_glyph, reads_past, rest_of}

-- the bytes from an offset on
pub part_of : (content : List ℕ) (at end : ℕ) → at ≤ end → take (end - at) (drop at content) ≡ drop at (take end content)
part_of content at end room =
    let whole : at + (end - at) ≡ end = omega (arith, room) in
    sym (drop-take at (end - at) content) ∙ ap (λ (k : ℕ). drop at (take k content)) whole

module _ {W : Type 0} (walked : W → Front → W → Bool → Type 0) (content : List ℕ) (end : ℕ) (first : W)
    (within : end ≤ length content) (at : ℕ) (old : W)
    (h : Walks walked content end (drop at (take end content)) first old true) (room : at ≤ end) where
  front_is_long : length h.read ≡ at
  front_is_long = omega (
    arith,
    room,
    ap length h.whole,
    length-append h.read (drop at (take end content)),
    length-drop at (take end content),
    length-take-le end content within,
  )

  -- what stands from an offset on, before the end and behind it
  parted : (from : ℕ) → from ≤ end → drop from content ≡ drop from (take end content) ++ drop end content
  parted from early =
      ap (λ (v : List ℕ). drop from v) (sym (take-append-drop end content))
      ∙ drop-append-le from (take end content) (drop end content)
      (omega (arith, early, length-take-le end content within))

  -- a fault in what is left
  pub fault_left : (fault : Fault) → IsFaultAt at (take (end - at) (drop at content)) fault
      → (left : List ℕ) × (h : Walks walked content end left first old true) × IsFaultAt (length h.read) left fault
  fault_left fault fails = (
    drop at (take end content),
    h,
    rw front_is_long (subst (λ (v : List ℕ). IsFaultAt at v fault) (part_of content at end room) fails),
  )

  -- one token more, by its kind and how many bytes spell it
  module _ (t : TokenKind) (size : ℕ) (here : IsTokenFront (take (end - at) (drop at content)) t size) where
    next : IsTokenFront (drop at (take end content)) t size
    next = subst (λ (v : List ℕ). IsTokenFront v t size) (part_of content at end room) here

    abbrev text : List ℕ
    text = take size (drop at (take end content))

    abbrev left : List ℕ
    left = drop (at + size) (take end content)

    abbrev rest : List ℕ
    rest = take (length content - (at + size)) (drop (at + size) content)

    -- the token and what is left after it
    token_left : drop at (take end content) ≡ text ++ left
    token_left = sym (take-append-drop size (drop at (take end content)))
        ∙ ap (λ (v : List ℕ). text ++ v) (drop-drop size at (take end content))

    token_ends_within : at + size ≤ end
    token_ends_within = omega (
      arith,
      next.within,
      room,
      length-drop at (take end content),
      length-take-le end content within,
    )

    rest_is : rest ≡ left ++ drop end content
    rest_is = rest_of content (at + size) ∙ parted (at + size) token_ends_within

    -- what is said of the front where a token comes next
    pub record ComesNext : Type 0 where
      pub each : AllZip SpellsToken h.front.tokens h.front.texts
      pub whole : h.front.behind ≡ text ++ rest
      pub spelled : SpellsToken t text
      pub starts : at ≡ length (concat h.front.texts)
      pub long : size ≡ length text

    comes_next : ComesNext
    comes_next = record {
      each = h.reads.each;
      whole = h.behind ∙ ap (λ (v : List ℕ). v ++ drop end content) token_left
          ∙ append_assoc text left (drop end content) ∙ ap (λ (v : List ℕ). text ++ v) (sym rest_is);
      spelled = next.spelled;
      starts = sym front_is_long ∙ ap length h.reads.whole;
      long = sym (length-take-le size (drop at (take end content)) next.within);
    }

    -- the walker has been over it too, and may be handed what comes after it
    pub walks_one : (ready : W → ℕ → Type 0) (new : W) (on : Bool) → ready new (at + size)
        → (ComesNext → walked first h.front old true → walked first (front_with h.front t text rest) new on)
        → StandsAt walked ready content end first (at + size) new on
    walks_one ready new on stands step = record {
      within = token_ends_within;
      can_go = stands;
      so_far = record {
        front = front_with h.front t text rest;
        read = h.read ++ text;
        whole = h.whole ∙ ap (λ (v : List ℕ). h.read ++ v) token_left ∙ sym (append_assoc h.read text left);
        reads = reads_as_more h.read text h.front.tokens h.front.texts t h.reads next.spelled;
        behind = rest_is;
        over = step comes_next h.over;
      };
    }

  module _ (count : ℕ) (ends_within : at + count ≤ end) where
    abbrev run : List ℕ
    run = take (at + count - at) (drop at content)

    as_counted : at + count - at ≡ count
    as_counted = omega arith

    run_is : run ≡ take count (drop at content)
    run_is = ap (λ (k : ℕ). take k (drop at content)) as_counted

    run_is_long : length run ≡ count
    run_is_long =
        length-take-le (at + count - at) (drop at content) (omega (arith, ends_within, within, length-drop at content))
        ∙ as_counted

    -- the run and what is left after it
    run_left : drop at (take end content) ≡ run ++ drop (at + count) (take end content)
    run_left =
        let first : take count (drop at (take end content)) ≡ run =
        ap (take count) (sym (part_of content at end room))
        ∙ take-take count (end - at) (drop at content) (omega (arith, ends_within)) ∙ sym run_is in
        sym (take-append-drop count (drop at (take end content)))
        ∙ ap (λ (v : List ℕ). v ++ drop count (drop at (take end content))) first
        ∙ ap (λ (v : List ℕ). run ++ v) (drop-drop count at (take end content))

    run_bytes : ((k : ℕ) → k < length content → IsByte (get_or content k 0)) → (k : ℕ) → k < length run
        → IsByte (get_or run k 0)
    run_bytes are_bytes k early =
        let here : get_or run k 0 ≡ get_or content (at + k) 0 =
        get_or-take (at + count - at) (drop at content) k 0 (omega (arith, early, run_is_long))
        ∙ get_or-drop at content k 0 in
        subst IsByte (sym here) (are_bytes (at + k) (omega (arith, early, run_is_long, ends_within, within)))

    -- the walker has been over a run too, and may be handed what stands behind it
    pub walks_run : (ready : W → ℕ → Type 0) (new : W)
        → ((k : ℕ) → k < length content → IsByte (get_or content k 0))
        → All (λ byte. IsTrue (is_plain byte)) (take count (take (length content - at) (drop at content)))
        → NoCodeBegins count (take (length content - at) (drop at content))
        → IsTrue (begins_plainly (drop count (take (length content - at) (drop at content))))
        → ready new (at + length run)
        → ((first : W) (front : Front) (behind : List ℕ) → IsRunNext front at run behind
        → walked first front old true → walked first (front_past front run behind) new true)
        → StandsAt walked ready content end first (at + count) new true
    walks_run ready new are_bytes plain codes ends stands step =
        let rest = rest_of content at in
        let behind = drop (at + count) content in
        let left = drop (at + count) (take end content) in
        let next : IsRunNext h.front at run behind = record {
          each = h.reads.each;
          whole = h.behind ∙ ap (λ (v : List ℕ). v ++ drop end content) run_left
              ∙ append_assoc run left (drop end content)
              ∙ ap (λ (v : List ℕ). run ++ v) (sym (parted (at + count) ends_within));
          starts = sym front_is_long ∙ ap length h.reads.whole;
          plain = subst (λ (v : List ℕ). All (λ byte. IsTrue (is_plain byte)) v)
              (ap (take count) rest ∙ sym run_is) plain;
          codes = λ k early. subst (λ (v : List ℕ). begins_as_code (drop k v) ≡ false)
              (rest ∙ parted at room ∙ ap (λ (v : List ℕ). v ++ drop end content) run_left
              ∙ append_assoc run left (drop end content)
              ∙ ap (λ (v : List ℕ). run ++ v) (sym (parted (at + count) ends_within)))
              (codes k (omega (arith, early, run_is_long)));
          ends = subst (λ (v : List ℕ). IsTrue (begins_plainly v)) (ap (drop count) rest ∙ drop-drop count at content)
              ends;
        } in
        let glyphs : All IsGlyphByte run = All-from_get_or IsGlyphByte run 0
        (λ k early. plain_glyph (get_or run k 0) (run_bytes are_bytes k early) (next.plain k 0 early)) in
        record {
          within = ends_within;
          can_go = subst (λ (k : ℕ). ready new (at + k)) run_is_long stands;
          so_far = record {
            front = front_past h.front run behind;
            read = h.read ++ run;
            whole = h.whole ∙ ap (λ (v : List ℕ). h.read ++ v) run_left ∙ sym (append_assoc h.read run left);
            reads = reads_past h.front h.read run behind glyphs h.reads;
            behind = past_behind h.front run behind next.whole ∙ parted (at + count) ends_within;
            over = step first h.front behind next h.over;
          };
        }
